use Rattle.std.proofs.Common.{◌≡◌, length, arith}
use Rattle.batches.proofs.HeadLemmas.{fields_are}
use Rattle.batches.proofs.header.spell_header.Goals as goal

pub returns : goal.returns
returns c =
    let h = c.args.header.now in
    let magic = rw c.to_be_bytes.ensures at c.set_field.ensures in
    let superstep = rw c.to_be_bytes-2.ensures at c.set_field-3.ensures in
    let source = rw c.to_be_bytes-3.ensures at c.set_field-4.ensures in
    let target = rw c.to_be_bytes-4.ensures at c.set_field-5.ensures in
    let digest : length h.job ≡ 32 = omega arith in
    let job = rw digest at c.set_field-6.ensures in
    let changed = rw c.to_be_bytes-5.ensures at c.set_field-7.ensures in
    let count = rw c.to_be_bytes-6.ensures at c.set_field-8.ensures in
    fields_are h c.set_field.new.bytes c.set_field-2.new.bytes c.set_field-3.new.bytes c.set_field-4.new.bytes c.set_field-5.new.bytes c.set_field-6.new.bytes c.set_field-7.new.bytes c.set_field-8.new.bytes magic c.set_field-2.ensures superstep source target job changed count (omega arith)
