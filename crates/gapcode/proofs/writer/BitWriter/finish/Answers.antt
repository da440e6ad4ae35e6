use Rattle.std.proofs.Common.{◌≡◌, ◌-◌, true, false, is_ok, sym, ap, ◌∙◌, arith, Bool, List, ◌++◌}
use Rattle.std.specs.Prelude.{replicate}
use Rattle.std.proofs.lemmas.List.{append-nil}
use Rattle.gapcode.specs.Bits.{digits, bits_of}
use Rattle.gapcode.proofs.AppendingLemmas.{finished}
use Rattle.gapcode.proofs.writer.BitWriter.finish.Goals as goal

pub returns-then-used-gt0 : goal.returns-then-used-gt0
returns-then-used-gt0 c =
    let w = c.self.inside in
    let ok : is_ok c.push.result ≡ true = c.push.ensures.succeeds (c.self.invariant.2 c.if-used-gt0.true) in
    let items = rw ok at c.push.ensures.items in
    (8 - w.used, omega (arith, c.if-used-gt0.true), ap bits_of items ∙ finished w.full.items w.last w.used c.self.invariant.0 ∙ ap (λ (t : List Bool). t ++ replicate (8 - w.used) false) c.self.view_is)

pub returns-else-used-gt0 : goal.returns-else-used-gt0
unfolding digits
returns-else-used-gt0 c =
    let w = c.self.inside in
    let none : w.used ≡ 0 = omega (arith, c.if-used-gt0.false) in
    let whole : bits_of w.full.items ++ digits w.used w.last ≡ bits_of w.full.items = rw none (append-nil (bits_of w.full.items)) in
    (0, omega arith, sym whole ∙ c.self.view_is ∙ sym (append-nil c.args.self))
