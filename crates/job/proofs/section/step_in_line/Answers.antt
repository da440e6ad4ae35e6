use Rattle.std.proofs.Common.{◌≡◌, ◌∙◌, false, true, sym}
use Rattle.std.specs.Io.KnownBytes.{prepend_known}
use Rattle.job.proofs.SectionLemmas.{gives_ahead, gives_next, some_ahead, stepped, stepped_ahead, no_bytes}
use Rattle.job.proofs.section.step_in_line.Goals as goal

pub returns-then-not-is_empty-clause-does : goal.returns-then-not-is_empty-clause-does
returns-then-not-is_empty-clause-does g c =
    let left = g.R.Read.remaining c.args.reader.now in
    let some : c.is_empty.result ≡ false = search c.if-not-is_empty.true in
    stepped false (prepend_known c.args.ahead.now.items left) (prepend_known c.first_of.new.ahead.items left) left c.first_of.result c.first_of.ensures.kind
    (λ b is. gives_ahead b c.args.ahead.now.items c.first_of.new.ahead.items left (c.first_of.ensures.byte b is))
    (λ is. absurd (some_ahead c.args.ahead.now.items c.is_empty.result c.is_empty.ensures some (c.first_of.ensures.end is)))

pub returns-then-not-is_empty-clause-ahead : goal.returns-then-not-is_empty-clause-ahead
returns-then-not-is_empty-clause-ahead g c = stepped_ahead false c.first_of.result c.first_of.new.ahead.items c.first_of.ensures.kind c.first_of.ensures.ahead c.first_of.ensures.kept

pub returns-in-Byte-clause-does : goal.returns-in-Byte-clause-does
returns-in-Byte-clause-does g c =
    let empty : c.is_empty.result ≡ true = search c.if-not-is_empty.false in
    gives_next c.in-Byte.byte c.args.ahead.now.items (g.R.Read.remaining c.args.reader.now) (g.R.Read.remaining c.next_of.new.reader)
    (no_bytes c.args.ahead.now.items (sym c.is_empty.ensures ∙ empty))
    (c.next_of.ensures.byte c.in-Byte.byte c.in-Byte.is)
