use Rattle.std.proofs.Common.{◌≡◌, true}
use Rattle.std.specs.Prelude.{None, Some}
use Rattle.std.specs.Io.KnownBytes.{prepend_known}
use Rattle.ball_model.specs.Sections.{after_mark}
use Rattle.job.proofs.SectionLemmas.{ended, front_tail, marked, stepped, stepped_ahead, unmarked}
use Rattle.job.proofs.section.step_at_line.Goals as goal

pub returns-then-not-look-clause-ahead : goal.returns-then-not-look-clause-ahead
returns-then-not-look-clause-ahead g c = front_tail true c.look.new.ahead.items (c.look.ensures.front (search c.if-not-look.true))

pub returns-in-Some-clause-does : goal.returns-in-Some-clause-does
returns-in-Some-clause-does g c =
    let good : c.look.result ≡ true = search c.if-not-look.false in
    let here : after_mark c.look.new.ahead.items ≡ Some c.in-Some.field-0.now = cc in
    marked c.look.new.ahead.items c.in-Some.field-0.now (prepend_known c.args.ahead.now.items (g.R.Read.remaining c.args.reader.now)) (g.R.Read.remaining c.look.new.reader)
    c.look.ensures.same c.look.ensures.past here (c.look.ensures.known good)

pub returns-in-None-clause-does : goal.returns-in-None-clause-does
returns-in-None-clause-does g c =
    let good : c.look.result ≡ true = search c.if-not-look.false in
    let here : after_mark c.look.new.ahead.items ≡ None = cc in
    let old = prepend_known c.args.ahead.now.items (g.R.Read.remaining c.args.reader.now) in
    let left = g.R.Read.remaining c.look.new.reader in
    let known = c.look.ensures.known good in
    stepped true old (prepend_known c.first_of.new.ahead.items left) left c.first_of.result c.first_of.ensures.kind
    (λ b is. unmarked c.look.new.ahead.items c.first_of.new.ahead.items b old left c.look.ensures.same (c.first_of.ensures.byte b is) here known)
    (λ is. ended c.look.new.ahead.items old left c.look.ensures.same (c.first_of.ensures.end is) known)

pub returns-in-None-clause-ahead : goal.returns-in-None-clause-ahead
returns-in-None-clause-ahead g c = stepped_ahead true c.first_of.result c.first_of.new.ahead.items c.first_of.ensures.kind c.first_of.ensures.ahead c.first_of.ensures.kept
