use Rattle.std.proofs.Common.{◌≡◌, arith, ne_eqb}
use Rattle.std.proofs.lemmas.Result.{err_from_is_err_and, IfErr-weaker, on_ok_weaker}
use Rattle.std.specs.Prelude.{◌==◌, false}
use Rattle.checkpoint.specs.Reading.{most_after, most_early, held_form}
use Rattle.checkpoint.proofs.ReaderLemmas.{fails_first, fails_second, fails_as, grows_then, grows_as, grows_none, held-none, held-some, fixed-most, fixed-early}
use Rattle.checkpoint.proofs.stream.read_body.Goals as goal

pub returns-in_err-read_more-clause-fails : goal.returns-in_err-read_more-clause-fails
returns-in_err-read_more-clause-fails g c =
    let part = c.args.part.now in
    let h = c.args.header.now in
    let q = rw c.fixed_len.ensures at c.in_err-read_more.ensures.fails in
    let p = err_from_is_err_and c.from_residual.result c.from_residual.ensures.1 in
    rw (p.1, p.2) (fails_first (λ _. held_form part.plan h.version) (most_after part h) (fixed-most part h) q)

pub returns-then-header-eq1-clause-done : goal.returns-then-header-eq1-clause-done
returns-then-header-eq1-clause-done g c =
    let part = c.args.part.now in
    let h = c.args.header.now in
    let p = rw c.fixed_len.ensures at c.in_ok-read_more.ensures.done in
    grows_then {most = 0} (λ _. held_form part.plan h.version) (most_after part h) p (omega (arith, fixed-most part h))
    (grows_none g.R.Read.remaining g.R.CountedRead.failed_calls g.R.CountedRead.sure_calls c.read_more.new.reader c.read_more.new.text (held_form part.plan h.version) 0 (λ rest. held-none part.plan h.version rest c.if-header-eq1.true))

pub returns-clause-done : goal.returns-clause-done
returns-clause-done g c =
    let part = c.args.part.now in
    let h = c.args.header.now in
    let p = rw c.fixed_len.ensures at c.in_ok-read_more.ensures.done in
    let second : (h.version == 1) ≡ false = ne_eqb h.version 1 c.if-header-eq1.false in
    let q = rw c.plan.ensures at c.read_early.ensures.done in
    on_ok_weaker c.read_early.result (λ q. grows_then (λ _. held_form part.plan h.version) (most_after part h) p (fixed-early part h second)
    (grows_as (held_form part.plan h.version) (most_early part.plan) (λ bytes. held-some part.plan h.version bytes second) (omega arith) q)) q

pub returns-clause-fails : goal.returns-clause-fails
returns-clause-fails g c =
    let part = c.args.part.now in
    let h = c.args.header.now in
    let p = rw c.fixed_len.ensures at c.in_ok-read_more.ensures.done in
    let second : (h.version == 1) ≡ false = ne_eqb h.version 1 c.if-header-eq1.false in
    let q = rw c.plan.ensures at c.read_early.ensures.fails in
    IfErr-weaker c.read_early.result _ _ (λ e q. fails_second (λ _. held_form part.plan h.version) (most_after part h) p (fixed-early part h second)
    (fails_as (held_form part.plan h.version) (most_early part.plan) (λ bytes. held-some part.plan h.version bytes second) (omega arith) q)) q
