use Rattle.std.proofs.Common.{◌∙◌, ◌≤◌, ◌<◌, ◌/◌, ℕ, get_or, length, ap, sym, arith, subst}
use Rattle.ball_model.specs.State.{State}
use Rattle.report.specs.Parts.{figures_at, lists_in}
use Rattle.report.proofs.ReadyLemmas.{AreReady, are_ready-facts}
use Rattle.report.proofs.BlockLemmas.{a_replica, has_place, places_from, places_to, same_figures}
use Rattle.report.proofs.WholeLemmas.{have_sizes}
use Rattle.report.proofs.parts.Block.of.Goals as goal

-- there is a replica
pub nonzero_div-first : goal.nonzero_div-first
nonzero_div-first g c = omega (arith, (are_ready-facts c.args.replicas.now c.requires.ready).some)

pub div_ceil-last-requires : goal.div_ceil-last-requires
div_ceil-last-requires g c = omega (arith, (are_ready-facts c.args.replicas.now c.requires.ready).some)

-- the vertices have their places among the figures that were made
pub returns-clause-places : goal.returns-clause-places
returns-clause-places g c = λ x low high.
    let vs = c.args.replicas.now in
    let ready : AreReady vs = are_ready-facts vs c.requires.ready in
    let d : State = a_replica vs ready.some in
    let n : ℕ = (get_or vs 0 d).part.plan.vertices in
    let to : ℕ = c.args.vertices.now.end in
    let within : to ≤ n = c.requires.end 0 d ready.some in
    has_place n (c.args.vertices.now.start / length vs) c.div_ceil-last.result x vs d (lists_in c.in_ok-parts.parts.items) c.in_ok-parts.ensures.value
    (have_sizes n vs d ready c.in_ok-parts.ensures.sizes (λ p e lt. (ready.each p e d lt).vertices)) ready.some (omega arith)
    (places_from (length vs) c.args.vertices.now.start x ready.some low)
    (subst (λ last. x / length vs < last) (sym c.div_ceil-last.ensures) (places_to (length vs) to x ready.some high))

-- and there are their figures
pub returns-clause-figures : goal.returns-clause-figures
returns-clause-figures g c = λ x low high.
    let vs = c.args.replicas.now in
    let ready : AreReady vs = are_ready-facts vs c.requires.ready in
    let first : ℕ = c.args.vertices.now.start / length vs in
    ap (λ lists. figures_at first lists x) c.in_ok-parts.ensures.value
    ∙ same_figures first c.div_ceil-last.result x vs (a_replica vs ready.some) ready.some
    (places_from (length vs) c.args.vertices.now.start x ready.some low)
    (subst (λ last. x / length vs < last) (sym c.div_ceil-last.ensures) (places_to (length vs) c.args.vertices.now.end x ready.some high))
