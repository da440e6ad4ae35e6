-- The text of the report that replicas have.
use Rattle.std.proofs.Common.{◌≡◌, ◌∙◌, true, Bool, ℕ, List, ◌++◌, get_or, ap, sym, subst}
use Rattle.ball_model.specs.Graph.{Graph}
use Rattle.ball_model.specs.Input.{Network}
use Rattle.ball_model.specs.PlanValue.{mixing_of}
use Rattle.ball_model.specs.Job.{Job}
use Rattle.ball_model.specs.State.{State, StandsFor}
use Rattle.replica.specs.Level.{found_verdict}
use Rattle.report.specs.Parts.{head_text, lines_of_all, totals_in}
use Rattle.report.specs.Ready.{AllStand, FindsVerdict, are_ready, job_report, says_end, says_stable}
use Rattle.report.proofs.ReadyLemmas.{AreReady, are_ready-facts}
use Rattle.report.proofs.EndingLemmas.{IsEnded, is_ended}
use Rattle.report.proofs.WholeLemmas.{AllAt, all_at, report_is}

-- the head, by superstep and verdict of the first replica, and all lines are the report of each job that all stand for
pub report_text : (network : Network) (vs : List State) (v : State) (t : ℕ) (stable : Bool) → are_ready vs ≡ true → v ≡ get_or vs 0 v → t ≡ v.superstep → stable ≡ says_stable (found_verdict v) → FindsVerdict v →
    (j : Job) → j.graph ≡ network.graph → AllStand j vs → head_text (totals_in vs t) t stable ++ lines_of_all network vs ≡ job_report j network.labels
report_text network vs v t stable is_ready is at told finds j same stands =
    let ready : AreReady vs = are_ready-facts vs is_ready in
    let all : AllAt j t vs = all_at j vs v t ready stands (ap (λ (w : State). w.superstep) (sym is) ∙ sym at) in
    let first : StandsFor j 0 t v = subst (λ w. StandsFor j 0 t w) (sym is) (all.stand 0 v ready.some) in
    let over : says_end (found_verdict v) ≡ true = ap (λ w. says_end (found_verdict w)) is ∙ (ready.each 0 v v ready.some).ended in
    let ended : IsEnded (mixing_of j.plan) j.graph j.plan.limit t stable =
    subst (λ b. IsEnded (mixing_of j.plan) j.graph j.plan.limit t b) (sym told) (is_ended j 0 t v (found_verdict v) first (finds j 0 t first) over) in
    report_is j vs v network.labels t network.graph.vertices stable ready.some all ended (sym (ap (λ (h : Graph). h.vertices) same))
