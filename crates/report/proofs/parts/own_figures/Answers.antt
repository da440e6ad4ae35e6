use Rattle.std.proofs.Common.{◌≡◌, ◌∙◌, ℕ, List, length, min, ap, sym, refl, arith}
use Rattle.std.specs.List.{zip}
use Rattle.std.proofs.lemmas.List.{length-map}
use Rattle.std.proofs.lemmas.Result.{IfOk-weaker}
use Rattle.std.proofs.lemmas.Slice.Zip.{length-zip}
use Rattle.figures.specs.Values.{figures_from, figures_of}
use Rattle.ball_model.specs.PlanValue.{measure_of}
use Rattle.ball_model.specs.Figures.{TallyValue, estimate_with}
use Rattle.ball_model.specs.State.{State}
use Rattle.replica.specs.Seen.{IsState}
use Rattle.report.specs.Parts.{HasSize, figures_among, figures_in}
use Rattle.report.proofs.parts.own_figures.Goals as goal

pub returns-clause-value : goal.returns-clause-value
unfolding figures_among figures_in
returns-clause-value g c =
    let v = c.args.replica.now in
    IfOk-weaker c.figures_within.result _ _ (λ own h. h v.rows c.weights.ensures ∙ rw c.tallies.ensures.value refl) c.figures_within.ensures

-- as many figures as rows, and as many rows as vertices
has_size : (v : State) → IsState v → HasSize v
unfolding figures_in figures_from
has_size v s =
    let rows : length v.tallies ≡ length v.rows =
    sym (length-map v.tallies (λ (t : TallyValue). t.last)) ∙ ap length s.lasts ∙ length-map v.rows (estimate_with (measure_of v.part.plan)) in
    record {
      size = length-map (zip v.rows v.tallies) (λ (p : List ℕ × TallyValue). figures_of p.1.last p.0 p.1)
          ∙ length-zip v.rows v.tallies
          ∙ (let less : min (length v.rows) (length v.tallies) ≡ length v.rows = omega arith in less)
          ∙ s.count ∙ s.part.preds;
    }

pub returns-clause-size : goal.returns-clause-size
returns-clause-size g c = has_size c.args.replica.now c.limits.ensures.state
