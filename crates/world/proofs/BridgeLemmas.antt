-- From what a replica promises of a call to the holding after it.
use Rattle.std.proofs.Common.{◌≡◌, ℕ, List, [], ◌∷◌, refl, ap, sym, ◌∙◌, subst}
use Rattle.ball_model.specs.PlanValue.{PlanValue}
use Rattle.ball_model.specs.Job.{Job}
use Rattle.ball_model.specs.Content.{Content}
use Rattle.ball_model.specs.Join.{Holding, content_in, holding_of}
use Rattle.ball_model.specs.State.{State, content_of}
use Rattle.ball_model.specs.Steps.{Call, CallAnswer, answer_due, answers_due, content_after, content_after_all}
use Rattle.ball_model.specs.Held.{IsHeldBy, held_after}
use Rattle.ball_model.proofs.JoinLemmas.{content_back}
use Rattle.replica.specs.Seen.{IsState}
use Rattle.replica.specs.Runs.{HasContent, Did, DidAll}
use Rattle.replica.proofs.LevelLemmas.Level.{plan_is, number_is}
use Rattle.replica.proofs.RunsLemmas.Run.{has_content, made}
use Rattle.replica.proofs.RunsLemmas.Same.{content_is_one}
use Rattle.world.specs.Shows.{Has}

-- a replica that has a holding has its content
pub content_here : (j : Job) (h : Holding) (v : State) → Has j h v → HasContent j h.partition (content_in h) v
content_here j h v k = record {
  stands = k.holding.stands;
  names = λ s q. ap (λ (c : Content). c.holds s q) (sym (content_back v.part.plan v.part.number (content_of v) (content_is_one v k.state)) ∙ ap content_in k.holding.content);
}

-- and one that has a content has it as a holding
pub holding_here : (j : Job) (p : ℕ) (c : Content) (v : State) → HasContent j p c v → IsState v → Has j (holding_of j.plan p c) v
holding_here j p c v k state = record {
  holding = record {
    content = ap (λ (plan : PlanValue). holding_of plan v.part.number (content_of v)) (plan_is j p c.superstep v k.stands)
        ∙ ap (λ (n : ℕ). holding_of j.plan n (content_of v)) (number_is j p c.superstep v k.stands)
        ∙ ap (holding_of j.plan p) (has_content j p c v k);
    stands = k.stands;
  };
  state = state;
}

-- a call of a replica that has a holding: its answer, and the holding after it
pub stepped : (j : Job) (p : ℕ) (h : Holding) (call : Call) (answer : CallAnswer) (v w : State) → IsHeldBy j p h → Has j h v → Did j h.partition call answer v w → IsState w →
    (answer ≡ answer_due j h.partition (content_in h) call) × Has j (held_after j h call) w
unfolding DidAll answers_due content_after_all
stepped j p h call answer v w held k did state =
    let run = made j h.partition (call ∷ []) (answer ∷ []) (content_in h) v w (content_here j h v k) (w, did, refl) in
    let after = content_after j h.partition (content_in h) call in (
      one_answer answer (answer_due j h.partition (content_in h) call) run.0,
      subst (λ (plan : PlanValue). Has j (holding_of plan h.partition after) w) (sym held.plan) (holding_here j h.partition after w run.1 state),
    )
  where
    one_answer : (a b : CallAnswer) → (a ∷ []) ≡ (b ∷ []) → a ≡ b
    one_answer a b e = ap (λ l. first l a) e
      where
        first : List CallAnswer → CallAnswer → CallAnswer
        first [] d = d
        first (x ∷ xs) d = x
