-- The line of an answer, whatever world it is of.
use Rattle.std.proofs.Common.{◌≡◌, ◌≢◌, ◌∙◌, ℕ, false, List, [], ◌++◌, refl, ap}
use Rattle.std.specs.Prelude.{Result, OnOk}
use Rattle.std.proofs.lemmas.Result.{on_ok_weaker}
use Rattle.ball_model.specs.declared.world.Answer.{Answer}
use Rattle.ball_model.specs.declared.world.Answer.TheVariants as answer
use Rattle.ball_model.specs.declared.world.Event.{Event}
use Rattle.ball_model.specs.declared.world.Event.TheVariants as event
use Rattle.ball_model.specs.Job.{Job}
use Rattle.ball_model.specs.World.{World}
use Rattle.ball_model.specs.WorldText.{answer_text}
use Rattle.node.specs.Turns.{said_text}

some_job : Job
some_job = record {
  graph = record { vertices = 0; edges = []; counted = [] };
  plan = record { log2m = 0; seed = 0; parts = 0; limit = 0; vertices = 0; corrected = false; job = [] };
}

some_world : World
some_world = record { nodes = []; sent = []; copies = [] }

some_event : Event
some_event = event.Close (record { part = 0; replica = 0 })

said_is : (a : Answer) → a ≢ answer.Shown → answer_text some_job some_world some_event a ≡ said_text a
said_is (answer.Sent m name changed rows) other = refl
said_is (answer.Took t) other = refl
said_is (answer.NotTaken r) other = refl
said_is (answer.Closed t) other = refl
said_is (answer.NotClosed r) other = refl
said_is (answer.Kept t) other = refl
said_is (answer.Restarted t) other = refl
said_is (answer.Copied c t) other = refl
said_is (answer.Merged t) other = refl
said_is (answer.NotMerged r) other = refl
said_is answer.Shown other = absurd (other refl)

pub said_line : {E : Type 0} (a : Answer) (old new : List ℕ) (r : Result (Unit {0}) E) → a ≢ answer.Shown →
    ((j : Job) (w : World) (e : Event) → a ≢ answer.Shown → OnOk r (new ≡ old ++ answer_text j w e a)) → OnOk r (new ≡ old ++ said_text a)
said_line a old new r other told =
    on_ok_weaker r (λ (is : new ≡ old ++ answer_text some_job some_world some_event a). is ∙ ap (λ (l : List ℕ). old ++ l) (said_is a other)) (told some_job some_world some_event other)
