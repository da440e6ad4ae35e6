-- The contents of replicas, as plain data, and their joins.
use Rattle.std.proofs.Common.{◌≡◌, refl, ap, ◌∙◌}
use Rattle.replica.proofs.Names.{Result, Ok, Err, OnOk, PartValue, IsContent, State, content_of}
use Rattle.ball_model.specs.History.{holding_in}
use Rattle.ball_model.specs.Join.{AreAlike, join_of, holding_of}
use Rattle.ball_model.proofs.JoinLemmas.{holding_is_one, holding_of_joined}
use Rattle.replica.specs.Seen.{IsState}
use Rattle.replica.specs.Merged.{Absorbs, TakesIn}
use Rattle.replica.proofs.MergedLemmas.Merge.{further_superstep}
use Rattle.replica.proofs.RunsLemmas.Same.{content_is_one}

-- two replicas of one plan and one partition may be joined
pub alike_from : (v o : State) → IsState v → IsState o → v.part.plan ≡ o.part.plan → v.part.number ≡ o.part.number → AreAlike (holding_in v) (holding_in o)
alike_from v o sv so plan number = record {
  plan = plan;
  partition = number;
  left = holding_is_one v.part.plan v.part.number (content_of v) (content_is_one v sv);
  right = holding_is_one o.part.plan o.part.number (content_of o) (content_is_one o so);
}

-- a replica that has taken over another one has the join of both contents
pub joined_holding : (v o w : State) → IsState v → IsState o → v.part.plan ≡ o.part.plan → v.part.number ≡ o.part.number → Absorbs v o w → holding_in w ≡ join_of (holding_in v) (holding_in o)
joined_holding v o w sv so plan number a =
    let theirs : IsContent v.part.plan v.part.number (content_of o) = rw (plan, number) (content_is_one o so) in
    let is = holding_of_joined v.part.plan v.part.number (content_of v) (content_of o) (content_of w) (content_is_one v sv) theirs (a.shown.superstep ∙ further_superstep v o) a.names in
    let own : holding_in w ≡ holding_of v.part.plan v.part.number (content_of w) = ap (λ (b : PartValue). holding_of b.plan b.number (content_of w)) a.part in
    let other : holding_of v.part.plan v.part.number (content_of o) ≡ holding_in o = rw (plan, number) refl in
    own ∙ is ∙ ap (λ h. join_of (holding_in v) h) other

-- and where it could not, nothing is said
pub joined_if : {A E : Type 0} (r : Result A E) (v o w : State) → v.part.plan ≡ o.part.plan → v.part.number ≡ o.part.number → OnOk r (TakesIn v o w) → OnOk r (holding_in w ≡ join_of (holding_in v) (holding_in o))
joined_if (Ok x) v o w plan number t = joined_holding v o w t.mine t.theirs plan number t.absorbs
joined_if (Err e) v o w plan number t = tt
