-- What a node keeps, and returns to: the proofs about `Node` cite these.
use Rattle.std.proofs.Common.{◌≡◌, ◌⊎◌, inl, inr, ℕ, ◌<◌, ◌≤◌, List, refl, ap, sym, ◌∙◌, subst, arith}
use Rattle.std.specs.Prelude.{Option, None, Some, IfSome, Result, Ok, Err, IfOk, unwrap_or}
use Rattle.std.specs.List.{All}
use Rattle.std.proofs.lemmas.List.Elements.{All-from_recursion, All-map}
use Rattle.ball_model.specs.declared.world.Answer.TheVariants as answer
use Rattle.ball_model.specs.Checkpoint.{checkpoint_bytes}
use Rattle.checkpoint.specs.Reading.{IsRead}
use Rattle.checkpoint.specs.declared.error.KeepError.{KeepError}
use Rattle.checkpoint.specs.declared.error.KeepError.TheVariants as unkept
use Rattle.ball_model.specs.Held.{IsHeldBy, start_holding}
use Rattle.ball_model.specs.Job.{Job, part_of}
use Rattle.ball_model.specs.Join.{Holding}
use Rattle.ball_model.specs.Figures.{TallyValue}
use Rattle.ball_model.specs.PlanValue.{mixing_of}
use Rattle.ball_model.specs.State.{State, own_vertices, tallies_of}
use Rattle.ball_model.specs.World.{Node}
use Rattle.ball_model.specs.WorldLaws.{IsWorldNode}
use Rattle.ball_model.specs.Supersteps.{tally_at}
use Rattle.ball_model.proofs.AccumulatedPartLemmas.{all_own}
use Rattle.ball_model.proofs.EndLemmas.{end_within}
use Rattle.ball_model.proofs.TallyLemmas.{tallies_fit}
use Rattle.replica.specs.Saved.{IsFigures, IsKeepable}
use Rattle.world.specs.Shows.{ShowsNode, Agree, Has, KeepsContent}
use Rattle.world.specs.Turns.{Turns, restarted_turn}
use Rattle.world.proofs.NodeLemmas.{node}

-- ---- what may be kept
-- a replica that has a content of a job has figures that a run can have
pub keepable : (j : Job) (h : Holding) (v : State) → Has j h v → IsKeepable v
unfolding tallies_of
keepable j h v k =
    let s = k.holding.stands in
    let limit : h.superstep ≤ 4096 = omega (arith, (end_within (mixing_of j.plan) j.graph j.plan.limit s.job.plan.limit_from).1, s.in_time, s.job.plan.limit_to) in
    let figures : ℕ → TallyValue = λ x. tally_at (mixing_of j.plan) j.graph x h.superstep in
    let fit : (x : ℕ) → x < j.graph.vertices → IsFigures (figures x) = λ x below.
    let both = tallies_fit (mixing_of j.plan) j.graph x h.superstep s.job.plan.log2m_from s.job.plan.log2m_to s.job.graph below limit in
    record { harm = both.0; dist = both.1 } in
    record {
      state = k.state;
      figures = subst (λ (l : List TallyValue). All IsFigures l) (sym s.tallies)
          (All-map IsFigures figures (own_vertices j h.partition)
          (All-from_recursion (λ x. IsFigures (figures x)) (own_vertices j h.partition) (all_own (λ x. IsFigures (figures x)) j.graph.vertices j.plan.parts h.partition fit)));
    }

-- ---- what is kept
-- the content that was kept, from its bytes

back : (j : Job) (p : ℕ) (n : Node) (v w : State) (bytes : List ℕ) (o : Option Holding) → n.kept ≡ o → IsWorldNode j p n → ShowsNode j n (node v (Some bytes)) → Agree (KeepsContent j) o (Some bytes) → IfSome o (IsHeldBy j p) →
    ((u : State) → IsKeepable u → u.part ≡ v.part → bytes ≡ checkpoint_bytes u → w ≡ u) → (answer.Restarted w.superstep ≡ (restarted_turn j n).answer) × ShowsNode j (restarted_turn j n).node (node w (Some bytes))
back j p n v w bytes None at fits shows agree held read = absurd agree
back j p n v w bytes (Some h) at fits shows agree held read =
    let u = agree.replica in
    let stands = agree.has.holding.stands in
    let part : u.part ≡ v.part = stands.part ∙ ap (part_of j) (held.partition ∙ sym fits.content.partition) ∙ sym shows.content.holding.stands.part in
    let same : w ≡ u = read u (keepable j h u agree.has) part agree.bytes_are in
    let has : Has j h w = subst (λ (x : State). Has j h x) (sym same) agree.has in
    let given : unwrap_or n.kept (start_holding j.plan n.content.partition) ≡ h = ap (λ o. unwrap_or o (start_holding j.plan n.content.partition)) at in
    subst (λ (d : Holding). (answer.Restarted w.superstep ≡ answer.Restarted d.superstep) × ShowsNode j (record n { content = d }) (node w (Some bytes))) (sym given)
    (ap answer.Restarted has.holding.stands.superstep, record { content = has; kept = shows.kept })

pub restart_turns : (j : Job) (v w : State) (bytes : List ℕ) → ((u : State) → IsKeepable u → u.part ≡ v.part → bytes ≡ checkpoint_bytes u → w ≡ u) →
    Turns j (restarted_turn j) (answer.Restarted w.superstep) (node v (Some bytes)) (node w (Some bytes))
restart_turns j v w bytes read = record {
  turned = λ p n fits shows. back j p n v w bytes n.kept refl fits shows shows.kept fits.kept read;
}

-- a node that starts anew, where what was read may be a refusal
pub if_back : {E : Type 0} (r : Result State E) (j : Job) (v : State) (bytes : List ℕ) → ((u : State) → IsKeepable u → u.part ≡ v.part → bytes ≡ checkpoint_bytes u → IfOk r (λ w. w ≡ u)) →
    IfOk r (λ w. Turns j (restarted_turn j) (answer.Restarted w.superstep) (node v (Some bytes)) (node w (Some bytes)))
if_back (Ok w) j v bytes read = restart_turns j v w bytes read
if_back (Err e) j v bytes read = tt

-- ---- why it is not read
-- it is want of memory, where no read fails
pub only_want : (e : KeepError) → (e ≡ unkept.Memory) ⊎ (e ≡ unkept.Read) → (IsRead e → ⊥) → e ≡ unkept.Memory
only_want e (inl want) sure = want
only_want e (inr read) sure = absurd (sure (subst IsRead (sym read) tt))
