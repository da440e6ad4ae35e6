-- What a call of a replica makes of its node.
use Rattle.std.proofs.Common.{◌≡◌, ◌≢◌, ℕ, ◌==◌, false, List, refl, ap, sym, ◌∙◌, subst}
use Rattle.std.specs.Prelude.{Option, None, Result, Ok, Err, OnOk, OnErr, IfOk, max}
use Rattle.std.proofs.lemmas.Bool.{eqb-true}
use Rattle.ball_model.specs.declared.names.BatchName.{BatchName}
use Rattle.ball_model.specs.declared.names.Taken.{Taken}
use Rattle.ball_model.specs.declared.names.TakeError.{TakeError}
use Rattle.ball_model.specs.declared.names.CloseError.{CloseError}
use Rattle.ball_model.specs.declared.names.MergeError.{MergeError}
use Rattle.ball_model.specs.declared.names.MergeError.TheVariants as unmerged
use Rattle.ball_model.specs.declared.world.Answer.{Answer}
use Rattle.ball_model.specs.declared.world.Answer.TheVariants as answer
use Rattle.ball_model.specs.Content.{take_of, close_of}
use Rattle.ball_model.specs.Job.{Job}
use Rattle.ball_model.specs.History.{holding_in}
use Rattle.ball_model.specs.Join.{Holding, content_in, join_of, merge_of}
use Rattle.ball_model.specs.State.{State, StandsFor, content_of, further}
use Rattle.ball_model.specs.Steps.{Take, Close, CallAnswer, Took, Closed, Merged, start_content}
use Rattle.ball_model.specs.World.{start_node, taken_answer, closed_answer}
use Rattle.ball_model.proofs.WorldLemmas.{own_copy}
use Rattle.replica.specs.Merged.{Absorbs, HoldsOfBoth, ShowsAs, merge_answer}
use Rattle.replica.specs.Runs.{Takes, Closes}
use Rattle.replica.specs.Seen.{IsState}
use Rattle.replica.proofs.MergedLemmas.Holding.{joined_holding}
use Rattle.replica.proofs.LevelLemmas.Level.{plan_is, number_is}
use Rattle.world.specs.Shows.{SeenNode, ShowsNode, Has}
use Rattle.world.specs.Turns.{Turns, taken_turn, closed_turn, merged_turn, merged_when}
use Rattle.world.proofs.BridgeLemmas.{stepped, holding_here}

-- what is in an answer
took_in : Result Taken TakeError → CallAnswer → Result Taken TakeError
took_in d (Took r) = r
took_in d (Closed r) = d
took_in d (Merged r) = d

closed_in : Result ℕ CloseError → CallAnswer → Result ℕ CloseError
closed_in d (Took r) = d
closed_in d (Closed r) = r
closed_in d (Merged r) = d

abbrev pub node : State → Option (List ℕ) → SeenNode
node v kept = record { replica = v; kept = kept }

pub close_turns : (j : Job) (r : Result ℕ CloseError) (a : Answer) (v w : State) (kept : Option (List ℕ)) → ((k : Job) (p : ℕ) → Closes k p r v w) → IsState w → a ≡ closed_answer r →
    Turns j (closed_turn j) a (node v kept) (node w kept)
unfolding closed_in
close_turns j r a v w kept step state said = record {
  turned = λ p n fits shows.
      let h = n.content in
      let both = stepped j p h Close (Closed r) v w fits.content shows.content (step j h.partition) state in
      let same : r ≡ close_of j h.partition (content_in h) = ap (closed_in r) both.0 in
      (said ∙ ap closed_answer same, record { content = both.1; kept = shows.kept });
}

pub take_turns : (j : Job) (name : BatchName) (r : Result Taken TakeError) (a : Answer) (v w : State) (kept : Option (List ℕ)) → ((p : ℕ) → Takes j p name r v w) → IsState w → a ≡ taken_answer r →
    Turns j (taken_turn j name) a (node v kept) (node w kept)
unfolding took_in
take_turns j name r a v w kept step state said = record {
  turned = λ p n fits shows.
      let h = n.content in
      let both = stepped j p h (Take name) (Took r) v w fits.content shows.content (step h.partition) state in
      let same : r ≡ take_of j.plan h.partition (content_in h) j.plan name = ap (took_in r) both.0 in
      (said ∙ ap taken_answer same, record { content = both.1; kept = shows.kept });
}

-- ---- a copy that is taken over
-- what a merge with a snapshot promises
pub record MergesWith (o v w : State) (r : Result (Unit {0}) MergeError) : Type 0 where
  pub answer : r ≢ Err unmerged.Memory → r ≡ merge_answer v o
  pub refused : OnErr r (w ≡ v)
  pub part : w.part ≡ v.part
  pub names : OnOk r (HoldsOfBoth v o w)
  pub shown : OnOk r (ShowsAs w (further v o))
  pub stands : (j : Job) (p t u : ℕ) → StandsFor j p t v → StandsFor j p u o → OnOk r (StandsFor j p (max t u) w)

-- the answer to a merge, by the holdings of both
merged_by : (j : Job) (h c : Holding) (v o : State) → Has j h v → Has j c o → merge_answer v o ≡ merge_of h.plan h.partition c.plan c.partition
merged_by j h c v o k l =
    ap (λ (x : Holding). merge_of x.plan x.partition o.part.plan o.part.number) k.holding.content
    ∙ ap (λ (x : Holding). merge_of h.plan h.partition x.plan x.partition) l.holding.content

abbrev pub fine : Result (Unit {0}) MergeError
fine = Ok tt

abbrev bad : MergeError → Result (Unit {0}) MergeError
bad e = Err e

joined_has : (j : Job) (h c : Holding) (v o w : State) (m : MergesWith o v w (Ok tt)) → Has j h v → Has j c o → IsState w → c.partition ≡ h.partition → Has j (join_of h c) w
joined_has j h c v o w m k l state same =
    let plan : v.part.plan ≡ o.part.plan = plan_is j h.partition h.superstep v k.holding.stands ∙ sym (plan_is j c.partition c.superstep o l.holding.stands) in
    let number : v.part.number ≡ o.part.number = number_is j h.partition h.superstep v k.holding.stands ∙ sym same ∙ sym (number_is j c.partition c.superstep o l.holding.stands) in
    let absorbs : Absorbs v o w = record { part = m.part; shown = m.shown; names = m.names; stands = m.stands } in
    let both : join_of (holding_in v) (holding_in o) ≡ join_of h c = ap (λ x. join_of x (holding_in o)) k.holding.content ∙ ap (join_of h) l.holding.content in
    record {
      holding = record {
        content = joined_holding v o w k.state l.state plan number absorbs ∙ both;
        stands = m.stands j h.partition h.superstep c.superstep k.holding.stands (subst (λ (p : ℕ). StandsFor j p c.superstep o) same l.holding.stands);
      };
      state = state;
    }

pub recover_turns : (j : Job) (c : Holding) (v o w : State) (kept : Option (List ℕ)) → MergesWith o v w (Ok tt) → Has j c o → IsState w →
    Turns j (merged_turn c) (answer.Merged w.superstep) (node v kept) (node w kept)
recover_turns j c v o w kept m l state = record {
  turned = λ p n fits shows.
      let h = n.content in
      let k = shows.content in
      let is : fine ≡ merge_of h.plan h.partition c.plan c.partition = m.answer (λ e. absurd (cc)) ∙ merged_by j h c v o k l in
      let same : c.partition ≡ h.partition = eqb-true c.partition h.partition (own_copy _ (c.partition == h.partition) tt (sym is)) in
      let has = joined_has j h c v o w m k l state same in
      subst (λ r. (answer.Merged w.superstep ≡ (merged_when c n r).answer) × ShowsNode j (merged_when c n r).node (node w kept)) is
      (ap answer.Merged has.holding.stands.superstep, record { content = has; kept = shows.kept });
}

pub unmerged_turns : (j : Job) (c : Holding) (v o w : State) (e : MergeError) (kept : Option (List ℕ)) → MergesWith o v w (Err e) → e ≢ unmerged.Memory → Has j c o →
    Turns j (merged_turn c) (answer.NotMerged e) (node v kept) (node w kept)
unmerged_turns j c v o w e kept m some l = record {
  turned = λ p n fits shows.
      let h = n.content in
      let is : bad e ≡ merge_of h.plan h.partition c.plan c.partition = m.answer (λ k. some (error_is e k)) ∙ merged_by j h c v o shows.content l in
      subst (λ r. (answer.NotMerged e ≡ (merged_when c n r).answer) × ShowsNode j (merged_when c n r).node (node w kept)) is
      (refl, subst (λ (u : State). ShowsNode j n (node u kept)) (sym m.refused) shows);
}
  where
    error_in : Result (Unit {0}) MergeError → MergeError
    error_in (Ok u) = unmerged.Memory
    error_in (Err x) = x

    error_is : (x : MergeError) → bad x ≡ bad unmerged.Memory → x ≡ unmerged.Memory
    error_is x k = ap error_in k

-- the answer to a refusal
pub if_unmerged : {E : Type 0} (r : Result Answer E) (j : Job) (c : Holding) (e : MergeError) (s t : SeenNode) → IfOk r (λ a. (a ≡ answer.NotMerged e) × (e ≢ unmerged.Memory)) → (e ≢ unmerged.Memory → Turns j (merged_turn c) (answer.NotMerged e) s t) → IfOk r (λ a. Turns j (merged_turn c) a s t)
if_unmerged (Ok a) j c e s t h turns = subst (λ (x : Answer). Turns j (merged_turn c) x s t) (sym h.0) (turns h.1)
if_unmerged (Err x) j c e s t h turns = tt

-- ---- the start
pub start_shows : (j : Job) (p : ℕ) (v : State) → StandsFor j p 0 v → ((s q : ℕ) → (content_of v).holds s q ≡ false) → IsState v → ShowsNode j (start_node j.plan p) (node v None)
start_shows j p v stands names state = record {
  content = holding_here j p start_content v (record { stands = stands; names = names }) state;
  kept = tt;
}
