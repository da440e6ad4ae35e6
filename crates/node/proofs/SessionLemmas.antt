-- What a call of a replica makes of its holding.
use Rattle.std.proofs.Common.{◌≡◌, ◌≢◌, ◌∙◌, ℕ, ◌<◌, ◌==◌, Bool, true, false, not, if◌then◌else◌, List, refl, ap, sym, subst, ◌⊎◌, inl, inr}
use Rattle.std.proofs.lemmas.Bool.{eq-eqb}
use Rattle.std.proofs.lemmas.Result.{IfOk-from_err}
use Rattle.ball_model.specs.Content.{same_plan}
use Rattle.replica.proofs.RunsLemmas.Run.{same_plan-self}
use Rattle.std.specs.Prelude.{Option, None, Some, Result, Ok, Err, IfOk, IfErr, IsOk, OnOk, is_ok, max}
use Rattle.replica.specs.Merged.{merge_answer}
use Rattle.ball_model.specs.declared.names.BatchName.{BatchName}
use Rattle.ball_model.specs.declared.names.Taken.{Taken}
use Rattle.ball_model.specs.declared.names.TakeError.{TakeError}
use Rattle.ball_model.specs.declared.names.CloseError.{CloseError}
use Rattle.ball_model.specs.declared.names.MergeError.{MergeError}
use Rattle.ball_model.specs.declared.names.MergeError.TheVariants as unmerged
use Rattle.ball_model.specs.declared.world.Answer.{Answer}
use Rattle.ball_model.specs.declared.world.Answer.TheVariants as answer
use Rattle.ball_model.specs.Batches.{BatchValue, IsBatch, IsTrueBatch, batch_bytes, true_batch}
use Rattle.ball_model.specs.Checkpoint.{checkpoint_bytes, first_checkpoint_bytes, without_names}
use Rattle.ball_model.specs.Held.{IsHeldBy, IsName, held_after, held_close_answer, held_take_answer, start_holding}
use Rattle.ball_model.specs.Job.{Job, IsJob, part_of, PartValue}
use Rattle.ball_model.specs.Join.{Holding, join_of, merge_of}
use Rattle.ball_model.specs.PlanValue.{PlanValue}
use Rattle.ball_model.specs.State.{State, StandsFor, content_of}
use Rattle.ball_model.specs.Steps.{Take, Close}
use Rattle.ball_model.specs.World.{Node, closed_answer, taken_answer}
use Rattle.ball_model.specs.WorldLaws.{IsWorldNode}
use Rattle.ball_model.proofs.HeldLemmas.{closed_held, joined_held, start_held, taken_held}
use Rattle.checkpoint.specs.declared.error.KeepError.{KeepError}
use Rattle.checkpoint.specs.declared.error.KeepError.TheVariants as unkept
use Rattle.checkpoint.specs.Reading.{Ends, IfOkButWant, IsOfBytes, IsRead, IsReplicaSpelling, OnOkOrMemory, TellNone, content_form, seal_form, sealed_form}
use Rattle.checkpoint.proofs.FormLemmas.{first_fine, second_fine}
use Rattle.checkpoint.proofs.ReaderLemmas.{followed-err}
use Rattle.replica.specs.Runs.{Takes, Closes}
use Rattle.replica.specs.Saved.{IsKeepable}
use Rattle.replica.specs.Seen.{IsState}
use Rattle.replica.proofs.LevelLemmas.Level.{plan_is}
use Rattle.world.specs.Shows.{Has, ShowsNode}
use Rattle.world.specs.Turns.{merged_when}
use Rattle.world.proofs.KeepLemmas.{keepable, only_want}
use Rattle.world.proofs.NodeLemmas.{MergesWith, close_turns, fine, node, recover_turns, start_shows, take_turns, unmerged_turns}
use Rattle.node.specs.declared.session.Reply.{Reply}
use Rattle.node.specs.declared.session.Reply.TheVariants as reply
use Rattle.node.specs.NodeText.{IsDelivered, IsGivenBack}
use Rattle.node.specs.Turns.{GivesOrWants, Holds, SaysMerged, TakesBoth, TurnsTo}
use Rattle.node.specs.Refusals.{IsAnswered, IsNodeCheckpoint, IsNoCheckpoint, SaysOfBatch, SaysOfCheckpoint}
use Rattle.batches.specs.Reading.{AgreesButJob, GivesBatchOrMemory, batch_at}
use Rattle.batches.specs.declared.error.BatchError.{BatchError}
use Rattle.batches.specs.declared.error.BatchError.TheVariants as unread
use Rattle.batches.proofs.TrueLemmas.{true_is_batch}

-- ---- a replica as a node of a world, which has kept nothing
abbrev pub lone : Holding → Node
lone h = record { content = h; kept = None }

fits : (j : Job) (p : ℕ) (h : Holding) → IsHeldBy j p h → IsWorldNode j p (lone h)
fits j p h held = record { content = held; kept = tt }

shows : (j : Job) (h : Holding) (v : State) → Has j h v → ShowsNode j (lone h) (node v None)
shows j h v has = record { content = has; kept = tt }

-- the plan of a replica that has a holding
pub plan_held : (j : Job) (p : ℕ) (h : Holding) (v : State) → Holds j p h v → v.part.plan ≡ j.plan
plan_held j p h v k = plan_is j h.partition h.superstep v k.has.holding.stands

pub job_held : (j : Job) (p : ℕ) (h : Holding) (v : State) → Holds j p h v → IsJob j
job_held j p h v k = k.has.holding.stands.job

-- its part
pub part_held : (j : Job) (p : ℕ) (h : Holding) (v : State) → Holds j p h v → v.part ≡ part_of j p
part_held j p h v k = k.has.holding.stands.part ∙ ap (part_of j) k.held.partition

pub taken_turns : (j : Job) (p : ℕ) (h : Holding) (name : BatchName) (b : BatchValue) (r : Result Taken TakeError) (a : Answer) (v w : State) → Holds j p h v → IsName j.plan name → b ≡ true_batch j name →
    ((k : Job) (q : ℕ) → IsTrueBatch k b → Takes k q b.name r v w) → IsState w → a ≡ taken_answer r →
    TurnsTo j p (taken_answer (held_take_answer j h name)) (held_after j h (Take name)) w (reply.Answered a)
unfolding true_batch
taken_turns j p h name b r a v w k named is step state said =
    let same : b.name ≡ name = ap (λ (x : BatchValue). x.name) is in
    let true : IsTrueBatch j b = is ∙ ap (true_batch j) (sym same) in
    let takes : (q : ℕ) → Takes j q name r v w = λ q. subst (λ (n : BatchName). Takes j q n r v w) same (step j q true) in
    let both = (take_turns j name r a v w None takes state said).turned p (lone h) (fits j p h k.held) (shows j h v k.has) in
    record {
      says = ap reply.Answered both.0;
      holds = record { held = taken_held j p h name k.held named; has = both.1.content };
    }

pub closed_turns : (j : Job) (p : ℕ) (h : Holding) (r : Result ℕ CloseError) (a : Answer) (v w : State) → Holds j p h v → ((k : Job) (q : ℕ) → Closes k q r v w) → IsState w → a ≡ closed_answer r →
    TurnsTo j p (closed_answer (held_close_answer j h)) (held_after j h Close) w (reply.Answered a)
closed_turns j p h r a v w k step state said =
    let both = (close_turns j r a v w None step state said).turned p (lone h) (fits j p h k.held) (shows j h v k.has) in
    record {
      says = ap reply.Answered both.0;
      holds = record { held = closed_held j p h k.held; has = both.1.content };
    }

-- ---- a checkpoint
-- of either version that replica is read, or something was wanting
read_as : (v : State) (bytes : List ℕ) (r : Result State KeepError) → IsReplicaSpelling v bytes → (bytes ≡ checkpoint_bytes v → IfOkButWant r (λ w. w ≡ v)) →
    (bytes ≡ first_checkpoint_bytes v → IfOkButWant r (λ w. w ≡ without_names v)) → IfOkButWant r (λ w. w ≡ v)
read_as v bytes r (inl is) second first = second is
read_as v bytes r (inr is) second first = subst (λ (x : State). IfOkButWant r (λ w. w ≡ x)) (sym is.1) (first is.0)

holds_read : (j : Job) (p : ℕ) (h : Holding) (v : State) (r : Result State KeepError) → IsHeldBy j p h → Has j h v → IfErr r (λ e. IsRead e → ⊥) → IfOkButWant r (λ w. w ≡ v) →
    GivesOrWants (Holds j p h) r
holds_read j p h v (Ok w) held has sure same = record { held = held; has = subst (λ (x : State). Has j h x) (sym same) has }
holds_read j p h v (Err e) held has sure want = only_want e want sure

pub given_back : (j : Job) (p : ℕ) (h : Holding) (bytes : List ℕ) (r : Result State KeepError) → IsGivenBack j p bytes h → IfErr r (λ e. IsRead e → ⊥) →
    ((v : State) → IsKeepable v → v.part ≡ part_of j p → bytes ≡ checkpoint_bytes v → IfOkButWant r (λ w. w ≡ v)) →
    ((v : State) → IsKeepable v → v.part ≡ part_of j p → bytes ≡ first_checkpoint_bytes v → IfOkButWant r (λ w. w ≡ without_names v)) → GivesOrWants (Holds j p h) r
given_back j p h bytes r g sure second first =
    let keeps : IsKeepable g.replica = keepable j h g.replica g.has in
    let own : g.replica.part ≡ part_of j p = g.has.holding.stands.part ∙ ap (part_of j) g.held.partition in
    holds_read j p h g.replica r g.held g.has sure (read_as g.replica bytes r g.spells (second g.replica keeps own) (first g.replica keeps own))

-- ---- a replica that is merged
two_tests : (b c : Bool) → b ≡ true → c ≡ true → (if not b then Err unmerged.OtherJob else (if not c then Err unmerged.NotMine else fine)) ≡ fine
two_tests true true e f = refl
two_tests true false e f = absurd (cc)
two_tests false c e f = absurd (cc)

alike : (j : Job) (p : ℕ) (h c : Holding) → IsHeldBy j p h → IsHeldBy j p c → merge_of h.plan h.partition c.plan c.partition ≡ fine
alike j p h c k l =
    ap (λ (x : PlanValue). merge_of x h.partition c.plan c.partition) k.plan
    ∙ ap (λ (x : PlanValue). merge_of j.plan h.partition x c.partition) l.plan
    ∙ ap (λ (x : ℕ). merge_of j.plan x j.plan c.partition) k.partition
    ∙ ap (λ (x : ℕ). merge_of j.plan p j.plan x) l.partition
    ∙ two_tests (same_plan j.plan j.plan) (p == p) (same_plan-self j.plan) (eq-eqb p p refl)

pub merged_turns : (j : Job) (p : ℕ) (h c : Holding) (v o w : State) (n : ℕ) → MergesWith o v w (Ok tt) → Holds j p h v → Holds j p c o → IsState w → n ≡ w.superstep →
    TurnsTo j p (answer.Merged (join_of h c).superstep) (join_of h c) w (reply.Answered (answer.Merged n))
merged_turns j p h c v o w n m k l state at =
    let both = (recover_turns j c v o w None m l.has state).turned p (lone h) (fits j p h k.held) (shows j h v k.has) in
    let is = alike j p h c k.held l.held in
    let done : (answer.Merged w.superstep ≡ answer.Merged (join_of h c).superstep) × ShowsNode j (lone (join_of h c)) (node w None) =
    subst (λ r. (answer.Merged w.superstep ≡ (merged_when c (lone h) r).answer) × ShowsNode j (merged_when c (lone h) r).node (node w None)) is both in
    record {
      says = ap reply.Answered (ap answer.Merged at ∙ done.0);
      holds = record { held = joined_held j p h c k.held l.held; has = done.1.content };
    }

pub never_unmerged : (j : Job) (p : ℕ) (h c : Holding) (v o w : State) (e : MergeError) → MergesWith o v w (Err e) → e ≢ unmerged.Memory → Holds j p h v → Holds j p c o → ⊥
never_unmerged j p h c v o w e m some k l =
    let both = (unmerged_turns j c v o w e None m some l.has).turned p (lone h) (fits j p h k.held) (shows j h v k.has) in
    let said : answer.NotMerged e ≡ answer.Merged (join_of h c).superstep =
    subst (λ r. answer.NotMerged e ≡ (merged_when c (lone h) r).answer) (alike j p h c k.held l.held) both.0 in
    absurd (cc)

-- whatever is said of a merge
pub over_turns : {E : Type 0} (j : Job) (p : ℕ) (h c : Holding) (v o w : State) (r : Result (Unit {0}) MergeError) (t : ℕ) (said : Result Reply E) →
    MergesWith o v w r → SaysMerged r t said → t ≡ w.superstep → IsState w → Holds j p h v → Holds j p c o →
    IfOk said (TurnsTo j p (answer.Merged (join_of h c).superstep) (join_of h c) w)
over_turns j p h c v o w (Ok u) t said m says at state k l =
    subst (λ q. IfOk q (TurnsTo j p (answer.Merged (join_of h c).superstep) (join_of h c) w)) (sym says) (merged_turns j p h c v o w t m k l state at)
over_turns j p h c v o w (Err unmerged.Memory) t said m says at state k l = IfOk-from_err said (TurnsTo j p (answer.Merged (join_of h c).superstep) (join_of h c) w) says
over_turns j p h c v o w (Err unmerged.OtherJob) t said m says at state k l = absurd (never_unmerged j p h c v o w unmerged.OtherJob m (λ e. absurd (cc)) k l)
over_turns j p h c v o w (Err unmerged.NotMine) t said m says at state k l = absurd (never_unmerged j p h c v o w unmerged.NotMine m (λ e. absurd (cc)) k l)

-- replicas of one part are merged
one_part : (v o : State) → o.part ≡ v.part → merge_answer v o ≡ fine
one_part v o same =
    ap (λ (x : PartValue). merge_of v.part.plan v.part.number x.plan x.number) same
    ∙ two_tests (same_plan v.part.plan v.part.plan) (v.part.number == v.part.number) (same_plan-self v.part.plan) (eq-eqb v.part.number v.part.number refl)

never_apart : (v o w : State) (e : MergeError) → MergesWith o v w (Err e) → e ≢ unmerged.Memory → o.part ≡ v.part → ⊥
never_apart v o w e m some same =
    let said : Err e ≡ fine = m.answer (λ is. some (same_error e is)) ∙ one_part v o same in
    absurd (cc)
  where
    same_error : (x : MergeError) → ◌≡◌ {A = Result (Unit {0}) MergeError} (Err x) (Err unmerged.Memory) → x ≡ unmerged.Memory
    same_error x is = cc

-- what was taken over, and what is said
pub over_taken : {E : Type 0} (v o w : State) (r : Result (Unit {0}) MergeError) (t : ℕ) (said : Result Reply E) → MergesWith o v w r → OnOk r (w.superstep ≡ max v.superstep o.superstep) →
    SaysMerged r t said → o.part ≡ v.part → OnOk said (TakesBoth v o w)
over_taken v o w (Ok u) t said m at says same = subst (λ q. OnOk q (TakesBoth v o w)) (sym says) (record { superstep = at; names = m.names; shown = m.shown })
over_taken v o w (Err unmerged.Memory) t (Ok x) m at says same = absurd (cc)
over_taken v o w (Err unmerged.Memory) t (Err y) m at says same = tt
over_taken v o w (Err unmerged.OtherJob) t said m at says same = absurd (never_apart v o w unmerged.OtherJob m (λ e. absurd (cc)) same)
over_taken v o w (Err unmerged.NotMine) t said m at says same = absurd (never_apart v o w unmerged.NotMine m (λ e. absurd (cc)) same)

pub over_answer : {E : Type 0} (v o w : State) (r : Result (Unit {0}) MergeError) (t : ℕ) (said : Result Reply E) → MergesWith o v w r → SaysMerged r t said → t ≡ w.superstep → o.part ≡ v.part →
    IfOk said (λ x. x ≡ reply.Answered (answer.Merged w.superstep))
over_answer v o w (Ok u) t said m says at same = subst (λ q. IfOk q (λ x. x ≡ reply.Answered (answer.Merged w.superstep))) (sym says) (ap (λ (n : ℕ). reply.Answered (answer.Merged n)) at)
over_answer v o w (Err unmerged.Memory) t (Ok x) m says at same = absurd (cc)
over_answer v o w (Err unmerged.Memory) t (Err y) m says at same = tt
over_answer v o w (Err unmerged.OtherJob) t said m says at same = absurd (never_apart v o w unmerged.OtherJob m (λ e. absurd (cc)) same)
over_answer v o w (Err unmerged.NotMine) t said m says at same = absurd (never_apart v o w unmerged.NotMine m (λ e. absurd (cc)) same)

pub over_part : {E : Type 0} (r : Result (Unit {0}) MergeError) (t : ℕ) (said : Result Reply E) (e : KeepError) → SaysMerged r t said → said ≢ Ok (reply.NoCheckpoint e)
over_part (Ok u) t said e says is = absurd (cc)
over_part (Err unmerged.Memory) t (Ok x) e says is = absurd (cc)
over_part (Err unmerged.Memory) t (Err y) e says is = absurd (cc)
over_part (Err unmerged.OtherJob) t said e says is = absurd (cc)
over_part (Err unmerged.NotMine) t said e says is = absurd (cc)

-- ---- a batch that was delivered
pub delivered_read : (j : Job) (name : BatchName) (plan : PlanValue) (bytes : List ℕ) (r : Result BatchValue BatchError) → IsJob j → plan ≡ j.plan → IsDelivered j bytes name →
    ((b : BatchValue) → IsBatch b → AgreesButJob plan b.plan → bytes ≡ batch_bytes b → GivesBatchOrMemory r (Ok b)) → GivesBatchOrMemory r (Ok (true_batch j name))
unfolding true_batch
delivered_read j name plan bytes r job same d only =
    only (true_batch j name) (true_is_batch j name job d.named.superstep d.named.source d.named.target) (subst (λ (q : PlanValue). AgreesButJob q j.plan) (sym same) refl) d.spelled

pub read_true : (b x : BatchValue) → GivesBatchOrMemory (Ok b) (Ok x) → b ≡ x
read_true b x gives = cc

-- ---- what is said
pub restarted_to : (j : Job) (p : ℕ) (d : Holding) (w r : State) (a : Answer) → Holds j p d r → w ≡ r → a ≡ answer.Restarted r.superstep → TurnsTo j p (answer.Restarted d.superstep) d w (reply.Answered a)
restarted_to j p d w r a k same is = record {
  says = ap reply.Answered (is ∙ ap answer.Restarted k.has.holding.stands.superstep);
  holds = subst (Holds j p d) (sym same) k;
}

pub started_holds : (j : Job) (p : ℕ) (h : Holding) (v r : State) → Holds j p h v → Has j (start_holding j.plan p) r → Holds j p (start_holding j.plan p) r
started_holds j p h v r k has = record { held = start_held j p k.held.below; has = has }

pub start_has : (j : Job) (p : ℕ) (v : State) → StandsFor j p 0 v → ((s q : ℕ) → (content_of v).holds s q ≡ false) → IsState v → Has j (start_holding j.plan p) v
start_has j p v stands names state = (start_shows j p v stands names state).content

pub begun : (j : Job) (p : ℕ) (v : State) → p < j.plan.parts → Has j (start_holding j.plan p) v → Holds j p (start_holding j.plan p) v
begun j p v below has = record { held = start_held j p below; has = has }

-- ---- what is said of other bytes
pub over_said : {E : Type 0} (r : Result (Unit {0}) MergeError) (t : ℕ) (said : Result Reply E) → SaysMerged r t said → IfOk said IsAnswered
over_said (Ok u) t said says = subst (λ q. IfOk q IsAnswered) (sym says) tt
over_said (Err unmerged.Memory) t (Ok x) says = absurd (cc)
over_said (Err unmerged.Memory) t (Err y) says = tt
over_said (Err unmerged.OtherJob) t said says = subst (λ q. IfOk q IsAnswered) (sym says) tt
over_said (Err unmerged.NotMine) t said says = subst (λ q. IfOk q IsAnswered) (sym says) tt

pub spelled_as : (b x : BatchValue) (due : Result BatchValue BatchError) → GivesBatchOrMemory (Ok b) due → x ≡ b → due ≡ Ok x
spelled_as b x (Ok y) gives is = cc
spelled_as b x (Err e) gives is = absurd (cc)

pub spelled_same : (b x : BatchValue) (due : Result BatchValue BatchError) → due ≡ Ok x → due ≡ Ok b → x ≡ b
spelled_same b x due one two = cc

pub not_both : {A E : Type 0} (r : Result A E) (e : E) → IsOk r → r ≡ Err e → ⊥
not_both (Ok x) e ok is = absurd (cc)
not_both (Err y) e ok is = absurd (cc)

-- a batch is not told to be none
pub no_other_said : {E : Type 0} (b : BatchValue) (e : BatchError) (due : Result BatchValue BatchError) (r : Result Reply E) (P : Reply → Type 0) → IfOk r (λ x. e ≢ unread.Memory) →
    (e ≢ unread.Memory → due ≡ Err e) → due ≡ Ok b → IfOk r P
no_other_said b e due (Ok x) P some tells is = absurd (not_both due e (ap is_ok is) (tells some))
no_other_said b e due (Err y) P some tells is = tt

pub spelled_not : (e : BatchError) (due : Result BatchValue BatchError) → GivesBatchOrMemory (Err e) due → e ≢ unread.Memory → due ≡ Err e
spelled_not unread.Memory due gives some = absurd (some refl)
spelled_not e due gives some = sym gives

pub spelled_wants : (e : BatchError) (due : Result BatchValue BatchError) → GivesBatchOrMemory (Err e) due → e ≡ unread.Memory → IsOk due
spelled_wants unread.Memory due gives is = gives
spelled_wants e due gives is = absurd (cc)

pub says_no_batch : {E : Type 0} (plan : PlanValue) (bytes : List ℕ) (e : BatchError) (r : Result Reply E) → IfOk r (λ x. x ≡ reply.NoBatch e) → IfOk r (λ x. e ≢ unread.Memory) →
    (e ≢ unread.Memory → batch_at plan bytes ≡ Err e) → IfOk r (SaysOfBatch plan bytes)
says_no_batch plan bytes e (Ok x) is some tells = subst (SaysOfBatch plan bytes) (sym is) (tells some)
says_no_batch plan bytes e (Err y) is some tells = tt

pub says_no_checkpoint : {E : Type 0} (part : PartValue) (bytes : List ℕ) (e : KeepError) (r : Result Reply E) → IfOk r (λ x. x ≡ reply.NoCheckpoint e) → IfOk r (λ x. e ≢ unkept.Memory) →
    (e ≢ unkept.Memory → IsNoCheckpoint part bytes e) → IfOk r (SaysOfCheckpoint part bytes)
says_no_checkpoint part bytes e (Ok x) is some tells = subst (SaysOfCheckpoint part bytes) (sym is) (tells some)
says_no_checkpoint part bytes e (Err y) is some tells = tt

pub says_checkpoint : {E : Type 0} (part : PartValue) (bytes : List ℕ) (r : Result Reply E) → IfOk r IsAnswered → IsNodeCheckpoint part bytes → IfOk r (SaysOfCheckpoint part bytes)
says_checkpoint part bytes (Ok (reply.Answered a)) is whole = whole
says_checkpoint part bytes (Ok (reply.NoBatch e)) is whole = absurd is
says_checkpoint part bytes (Ok (reply.NoCheckpoint e)) is whole = absurd is
says_checkpoint part bytes (Err y) is whole = tt

-- and then it is no answer
pub never_answered : {E : Type 0} (e : KeepError) (r : Result Reply E) (P : Reply → Type 0) → IfOk r (λ x. x ≡ reply.NoCheckpoint e) → IfOk r (λ x. IsAnswered x → P x)
never_answered e (Ok x) P is = λ answered. absurd (subst IsAnswered is answered)
never_answered e (Err y) P is = tt

-- where something is so of each answer, it is so of an answer that is given
pub answered_if : {E : Type 0} (r : Result Reply E) (P : Reply → Type 0) → IfOk r P → IfOk r (λ x. IsAnswered x → P x)
answered_if (Ok x) P is = λ answered. is
answered_if (Err y) P is = tt

pub answered_on : {E : Type 0} (r : Result Reply E) (P : Type 0) → OnOk r P → IfOk r (λ x. IsAnswered x → P)
answered_on (Ok x) P is = λ answered. is
answered_on (Err y) P is = tt

-- ---- what is read of bytes
pub form_told : {R : Type 0} (remaining : R → Option (List ℕ)) (failed : R → ℕ) (part : PartValue) (most : ℕ) (old new : R) (bytes : List ℕ) (r : Result State KeepError) → remaining old ≡ Some bytes →
    OnOkOrMemory r (Ends remaining failed (sealed_form part) most old new) → OnOkOrMemory r (IsOk (sealed_form part bytes))
form_told remaining failed part most old new bytes (Ok v) is ends = ends.is_form bytes is
form_told remaining failed part most old new bytes (Err e) is ends = λ memory. (ends memory).is_form bytes is

pub checkpoint_told : (part : PartValue) (bytes : List ℕ) (r : Result State KeepError) → IfOk r (λ v. v.part ≡ part) → IfOk r IsKeepable → IfOk r (λ v. IsReplicaSpelling v bytes) → OnOkOrMemory r (IsOk (sealed_form part bytes)) →
    OnOk r (IsNodeCheckpoint part bytes)
checkpoint_told part bytes (Ok v) own keeps spells form = record { form = form; replica = v; keepable = keeps; part_is = own; spells = spells }
checkpoint_told part bytes (Err e) own keeps spells form = tt

-- ---- which refusal it is
pub no_batch_said : (plan : PlanValue) (body : List ℕ) (e : BatchError) (r : Reply) → SaysOfBatch plan body r → batch_at plan body ≡ Err e → r ≡ reply.NoBatch e
no_batch_said plan body e (reply.Answered a) says is = absurd (not_both (batch_at plan body) e says is)
no_batch_said plan body e (reply.NoBatch d) says is = let same : d ≡ e = cc (says, is) in ap reply.NoBatch same
no_batch_said plan body e (reply.NoCheckpoint d) says is = absurd says

tells_some : (part : PartValue) (body : List ℕ) (v : State) → IsKeepable v → v.part ≡ part → IsReplicaSpelling v body → TellNone part body → ⊥
tells_some part body v keeps own (inl second) none = none.second v keeps own second
tells_some part body v keeps own (inr first) none = none.first v keeps own first.0

no_checkpoint_due : (part : PartValue) (body : List ℕ) (e : KeepError) → IsNodeCheckpoint part body → (sealed_form part body ≡ Err e) ⊎ ((e ≡ unkept.Shape) × IsOk (sealed_form part body) × TellNone part body) → ⊥
no_checkpoint_due part body e k (inl form) = not_both (sealed_form part body) e k.form form
no_checkpoint_due part body e k (inr other) = tells_some part body k.replica k.keepable k.part_is k.spells other.2

same_due : (part : PartValue) (body : List ℕ) (d e : KeepError) → (sealed_form part body ≡ Err d) ⊎ ((d ≡ unkept.Shape) × IsOk (sealed_form part body) × TellNone part body) →
    (sealed_form part body ≡ Err e) ⊎ ((e ≡ unkept.Shape) × IsOk (sealed_form part body) × TellNone part body) → d ≡ e
same_due part body d e (inl one) (inl two) = cc (one, two)
same_due part body d e (inl one) (inr two) = absurd (not_both (sealed_form part body) d two.1 one)
same_due part body d e (inr one) (inl two) = absurd (not_both (sealed_form part body) e one.1 two)
same_due part body d e (inr one) (inr two) = one.0 ∙ sym two.0

pub no_checkpoint_said : (part : PartValue) (body : List ℕ) (e : KeepError) (r : Reply) → SaysOfCheckpoint part body r → IsNoCheckpoint part body e → r ≡ reply.NoCheckpoint e
no_checkpoint_said part body e (reply.Answered a) says other = absurd (no_checkpoint_due part body e says other.due)
no_checkpoint_said part body e (reply.NoBatch d) says other = absurd says
no_checkpoint_said part body e (reply.NoCheckpoint d) says other = ap reply.NoCheckpoint (same_due part body d e says.due other.due)

-- ---- the fixed fields
pub front_refused : (part : PartValue) (bytes : List ℕ) (e : KeepError) → content_form part bytes ≡ Err e → IsOfBytes e → IsNoCheckpoint part bytes e
front_refused part bytes e is of = record { of_bytes = of; due = inl (followed-err (content_form part) seal_form bytes e is) }

-- they are not those of a checkpoint that stands for the job
given_due : (v : State) (part : PartValue) (bytes : List ℕ) (e : KeepError) → IsKeepable v → v.part ≡ part → IsReplicaSpelling v bytes →
    (sealed_form part bytes ≡ Err e) ⊎ ((e ≡ unkept.Shape) × IsOk (sealed_form part bytes) × TellNone part bytes) → ⊥
given_due v part bytes e keeps own (inl second) (inl form) =
    second_fine v keeps.state e (ap (λ (x : PartValue). sealed_form x (checkpoint_bytes v)) own ∙ ap (sealed_form part) (sym second) ∙ form)
given_due v part bytes e keeps own (inr first) (inl form) =
    first_fine v keeps.state e (ap (λ (x : PartValue). sealed_form x (first_checkpoint_bytes v)) own ∙ ap (sealed_form part) (sym first.0) ∙ form)
given_due v part bytes e keeps own spells (inr other) = tells_some part bytes v keeps own spells other.2

pub front_given : (j : Job) (p : ℕ) (d : Holding) (part : PartValue) (bytes : List ℕ) (e : KeepError) → part ≡ part_of j p → IsGivenBack j p bytes d → IsNoCheckpoint part bytes e → ⊥
front_given j p d part bytes e own g other =
    given_due g.replica part bytes e (keepable j d g.replica g.has) (g.has.holding.stands.part ∙ ap (part_of j) g.held.partition ∙ sym own) g.spells other.due

pub never_wants : (part : PartValue) (bytes : List ℕ) (e : KeepError) → IsNoCheckpoint part bytes e → e ≡ unkept.Memory → ⊥
never_wants part bytes e other is = subst IsOfBytes is other.of_bytes
