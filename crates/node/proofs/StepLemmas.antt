-- What a command asks for, and its answer.
use Rattle.std.proofs.Common.{◌≡◌, ◌≢◌, ◌∙◌, ℕ, ◌+◌, ◌<◌, ◌≤◌, ◌==◌, ◌&&◌, ◌⊎◌, inl, inr, nat_lt, Bool, true, false, not, if◌then◌else◌, List, [], ◌∷◌, ◌++◌, length, slice_index, refl, ap, sym, subst, arith}
use Rattle.std.specs.Prelude.{Option, None, Some, Result, Ok, Err, OnOk, codes, decimal}
use Rattle.std.specs.Io.KnownBytes.{Appends}
use Rattle.std.proofs.KnownBytes.{Appends-trans}
use Rattle.std.proofs.lemmas.Bool.{eq-eqb, le-ltb, lt-ltb, ne_eqb}
use Rattle.std.proofs.lemmas.List.FromFn.{get_or-map-range_with_len, length-map-range_with_len}
use Rattle.ball_model.specs.declared.names.BatchName.{BatchName}
use Rattle.ball_model.specs.declared.names.Taken.{Taken}
use Rattle.ball_model.specs.declared.names.TakeError.{TakeError}
use Rattle.ball_model.specs.declared.names.CloseError.{CloseError}
use Rattle.ball_model.specs.declared.world.Answer.TheVariants as answer
use Rattle.ball_model.specs.Held.{held_after, held_close_answer, held_take_answer, start_holding}
use Rattle.ball_model.specs.Input.{Network}
use Rattle.ball_model.specs.Job.{Job}
use Rattle.ball_model.specs.Join.{Holding, join_of}
use Rattle.ball_model.specs.declared.world.WorldError.TheVariants as refusal
use Rattle.ball_model.specs.Batches.{BatchValue, true_batch}
use Rattle.ball_model.specs.Checkpoint.{checkpoint_bytes}
use Rattle.ball_model.specs.PlanValue.{PlanValue, mixing_of}
use Rattle.ball_model.specs.Report.{superstep_line}
use Rattle.ball_model.specs.State.{State, StandsFor, own_vertices, sums_of}
use Rattle.ball_model.specs.Supersteps.{total_over}
use Rattle.replica.specs.Sent.{batch_name}
use Rattle.replica.proofs.LevelLemmas.Level.{number_is, plan_is}
use Rattle.report.specs.Parts.{superstep_lines}
use Rattle.report.proofs.VertexLemmas.{lines_same}
use Rattle.ball_model.specs.Steps.{Take, Close}
use Rattle.ball_model.specs.World.{closed_answer, taken_answer}
use Rattle.ball_model.specs.WorldText.{number_line, refusal_line, show_text, untaken_line, words_line}
use Rattle.world.specs.declared.tell.TellError.{TellError}
use Rattle.world.specs.Tell.{AppendsOf, Tells}
use Rattle.node.specs.declared.command.Command.{Command}
use Rattle.node.specs.declared.command.Command.TheVariants as command
use Rattle.node.specs.declared.session.Reply.{Reply}
use Rattle.node.specs.NodeText.{AnswersOne, Question, Asks, IsDelivered, IsGivenBack, Send, Deliver, Closing, Keep, Restart, Recover, IsNotFor, NoBatch, NotFor, NoCheckpoint, Show, Totals, Figures, after_asked, the_lone_node, closed_line, figures_text, refused_line, send_text, sent_text, took_line, totals_text}
use Rattle.node.specs.Serving.{IfRefused, Steps}
use Rattle.node.specs.Turns.{Holds, TurnsTo, batch_word, checkpoint_word, reply_text, said_text}
use Rattle.ball_model.specs.Job.{PartValue, part_of}
use Rattle.batches.specs.declared.error.BatchError.{BatchError}
use Rattle.checkpoint.specs.declared.error.KeepError.{KeepError}
use Rattle.node.specs.declared.session.Reply.TheVariants as reply
use Rattle.node.specs.Refusals.{IsNoCheckpoint, SaysOfBatch, SaysOfCheckpoint}
use Rattle.ball_model.specs.Content.{is_new}
use Rattle.ball_model.specs.State.{content_of}
use Rattle.batches.specs.Reading.{batch_at}
use Rattle.replica.specs.Change.{take_answer}
use Rattle.node.proofs.SessionLemmas.{no_batch_said, no_checkpoint_said, part_held, plan_held}

-- ---- an answer whose text is known
-- what a replica v was asked by a command and the bytes behind it is answered by the text, and makes it w
pub record StepsTo (network : Network) (c : Command) (body : List ℕ) (v w : State)
    (text : List ℕ) : Type 0 where
  pub answers : (j : Job) (p : ℕ) (h : Holding) (a : Question) → j.graph ≡ network.graph →
      Holds j p h v → Asks j p c body a → AnswersOne j network.labels h a text
  pub holds : (j : Job) (p : ℕ) (h : Holding) (a : Question) → j.graph ≡ network.graph →
      Holds j p h v → Asks j p c body a → Holds j p (after_asked j h a) w
  pub named : IfRefused v.part c body (λ line. text ≡ line)
  pub spared : IfRefused v.part c body (λ _. w ≡ v)

pub steps_told : (network : Network) (c : Command) (body : List ℕ) (v w : State) (text : List ℕ) (old new : Option (List ℕ)) → Appends old new text → StepsTo network c body v w text → Steps network c body v w old new
steps_told network c body v w text old new appended s = record {
  text = text;
  appended = appended;
  told = s.answers;
  holds = s.holds;
  named = s.named;
  spared = s.spared;
}

-- ---- a command that asks for one thing
lone_step : (network : Network) (c : Command) (body : List ℕ) (v w : State) (text : List ℕ) (b : Question) →
    ((j : Job) (p : ℕ) (a : Question) → Asks j p c body a → a ≡ b) →
    ((j : Job) (p : ℕ) (h : Holding) → j.graph ≡ network.graph → Holds j p h v → AnswersOne j network.labels h b text) →
    ((j : Job) (p : ℕ) (h : Holding) → Holds j p h v → Holds j p (after_asked j h b) w) →
    IfRefused v.part c body (λ line. text ≡ line) → IfRefused v.part c body (λ _. w ≡ v) →
    StepsTo network c body v w text
lone_step network c body v w text b only answers holds named spared = record {
  answers = λ j p h a same k asks. subst (λ (x : Question). AnswersOne j network.labels h x text) (sym (only j p a asks)) (answers j p h same k);
  holds = λ j p h a same k asks. subst (λ (x : Question). Holds j p (after_asked j h x) w) (sym (only j p a asks)) (holds j p h k);
  named = named;
  spared = spared;
}

asks_send : (j : Job) (p q : ℕ) (body : List ℕ) (a : Question) → Asks j p (command.Send q) body a → a ≡ Send q
asks_send j p q body (Send r) is = ap Send (sym is)
asks_send j p q body a is = absurd is

asks_close : (j : Job) (p : ℕ) (body : List ℕ) (a : Question) → Asks j p command.Close body a → a ≡ Closing
asks_close j p body Closing is = refl
asks_close j p body a is = absurd is

asks_keep : (j : Job) (p : ℕ) (body : List ℕ) (a : Question) → Asks j p command.Keep body a → a ≡ Keep
asks_keep j p body Keep is = refl
asks_keep j p body a is = absurd is

asks_totals : (j : Job) (p : ℕ) (body : List ℕ) (a : Question) → Asks j p command.Totals body a → a ≡ Totals
asks_totals j p body Totals is = refl
asks_totals j p body a is = absurd is

pub send_steps : (network : Network) (q : ℕ) (body : List ℕ) (v : State) (text : List ℕ) →
    ((j : Job) (p : ℕ) (h : Holding) → j.graph ≡ network.graph → Holds j p h v → AnswersOne j network.labels h (Send q) text) →
    ((v.part.plan.parts ≤ q) ⊎ (q ≡ v.part.number) → text ≡ refusal_line refusal.NoTarget) → StepsTo network (command.Send q) body v v text
send_steps network q body v text answers named =
    lone_step network (command.Send q) body v v text (Send q) (λ j p a is. asks_send j p q body a is) answers (λ j p h k. k) named (λ none. refl)

pub keep_steps : (network : Network) (body : List ℕ) (v : State) (text : List ℕ) →
    ((j : Job) (p : ℕ) (h : Holding) → j.graph ≡ network.graph → Holds j p h v → AnswersOne j network.labels h Keep text) → StepsTo network command.Keep body v v text
keep_steps network body v text answers =
    lone_step network command.Keep body v v text Keep (λ j p a is. asks_keep j p body a is) answers (λ j p h k. k) tt tt

pub totals_steps : (network : Network) (body : List ℕ) (v : State) (text : List ℕ) →
    ((j : Job) (p : ℕ) (h : Holding) → j.graph ≡ network.graph → Holds j p h v → AnswersOne j network.labels h Totals text) → StepsTo network command.Totals body v v text
totals_steps network body v text answers =
    lone_step network command.Totals body v v text Totals (λ j p a is. asks_totals j p body a is) answers (λ j p h k. k) tt tt

-- ---- replies
took_text : (r : Result Taken TakeError) → said_text (taken_answer r) ≡ took_line r
took_text (Ok t) = refl
took_text (Err e) = refl

closed_text : (r : Result ℕ CloseError) → said_text (closed_answer r) ≡ closed_line r
closed_text (Ok t) = refl
closed_text (Err e) = refl

pub close_steps : (network : Network) (body : List ℕ) (v w : State) (r : Reply) (text : List ℕ) → text ≡ reply_text r →
    ((j : Job) (p : ℕ) (h : Holding) → Holds j p h v → TurnsTo j p (closed_answer (held_close_answer j h)) (held_after j h Close) w r) → StepsTo network command.Close body v w text
close_steps network body v w r text is turned =
    lone_step network command.Close body v w text Closing (λ j p a asks. asks_close j p body a asks)
    (λ j p h same k. is ∙ ap reply_text (turned j p h k).says ∙ closed_text (held_close_answer j h))
    (λ j p h k. (turned j p h k).holds) tt tt

-- ---- what is refused of the job's partition is refused of the replica's
not_for_held : (j : Job) (p : ℕ) (h : Holding) (v : State) (body : List ℕ) (e : TakeError) → Holds j p h v → IsNotFor j.plan p body e → IsNotFor v.part.plan v.part.number body e
not_for_held j p h v body e k d =
    let number : v.part.number ≡ p = number_is j h.partition h.superstep v k.has.holding.stands ∙ k.held.partition in
    subst (λ (n : ℕ). IsNotFor v.part.plan n body e) (sym number) (subst (λ (q : PlanValue). IsNotFor q p body e) (sym (plan_held j p h v k)) d)

no_checkpoint_held : (j : Job) (p : ℕ) (h : Holding) (v : State) (body : List ℕ) (e : KeepError) → Holds j p h v → IsNoCheckpoint (part_of j p) body e → IsNoCheckpoint v.part body e
no_checkpoint_held j p h v body e k bad = subst (λ (q : PartValue). IsNoCheckpoint q body e) (sym (part_held j p h v k)) bad

pub deliver_steps : (network : Network) (n : ℕ) (body : List ℕ) (v w : State) (r : Reply) (text : List ℕ) → text ≡ reply_text r →
    ((j : Job) (p : ℕ) (h : Holding) (name : BatchName) → Holds j p h v → IsDelivered j body name → TurnsTo j p (taken_answer (held_take_answer j h name)) (held_after j h (Take name)) w r) →
    SaysOfBatch v.part.plan body r → ((e : BatchError) → r ≡ reply.NoBatch e → w ≡ v) →
    ((b : BatchValue) → batch_at v.part.plan body ≡ Ok b → r ≡ reply.Answered (taken_answer (take_answer v b))) →
    ((b : BatchValue) → batch_at v.part.plan body ≡ Ok b → is_new (take_answer v b) ≡ false → w ≡ v) →
    StepsTo network (command.Deliver n) body v w text
deliver_steps network n body v w r text is turned said still answered same_new = record {
  answers = λ j p h a same k asks. says j p h a k asks;
  holds = λ j p h a same k asks. holds j p h a k asks;
  named = (named, named_not);
  spared = (spared, spared_not);
}
  where
    none : (e : BatchError) → batch_at v.part.plan body ≡ Err e → r ≡ reply.NoBatch e
    none e bad = no_batch_said v.part.plan body e r said bad

    named : (e : BatchError) → batch_at v.part.plan body ≡ Err e → text ≡ refused_line (batch_word e)
    named e bad = is ∙ ap reply_text (none e bad)

    spared : (e : BatchError) → batch_at v.part.plan body ≡ Err e → w ≡ v
    spared e bad = still e (none e bad)

    named_not : (e : TakeError) → IsNotFor v.part.plan v.part.number body e → text ≡ untaken_line e
    named_not e d =
        is ∙ ap reply_text (answered d.batch d.spelled)
        ∙ ap (λ (t : Result Taken TakeError). said_text (taken_answer t)) (d.refused (content_of v))

    spared_not : (e : TakeError) → IsNotFor v.part.plan v.part.number body e → w ≡ v
    spared_not e d = same_new d.batch d.spelled (ap is_new (d.refused (content_of v)))

    bad_held : (j : Job) (p : ℕ) (h : Holding) (e : BatchError) → Holds j p h v → batch_at j.plan body ≡ Err e → batch_at v.part.plan body ≡ Err e
    bad_held j p h e k bad = ap (λ (q : PlanValue). batch_at q body) (plan_held j p h v k) ∙ bad

    says : (j : Job) (p : ℕ) (h : Holding) (a : Question) → Holds j p h v → Asks j p (command.Deliver n) body a → AnswersOne j network.labels h a text
    says j p h (Deliver name) k asks = is ∙ ap reply_text (turned j p h name k asks).says ∙ took_text (held_take_answer j h name)
    says j p h (NoBatch e) k asks = named e (bad_held j p h e k asks)
    says j p h (NotFor e) k asks = named_not e (not_for_held j p h v body e k asks)
    says j p h a k asks = absurd asks

    holds : (j : Job) (p : ℕ) (h : Holding) (a : Question) → Holds j p h v → Asks j p (command.Deliver n) body a → Holds j p (after_asked j h a) w
    holds j p h (Deliver name) k asks = (turned j p h name k asks).holds
    holds j p h (NoBatch e) k asks = subst (Holds j p h) (sym (spared e (bad_held j p h e k asks))) k
    holds j p h (NotFor e) k asks = subst (Holds j p h) (sym (spared_not e (not_for_held j p h v body e k asks))) k
    holds j p h a k asks = absurd asks

pub restart_steps : (network : Network) (n : ℕ) (body : List ℕ) (v w : State) (r : Reply) (text : List ℕ) → text ≡ reply_text r →
    ((j : Job) (p : ℕ) (h : Holding) → Holds j p h v → body ≡ [] → TurnsTo j p (answer.Restarted (start_holding j.plan p).superstep) (start_holding j.plan p) w r) →
    ((j : Job) (p : ℕ) (h d : Holding) → Holds j p h v → body ≢ [] → IsGivenBack j p body d → TurnsTo j p (answer.Restarted d.superstep) d w r) →
    (body ≢ [] → SaysOfCheckpoint v.part body r) → ((e : KeepError) → r ≡ reply.NoCheckpoint e → w ≡ v) →
    StepsTo network (command.Restart n) body v w text
restart_steps network n body v w r text is anew turned said still = record {
  answers = λ j p h a same k asks. says j p h a k asks;
  holds = λ j p h a same k asks. holds j p h a k asks;
  named = named;
  spared = spared;
}
  where
    none : (e : KeepError) → body ≢ [] → IsNoCheckpoint v.part body e → r ≡ reply.NoCheckpoint e
    none e some bad = no_checkpoint_said v.part body e r (said some) bad

    named : (e : KeepError) → body ≢ [] → IsNoCheckpoint v.part body e → text ≡ refused_line (checkpoint_word e)
    named e some bad = is ∙ ap reply_text (none e some bad)

    spared : (e : KeepError) → body ≢ [] → IsNoCheckpoint v.part body e → w ≡ v
    spared e some bad = still e (none e some bad)

    says : (j : Job) (p : ℕ) (h : Holding) (a : Question) → Holds j p h v → Asks j p (command.Restart n) body a → AnswersOne j network.labels h a text
    says j p h (Restart None) k asks =
        is ∙ ap reply_text (anew j p h k asks).says
        ∙ ap (λ (q : ℕ). number_line (codes "restarted") (start_holding j.plan q).superstep) (sym k.held.partition)
    says j p h (Restart (Some d)) k asks = is ∙ ap reply_text (turned j p h d k asks.0 asks.1).says
    says j p h (NoCheckpoint e) k asks = named e asks.0 (no_checkpoint_held j p h v body e k asks.1)
    says j p h a k asks = absurd asks

    holds : (j : Job) (p : ℕ) (h : Holding) (a : Question) → Holds j p h v → Asks j p (command.Restart n) body a → Holds j p (after_asked j h a) w
    holds j p h (Restart None) k asks = subst (λ (q : ℕ). Holds j p (start_holding j.plan q) w) (sym k.held.partition) (anew j p h k asks).holds
    holds j p h (Restart (Some d)) k asks = (turned j p h d k asks.0 asks.1).holds
    holds j p h (NoCheckpoint e) k asks = subst (Holds j p h) (sym (spared e asks.0 (no_checkpoint_held j p h v body e k asks.1))) k
    holds j p h a k asks = absurd asks

pub recover_steps : (network : Network) (n : ℕ) (body : List ℕ) (v w : State) (r : Reply) (text : List ℕ) → text ≡ reply_text r →
    ((j : Job) (p : ℕ) (h c : Holding) → Holds j p h v → IsGivenBack j p body c → TurnsTo j p (answer.Merged (join_of h c).superstep) (join_of h c) w r) →
    SaysOfCheckpoint v.part body r → ((e : KeepError) → r ≡ reply.NoCheckpoint e → w ≡ v) →
    StepsTo network (command.Recover n) body v w text
recover_steps network n body v w r text is turned said still = record {
  answers = λ j p h a same k asks. says j p h a k asks;
  holds = λ j p h a same k asks. holds j p h a k asks;
  named = named;
  spared = spared;
}
  where
    named : (e : KeepError) → IsNoCheckpoint v.part body e → text ≡ refused_line (checkpoint_word e)
    named e bad = is ∙ ap reply_text (no_checkpoint_said v.part body e r said bad)

    spared : (e : KeepError) → IsNoCheckpoint v.part body e → w ≡ v
    spared e bad = still e (no_checkpoint_said v.part body e r said bad)

    says : (j : Job) (p : ℕ) (h : Holding) (a : Question) → Holds j p h v → Asks j p (command.Recover n) body a → AnswersOne j network.labels h a text
    says j p h (Recover c) k asks = is ∙ ap reply_text (turned j p h c k asks).says
    says j p h (NoCheckpoint e) k asks = named e (no_checkpoint_held j p h v body e k asks)
    says j p h a k asks = absurd asks

    holds : (j : Job) (p : ℕ) (h : Holding) (a : Question) → Holds j p h v → Asks j p (command.Recover n) body a → Holds j p (after_asked j h a) w
    holds j p h (Recover c) k asks = (turned j p h c k asks).holds
    holds j p h (NoCheckpoint e) k asks = subst (Holds j p h) (sym (spared e (no_checkpoint_held j p h v body e k asks))) k
    holds j p h a k asks = absurd asks

-- ---- answers that leave the node as it was

pub chosen : (t u : Bool) (x y : List ℕ) → t ≡ true → u ≡ false → (if t && not u then x else y) ≡ x
chosen true false x y e f = refl
chosen true true x y e f = absurd (cc)
chosen false u x y e f = absurd (cc)

unchosen : (t u : Bool) (x y : List ℕ) → t ≡ false → (if t && u then x else y) ≡ y
unchosen true u x y e = absurd (cc)
unchosen false u x y e = refl

own_chosen : (t u : Bool) (x y : List ℕ) → u ≡ true → (if t && not u then x else y) ≡ y
own_chosen true true x y e = refl
own_chosen true false x y e = absurd (cc)
own_chosen false u x y e = refl

-- what is sent to another partition
pub sends_batch : (j : Job) (p : ℕ) (h : Holding) (v : State) (q : ℕ) (b : BatchValue) → Holds j p h v → q < v.part.plan.parts → q ≢ v.part.number →
    ((t : ℕ) → StandsFor j h.partition t v → b ≡ true_batch j (batch_name t h.partition q)) → sent_text b ≡ send_text j h q
sends_batch j p h v q b k below other told =
    let s = k.has.holding.stands in
    let plan : v.part.plan ≡ j.plan = plan_is j h.partition h.superstep v s in
    let number : v.part.number ≡ h.partition = number_is j h.partition h.superstep v s in
    let few : nat_lt q j.plan.parts ≡ true = lt-ltb q j.plan.parts (subst (λ (x : PlanValue). q < x.parts) plan below) in
    let apart : (q == h.partition) ≡ false = ne_eqb q h.partition (λ e. other (e ∙ sym number)) in
    ap sent_text (told h.superstep s) ∙ sym (chosen (nat_lt q j.plan.parts) (q == h.partition) (sent_text (true_batch j (batch_name h.superstep h.partition q))) (refusal_line refusal.NoTarget) few apart)

-- what is said where there is no such partition
pub sends_nothing : (j : Job) (p : ℕ) (h : Holding) (v : State) (q : ℕ) → Holds j p h v → (v.part.plan.parts ≤ q) ⊎ (q ≡ v.part.number) → refusal_line refusal.NoTarget ≡ send_text j h q
sends_nothing j p h v q k (inl le) =
    let plan : v.part.plan ≡ j.plan = plan_is j h.partition h.superstep v k.has.holding.stands in
    let many : nat_lt q j.plan.parts ≡ false = le-ltb q j.plan.parts (subst (λ (x : PlanValue). x.parts ≤ q) plan le) in
    sym (unchosen (nat_lt q j.plan.parts) (not (q == h.partition)) _ (refusal_line refusal.NoTarget) many)
sends_nothing j p h v q k (inr own) =
    let number : v.part.number ≡ h.partition = number_is j h.partition h.superstep v k.has.holding.stands in
    let same : (q == h.partition) ≡ true = eq-eqb q h.partition (own ∙ number) in
    sym (own_chosen (nat_lt q j.plan.parts) (q == h.partition) _ (refusal_line refusal.NoTarget) same)

-- a checkpoint
pub keeps : (j : Job) (p : ℕ) (h : Holding) (v : State) (labels : List (List ℕ)) (t n : ℕ) → Holds j p h v → t ≡ v.superstep → n ≡ length (checkpoint_bytes v) →
    AnswersOne j labels h Keep (words_line (codes "kept" ∷ decimal t ∷ decimal n ∷ []) ++ checkpoint_bytes v)
keeps j p h v labels t n k at long = record {
  bytes = checkpoint_bytes v;
  kept = record { replica = v; has = k.has; bytes_are = refl };
  text_is =
      ap (λ (x : ℕ). words_line (codes "kept" ∷ decimal x ∷ decimal n ∷ []) ++ checkpoint_bytes v) (at ∙ k.has.holding.stands.superstep)
      ∙ ap (λ (x : ℕ). words_line (codes "kept" ∷ decimal h.superstep ∷ decimal x ∷ []) ++ checkpoint_bytes v) long;
}

-- the node as it is named alone
shown_alone : (j : Job) (p : ℕ) (h : Holding) (v : State) (n : ℕ) → Holds j p h v → n ≡ v.part.number → show_text j (the_lone_node n) h ≡ show_text j (the_lone_node h.partition) h
shown_alone j p h v n k is = ap (λ (x : ℕ). show_text j (the_lone_node x) h) (is ∙ number_is j h.partition h.superstep v k.has.holding.stands)

pub show_told : (network : Network) (body : List ℕ) (v : State) (n : ℕ) (old new : Option (List ℕ)) → n ≡ v.part.number →
    AppendsOf v (λ j h. show_text j (the_lone_node n) h) old new → Steps network command.Show body v v old new
show_told network body v n old new is shown = record {
  text = shown.text;
  appended = shown.appended;
  told = λ j p h a same k asks. told j p h a k asks;
  holds = λ j p h a same k asks. holds j p h a k asks;
  named = tt;
  spared = tt;
}
  where
    told : (j : Job) (p : ℕ) (h : Holding) (a : Question) → Holds j p h v → Asks j p command.Show body a → AnswersOne j network.labels h a shown.text
    told j p h Show k asks = shown.told j h k.has.holding ∙ shown_alone j p h v n k is
    told j p h a k asks = absurd asks

    holds : (j : Job) (p : ℕ) (h : Holding) (a : Question) → Holds j p h v → Asks j p command.Show body a → Holds j p (after_asked j h a) v
    holds j p h Show k asks = k
    holds j p h a k asks = absurd asks

-- the figures of its vertices
pub figures_told : (network : Network) (body : List ℕ) (v : State) (old new : Option (List ℕ)) →
    AppendsOf v (λ j h. figures_text j network.labels h) old new → Steps network command.Figures body v v old new
figures_told network body v old new shown = record {
  text = shown.text;
  appended = shown.appended;
  told = λ j p h a same k asks. told j p h a k asks;
  holds = λ j p h a same k asks. holds j p h a k asks;
  named = tt;
  spared = tt;
}
  where
    told : (j : Job) (p : ℕ) (h : Holding) (a : Question) → Holds j p h v → Asks j p command.Figures body a → AnswersOne j network.labels h a shown.text
    told j p h Figures k asks = shown.told j h k.has.holding
    told j p h a k asks = absurd asks

    holds : (j : Job) (p : ℕ) (h : Holding) (a : Question) → Holds j p h v → Asks j p command.Figures body a → Holds j p (after_asked j h a) v
    holds j p h Figures k asks = k
    holds j p h a k asks = absurd asks

-- what a node answers of its figures: what came of telling them to a replica w, which is v
pub show_answered : (network : Network) (body : List ℕ) (v w : State) (n : ℕ) (old new : Option (List ℕ)) (r : Result (Unit {0}) TellError) → w ≡ v → n ≡ w.part.number →
    OnOk r (AppendsOf w (λ j h. show_text j (the_lone_node n) h) old new) → OnOk r (Steps network command.Show body v v old new)
show_answered network body v w n old new (Ok u) same is shown = subst (λ (s : State). Steps network command.Show body s s old new) same (show_told network body w n old new is shown)
show_answered network body v w n old new (Err e) same is shown = tt

pub figures_answered : (network : Network) (body : List ℕ) (v w : State) (old new : Option (List ℕ)) (r : Result (Unit {0}) TellError) → w ≡ v →
    OnOk r (AppendsOf w (λ j h. figures_text j network.labels h) old new) → OnOk r (Steps network command.Figures body v v old new)
figures_answered network body v w old new (Ok u) same shown = subst (λ (s : State). Steps network command.Figures body s s old new) same (figures_told network body w old new shown)
figures_answered network body v w old new (Err e) same shown = tt

-- its totals
pub totals_are : (j : Job) (h : Holding) (sums : List ℕ) → sums ≡ sums_of j h.partition h.superstep → superstep_lines sums ≡ totals_text j h
unfolding totals_text sums_of
totals_are j h sums is =
    let f : ℕ → ℕ = λ i. total_over (mixing_of j.plan) j.graph (own_vertices j h.partition) i in
    let n : ℕ = h.superstep + 1 in
    let long : length sums ≡ n = ap length is ∙ length-map-range_with_len f 0 n in
    rw long (lines_same (λ i. superstep_line i (slice_index sums i)) (λ i. superstep_line i (f i)) 0 n n (omega arith)
    (λ i lt. ap (superstep_line i) (ap (λ (l : List ℕ). slice_index l i) is ∙ get_or-map-range_with_len f 0 n i i 0 lt (omega arith))))

pub totals_told : (network : Network) (body : List ℕ) (v : State) (sums : List ℕ) (old new : Option (List ℕ)) →
    ((j : Job) (p t : ℕ) → StandsFor j p t v → sums ≡ sums_of j p t) → Appends old new (superstep_lines sums) → Steps network command.Totals body v v old new
totals_told network body v sums old new stands appended =
    steps_told network command.Totals body v v (superstep_lines sums) old new appended
    (totals_steps network body v (superstep_lines sums) (λ j p h same k. totals_are j h sums (stands j h.partition h.superstep k.has.holding.stands)))

pub totals_answered : {W : Type 0} (contents : W → Option (List ℕ)) (failed : W → ℕ) (network : Network) (body : List ℕ) (v : State) (sums text : List ℕ) (old new : W) (r : Result (Unit {0}) TellError) →
    ((j : Job) (p t : ℕ) → StandsFor j p t v → sums ≡ sums_of j p t) → text ≡ superstep_lines sums → Tells contents failed old new text r → OnOk r (Steps network command.Totals body v v (contents old) (contents new))
totals_answered contents failed network body v sums text old new (Ok u) stands is told =
    totals_told network body v sums (contents old) (contents new) stands (subst (Appends (contents old) (contents new)) is told.appended)
totals_answered contents failed network body v sums text old new (Err e) stands is told = tt

-- what is kept
pub keep_told : (network : Network) (body : List ℕ) (v : State) (t n : ℕ) (line : List ℕ) (a b c : Option (List ℕ)) → t ≡ v.superstep → n ≡ length (checkpoint_bytes v) →
    line ≡ words_line (codes "kept" ∷ decimal t ∷ decimal n ∷ []) → Appends a b line → Appends b c (checkpoint_bytes v) → Steps network command.Keep body v v a c
keep_told network body v t n line a b c at long is one two =
    let text : List ℕ = words_line (codes "kept" ∷ decimal t ∷ decimal n ∷ []) ++ checkpoint_bytes v in
    steps_told network command.Keep body v v text a c
    (Appends-trans a b c (words_line (codes "kept" ∷ decimal t ∷ decimal n ∷ [])) (checkpoint_bytes v) (subst (Appends a b) is one) two)
    (keep_steps network body v text (λ j p h same k. keeps j p h v network.labels t n k at long))

some_target : (part : PartValue) (q : ℕ) → q < part.plan.parts → q ≢ part.number → (part.plan.parts ≤ q) ⊎ (q ≡ part.number) → ⊥
some_target part q below other (inl beyond) = absurd (omega (arith, below, beyond))
some_target part q below other (inr own) = absurd (other own)

-- what is sent
pub send_told : (network : Network) (body : List ℕ) (v : State) (q : ℕ) (b : BatchValue) (old new : Option (List ℕ)) → q < v.part.plan.parts → q ≢ v.part.number →
    ((j : Job) (p t : ℕ) → StandsFor j p t v → b ≡ true_batch j (batch_name t p q)) → Appends old new (sent_text b) → Steps network (command.Send q) body v v old new
send_told network body v q b old new below other stands appended =
    steps_told network (command.Send q) body v v (sent_text b) old new appended
    (send_steps network q body v (sent_text b) (λ j p h same k. sends_batch j p h v q b k below other (λ t s. stands j h.partition t s))
    (λ none. absurd (some_target v.part q below other none)))

pub send_refused : (network : Network) (body : List ℕ) (v : State) (q : ℕ) (old new : Option (List ℕ)) → (v.part.plan.parts ≤ q) ⊎ (q ≡ v.part.number) → Appends old new (refusal_line refusal.NoTarget) → Steps network (command.Send q) body v v old new
send_refused network body v q old new none appended =
    steps_told network (command.Send q) body v v (refusal_line refusal.NoTarget) old new appended
    (send_steps network q body v (refusal_line refusal.NoTarget) (λ j p h same k. sends_nothing j p h v q k none) (λ other. refl))
