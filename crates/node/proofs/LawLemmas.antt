-- What nodes say is what they may be told.
use Rattle.std.proofs.Common.{◌≡◌, ◌≢◌, ◌∙◌, ℕ, ◌+◌, ◌-◌, ◌*◌, ◌^◌, ◌<◌, ◌≤◌, ◌==◌, nat_lt, List, [], length, refl, ap, sym, subst, arith, inl}
use Rattle.std.specs.List.{All, flat_map}
use Rattle.std.specs.Int.{w64, to_be_bytes}
use Rattle.std.proofs.lemmas.Bool.{lt-ltb, ne_eqb}
use Rattle.std.proofs.lemmas.List.{length-append}
use Rattle.std.proofs.lemmas.List.Concat.{length-flat_map}
use Rattle.std.proofs.lemmas.List.Elements.{All-weaker}
use Rattle.std.proofs.lemmas.List.Sums.{sum_by-le}
use Rattle.std.proofs.lemmas.Nat.{mul-le}
use Rattle.ball_model.specs.declared.names.BatchName.{BatchName}
use Rattle.ball_model.specs.declared.world.WorldError.TheVariants as refusal
use Rattle.ball_model.specs.Batches.{BatchValue, IsBatch, batch_bytes, true_batch}
use Rattle.ball_model.specs.Checkpoint.{checkpoint_bytes, early_bytes, kept_batches}
use Rattle.ball_model.specs.Held.{IsHeldBy, IsName}
use Rattle.ball_model.specs.Job.{Job, PartValue, part_of}
use Rattle.ball_model.specs.Join.{Holding}
use Rattle.ball_model.specs.PlanValue.{PlanValue, part_size}
use Rattle.ball_model.specs.State.{State}
use Rattle.ball_model.specs.WorldText.{refusal_line}
use Rattle.batches.proofs.TrueLemmas.{true_is_batch}
use Rattle.batches.proofs.WholeLemmas.{batch_length}
use Rattle.checkpoint.specs.Reading.{greatest_batch, most_checkpoint_bytes}
use Rattle.checkpoint.specs.Told.{IsOfPlan}
use Rattle.checkpoint.proofs.FormLemmas.{early_fewer, first_greatest}
use Rattle.checkpoint.proofs.LawLemmas.{early_are}
use Rattle.checkpoint.proofs.LengthLemmas.{whole_long}
use Rattle.replica.specs.Seen.{IsState}
use Rattle.replica.specs.Sent.{batch_name}
use Rattle.replica.proofs.LevelLemmas.Level.{part_plan}
use Rattle.node.specs.Laws.{KeptIsTaken, SentIsTrue}
use Rattle.node.specs.NodeText.{IsGivenBack, sent_text}
use Rattle.node.proofs.StepLemmas.{chosen}

-- ---- how long a batch is
batch_within : (b : BatchValue) → IsBatch b → length (batch_bytes b) ≤ greatest_batch b.plan
batch_within b ok =
    let w : ℕ = 4 + 2 ^ b.plan.log2m in
    let most : ℕ = part_size b.plan.vertices b.plan.parts 0 in
    let long : length (batch_bytes b) ≡ 54 + length b.rows * w = batch_length b ok in
    let rows : length b.rows ≤ most = omega (arith, ok.count, ok.changed, first_greatest b.plan.vertices b.plan.parts b.name.source ok.source) in
    let more : length b.rows * w ≤ most * w = mul-le (length b.rows) w most w rows (omega arith) in
    omega (arith, long, more)

-- ---- what is sent
true_plan : (j : Job) (name : BatchName) → (true_batch j name).plan ≡ j.plan
unfolding true_batch
true_plan j name = refl

sent_name : (j : Job) (p q : ℕ) (h : Holding) → IsHeldBy j p h → q < j.plan.parts → q ≢ p → IsName j.plan (batch_name h.superstep h.partition q)
sent_name j p q h held below other = record {
  superstep = subst (λ (plan : PlanValue). h.superstep ≤ plan.limit) held.plan held.holding.content.superstep;
  source = subst (λ (n : ℕ). n < j.plan.parts) (sym held.partition) held.below;
  target = below;
  other = λ same. other (sym same ∙ held.partition);
}

pub sent_true : SentIsTrue
sent_true j p q h job held below other =
    let name : BatchName = batch_name h.superstep h.partition q in
    let b : BatchValue = true_batch j name in
    let named : IsName j.plan name = sent_name j p q h held below other in
    let ok : IsBatch b = true_is_batch j name job named.superstep named.source named.target in
    let few : length (batch_bytes b) ≤ greatest_batch (part_of j q).plan =
    subst (λ (plan : PlanValue). length (batch_bytes b) ≤ greatest_batch plan) (true_plan j name ∙ sym (part_plan j q)) (batch_within b ok) in
    record {
      body = batch_bytes b;
      sent =
          chosen (nat_lt q j.plan.parts) (q == h.partition) (sent_text b) (refusal_line refusal.NoTarget)
          (lt-ltb q j.plan.parts below) (ne_eqb q h.partition (λ own. other (own ∙ held.partition)));
      delivered = record { named = named; spelled = refl };
      within = λ n. few;
    }

-- ---- how long a checkpoint is
early_within : (plan : PlanValue) (b : BatchValue) → IsOfPlan plan b → length (early_bytes b) ≤ 8 + greatest_batch plan
early_within plan b is =
    let few : length (batch_bytes b) ≤ greatest_batch plan = subst (λ (q : PlanValue). length (batch_bytes b) ≤ greatest_batch q) is.plan_is (batch_within b is.batch) in
    let eight : length (to_be_bytes w64 (length (batch_bytes b))) ≡ 8 = refl in
    let long = length-append (to_be_bytes w64 (length (batch_bytes b))) (batch_bytes b) in
    omega (arith, few, eight, long)

all_within : (plan : PlanValue) (m : ℕ) → ((b : BatchValue) → IsOfPlan plan b → length (early_bytes b) ≤ m) → (batches : List BatchValue) → All (IsOfPlan plan) batches →
    length (flat_map early_bytes batches) ≤ length batches * m
all_within plan m each batches all =
    let sum = length-flat_map early_bytes batches in
    let few = sum_by-le (λ b. length (early_bytes b)) m batches (All-weaker (IsOfPlan plan) (λ b. length (early_bytes b) ≤ m) each batches all) in
    omega (arith, sum, few)

sum_within : (whole a b sums e m t limit : ℕ) → whole ≡ 54 + a + 16 * sums + 9 + b + 2 + e + 32 → sums ≡ t + 1 → t ≤ limit → e ≤ m →
    whole ≤ 54 + (a + 16 * (limit + 1) + 9 + b + (2 + m)) + 32
sum_within whole a b sums e m t limit is count time few = omega (arith, is, count, time, few)

kept_within : (v : State) → IsState v → length (checkpoint_bytes v) ≤ most_checkpoint_bytes v.part v.part.plan.limit
kept_within v s =
    let plan : PlanValue = v.part.plan in
    let m : ℕ = 8 + greatest_batch plan in
    let n : ℕ = length (kept_batches v.early) in
    let e : ℕ = length (flat_map early_bytes (kept_batches v.early)) in
    let count : n ≤ 3 * (plan.parts - 1) = early_fewer plan v.part.number v.superstep v.early s.early s.part.number in
    let all : e ≤ n * m = all_within plan m (early_within plan) (kept_batches v.early) (early_are v s) in
    let most : n * m ≤ 3 * (plan.parts - 1) * m = mul-le n m (3 * (plan.parts - 1)) m count (omega arith) in
    let few : e ≤ 3 * (plan.parts - 1) * m = omega (arith, all, most) in
    sum_within (length (checkpoint_bytes v)) (length v.part.preds * (33 + 2 ^ plan.log2m)) (length v.part.preds * 2 ^ plan.log2m) (length v.sums) e (3 * (plan.parts - 1) * m) v.superstep plan.limit
    (whole_long v s) s.sums.count s.superstep few

kept_some : (v : State) → IsState v → checkpoint_bytes v ≡ [] → ⊥
kept_some v s none =
    let empty : length (checkpoint_bytes v) ≡ 0 = ap length none in
    absurd (omega (arith, whole_long v s, empty))

-- ---- what is kept
pub kept_taken : KeptIsTaken
kept_taken j p h bytes held kept =
    let v : State = kept.replica in
    let part : v.part ≡ part_of j p = kept.has.holding.stands.part ∙ ap (part_of j) held.partition in
    let few : length bytes ≤ most_checkpoint_bytes (part_of j p) (part_of j p).plan.limit =
    subst (λ (q : PartValue). length bytes ≤ most_checkpoint_bytes q q.plan.limit) part
    (subst (λ (l : List ℕ). length l ≤ most_checkpoint_bytes v.part v.part.plan.limit) (sym kept.bytes_are) (kept_within v kept.has.state)) in
    let back : IsGivenBack j p bytes h = record { held = held; replica = v; has = kept.has; spells = inl kept.bytes_are } in
    record {
      start = (λ none. kept_some v kept.has.state (sym kept.bytes_are ∙ none), back);
      back = back;
      restart = λ n. few;
      recover = λ n. few;
    }
