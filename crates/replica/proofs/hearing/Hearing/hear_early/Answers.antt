use Rattle.std.proofs.Common.{◌≡◌, ℕ, ◌+◌, ◌≤◌, List, option_map, refl, ap, sym, ◌∙◌, arith, inl, inr, subst}
use Rattle.replica.proofs.Names.{Option, None, Some, cases_lt, le-ltb, lt-ltb, BatchValue, PlanValue, early_at}
use Rattle.replica.specs.Hearing.{HearingValue, HearsAlso, HearsByIndex, batch_by}
use Rattle.replica.specs.Kept.{IsFrom}
use Rattle.replica.proofs.HearingLemmas.Hear.{batches_below}
use Rattle.replica.proofs.HearingLemmas.Hearing.{also_next, also_same, can_hear_later, silent}
use Rattle.replica.proofs.AheadLemmas.{no_source, shifted_told}
use Rattle.replica.proofs.hearing.Hearing.hear_early.Goals as goal
use Rattle.replica.proofs.hearing.Hearing.hear_early.Goals.{in-Some, in-None}

-- what the sources below a number tell is all that is told, where no other one tells anything
all_told : (m : ℕ) (targets : List (List ℕ)) (told : ℕ → Option BatchValue) (n : ℕ) (a b : HearingValue) → ((q : ℕ) → n ≤ q → told q ≡ None) → HearsAlso m targets (batches_below told n) a b → HearsAlso m targets told a b
all_told m targets told n a b none h =
    also_same m targets (batches_below told n) told a b (λ q. elim (cases_lt q n) [
      | inl lt ↦ rw (lt-ltb q n lt) refl
      | inr le ↦ rw (le-ltb q n le) (sym (none q le))
    ]) h

pub loop-source-preserved : goal.loop-source-preserved
loop-source-preserved c =
    let m = c.args.plan.now.log2m in
    let targets = c.args.targets.now in
    let told : ℕ → Option BatchValue = λ q. early_at c.shift.new.self 0 q in
    let n = c.loop-source.source in
    let before = c.loop-source.self in
    let can = can_hear_later c.args.plan.now targets c.min.result c.args.early.now c.shift.new.self c.args.self.now c.requires c.shift.ensures in
    let ready : HearsByIndex m targets before = grind (arith, can.ready, c.loop-source.invariant.hears) in
    let also : HearsAlso m targets (batch_by n (told n)) before c.match-get.self =
    elim c.match-get.branch [
      | in-Some w ↦
          let b = w.in-Some.batch.now in
          let is : told n ≡ Some b = sym c.get.ensures ∙ ap (option_map (λ b. b.now)) w.in-Some.is in
          let from : IsFrom c.args.plan.now n b = rw is at (can.kept.from 0 n) in
          rw (is, w.self-is)
          (subst (λ k. HearsAlso m targets (batch_by k (Some b)) before w.hear.new.self) from.source_is
          (subst (λ (a : PlanValue). HearsAlso a.log2m targets (batch_by b.name.source (Some b)) before w.hear.new.self) from.plan_is w.hear.ensures))
      | in-None w ↦
          let is : told n ≡ None = sym c.get.ensures ∙ ap (option_map (λ b. b.now)) w.in-None.is in
          rw (is, w.self-is) (silent m targets (batch_by n None) before ready (λ q. grind arith))
    ] in
    record { hears = also_next m targets told n c.args.self.now before c.match-get.self can.ready c.loop-source.invariant.hears also }

pub returns : goal.returns
returns c =
    let plan = c.args.plan.now in
    let targets = c.args.targets.now in
    let early = c.args.early.now in
    let near = c.shift.new.self in
    let passed = c.args.passed in
    let told : (i q : ℕ) → early_at near i q ≡ early_at early (i + passed) q = shifted_told plan.parts early near passed c.min.result c.requires.kept.table c.min.ensures c.shift.ensures.kept in
    let zero_on : 0 + passed ≡ passed = omega arith in
    let all : plan.parts ≤ c.loop-source.source = omega (arith, c.loop-source-test.false, c.parts-source-end.ensures.value) in
    let heard = all_told plan.log2m targets (λ q. early_at near 0 q) c.loop-source.source c.args.self.now c.loop-source.self
    (λ q le. no_source plan.parts near 0 q (c.shift.ensures.table plan.parts c.requires.kept.table) (omega (arith, all, le))) c.loop-source.invariant.hears in
    record {
      also = also_same plan.log2m targets (λ q. early_at near 0 q) (λ q. early_at early passed q) c.args.self.now c.loop-source.self (λ q. rw (← zero_on) (told 0 q)) heard;
      kept = λ i q. c.shift-2.ensures.kept i q ∙ told (i + 1) q;
      table = λ parts is. c.shift-2.ensures.table parts (c.shift.ensures.table parts is);
    }
