-- Replicas with one content are equal.
use Rattle.std.proofs.Common.{◌≡◌, ℕ, ◌+◌, ◌-◌, ◌<◌, ◌≤◌, true, false, List, [], get_or, ap, arith, sym, ◌∙◌, is_some, IfSome}
use Rattle.replica.proofs.Names.{Option, None, le-leb, same_lists, get_or_default, PlanValue, Job, BatchValue, Content, IsContent, in_window, State, content_of, early_at, holds_in}
use Rattle.ball_model.specs.Steps.{Call, CallAnswer, content_after_all}
use Rattle.replica.specs.Seen.{IsState}
use Rattle.replica.specs.Runs.{HasContent, DidAll}
use Rattle.replica.proofs.ChangeLemmas.Advance.{holds_now, holds_later}
use Rattle.replica.proofs.AheadLemmas.{no_level}
use Rattle.replica.proofs.LevelLemmas.Level.{plan_is}
use Rattle.replica.proofs.RunsLemmas.Run.{made}

-- what is kept is of one of the three supersteps that follow, and of another partition
record IsKeptAt (v : State) (i q : ℕ) : Type 0 where
  level : i < 3
  within : v.superstep + 1 + i ≤ v.part.plan.limit
  source : q < v.part.plan.parts
  other : q ≡ v.part.number → ⊥

kept_is : (v : State) (i q : ℕ) → IsState v → is_some (early_at v.early i q) ≡ true → IsKeptAt v i q
kept_is v i q s there = grind (arith, no_level)

-- what may be held: heard of another partition, or kept of a superstep that follows
content_in_window : (v : State) → IsState v → (s q : ℕ) → (content_of v).holds s q ≡ true → in_window v.part.plan v.part.number v.superstep s q ≡ true
content_in_window v st s q held = grind (arith, kept_is, le-leb)

-- THE CONTENT: a replica holds only what it may hold
pub content_is_one : (v : State) → IsState v → IsContent v.part.plan v.part.number (content_of v)
content_is_one v s = record { superstep = s.superstep; names = λ r q. content_in_window v s r q }

-- two places with the same true batch, or nothing
same_kept : (b : BatchValue) (o k : Option BatchValue) → IfSome o (λ a. a ≡ b) → IfSome k (λ a. a ≡ b) → is_some o ≡ is_some k → o ≡ k
same_kept b o k f g e = grind arith

-- names held, as the superstep says
held_as_said : (j : Job) (p : ℕ) (c : Content) (v : State) → HasContent j p c v → (s q : ℕ) → holds_in c.superstep v.heard v.early s q ≡ c.holds s q
held_as_said j p c v h s q = ap (λ t. holds_in t v.heard v.early s q) (sym h.stands.superstep) ∙ h.names s q

-- the sources that are heard
heard_same : (j : Job) (p : ℕ) (c : Content) (v w : State) → HasContent j p c v → HasContent j p c w → IsState v → IsState w → v.heard ≡ w.heard
heard_same j p c v w h k s r =
    let t = c.superstep in
    same_lists v.heard w.heard (s.heard.count ∙ sym r.heard.count)
    (λ q d lt. get_or_default v.heard q d false lt
    ∙ sym (holds_now t v.heard v.early q) ∙ held_as_said j p c v h t q ∙ sym (held_as_said j p c w k t q) ∙ holds_now t w.heard w.early q
    ∙ sym (get_or_default w.heard q d false (omega (arith, s.heard.count, r.heard.count))))

-- one place of both
place_same : (j : Job) (p : ℕ) (c : Content) (i q : ℕ) (v w : State) → HasContent j p c v → HasContent j p c w → early_at v.early i q ≡ early_at w.early i q
place_same j p c i q v w h k =
    let t = c.superstep in
    let gap : i ≡ t + 1 + i - (t + 1) = omega arith in
    grind (arith, same_kept, holds_later, held_as_said)

-- the batches that are kept
early_same : (j : Job) (p : ℕ) (c : Content) (v w : State) → HasContent j p c v → HasContent j p c w → IsState v → IsState w → v.early ≡ w.early
early_same j p c v w h k s r =
    let parts : v.part.plan.parts ≡ w.part.plan.parts = ap (λ (a : PlanValue). a.parts) (plan_is j p c.superstep v h.stands ∙ sym (plan_is j p c.superstep w k.stands)) in
    let a = s.early.table in
    let b = r.early.table in
    same_lists v.early w.early (a.levels ∙ sym b.levels)
    (λ i d lt. let inside : i < 3 = omega (arith, a.levels) in
    let x = get_or v.early i [] in
    let y = get_or w.early i [] in
    get_or_default v.early i d [] lt
    ∙ same_lists x y (a.sources i inside ∙ parts ∙ sym (b.sources i inside))
    (λ q e below. get_or_default x q e None below ∙ place_same j p c i q v w h k ∙ sym (get_or_default y q e None (omega (arith, a.sources i inside, b.sources i inside, parts))))
    ∙ sym (get_or_default w.early i d [] (omega (arith, a.levels, b.levels))))

pub same_state : (v w : State) → v.part ≡ w.part → v.superstep ≡ w.superstep → v.rows ≡ w.rows → v.marks ≡ w.marks → v.tallies ≡ w.tallies → v.sums ≡ w.sums → v.heard ≡ w.heard → v.heard_change ≡ w.heard_change → v.accumulated ≡ w.accumulated → v.early ≡ w.early → v ≡ w
same_state v w part superstep rows marks tallies sums heard change accumulated early = grind arith

-- THE SAME: replicas that stand for one partition and superstep and hold the same names are equal
pub same_replica : (j : Job) (p : ℕ) (c : Content) (v w : State) → HasContent j p c v → HasContent j p c w → IsState v → IsState w → v ≡ w
same_replica j p c v w h k s r = grind (arith, heard_same, early_same)

-- and the same calls on both have the same answers
pub same_calls : (j : Job) (p : ℕ) (c : Content) (calls : List Call) (left right : List CallAnswer) (v v2 w w2 : State) → HasContent j p c v → HasContent j p c w → DidAll j p v calls left v2 → DidAll j p w calls right w2 →
    (left ≡ right) × ((e : Content) × HasContent j p e v2 × HasContent j p e w2)
same_calls j p c calls left right v v2 w w2 h k m n =
    let a = made j p calls left c v v2 h m in
    let b = made j p calls right c w w2 k n in
    (a.0 ∙ sym b.0, (content_after_all j p c calls, a.1, b.1))

-- both lemmas
pub ruleset content_decides = (same_replica, same_calls)
