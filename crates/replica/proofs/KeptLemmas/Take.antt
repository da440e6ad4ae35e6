-- A replica that receives a batch which it did not hold.
use Rattle.std.proofs.Common.{◌≡◌, ℕ, ◌+◌, ◌-◌, ◌<◌, ◌≤◌, ◌==◌, true, false, ◌&&◌, ◌||◌, List, length, get_or, ap, arith, sym, if◌then◌else◌, is_some}
use Rattle.replica.proofs.Names.{Option, Some, Ok, PlanValue, Job, BatchValue, IsBatch, true_batch, Content, take_of, after_take, same_plan, State, SameShown, StandsFor, content_of, early_at, BatchName}
use Rattle.std.proofs.lemmas.Slice.Eq.{bytes_eq-Decides}
use Rattle.ball_model.specs.declared.names.Taken.TheVariants as taken
use Rattle.replica.specs.Ahead.{IsTable}
use Rattle.replica.specs.Hearing.{Hears, batch_by}
use Rattle.replica.specs.Index.{targets_of}
use Rattle.replica.specs.Kept.{AreEarly, AreSources}
use Rattle.replica.specs.Seen.{IsState}

-- what a New says
pub record IsNew (plan : PlanValue) (p : ℕ) (c : Content) (other : PlanValue) (name : BatchName) : Type 0 where
  pub job : same_plan plan other ≡ true
  pub target : name.target ≡ p
  pub source : (name.source == p) ≡ false
  pub low : c.superstep ≤ name.superstep
  pub high : name.superstep < c.superstep + 4
  pub unknown : c.holds name.superstep name.source ≡ false

pub take_of-new : (plan : PlanValue) (p : ℕ) (c : Content) (other : PlanValue) (name : BatchName) → take_of plan p c other name ≡ Ok taken.New → IsNew plan p c other name
take_of-new plan p c other name h = grind arith

-- ---- plans

-- plans that are the same in every field are one
pub same_plan_one : (a b : PlanValue) → same_plan a b ≡ true → a ≡ b
same_plan_one a b e = grind (arith, bytes_eq-Decides)

-- what is known of a batch that is new
pub record IsFresh (v : State) (b : BatchValue) : Type 0 where
  pub batch : IsBatch b
  pub plan_is : b.plan ≡ v.part.plan
  pub target : b.name.target ≡ v.part.number
  pub other : (b.name.source == v.part.number) ≡ false
  pub below : b.name.source < v.part.plan.parts
  pub low : v.superstep ≤ b.name.superstep
  pub high : b.name.superstep < v.superstep + 4

pub fresh : (v : State) (b : BatchValue) → IsBatch b → take_of v.part.plan v.part.number (content_of v) b.plan b.name ≡ Ok taken.New → IsFresh v b
fresh v b ok new =
    let n = take_of-new v.part.plan v.part.number (content_of v) b.plan b.name new in
    let plan : b.plan ≡ v.part.plan = sym (same_plan_one v.part.plan b.plan n.job) in
    record { batch = ok; plan_is = plan; target = n.target; other = n.source; below = omega (arith, ok.source, ap (λ (a : PlanValue). a.parts) plan); low = n.low; high = n.high }

-- a batch of the superstep is heard
pub names_heard : (v w : State) (b : BatchValue) → b.name.superstep ≡ v.superstep → w.superstep ≡ v.superstep → w.early ≡ v.early →
    ((q : ℕ) → get_or w.heard q false ≡ (get_or v.heard q false || is_some (batch_by b.name.source (Some b) q))) →
    (s q : ℕ) → (content_of w).holds s q ≡ after_take true (content_of v).holds b.name.superstep b.name.source s q
names_heard v w b now at early heard s q = grind arith

-- a later one is kept
pub names_kept : (v w : State) (b : BatchValue) (level : ℕ) → v.superstep < b.name.superstep → level ≡ b.name.superstep - v.superstep - 1 → w.superstep ≡ v.superstep → w.heard ≡ v.heard →
    ((i k : ℕ) → early_at w.early i k ≡ (if (i == level) && (k == b.name.source) then Some b else early_at v.early i k)) →
    (s q : ℕ) → (content_of w).holds s q ≡ after_take true (content_of v).holds b.name.superstep b.name.source s q
names_kept v w b level later is at heard kept s q = grind arith

-- what is heard or kept is true where the batch is
pub stands_heard : (v w : State) (b : BatchValue) (log2m : ℕ) → SameShown w v → b.name.superstep ≡ v.superstep → b.name.target ≡ v.part.number → w.early ≡ v.early →
    Hears log2m (targets_of v.part) (batch_by b.name.source (Some b)) (record { heard = v.heard; change = v.heard_change; accumulated = v.accumulated }) (record { heard = w.heard; change = w.heard_change; accumulated = w.accumulated }) →
    (j : Job) (p t : ℕ) → v.part.number ≡ p → StandsFor j p t v → b ≡ true_batch j b.name → StandsFor j p t w
stands_heard v w b log2m shown now mine early hears j p t number h is = grind arith

-- the limits
pub sources_heard : (v w : State) (b : BatchValue) → IsFresh v b → IsState v → length w.heard ≡ length v.heard → ((q : ℕ) → get_or w.heard q false ≡ (get_or v.heard q false || is_some (batch_by b.name.source (Some b) q))) →
    AreSources v.part.plan.parts v.part.number w.heard
sources_heard v w b f s count heard = grind arith

pub early_kept : (v : State) (after : List (List (Option BatchValue))) (b : BatchValue) (level : ℕ) → IsFresh v b → v.superstep < b.name.superstep → level ≡ b.name.superstep - v.superstep - 1 → AreEarly v.part.plan v.part.number v.superstep v.early →
    IsTable v.part.plan.parts after → ((i k : ℕ) → early_at after i k ≡ (if (i == level) && (k == b.name.source) then Some b else early_at v.early i k)) → AreEarly v.part.plan v.part.number v.superstep after
early_kept v after b level f later is e table kept = grind arith
