-- What is told, from one vertex that changed to the next.
use Rattle.std.proofs.Common.{◌≡◌, ℕ, ◌+◌, ◌<◌, List, length, get_or, subst, ap, ◌∙◌}
use Rattle.replica.proofs.Names.{get_or_default, BatchValue, IsNextMarked}
use Rattle.replica.specs.Seen.{IsState}
use Rattle.replica.specs.Sent.{CanTell, IsTold, IsToldBefore, TellingValue, next_place, sent_batch}
use Rattle.replica.proofs.SentLemmas.Changed.{ChangedAt, changed_at, changed_begin, changed_go}
use Rattle.replica.proofs.SentLemmas.Sent.{sent_over}
use Rattle.replica.proofs.SentLemmas.Told.{told_over}

-- vertex k of those that changed, and where the next one is
pub record Stands (t : TellingValue) (k : ℕ) : Type 0 where
  pub state : IsState t.state
  pub changed : ChangedAt t.state (get_or t.vertices k 0)
  pub here : next_place t k ≡ get_or t.vertices k 0
  pub next : IsNextMarked t.state.marks (get_or t.vertices k 0 + 1) (next_place t (k + 1))

can_tell : (u t : TellingValue) → u ≡ t → CanTell u.state u.vertices u.target → CanTell t.state t.vertices t.target
can_tell u t is = subst (λ (v : TellingValue). CanTell v.state v.vertices v.target) is

pub stands : (u t : TellingValue) (k : ℕ) → u ≡ t → CanTell u.state u.vertices u.target → k < length t.vertices → Stands t k
stands u t k is ok lt =
    let can = can_tell u t is ok in
    record {
      state = can.state;
      changed = changed_at t.state t.vertices k can.changed lt;
      here = get_or_default t.vertices k (length t.state.part.preds) 0 lt;
      next = changed_go t.state t.vertices k can.changed lt;
    }

-- ---- of a batch

pub sent_begin : (u t : TellingValue) (b : BatchValue) → u ≡ t → CanTell u.state u.vertices u.target → b ≡ sent_batch t.state t.target 0 → b ≡ sent_batch t.state t.target (next_place t 0)
sent_begin u t b is ok none = sent_over t.state t.target 0 (next_place t 0) b (changed_begin t.state t.vertices (can_tell u t is ok).changed) none

pub sent_here : (t : TellingValue) (k : ℕ) (b : BatchValue) → Stands t k → b ≡ sent_batch t.state t.target (next_place t k) → b ≡ sent_batch t.state t.target (get_or t.vertices k 0)
sent_here t k b s is = is ∙ ap (λ (n : ℕ). sent_batch t.state t.target n) s.here

pub sent_next : (t : TellingValue) (k : ℕ) (b : BatchValue) → Stands t k → b ≡ sent_batch t.state t.target (get_or t.vertices k 0 + 1) → b ≡ sent_batch t.state t.target (next_place t (k + 1))
sent_next t k b s is = sent_over t.state t.target (get_or t.vertices k 0 + 1) (next_place t (k + 1)) b s.next is

-- ---- of vertices and places

pub told_begin : (u t : TellingValue) (changed : ℕ) (ids places : List ℕ) → u ≡ t → CanTell u.state u.vertices u.target → IsTold t.state t.target 0 ids places changed → IsToldBefore t 0 ids places changed
told_begin u t changed ids places is ok none = told_over t.state t.target 0 (next_place t 0) changed ids places (changed_begin t.state t.vertices (can_tell u t is ok).changed) none

pub told_here : (t : TellingValue) (k changed : ℕ) (ids places : List ℕ) → Stands t k → IsToldBefore t k ids places changed → IsTold t.state t.target (get_or t.vertices k 0) ids places changed
told_here t k changed ids places s is = subst (λ (n : ℕ). IsTold t.state t.target n ids places changed) s.here is

pub told_next : (t : TellingValue) (k changed : ℕ) (ids places : List ℕ) → Stands t k → IsTold t.state t.target (get_or t.vertices k 0 + 1) ids places changed → IsToldBefore t (k + 1) ids places changed
told_next t k changed ids places s is = told_over t.state t.target (get_or t.vertices k 0 + 1) (next_place t (k + 1)) changed ids places s.next is
