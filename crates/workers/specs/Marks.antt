-- Who has ended: a table with a word for each node of a run, which is marked once its node has ended too early, and one
-- more, which is marked once the run has stopped; and what is known of the marks.
use Rattle.std.specs.Prelude.{◌≡◌, ◌≢◌, ℕ, ◌+◌, ◌*◌, ◌<◌, ◌⊎◌, Bool, true, false, List, [], ◌∷◌, length, nat_lt, slice_index, Contains}
use mathlib.Core.Option.{some}
use lib.ListN.{get_elem?}
use Rattle.atomic_table.specs.Table.{State, Me, Step}
use Rattle.ball_model.specs.declared.plan.TheConstants.{MOST_REPLICAS}

-- the place of replica k of partition p
abbrev pub place_at : ℕ → ℕ → ℕ
place_at p k = p * MOST_REPLICAS + k

-- some seat knows that the word at place i is marked
pub record IsKnown (views : List (List ℕ)) (i : ℕ) : Type 0 where
  pub seat : ℕ
  pub view : List ℕ
  pub at : get_elem? views seat ≡ some view
  pub has : Contains view i

-- a table of n words: a word is marked if some seat knows that it is, and no other
pub record AreMarked (n : ℕ) (s : State (Unit {0}) (List ℕ)) : Type 0 where
  pub count : length s.words ≡ n
  pub marked : (i : ℕ) → slice_index s.words i ≢ 0 → IsKnown s.views i
  pub known : (seat i : ℕ) (view : List ℕ) → get_elem? s.views seat ≡ some view →
      Contains view i → slice_index s.words i ≢ 0

-- what is known of one word more, if it is marked
abbrev pub with_word : Bool → ℕ → List ℕ → List ℕ
with_word true i view = i ∷ view
with_word false i view = view

-- a seat of the table, with what it knows
abbrev pub Knower : Type 0
Knower = Me (Unit {0}) (List ℕ)

-- a new seat knows nothing
abbrev pub KnowsNothing : Step (Unit {0}) → Knower → ℕ → Knower → Type 0
KnowsNothing s v n w = w.0 ≡ []

-- a seat that marked a word knows of it
abbrev pub KnowsMark : Step (Unit {0}) → Knower → ℕ → Knower → Type 0
KnowsMark s v n w = w ≡ (s.word ∷ v.0, v.1)

-- a seat that found the number n in a word knows of it unless n is 0
abbrev pub KnowsIfMarked : Step (Unit {0}) → Knower → ℕ → Knower → Type 0
KnowsIfMarked s v n w = w ≡ (with_word (nat_lt 0 n) s.word v.0, v.1)

-- who knows so much knows that all replicas of partition p have ended
abbrev pub HaveEnded : ℕ → ℕ → List ℕ → Type 0
HaveEnded replicas p view = (k : ℕ) → k < replicas → Contains view (place_at p k)

-- the place of a run's stop: the first one after those of its partitions
abbrev pub stop_place : ℕ → ℕ
stop_place parts = place_at parts 0

-- who knows so much knows that nothing can come from partition p: its replicas have ended, or the run has stopped
abbrev pub IsSilent : ℕ → ℕ → ℕ → List ℕ → Type 0
IsSilent parts replicas p view = HaveEnded replicas p view ⊎ Contains view (stop_place parts)
