-- Each step at the table of marks keeps its rule.
use Rattle.std.proofs.Common.{◌≡◌, ◌≢◌, ◌⊎◌, ℕ, zero, suc, ◌+◌, ◌<◌, List, [], ◌∷◌, length, get_or, set, refl, sym, ap, ◌∙◌, subst, inl, inr, ⊎_elim, arith}
use Rattle.std.specs.Prelude.{Bool, true, false, nat_lt, slice_index, Contains}
use Rattle.std.proofs.lemmas.List.{get_or-set_same, get_or-set_other, length-set}
use lib.Seq.{set-get_or}
use mathlib.Core.Option.{some, none, some-injective, some-ne-none}
use mathlib.Core.Logic.{dite}
use native.Mathlib.Decide.{ℕ_discrete}
use lib.ListN.{get_elem?}
use Rattle.std.proofs.lemmas.Bool.Decides.{nat_tests}
use Rattle.atomic_table.specs.Table.{State, Step, step, Act, keeps, Valid, carried_after, stepped, Allows, Enters}
use Rattle.atomic_table.proofs.Lists.{at_set, at_snoc, at_longer, set_here, set_else, set_again}
use Rattle.workers.specs.Marks.{AreMarked, HaveEnded, IsKnown, Knower, KnowsIfMarked, KnowsMark, KnowsNothing, place_at}

-- a list with nothing in it contains nothing
pub none_in : (i : ℕ) → Contains [] i → ⊥
none_in i c = absurd (omega (arith, c.1))

-- what is in a longer list is the first, or in the rest
pub first_or_rest : (view : List ℕ) (word i : ℕ) → Contains (word ∷ view) i → (i ≡ word) ⊎ Contains view i
first_or_rest view word i (zero, lt, e) = inl (sym e)
first_or_rest view word i (suc k, lt, e) = inr (k, omega (arith, lt), e)

pub first_in : (view : List ℕ) (word : ℕ) → Contains (word ∷ view) word
first_in view word = (0, omega arith, refl)

pub rest_in : (view : List ℕ) (word i : ℕ) → Contains view i → Contains (word ∷ view) i
rest_in view word i c = (suc c.0, omega (arith, c.1), c.2)

-- a place that is known stays known where a view is replaced by one that has as much
known_set : (views : List (List ℕ)) (seat : ℕ) (view more : List ℕ) (i : ℕ) → get_elem? views seat ≡ some view → ((j : ℕ) → Contains view j → Contains more j) → (seat_is : seat < length views)
    → IsKnown views i → IsKnown (set views seat more) i
known_set views seat view more i at grows below known = dite (ℕ_discrete known.seat seat) same other
  where
    same : known.seat ≡ seat → IsKnown (set views seat more) i
    same e =
        let is : known.view ≡ view = some-injective known.view view (sym known.at ∙ ap (get_elem? views) e ∙ at) in
        record { seat = seat; view = more; at = set_here views seat more below; has = grows i (subst (λ (v : List ℕ). Contains v i) is known.has) }

    other : known.seat ≢ seat → IsKnown (set views seat more) i
    other n = record { seat = known.seat; view = known.view; at = set_else views seat known.seat more n ∙ known.at; has = known.has }

-- who is found in a list is at a place of it
at_below : (views : List (List ℕ)) (seat : ℕ) (view : List ℕ) → get_elem? views seat ≡ some view → seat < length views
at_below [] seat view at = absurd (some-ne-none view (sym at))
at_below (v ∷ vs) zero view at = omega arith
at_below (v ∷ vs) (suc seat) view at = let r = at_below vs seat view at in omega (arith, r)

-- what a step tells asks for its word alone
abbrev pub at_word : ℕ → Step (Unit {0})
at_word word = step 0 word 0 0 none

-- a seat comes, which knows nothing
pub comes : (n slots word : ℕ) → Enters (AreMarked n) slots word (λ found w. KnowsNothing (at_word word) ([], []) found (w, []))
comes n slots word t h len small = (
  [],
  record {
    count = h.count;
    marked = λ i ne. let k = h.marked i ne in record { seat = k.seat; view = k.view; at = at_longer t.views ([] ∷ []) k.seat k.view k.at; has = k.has };
    known = λ seat i view at has.
        ⊎_elim (λ a. h.known seat i view a has) (λ e. absurd (none_in i (subst (λ (v : List ℕ). Contains v i) (sym e) has))) (at_snoc t.views [] view seat at);
  },
  refl,
)

-- a seat knows of one word more, which is not 0 then
grows : (n : ℕ) (s : State (Unit {0}) (List ℕ)) (id word x : ℕ) (view : List ℕ) → AreMarked n s → get_elem? s.views id ≡ some view → word < n → x ≢ 0
    → AreMarked n record { words = set s.words word x; homes = s.homes; views = set s.views id (word ∷ view) }
grows n s id word x view h at lt ne = record {
  count = length-set s.words word x ∙ h.count;
  marked = λ i lit. marked i lit (ℕ_discrete i word);
  known = λ seat i v there has. known seat i v (at_set s.views id seat (word ∷ view) v there) has;
}
  where
    here : get_or (set s.words word x) word 0 ≡ x
    here = get_or-set_same s.words word x 0 (omega (arith, lt, h.count))

    lit_at : (i : ℕ) → slice_index s.words i ≢ 0 → slice_index (set s.words word x) i ≢ 0
    lit_at i lit = dite (ℕ_discrete i word) (λ e z. ne (sym here ∙ (ap (λ (j : ℕ). get_or (set s.words word x) j 0) (sym e) ∙ z))) (λ d z. lit (sym (get_or-set_other s.words word i x 0 d) ∙ z))

    marked : (i : ℕ) → slice_index (set s.words word x) i ≢ 0 → Dec (i ≡ word) → IsKnown (set s.views id (word ∷ view)) i
    marked i lit (yes e) = record { seat = id; view = word ∷ view; at = set_here s.views id (word ∷ view) (at_below s.views id view at); has = subst (Contains (word ∷ view)) (sym e) (first_in view word) }
    marked i lit (no d) =
        known_set s.views id view (word ∷ view) i at (rest_in view word) (at_below s.views id view at) (h.marked i (λ z. lit (get_or-set_other s.words word i x 0 d ∙ z)))

    known : (seat i : ℕ) (v : List ℕ) → ((seat ≡ id) × ((word ∷ view) ≡ v)) ⊎ ((seat ≢ id) × (get_elem? s.views seat ≡ some v)) → Contains v i → slice_index (set s.words word x) i ≢ 0
    known seat i v (inl own) has =
        ⊎_elim (λ e z. ne (sym here ∙ (ap (λ (j : ℕ). get_or (set s.words word x) j 0) (sym e) ∙ z))) (λ in_rest. lit_at i (h.known id i view at in_rest)) (first_or_rest view word i (subst (λ (u : List ℕ). Contains u i) (sym own.1) has))
    known seat i v (inr other) has = lit_at i (h.known seat i v other.1 has)

-- a word is marked
pub marks : (n slots id word : ℕ) (me : Knower) → word < n → Allows (AreMarked n) slots id me word (λ _. 1) (λ _. KnowsMark (at_word word) me 1)
marks n slots id word me lt t h len at small =
    (word ∷ me.0, keeps, tt, grows n t id word 1 me.0 h at lt (λ e. absurd (omega (arith, e))), refl)

-- what is not marked tells nothing
same : (n : ℕ) (s : State (Unit {0}) (List ℕ)) (id word : ℕ) (view : List ℕ) → AreMarked n s → get_elem? s.views id ≡ some view
    → AreMarked n record { words = set s.words word (slice_index s.words word); homes = s.homes; views = set s.views id view }
same n s id word view h at =
    subst (λ (p : List ℕ × List (List ℕ)). AreMarked n record { words = p.0; homes = s.homes; views = p.1 }) (λ i. (sym (set-get_or s.words word 0) i, sym (set_again s.views id view at) i)) h

-- a word is looked at
pub looks : (n slots id word : ℕ) (me : Knower) → word < n → Allows (AreMarked n) slots id me word (λ x. x) (KnowsIfMarked (at_word word) me)
looks n slots id word me lt t h len at small = found (nat_lt 0 (slice_index t.words word)) refl
  where
    found : (lit : Bool) → nat_lt 0 (slice_index t.words word) ≡ lit
        → (w : List ℕ) × (a : Act (Unit {0})) × Valid t.homes me.1 a × AreMarked n (stepped t word (slice_index t.words word) id me.1 w a)
        × KnowsIfMarked (at_word word) me (slice_index t.words word) (w, carried_after me.1 a)
    found true e =
        (word ∷ me.0, keeps, tt, grows n t id word (slice_index t.words word) me.0 h at lt (grind (arith, nat_tests, e)), rw e refl)
    found false e = (me.0, keeps, tt, same n t id word me.0 h at, rw e refl)

-- of one replica more it is known that it has ended
pub more_ended : (n p : ℕ) (view : List ℕ) → HaveEnded n p view → HaveEnded (n + 1) p (place_at p n ∷ view)
more_ended n p view h k below = dite (ℕ_discrete k n) (λ e. subst (λ (i : ℕ). Contains (place_at p n ∷ view) (place_at p i)) (sym e) (first_in view (place_at p n))) (λ d. rest_in view (place_at p n) (place_at p k) (h k (omega (arith, below, d))))
