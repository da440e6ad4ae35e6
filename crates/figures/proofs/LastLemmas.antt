-- Lists whose items agree place by place.
use Rattle.std.proofs.Common.{◌≡◌, ◌↔◌, ℕ, zero, suc, ◌<◌, Bool, IsTrue, List, [], ◌∷◌, length, map, get_or, drop, refl, ap, ap₂, arith}
use Rattle.ball_model.specs.Figures.{TallyValue}
use Rattle.figures.specs.declared.tally.Tally.{Tally}
use Rattle.figures.specs.Values.{value_of}

-- the numbers of the rows are those given, where they are so one by one
numbers_are : (f : List ℕ → ℕ) (tallies : List Tally) (rows : List (List ℕ)) → length tallies ≡ length rows →
    ((i : ℕ) → i < length rows → get_or (map (λ (tally : Tally). tally.last) tallies) i 0 ≡ f (get_or rows i [])) →
    map (λ (tally : TallyValue). tally.last) (map value_of tallies) ≡ map f rows
numbers_are f [] [] same at = refl
numbers_are f [] (row ∷ rows) same at = absurd (omega (arith, same))
numbers_are f (t ∷ tallies) [] same at = absurd (omega (arith, same))
numbers_are f (t ∷ tallies) (row ∷ rows) same at =
    ap₂ (λ n rest. n ∷ rest) (at 0 (omega arith)) (numbers_are f tallies rows (omega (arith, same)) (λ i lt. at (suc i) (omega (arith, lt))))

-- and the other way round
number_is : (f : List ℕ → ℕ) (tallies : List Tally) (rows : List (List ℕ)) → length tallies ≡ length rows →
    map (λ (tally : TallyValue). tally.last) (map value_of tallies) ≡ map f rows →
    (i : ℕ) → i < length rows → get_or (map (λ (tally : Tally). tally.last) tallies) i 0 ≡ f (get_or rows i [])
number_is f [] [] same is i lt = absurd (omega (arith, lt))
number_is f [] (row ∷ rows) same is i lt = absurd (omega (arith, same))
number_is f (t ∷ tallies) [] same is i lt = absurd (omega (arith, same))
number_is f (t ∷ tallies) (row ∷ rows) same is zero lt = ap (λ (l : List ℕ). get_or l 0 0) is
number_is f (t ∷ tallies) (row ∷ rows) same is (suc i) lt =
    number_is f tallies rows (omega (arith, same)) (ap (λ (l : List ℕ). drop 1 l) is) i (omega (arith, lt))

pub one_by_one : (f : List ℕ → ℕ) (tallies : List Tally) (rows : List (List ℕ)) (said : Bool) → length tallies ≡ length rows →
    (IsTrue said ↔ ((i : ℕ) → i < length rows → get_or (map (λ (tally : Tally). tally.last) tallies) i 0 ≡ f (get_or rows i []))) →
    IsTrue said ↔ (map (λ (tally : TallyValue). tally.last) (map value_of tallies) ≡ map f rows)
one_by_one f tallies rows said same is = (λ yes. numbers_are f tallies rows same (is.0 yes), λ e. is.1 (number_is f tallies rows same e))
