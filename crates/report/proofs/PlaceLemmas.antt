-- The figures of a vertex among those of its partition.
use Rattle.std.proofs.Common.{◌≡◌, ℕ, ◌-◌, ◌/◌, ◌%◌, ◌<◌, ◌≤◌, List, [], length, get_or, Vec, ap, arith, subst, sym, ◌∙◌}
use Rattle.std.specs.Global.{Global}
use Rattle.std.proofs.lemmas.List.{get_or-map, get_or_default, length-map}
use Rattle.figures.specs.declared.ends.Figures.{Figures}
use Rattle.report.specs.Parts.{AreAmong, figures_at, lists_in, zero_figures}

-- the figures of a partition as a list
own_list : (parts : List (Vec Figures Global)) (p : ℕ) (own : Vec Figures Global) → p < length parts → own ≡ get_or parts p own → get_or (lists_in parts) p [] ≡ own.items
own_list parts p own lt is = get_or-map (λ v. v.items) parts p own [] lt ∙ ap (λ v. v.items) (sym is)

-- that a vertex has a place, for vectors
pub record IsPlaced (first x : ℕ) (parts : List (Vec Figures Global)) : Type 0 where
  pub some : 0 < length parts
  pub from : first ≤ x / length parts
  pub to : x / length parts - first < length (get_or (lists_in parts) (x % length parts) [])

pub is_placed : (first x : ℕ) (parts : List (Vec Figures Global)) → AreAmong first (lists_in parts) x → IsPlaced first x parts
is_placed first x parts place =
    let count : length (lists_in parts) ≡ length parts = length-map parts (λ v. v.items) in
    record {
      some = subst (λ k. 0 < k) count place.some;
      from = subst (λ k. first ≤ x / k) count place.from;
      to = subst (λ k. x / k - first < length (get_or (lists_in parts) (x % k) [])) count place.to;
    }

-- there is something at its place
pub place_inside : (first x : ℕ) (parts : List (Vec Figures Global)) (own : Vec Figures Global) → AreAmong first (lists_in parts) x → own ≡ get_or parts (x % length parts) own →
    x / length parts - first < length own.items
place_inside first x parts own place is =
    let placed = is_placed first x parts place in
    let some : 0 < length parts = placed.some in
    let within : x % length parts < length parts = omega arith in
    subst (λ (l : List Figures). x / length parts - first < length l) (own_list parts (x % length parts) own within is) placed.to

-- what stands there
pub figures_there : (first x : ℕ) (parts : List (Vec Figures Global)) (own : Vec Figures Global) (f : Figures) → AreAmong first (lists_in parts) x → own ≡ get_or parts (x % length parts) own →
    f ≡ get_or own.items (x / length parts - first) f → f ≡ figures_at first (lists_in parts) x
figures_there first x parts own f place is at =
    let count : length (lists_in parts) ≡ length parts = length-map parts (λ v. v.items) in
    let some : 0 < length parts = (is_placed first x parts place).some in
    let within : x % length parts < length parts = omega arith in
    at
    ∙ get_or_default own.items (x / length parts - first) f zero_figures (place_inside first x parts own place is)
    ∙ ap (λ (l : List Figures). get_or l (x / length parts - first) zero_figures) (sym (own_list parts (x % length parts) own within is))
    ∙ ap (λ k. get_or (get_or (lists_in parts) (x % k) []) (x / k - first) zero_figures) (sym count)
