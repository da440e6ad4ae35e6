-- A part of a list that is made place by place, and what two lists give at a place.
use Rattle.std.proofs.Common.{◌≡◌, ℕ, zero, suc, ◌+◌, ◌-◌, ◌<◌, ◌≤◌, List, [], ◌∷◌, length, get_or, map, min, take, drop, refl, ap, ap₂, arith, sym, ◌∙◌}
use Rattle.std.specs.List.{AllZip, range_with_len, zip}
use Rattle.std.proofs.lemmas.List.{drop_more, get_or-map, length-drop, length-map, take_min}
use Rattle.std.proofs.lemmas.Slice.Zip.{get_or-zip, length-zip}

module _ {C : Type 0} (R : ℕ → C → Type 0) (us : List C) where
  -- what a relation of places and results makes of n places from `at` on
  pub part_of : (at n : ℕ) (zs : List C) → n ≤ length us - at → AllZip R (range_with_len at n) zs → ((k : ℕ) (z : C) → k < length us → R k z → z ≡ get_or us k z) →
      zs ≡ take n (drop at us)
  part_of at zero [] within all gives = refl
  part_of at zero (z ∷ zs) within all gives = absurd all
  part_of at (suc n) [] within all gives = absurd all
  part_of at (suc n) (z ∷ zs) within all gives =
      let here : at < length us = omega arith in
      ap₂ (λ v rest. v ∷ rest) (gives at z here all.0) (part_of (at + 1) n zs (omega arith) all.1 gives)
      ∙ ap (take (suc n)) (sym (drop_more us at z here))

-- as many as there are
pub take_within : {C : Type 0} (us : List C) (from to : ℕ) → take (min to (length us) - from) (drop from us) ≡ take (to - from) (drop from us)
take_within us from to =
    let left : length (drop from us) ≡ length us - from = length-drop from us in
    let count : min to (length us) - from ≡ min (to - from) (length (drop from us)) = omega arith in
    ap (λ n. take n (drop from us)) count ∙ take_min (to - from) (drop from us)

-- an item of a list that has some
pub an_item : {B : Type 0} (ys : List B) (k : ℕ) → k < length ys → B
an_item [] k lt = absurd (omega arith)
an_item (y ∷ ys) k lt = y

-- what two lists of one length give at a place
pub zipped_at : {A B C D : Type 0} (f : A → C → D) (g : B → C) (xs : List A) (ys : List B) (k : ℕ) (a : A) (b : B) (d : D) → length ys ≡ length xs → k < length xs →
    f (get_or xs k a) (g (get_or ys k b)) ≡ get_or (map (λ p. f p.0 p.1) (zip xs (map g ys))) k d
zipped_at f g xs ys k a b d same lt =
    let count : length (map g ys) ≡ length ys = length-map ys g in
    let long : length (zip xs (map g ys)) ≡ min (length xs) (length (map g ys)) = length-zip xs (map g ys) in
    ap (f (get_or xs k a)) (sym (get_or-map g ys k b (g b) (omega arith)))
    ∙ ap (λ p. f p.0 p.1) (sym (get_or-zip xs (map g ys) k (a, g b) lt (omega arith)))
    ∙ sym (get_or-map (λ p. f p.0 p.1) (zip xs (map g ys)) k (a, g b) d (omega arith))

-- and how many they give
pub zipped_length : {A B C D : Type 0} (f : A → C → D) (g : B → C) (xs : List A) (ys : List B) → length ys ≡ length xs →
    length (map (λ p. f p.0 p.1) (zip xs (map g ys))) ≡ length xs
zipped_length f g xs ys same =
    let count : length (map g ys) ≡ length ys = length-map ys g in
    let long : length (zip xs (map g ys)) ≡ min (length xs) (length (map g ys)) = length-zip xs (map g ys) in
    let made : length (map (λ p. f p.0 p.1) (zip xs (map g ys))) ≡ length (zip xs (map g ys)) = length-map (zip xs (map g ys)) (λ p. f p.0 p.1) in
    omega arith
