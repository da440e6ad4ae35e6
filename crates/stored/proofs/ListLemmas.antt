-- Lists, one more at a time.
use Rattle.std.proofs.Common.{◌≡◌, ℕ, suc, ◌+◌, ◌<◌, Bool, List, [], ◌∷◌, ◌++◌, length, get_or, take, ap, ◌∙◌, arith, append-nil}
use Rattle.std.specs.List.{flat_map, sum_by}
use Rattle.std.proofs.Math.Seq.{take-suc}
use Rattle.std.proofs.lemmas.Grind.{flat_map-append}
use Rattle.std.proofs.lemmas.List.Sums.{sum_by_push}
use Rattle.gapcode.specs.Lists.{list_bits}

pub sum_more : (lists : List (List ℕ)) (k : ℕ) → k < length lists → sum_by length (take (k + 1) lists) ≡ sum_by length (take k lists) + length (get_or lists k [])
sum_more lists k lt =
    let next : k + 1 ≡ suc k = omega arith in
    rw next (ap (sum_by length) (take-suc lists k [] lt) ∙ sum_by_push length (take k lists) (get_or lists k []))

pub code_more : (lists : List (List ℕ)) (k : ℕ) → k < length lists → flat_map list_bits (take (k + 1) lists) ≡ flat_map list_bits (take k lists) ++ list_bits (get_or lists k [])
code_more lists k lt =
    let next : k + 1 ≡ suc k = omega arith in
    rw next (ap (flat_map list_bits) (take-suc lists k [] lt) ∙ flat_map-append list_bits (take k lists) (get_or lists k [] ∷ []) ∙ ap (λ (l : List Bool). flat_map list_bits (take k lists) ++ l) (append-nil (list_bits (get_or lists k []))))
