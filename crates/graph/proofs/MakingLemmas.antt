-- One more edge.
use Rattle.std.proofs.Common.{◌≡◌, ℕ, ◌<◌, ◌≤◌, Bool, true, false, if◌then◌else◌, List, [], ◌∷◌, ◌++◌, length, refl, ap, arith, sym, subst, take, ◌∙◌}
use Rattle.graph.specs.Edges.{AllBelow, edge_of}
use Rattle.graph.specs.declared.edge.Edge.{Edge}
use Rattle.std.specs.List.{list_any}
use Rattle.std.specs.Str.{bytes_eq}
use Rattle.std.proofs.lemmas.List.{take-append-le}
use Rattle.std.proofs.Math.Seq.{take-length}
use Rattle.std.proofs.lemmas.List.Folds.{list_any_at}
use Rattle.graph.specs.Finding.{StandsAt}
use Rattle.graph.specs.Labels.{has_label, with_label}
use Rattle.graph.specs.Making.{AddsEdge, HasNoPlace}
use Rattle.graph.proofs.LabelLemmas.{text_same, with_label-longer}

pub below_more : (m n : ℕ) (edges : List Edge) → m ≤ n → AllBelow m edges → AllBelow n edges
below_more m n [] le below = tt
below_more m n (e ∷ es) le below = ((omega (arith, below.0.0), omega (arith, below.0.1)), below_more m n es le below.1)

pub below_push : (n : ℕ) (edges : List Edge) (i j : ℕ) → i < n → j < n → AllBelow n edges → AllBelow n (edges ++ edge_of i j ∷ [])
below_push n [] i j lo hi below = ((lo, hi), tt)
below_push n (e ∷ es) i j lo hi below = (below.0, below_push n es i j lo hi below.1)

-- the ends of an added edge are labels
pub edge-below : (old new : List (List ℕ)) (edges edges' : List Edge) (a b : List ℕ) → AddsEdge a b old edges new edges' → AllBelow (length old) edges → AllBelow (length new) edges'
edge-below old new edges edges' a b adds below =
    let mid = with_label old a in
    let longer_mid : length old ≤ length mid = with_label-longer old a in
    let longer_new : length mid ≤ length new = omega (arith, with_label-longer mid b, ap length adds.labels_are) in
    subst (λ (ps : List Edge). AllBelow (length new) ps) (sym adds.edges_are)
    (below_push (length new) edges adds.to adds.from adds.to_within (omega (arith, adds.from_within, longer_new)) (below_more (length old) (length new) edges (omega arith) below))

-- a label that stands among some is one of them
pub stands-known : (labels : List (List ℕ)) (l : List ℕ) (i : ℕ) → StandsAt labels l i → has_label labels l ≡ true
stands-known labels l i stands = list_any_at (λ k. bytes_eq k l) labels i [] stands.within (rw stands.is (text_same l))

pub with_label-known : (labels : List (List ℕ)) (l : List ℕ) (i : ℕ) → StandsAt labels l i → with_label labels l ≡ labels
with_label-known labels l i stands = rw (stands-known labels l i stands) refl

-- a label has no place only if it is new
pub known-place : (labels : List (List ℕ)) (l : List ℕ) (i : ℕ) → StandsAt labels l i → HasNoPlace labels l → ⊥
known-place labels l i stands none = let bad : true ≡ false = sym (stands-known labels l i stands) ∙ none.new in cc

front_if : (b : Bool) (n : ℕ) (labels : List (List ℕ)) (y : List ℕ) → n ≤ length labels → take n (if b then labels else labels ++ y ∷ []) ≡ take n labels
front_if true n labels y le = refl
front_if false n labels y le = take-append-le n labels (y ∷ []) le

-- labels that come later leave those before
pub with_label-front : (n : ℕ) (labels : List (List ℕ)) (y : List ℕ) → n ≤ length labels → take n (with_label labels y) ≡ take n labels
with_label-front n labels y le = front_if (list_any (λ k. bytes_eq k y) labels) n labels y le

pub two-front : (labels : List (List ℕ)) (x y : List ℕ) → take (length labels) (with_label (with_label labels x) y) ≡ labels
two-front labels x y =
    with_label-front (length labels) (with_label labels x) y (with_label-longer labels x)
    ∙ with_label-front (length labels) labels x (omega arith)
    ∙ take-length labels
