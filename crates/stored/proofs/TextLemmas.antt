-- The bytes of a stored graph, part by part.
use Rattle.std.proofs.Common.{◌≡◌, ℕ, zero, suc, ◌+◌, ◌<◌, ◌≤◌, ◌^◌, Bool, true, false, List, [], ◌∷◌, ◌++◌, length, get_or, take, map, refl, ap, sym, ◌∙◌, subst, arith, append-nil, length-append}
use Rattle.std.specs.List.{flat_map, sum_by, range_with_len, AllByRecursion}
use Rattle.std.specs.Int.{w32, w64, to_be_bytes}
use Rattle.std.proofs.Math.Seq.{take-suc}
use Rattle.std.proofs.lemmas.Grind.{flat_map-append}
use Rattle.std.proofs.lemmas.List.{length-map}
use Rattle.std.proofs.lemmas.List.Sums.{sum_by-cons}
use Rattle.ball_model.specs.Graph.{Graph, IsGraph, is_edge, listed_edges, preds_of}
use Rattle.ball_model.specs.Input.{Network}
use Rattle.ball_model.specs.PlanValue.{most_vertices}
use Rattle.gapcode.specs.Lists.{IsAscending, AreAscending}
use Rattle.graph.specs.Links.{Ascends}
use Rattle.graph.proofs.EdgeLemmas.{filter-ascends}
use Rattle.stored.specs.Stored.{StoredValue, IsLabel, IsStorable, block_bytes, code_bytes, head_bytes, label_line, label_lines, stored_of}
use Rattle.stored.proofs.StoredLemmas.{preds_many}

pub head_is : (v : StoredValue) (magic vertices edges text : List ℕ) (n m k : ℕ) → magic ≡ to_be_bytes w32 0x48424752 → vertices ≡ to_be_bytes w32 n → n ≡ length v.preds → edges ≡ to_be_bytes w64 m → m ≡ sum_by length v.preds
    → text ≡ to_be_bytes w64 k → k ≡ length (label_lines v.labels) → magic ++ ((1 ∷ []) ++ (vertices ++ (edges ++ (text ++ [])))) ≡ head_bytes v
unfolding head_bytes
head_is v magic vertices edges text n m k a b c d e f h = rw (a, b, c, d, e, f, h, append-nil (to_be_bytes w64 (length (label_lines v.labels)))) refl

pub block_is : (lists : List (List ℕ)) (count number code : List ℕ) (n m : ℕ) → count ≡ to_be_bytes w32 n → n ≡ length lists → number ≡ to_be_bytes w64 m → m ≡ length code → code ≡ code_bytes lists → count ++ (number ++ (code ++ [])) ≡ block_bytes lists
unfolding block_bytes
block_is lists count number code n m a b c d e = rw (a, b, c, d, e, append-nil (code_bytes lists)) refl

pub line_is : (label line : List ℕ) → label ≡ line → label ++ ((10 ∷ []) ++ []) ≡ label_line line
line_is label line e = rw e refl

-- ---- how many edges there are
edges_in : (g : Graph) (xs : List ℕ) → length {A = ℕ × ℕ} (flat_map (λ x. map (λ y. (y, x)) (preds_of g x)) xs) ≡ sum_by length (map (preds_of g) xs)
edges_in g [] = refl
edges_in g (x ∷ xs) =
    let pair : ℕ → ℕ × ℕ = λ y. (y, x) in
    let rest : List (ℕ × ℕ) = flat_map (λ x. map (λ y. (y, x)) (preds_of g x)) xs in
    omega (arith, length-append (map pair (preds_of g x)) rest, length-map (preds_of g x) pair, edges_in g xs, sum_by-cons length (preds_of g x) (map (preds_of g) xs))

pub edges_many : (net : Network) → IsGraph net.graph → length net.graph.edges ≡ sum_by length (stored_of net).preds
unfolding stored_of listed_edges
edges_many net is = ap length is.listed ∙ edges_in net.graph (range_with_len 0 net.graph.vertices)

-- ---- what is stored of a graph ascends
is_ascending : (n lo : ℕ) (xs : List ℕ) → Ascends lo n xs → IsAscending n lo xs
unfolding Ascends
is_ascending n lo [] p = tt
is_ascending n lo (x ∷ xs) p = (p.0, p.1, is_ascending n (x + 1) xs p.2)

all_ascend : (g : Graph) (xs : List ℕ) → AreAscending g.vertices (map (preds_of g) xs)
all_ascend g [] = tt
all_ascend g (x ∷ xs) = (is_ascending g.vertices 0 (preds_of g x) (filter-ascends (λ y. is_edge g y x) 0 g.vertices g.vertices (omega arith)), all_ascend g xs)

preds_ascend : (net : Network) → AreAscending (length (stored_of net).preds) (stored_of net).preds
unfolding stored_of
preds_ascend net = rw (preds_many net) (all_ascend net.graph (range_with_len 0 net.graph.vertices))

-- ---- labels
pub lines_more : (labels : List (List ℕ)) (k : ℕ) → k < length labels → length (label_lines (take (k + 1) labels)) ≡ length (label_lines (take k labels)) + (length (get_or labels k []) + 1)
lines_more labels k lt =
    let next : k + 1 ≡ suc k = omega arith in
    let line = label_line (get_or labels k []) in
    let all : label_lines (take (k + 1) labels) ≡ label_lines (take k labels) ++ (line ++ []) = rw next (ap label_lines (take-suc labels k [] lt) ∙ flat_map-append label_line (take k labels) (get_or labels k [] ∷ [])) in
    omega (arith, ap length all, length-append (label_lines (take k labels)) (line ++ []), length-append line [], length-append (get_or labels k []) (10 ∷ []))

pub labels_more : (labels : List (List ℕ)) (k : ℕ) → k < length labels → AllByRecursion IsLabel (take k labels) → IsLabel (get_or labels k []) → AllByRecursion IsLabel (take (k + 1) labels)
labels_more [] k lt all one = absurd (omega (arith, lt))
labels_more (l ∷ labels) zero lt all one = let e : 0 + 1 ≡ 1 = omega arith in subst (λ (n : ℕ). AllByRecursion IsLabel (take n (l ∷ labels))) (sym e) (one, tt)
labels_more (l ∷ labels) (suc k) lt all one = let e : suc k + 1 ≡ suc (k + 1) = omega arith in subst (λ (n : ℕ). AllByRecursion IsLabel (take n (l ∷ labels))) (sym e) (all.0, labels_more labels k (omega (arith, lt)) all.1 one)

label_in : (labels : List (List ℕ)) (k : ℕ) → k < length labels → AllByRecursion IsLabel labels → IsLabel (get_or labels k [])
label_in [] k lt all = absurd (omega (arith, lt))
label_in (l ∷ labels) zero lt all = all.0
label_in (l ∷ labels) (suc k) lt all = label_in labels k (omega (arith, lt)) all.1

-- ---- what may be stored
pub storable : (net : Network) → IsGraph net.graph → length net.labels ≡ net.graph.vertices → net.graph.vertices ≤ most_vertices → length net.graph.edges < 2 ^ 32 → AllByRecursion IsLabel net.labels → length (label_lines net.labels) < 2 ^ 64 → IsStorable (stored_of net)
unfolding stored_of
storable net is many few few_edges labels short =
    let all = preds_many net in
    record { as_many = many ∙ sym all; few = omega (arith, all, few); few_edges = omega (arith, edges_many net is, few_edges); ascend = preds_ascend net; labels = labels; short = short }

pub refused_label : (net : Network) (v : ℕ) (label : List ℕ) (is : Bool) → v < length net.labels → label ≡ get_or net.labels v [] → is ≡ false → (IsLabel label → is ≡ true) → IsStorable (stored_of net) → ⊥
unfolding stored_of
refused_label net v label is lt at other only s =
    let yes_ = only (subst IsLabel (sym at) (label_in net.labels v lt s.labels)) in
    absurd (cc)

pub refused_text : (net : Network) (sum : ℕ) → sum ≡ length (label_lines net.labels) → 2 ^ 64 ≤ sum → IsStorable (stored_of net) → ⊥
unfolding stored_of
refused_text net sum is le s = absurd (omega (arith, is, le, s.short))
