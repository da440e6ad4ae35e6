-- The bytes of edges, target by target.
use Rattle.std.proofs.Common.{◌≡◌, ◌∙◌, ℕ, ◌+◌, Bool, true, false, if◌then◌else◌, List, [], ◌∷◌, ◌++◌, map, refl, ap, sym, append_assoc}
use Rattle.std.specs.List.{filter, flat_map, range_with_len}
use Rattle.std.proofs.lemmas.List.{append-nil}
use Rattle.std.proofs.lemmas.Grind.{flat_map-append}
use Rattle.std.proofs.lemmas.List.Elements.{filter-append}
use Rattle.ball_model.specs.Graph.{Graph, IsGraph, is_counted, preds_of, listed_edges, counted_vertices}
use Rattle.ball_model.specs.Job.{edge_bytes}
use Rattle.ball_model.proofs.PartLemmas.{range_more}
use Rattle.graph.specs.Planning.{target_bytes, vertex_number_bytes}

-- the edges to x
abbrev pub edges_to : Graph → ℕ → List (ℕ × ℕ)
edges_to g x = map (λ y. (y, x)) (preds_of g x)

-- the bytes of the edges to the targets below n
abbrev pub bytes_below : Graph → ℕ → List ℕ
bytes_below g n = flat_map edge_bytes (flat_map (edges_to g) (range_with_len 0 n))

-- the edges to one target more
pub edges-next : (g : Graph) (n : ℕ) → flat_map (edges_to g) (range_with_len 0 (n + 1)) ≡ flat_map (edges_to g) (range_with_len 0 n) ++ edges_to g n
edges-next g n =
    let one : flat_map (edges_to g) (n ∷ []) ≡ edges_to g n = append-nil (edges_to g n) in
    ap (flat_map (edges_to g)) (range_more n) ∙ flat_map-append (edges_to g) (range_with_len 0 n) (n ∷ []) ∙ rw one refl

-- the edges to all targets
pub edges-all : (g : Graph) (n : ℕ) → IsGraph g → n ≡ g.vertices → flat_map (edges_to g) (range_with_len 0 n) ≡ g.edges
unfolding listed_edges
edges-all g n ok count = rw count (sym ok.listed)

pub bytes-next : (g : Graph) (m : List ℕ) (n : ℕ) → m ++ bytes_below g (n + 1) ≡ (m ++ bytes_below g n) ++ target_bytes (preds_of g n) n
bytes-next g m n =
    ap (λ (es : List (ℕ × ℕ)). m ++ flat_map edge_bytes es) (edges-next g n)
    ∙ ap (λ (bs : List ℕ). m ++ bs) (flat_map-append edge_bytes (flat_map (edges_to g) (range_with_len 0 n)) (edges_to g n))
    ∙ sym (append_assoc m (bytes_below g n) (target_bytes (preds_of g n) n))

pub bytes-all : (g : Graph) (n : ℕ) → IsGraph g → n ≡ g.vertices → bytes_below g n ≡ flat_map edge_bytes g.edges
bytes-all g n ok count = ap (flat_map edge_bytes) (edges-all g n ok count)

-- the bytes of the counted vertices below n
abbrev pub members_below : Graph → ℕ → List ℕ
members_below g n = flat_map vertex_number_bytes (filter (λ v. is_counted g v) (range_with_len 0 n))

member-bytes : (b : Bool) (v : ℕ) → flat_map vertex_number_bytes (if b then (v ∷ []) else []) ≡ (if b then vertex_number_bytes v else [])
member-bytes true v = append-nil (vertex_number_bytes v)
member-bytes false v = refl

-- one vertex more
pub members-next : (g : Graph) (m : List ℕ) (n : ℕ) → m ++ members_below g (n + 1) ≡ (m ++ members_below g n) ++ (if is_counted g n then vertex_number_bytes n else [])
members-next g m n =
    let more : filter (λ v. is_counted g v) (range_with_len 0 (n + 1)) ≡ filter (λ v. is_counted g v) (range_with_len 0 n) ++ (if is_counted g n then (n ∷ []) else []) =
    ap (filter (λ v. is_counted g v)) (range_more n) ∙ filter-append (λ v. is_counted g v) (range_with_len 0 n) (n ∷ []) in
    ap (λ (vs : List ℕ). m ++ flat_map vertex_number_bytes vs) more
    ∙ ap (λ (bs : List ℕ). m ++ bs) (flat_map-append vertex_number_bytes (filter (λ v. is_counted g v) (range_with_len 0 n)) (if is_counted g n then (n ∷ []) else []))
    ∙ ap (λ (bs : List ℕ). m ++ (members_below g n ++ bs)) (member-bytes (is_counted g n) n)
    ∙ sym (append_assoc m (members_below g n) (if is_counted g n then vertex_number_bytes n else []))

pub members-all : (g : Graph) (n : ℕ) → IsGraph g → n ≡ g.vertices → members_below g n ≡ flat_map vertex_number_bytes g.counted
unfolding counted_vertices
members-all g n ok count = ap (flat_map vertex_number_bytes) (rw count (sym ok.counted))

-- seven pieces behind some bytes
pub seven-behind : (m a b c d e f g : List ℕ) → ((((((m ++ a) ++ b) ++ c) ++ d) ++ e) ++ f) ++ g ≡ m ++ ((((((a ++ b) ++ c) ++ d) ++ e) ++ f) ++ g)
seven-behind m a b c d e f g = simp append_assoc
