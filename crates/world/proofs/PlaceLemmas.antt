-- The node of a world at its place: in which row, and where in it.
use Rattle.std.proofs.Common.{◌≡◌, ℕ, ◌<◌, ◌≤◌, true, false, List, [], length, get_or, set, map, slice_index_or, Vec, Global, refl, ap, sym, ◌∙◌, subst, inl, inr, arith}
use Rattle.std.specs.Prelude.{Option, None, Some, option_map}
use Rattle.std.specs.List.{slice_get}
use Rattle.std.specs.Vec.{vec_len, with_item}
use Rattle.std.proofs.lemmas.Bool.{cases_lt}
use Rattle.std.proofs.lemmas.List.{map-set, set-get_or}
use Rattle.std.proofs.lemmas.Option.{slice_get-map, slice_get_past, slice_get_read, get_or_from_slice_get}
use Rattle.ball_model.specs.declared.names.NodeId.{NodeId}
use Rattle.ball_model.proofs.WorldLemmas.{changed_back}
use Rattle.world.specs.Shows.{SeenNode, SeenWorld, seen_at}
use Rattle.world.proofs.ShowsLemmas.{with_seen}

-- a row of nodes
abbrev pub Row : Type 0
Row = Vec SeenNode Global

-- the world with these rows
abbrev pub with_rows : SeenWorld → List Row → SeenWorld
with_rows v rows = record v { nodes = map (λ row. row.items) rows }

-- where a look-up finds nothing, there is nothing
pub nothing_at : {X Z : Type 0} (xs : Vec X Z) (i : ℕ) → (i < vec_len xs → false ≡ true) → slice_get xs.items i ≡ None
nothing_at xs i h = elim (cases_lt i xs.len) [
  | inl inside ↦ absurd (let wrong = h inside in cc)
  | inr past ↦ slice_get_past xs.items i (omega (arith, xs.ok.0))
]

pub something_at : {X Z : Type 0} (xs : Vec X Z) (i : ℕ) (x : X) → i < vec_len xs → x ≡ slice_index_or xs.items i x → slice_get xs.items i ≡ Some x
something_at xs i x lt is = slice_get_read xs.items xs.len i x xs.ok.0 lt is

-- a node in its row
pub record At (rows : List Row) (id : NodeId) (p k : ℕ) (row : Row) (s : SeenNode) : Type 0 where
  pub part : p ≡ id.part
  pub replica : k ≡ id.replica
  pub row_is : slice_get rows p ≡ Some row
  pub node_is : slice_get row.items k ≡ Some s

-- it is there where both look-ups find it
pub placed : {Z : Type 0} (nodes : Vec Row Z) (id : NodeId) (p k : ℕ) (row : Row) (s : SeenNode) → p ≡ id.part → k ≡ id.replica →
    p < vec_len nodes → row ≡ slice_index_or nodes.items p row → k < vec_len row → s ≡ slice_index_or row.items k s → At nodes.items id p k row s
placed nodes id p k row s part replica below row_is in_row node_is = record {
  part = part;
  replica = replica;
  row_is = something_at nodes p row below row_is;
  node_is = something_at row k s in_row node_is;
}

row_there : (rows : List Row) (p : ℕ) (row : Row) → slice_get rows p ≡ Some row → get_or (map (λ (r : Row). r.items) rows) p [] ≡ row.items
row_there rows p row e = get_or_from_slice_get (map (λ (r : Row). r.items) rows) p row.items [] (slice_get-map (λ (r : Row). r.items) rows p ∙ ap (option_map (λ (r : Row). r.items)) e)

in_row : (rows : List Row) (id : NodeId) (p k : ℕ) (row : Row) (o : Option SeenNode) → p ≡ id.part → k ≡ id.replica → slice_get rows p ≡ Some row → slice_get row.items k ≡ o → slice_get (get_or (map (λ (r : Row). r.items) rows) id.part []) id.replica ≡ o
in_row rows id p k row o first second e there =
    ap (λ n. slice_get (get_or (map (λ (r : Row). r.items) rows) n []) id.replica) (sym first)
    ∙ ap (λ (l : List SeenNode). slice_get l id.replica) (row_there rows p row e)
    ∙ ap (slice_get row.items) (sym second)
    ∙ there

-- there is no such node in the row
pub no_node_in : (v : SeenWorld) (rows : List Row) (id : NodeId) (p k : ℕ) (row : Row) → p ≡ id.part → k ≡ id.replica → slice_get rows p ≡ Some row → slice_get row.items k ≡ None → seen_at (with_rows v rows) id ≡ None
no_node_in v rows id p k row first second e gone = in_row rows id p k row None first second e gone

-- there is one
pub at_seen : (v : SeenWorld) (rows : List Row) (id : NodeId) (p k : ℕ) (row : Row) (s : SeenNode) → At rows id p k row s → seen_at (with_rows v rows) id ≡ Some s
at_seen v rows id p k row s at = in_row rows id p k row (Some s) at.part at.replica at.row_is at.node_is

-- where it is another, the world is
pub at_changed : (v : SeenWorld) (rows : List Row) (id : NodeId) (p k : ℕ) (row : Row) (s t : SeenNode) → At rows id p k row s → with_rows v (set rows p (with_item row k t)) ≡ with_seen (with_rows v rows) id t
at_changed v rows id p k row s t at =
    let all : List (List SeenNode) = map (λ (r : Row). r.items) rows in
    let here : get_or all id.part [] ≡ row.items = ap (λ n. get_or all n []) (sym at.part) ∙ row_there rows p row at.row_is in
    ap (λ (l : List (List SeenNode)). record v { nodes = l })
    (map-set (λ (r : Row). r.items) rows p (with_item row k t)
    ∙ ap (λ n. set all n (set row.items k t)) at.part
    ∙ ap (λ n. set all id.part (set row.items n t)) at.replica
    ∙ ap (λ (l : List SeenNode). set all id.part (set l id.replica t)) (sym here))

-- where it is the same, so is the world
pub at_same : (v : SeenWorld) (rows : List Row) (id : NodeId) (p k : ℕ) (row : Row) (s : SeenNode) → At rows id p k row s → with_rows v (set rows p (with_item row k s)) ≡ with_rows v rows
at_same v rows id p k row s at =
    at_changed v rows id p k row s s at
    ∙ ap (λ (l : List (List SeenNode)). record v { nodes = l }) (changed_back (map (λ (r : Row). r.items) rows) id.part id.replica s (at_seen v rows id p k row s at))

-- and where its row is the same
pub row_same : (v : SeenWorld) (rows : List Row) (p : ℕ) (row : Row) → slice_get rows p ≡ Some row → with_rows v (set rows p row) ≡ with_rows v rows
row_same v rows p row e =
    ap (λ (l : List Row). with_rows v l) (ap (set rows p) (sym (get_or_from_slice_get rows p row row e)) ∙ set-get_or rows p row)

-- where it became what it was
pub at_unchanged : (v : SeenWorld) (rows : List Row) (id : NodeId) (p k : ℕ) (row : Row) (s t : SeenNode) → At rows id p k row s → t ≡ s → with_rows v (set rows p (with_item row k t)) ≡ with_rows v rows
at_unchanged v rows id p k row s t at same = ap (λ (x : SeenNode). with_rows v (set rows p (with_item row k x))) same ∙ at_same v rows id p k row s at

-- what a look-up in a slice finds
pub lookup_none : {X : Type 0} (xs ys : List X) (i : ℕ) → xs ≡ ys → length xs ≤ i → slice_get ys i ≡ None
lookup_none xs ys i same past = subst (λ (l : List _). slice_get l i ≡ None) same (slice_get_past xs i past)

pub lookup_some : {X : Type 0} (xs ys : List X) (i : ℕ) (x : X) → xs ≡ ys → i < length xs → x ≡ slice_index_or xs i x → slice_get ys i ≡ Some x
lookup_some xs ys i x same lt is = subst (λ (l : List _). slice_get l i ≡ Some x) same (slice_get_read xs (length xs) i x refl lt is)
