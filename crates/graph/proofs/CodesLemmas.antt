-- Lists of sources, made of parts of the edges.
use Rattle.std.proofs.Common.{◌≡◌, ℕ, zero, suc, ◌+◌, ◌-◌, ◌<◌, ◌≤◌, Bool, true, false, ◌&&◌, ◌||◌, ◌==◌, nat_eq, nat_lt, List, [], ◌∷◌, ◌++◌, length, map, take, drop, get_or, refl, ap, arith, inl, inr, sym, subst, ◌∙◌, tests, append_assoc}
use Rattle.std.specs.Prelude.{reverse}
use Rattle.std.proofs.Math.Seq.{take-length}
use Rattle.std.specs.List.{list_any, range_with_len, AllByRecursion}
use Rattle.std.proofs.lemmas.List.{drop-take, get_or-reverse, length-reverse, length-take-le, map-append, reverse-reverse, take-take}
use Rattle.std.proofs.lemmas.List.Elements.{filter_agree}
use Rattle.std.proofs.lemmas.List.FromFn.{map-range_with_len_more}
use Rattle.std.proofs.lemmas.Bool.{cases_lt}
use Rattle.graph.specs.declared.edge.Edge.{Edge}
use Rattle.graph.specs.Codes.{AreTurned, sources_between}
use Rattle.graph.specs.Edges.{AllBelow, Before, EdgesAscend, below, source_lists, sources_of}
use Rattle.graph.proofs.EdgeLemmas.{all_weaker, below-after, below-before, none_after}
use Rattle.graph.proofs.TailLemmas.{ascend-drop, last-edges, last-sources, least-drop, left-next, other-edges}

-- the edge to a target from a source
abbrev leads : ℕ → ℕ → Edge → Bool
leads x y e = (e.target == x) && (e.source == y)

-- ---- edges below a target, and those that are not

-- of edges whose targets are above x none leads there
none_to : (es : List Edge) (x y m : ℕ) → x < m → AllByRecursion (λ f. m ≤ f.target) es → list_any (leads x y) es ≡ false
none_to [] x y m lt all = refl
none_to (e ∷ es) x y m lt all =
    let off : nat_eq e.target x ≡ false = search (tests, arith, lt, all.0) in
    rw off (none_to es x y m lt all.1)

-- the targets after one are not less
after : (e : Edge) (m : ℕ) (es : List Edge) → m ≤ e.target → AllByRecursion (λ f. Before e f) es → AllByRecursion (λ f. m ≤ f.target) es
after e m es le all = all_weaker (λ f. Before e f) (λ f. m ≤ f.target) es (λ f b. omega (arith, b.targets, le)) all

any-take : (es : List Edge) (x y m : ℕ) → x < m → EdgesAscend es → list_any (leads x y) (take (below es m) es) ≡ list_any (leads x y) es
unfolding below EdgesAscend
any-take [] x y m lt up = refl
any-take (e ∷ es) x y m lt up =
    elim (cases_lt e.target m) [
      | inl less ↦
          let on : nat_lt e.target m ≡ true = search (tests, arith) in
          rw on (ap (λ b. leads x y e || b) (any-take es x y m lt up.1))
      | inr more ↦
          let off : nat_lt e.target m ≡ false = search (tests, arith) in
          let none : below es m ≡ 0 = none_after e m es more up.0 in
          rw (off, none) (sym (none_to (e ∷ es) x y m lt (more, after e m es more up.0)))
    ]

any-drop : (es : List Edge) (x y m : ℕ) → m ≤ x → EdgesAscend es → list_any (leads x y) (drop (below es m) es) ≡ list_any (leads x y) es
unfolding below EdgesAscend
any-drop [] x y m le up = refl
any-drop (e ∷ es) x y m le up =
    elim (cases_lt e.target m) [
      | inl less ↦
          let on : nat_lt e.target m ≡ true = search (tests, arith) in
          let apart : nat_eq e.target x ≡ false = search (tests, arith, less, le) in
          rw (on, apart) (any-drop es x y m le up.1)
      | inr more ↦
          let off : nat_lt e.target m ≡ false = search (tests, arith) in
          let none : below es m ≡ 0 = none_after e m es more up.0 in
          rw (off, none) refl
    ]

sources-take : (es : List Edge) (n x m : ℕ) → x < m → EdgesAscend es → sources_of n (take (below es m) es) x ≡ sources_of n es x
sources-take es n x m lt up = filter_agree (λ y. list_any (leads x y) (take (below es m) es)) (λ y. list_any (leads x y) es) (λ y. any-take es x y m lt up) (range_with_len 0 n)

sources-drop : (es : List Edge) (n x m : ℕ) → m ≤ x → EdgesAscend es → sources_of n (drop (below es m) es) x ≡ sources_of n es x
sources-drop es n x m le up = filter_agree (λ y. list_any (leads x y) (drop (below es m) es)) (λ y. list_any (leads x y) es) (λ y. any-drop es x y m le up) (range_with_len 0 n)

-- ---- what holds of edges holds of some of them

all-take : {X : Type 0} (P : X → Type 0) (xs : List X) (k : ℕ) → AllByRecursion P xs → AllByRecursion P (take k xs)
all-take P xs zero all = tt
all-take P [] (suc k) all = tt
all-take P (x ∷ xs) (suc k) all = (all.0, all-take P xs k all.1)

all-drop : {X : Type 0} (P : X → Type 0) (xs : List X) (k : ℕ) → AllByRecursion P xs → AllByRecursion P (drop k xs)
all-drop P xs zero all = all
all-drop P [] (suc k) all = tt
all-drop P (x ∷ xs) (suc k) all = all-drop P xs k all.1

ascend-take : (es : List Edge) (k : ℕ) → EdgesAscend es → EdgesAscend (take k es)
unfolding EdgesAscend
ascend-take es zero up = tt
ascend-take [] (suc k) up = tt
ascend-take (e ∷ es) (suc k) up = (all-take (λ f. Before e f) es k up.0, ascend-take es k up.1)

least-take : (es : List Edge) (k x : ℕ) → below es x ≡ 0 → below (take k es) x ≡ 0
unfolding below
least-take es zero x none = refl
least-take [] (suc k) x none = refl
least-take (e ∷ es) (suc k) x none =
    elim (cases_lt e.target x) [
      | inl less ↦
          let on : nat_lt e.target x ≡ true = search (tests, arith) in
          let some = rw on at none in
          absurd (omega (arith, some))
      | inr more ↦
          let off : nat_lt e.target x ≡ false = search (tests, arith) in
          let here = rw off at none in
          rw off (least-take es k x here)
    ]

-- ---- lists of neighbouring targets

-- lists that are the same at each number of a range
lists-same : (f g : ℕ → List ℕ) (a k : ℕ) → ((x : ℕ) → a ≤ x → x < a + k → f x ≡ g x) → map f (range_with_len a k) ≡ map g (range_with_len a k)
lists-same f g a zero same = refl
lists-same f g a (suc k) same = rw (same a (omega arith) (omega arith), lists-same f g (a + 1) k (λ x le lt. same x (omega (arith, le)) (omega (arith, lt)))) refl

-- a range up to and from a number between
ranges : (a k l : ℕ) → range_with_len a k ++ range_with_len (a + k) l ≡ range_with_len a (k + l)
ranges a zero l = ap (λ b. range_with_len b l) (let e : a + 0 ≡ a = omega arith in e) ∙ ap (range_with_len a) (let e : l ≡ 0 + l = omega arith in e)
ranges a (suc k) l =
    let more : suc k + l ≡ suc (k + l) = omega arith in
    let at : a + suc k ≡ (a + 1) + k = omega arith in
    rw (more, at) (ap (λ (xs : List ℕ). a ∷ xs) (ranges (a + 1) k l))

lists-join : (f : ℕ → List ℕ) (from middle to : ℕ) → from ≤ middle → middle ≤ to →
    map f (range_with_len from (middle - from)) ++ map f (range_with_len middle (to - middle)) ≡ map f (range_with_len from (to - from))
lists-join f from middle to first last =
    let at : from + (middle - from) ≡ middle = omega (arith, first) in
    let long : (middle - from) + (to - middle) ≡ to - from = omega (arith, first, last) in
    sym (map-append f (range_with_len from (middle - from)) (range_with_len middle (to - middle)))
    ∙ ap (map f) (ap (λ b. range_with_len from (middle - from) ++ range_with_len b (to - middle)) (sym at) ∙ ranges from (middle - from) (to - middle) ∙ ap (range_with_len from) long)

-- one list more
pub between-next : (es : List Edge) (n from x : ℕ) (lists : List (List ℕ)) (list : List ℕ) → from ≤ x → lists ≡ sources_between n es from x → list ≡ sources_of n es x → lists ++ list ∷ [] ≡ sources_between n es from (x + 1)
between-next es n from x lists list le are is =
    let long : (x + 1) - from ≡ (x - from) + 1 = omega (arith, le) in
    rw (are, is, long) (sym (map-range_with_len_more (sources_of n es) from (x - from) x (omega (arith, le))))

-- ---- edges that are turned round, cut in two

-- the first targets are those of the last edges
pub last-turned : (edges : List Edge) (n from middle place : ℕ) → AreTurned n from edges → length edges ≡ place + below (reverse edges) middle → AreTurned n from (drop place edges)
last-turned edges n from middle place turned at =
    let es = reverse edges in
    let k = below es middle in
    let start : place ≡ length edges - k = omega (arith, at) in
    let is : reverse (drop place edges) ≡ take k es = ap (λ m. reverse (drop m edges)) start ∙ last-edges edges k (omega (arith, at)) in
    record {
      ascend = rw is (ascend-take es k turned.ascend);
      ends = rw is (all-take (λ e. (e.target < n) × (e.source < n)) es k turned.ends);
      least = rw is (least-take es k from turned.least);
    }

pub first-turned : (edges : List Edge) (n from middle place : ℕ) → AreTurned n from edges → length edges ≡ place + below (reverse edges) middle → AreTurned n middle (take place edges)
first-turned edges n from middle place turned at =
    let es = reverse edges in
    let k = below es middle in
    let end : place ≡ length edges - k = omega (arith, at) in
    let is : reverse (take place edges) ≡ drop k es = ap (λ m. reverse (take m edges)) end ∙ other-edges edges k (omega (arith, at)) in
    record {
      ascend = rw is (ascend-drop es k turned.ascend);
      ends = rw is (all-drop (λ e. (e.target < n) × (e.source < n)) es k turned.ends);
      least = rw is (least-drop es middle turned.ascend);
    }

-- their lists, one part after the other
pub both-lists : (edges : List Edge) (n from middle to place : ℕ) → AreTurned n from edges → length edges ≡ place + below (reverse edges) middle → from ≤ middle → middle ≤ to →
    sources_between n (reverse (drop place edges)) from middle ++ sources_between n (reverse (take place edges)) middle to ≡ sources_between n (reverse edges) from to
both-lists edges n from middle to place turned at first last =
    let es = reverse edges in
    let k = below es middle in
    let cut : place ≡ length edges - k = omega (arith, at) in
    let low : reverse (drop place edges) ≡ take k es = ap (λ m. reverse (drop m edges)) cut ∙ last-edges edges k (omega (arith, at)) in
    let high : reverse (take place edges) ≡ drop k es = ap (λ m. reverse (take m edges)) cut ∙ other-edges edges k (omega (arith, at)) in
    rw (
      low,
      high,
      lists-same (sources_of n (take k es)) (sources_of n es) from (middle - from) (λ x le lt. sources-take es n x middle (omega (arith, lt, first)) turned.ascend),
      lists-same (sources_of n (drop k es)) (sources_of n es) middle (to - middle) (λ x le lt. sources-drop es n x middle le turned.ascend),
    )
    (lists-join (sources_of n es) from middle to first last)

-- ---- where targets begin

-- an edge that is not below the target has those below it behind itself
pub place-above : (edges : List Edge) (x i : ℕ) (d : Edge) → EdgesAscend (reverse edges) → i < length edges → x ≤ (get_or edges i d).target → (i + 1) + below (reverse edges) x ≤ length edges
place-above edges x i d up lt le =
    let k : ℕ = length edges - 1 - i in
    let back : length edges - 1 - k ≡ i = omega (arith, lt) in
    let at : get_or (reverse edges) k d ≡ get_or edges i d = get_or-reverse edges k d (omega (arith, lt)) ∙ ap (λ m. get_or edges m d) back in
    elim (cases_lt k (below (reverse edges) x)) [
      | inl less ↦
          let low : (get_or edges i d).target < x = subst (λ (e : Edge). e.target < x) at (below-before (reverse edges) x k d up less) in
          absurd (omega (arith, low, le))
      | inr more ↦ omega (arith, lt, more)
    ]

-- one that is below it has those that are not before itself
pub place-below : (edges : List Edge) (x i : ℕ) (d : Edge) → EdgesAscend (reverse edges) → i < length edges → (get_or edges i d).target < x → length edges ≤ i + below (reverse edges) x
place-below edges x i d up lt low =
    let k : ℕ = length edges - 1 - i in
    let back : length edges - 1 - k ≡ i = omega (arith, lt) in
    let at : get_or (reverse edges) k d ≡ get_or edges i d = get_or-reverse edges k d (omega (arith, lt)) ∙ ap (λ m. get_or edges m d) back in
    elim (cases_lt k (below (reverse edges) x)) [
      | inl less ↦ omega (arith, lt, less)
      | inr more ↦
          let high : x ≤ (get_or edges i d).target = subst (λ (e : Edge). x ≤ e.target) at (below-after (reverse edges) x k d up more (omega (arith, lt, length-reverse edges))) in
          absurd (omega (arith, low, high))
    ]

-- ---- a block, target by target

pub none-between : (es : List Edge) (n x : ℕ) → sources_between n es x x ≡ []
none-between es n x = let none : x - x ≡ 0 = omega arith in ap (λ k. map (sources_of n es) (range_with_len x k)) none

pub all-between : (es : List Edge) (n : ℕ) → sources_between n es 0 n ≡ source_lists n es
all-between es n = let all : n - 0 ≡ n = omega arith in ap (λ k. map (sources_of n es) (range_with_len 0 k)) all

pub block-start : (edges : List Edge) (n first : ℕ) → AreTurned n first edges → reverse (take (length edges) edges) ≡ drop (below (reverse edges) first) (reverse edges)
block-start edges n first turned = ap reverse (take-length edges) ∙ sym (ap (λ k. drop k (reverse edges)) turned.least)

-- the row of a target, where the last edges that are left are cut off
pub block-row : (es edges : List Edge) (n x left k : ℕ) → EdgesAscend es → AllBelow n es → left ≤ length edges → reverse (take left edges) ≡ drop (below es x) es → k ≡ below (reverse (take left edges)) (x + 1) → k ≤ length (take left edges) →
    map (λ (e : Edge). e.source) (reverse (take (left - (left - k)) (drop (left - k) edges))) ≡ sources_of n es x
block-row es edges n x left k up all inside is count few =
    let long : length (take left edges) ≡ left = length-take-le left edges inside in
    let size : left - (left - k) ≡ k = omega (arith, few, long) in
    let whole : (left - k) + k ≡ left = omega (arith, few, long) in
    let end : left - k ≡ length (take left edges) - k = omega (arith, long) in
    ap (λ m. map (λ (e : Edge). e.source) (reverse (take m (drop (left - k) edges)))) size
    ∙ ap (λ (l : List Edge). map (λ (e : Edge). e.source) (reverse l)) (sym (drop-take (left - k) k edges) ∙ ap (λ m. drop (left - k) (take m edges)) whole ∙ ap (λ m. drop m (take left edges)) end)
    ∙ last-sources es (take left edges) n x k up all is count few

-- what is left without them
pub block-left : (es edges : List Edge) (x left k : ℕ) → EdgesAscend es → left ≤ length edges → reverse (take left edges) ≡ drop (below es x) es → k ≡ below (reverse (take left edges)) (x + 1) → k ≤ length (take left edges) →
    reverse (take (left - k) edges) ≡ drop (below es (x + 1)) es
block-left es edges x left k up inside is count few =
    let long : length (take left edges) ≡ left = length-take-le left edges inside in
    let end : left - k ≡ length (take left edges) - k = omega (arith, long) in
    ap reverse (sym (take-take (left - k) left edges (omega arith)) ∙ ap (λ m. take m (take left edges)) end)
    ∙ left-next es (take left edges) x k up is count few

-- the lists are those of the edges before these were turned round
pub turned-lists : (es turned : List Edge) (n : ℕ) (lists : List (List ℕ)) → turned ≡ reverse es → lists ≡ source_lists n (reverse turned) → lists ≡ source_lists n es
turned-lists es turned n lists is are = are ∙ ap (λ (l : List Edge). source_lists n l) (ap reverse is ∙ reverse-reverse es)

-- the lists of a round, and those that are left
pub round-lists : (edges : List Edge) (n from middle to place : ℕ) (before made codes after : List (List ℕ)) → AreTurned n from edges → length edges ≡ place + below (reverse edges) middle → from ≤ middle → middle ≤ to →
    made ≡ sources_between n (reverse (drop place edges)) from middle → codes ≡ made → after ≡ before ++ codes →
    after ++ sources_between n (reverse (take place edges)) middle to ≡ before ++ sources_between n (reverse edges) from to
round-lists edges n from middle to place before made codes after turned at first last are coded joined =
    let rest = sources_between n (reverse (take place edges)) middle to in
    ap (λ (ls : List (List ℕ)). ls ++ rest) (joined ∙ ap (λ (ls : List (List ℕ)). before ++ ls) (coded ∙ are))
    ∙ append_assoc before (sources_between n (reverse (drop place edges)) from middle) rest
    ∙ ap (λ (ls : List (List ℕ)). before ++ ls) (both-lists edges n from middle to place turned at first last)
