-- Feed masks, bit by bit.
use Rattle.std.proofs.Common.{◌≡◌, ◌≢◌, ◌∙◌, ℕ, ◌+◌, ◌-◌, ◌*◌, ◌/◌, ◌%◌, ◌^◌, ◌<◌, ◌≤◌, Bool, true, false, ◌&&◌, ◌||◌, ◌==◌, List, [], ◌∷◌, ◌++◌, length, map, get_or, set, bit_or, take, drop, replicate, refl, ap, arith, sym, subst, inl, inr, length-set, append_assoc}
use Rattle.std.specs.Int.{bit_at}
use Rattle.std.specs.List.{All, list_any, range_with_len}
use Rattle.std.proofs.Math.Nat.{div-add-mod, mod-lt, mul-le-mul_left}
use Rattle.std.proofs.lemmas.Nat.{div-mul-add, mod-mul-add, or_lt}
use Rattle.std.proofs.Math.Pow.{pow-lt}
use Rattle.std.proofs.Math.Seq.{get_or-append_seam}
use Rattle.std.proofs.lemmas.Nat.Bits.{bit_at-zero, bit_at_or, bit_at-pow_same, bit_at-pow_other}
use Rattle.std.proofs.lemmas.Bool.{cases_lt, eqb-true, eq-eqb}
use Rattle.std.proofs.lemmas.List.{get_or-set_same, get_or-set_other, get_or-map, length-map, length-append, map-append, ext_get_or, append-nil, take_all, drop_all}
use Rattle.std.proofs.lemmas.List.FromFn.{length-range_with_len, get_or-map-range_with_len}
use Rattle.std.proofs.lemmas.List.Folds.{list_any-append}
use Rattle.ball_model.specs.Graph.{Graph, is_counted}
use Rattle.ball_model.specs.PlanValue.{vertices_of, part_size}
use Rattle.ball_model.specs.Job.{Job, PartValue, IsPart, part_of, feeds_into, feed_mask}
use Rattle.ball_model.proofs.PartLemmas.{part_size-is, vertices_of-strided}
use Rattle.ball_model.proofs.MaskLemmas.{bit, mask-is, mask-bit}
use Rattle.ball_model.specs.Masks.{has_bit}
use Rattle.graph.specs.Feeding.{AreMasks, edges_into, width_of}
use Rattle.graph.specs.declared.masks.Masks.{Masks}
use Rattle.graph.specs.declared.masks.Masks.TheVariants.{Narrow, Wide}
use Rattle.std.proofs.Math.Bool.{or-false, or-true}
use Rattle.ball_model.proofs.BoolLemmas.{by_cases}
use Rattle.graph.proofs.RangeLemmas.{copies-at}

-- each mask has room for at most 64 bits
pub width-few : (masks : Masks) → width_of masks ≤ 64
width-few (Narrow _) = omega arith
width-few (Wide _) = omega arith

-- no edges, no bits
pub masks-none : (step first parts n : ℕ) → AreMasks step first parts [] (replicate n 0)
masks-none step first parts n = record {
  fits = λ i. rw (copies-at {X = ℕ} n i 0) (omega arith);
  bits = λ i r lt small. rw (copies-at {X = ℕ} n i 0) (bit_at-zero r);
}

-- an edge of a vertex that has no mask
mark-other : (step first i y : ℕ) → first < step → (y % step ≡ first → ⊥) → (y == i * step + first) ≡ false
mark-other step first i y lt other =
    by_cases (y == i * step + first) _
    (λ t. absurd (other (ap (λ k. k % step) (eqb-true y (i * step + first) t) ∙ mod-mul-add i step first lt)))
    (λ f. f)

any-other : (step first parts i r y x : ℕ) (es : List (ℕ × ℕ)) → (y == i * step + first) ≡ false →
    list_any (λ e. (e.0 == i * step + first) && (e.1 % parts == r)) (es ++ (y, x) ∷ []) ≡ list_any (λ e. (e.0 == i * step + first) && (e.1 % parts == r)) es
any-other step first parts i r y x es off =
    list_any-append (λ e. (e.0 == i * step + first) && (e.1 % parts == r)) es ((y, x) ∷ []) ∙ rw off (or-false (list_any (λ e. (e.0 == i * step + first) && (e.1 % parts == r)) es))

pub masks-other : (step first parts y x : ℕ) (es : List (ℕ × ℕ)) (masks : List ℕ) → first < step → (y % step ≡ first → ⊥) → AreMasks step first parts es masks → AreMasks step first parts (es ++ (y, x) ∷ []) masks
masks-other step first parts y x es masks lt other h = record {
  fits = h.fits;
  bits = λ i r low small. h.bits i r low small ∙ ap bit (sym (any-other step first parts i r y x es (mark-other step first i y lt other)));
}

-- a bit is set, and the others stay
set-same : (n k : ℕ) → bit_at (bit_or n (2 ^ k)) k ≡ 1
set-same n k = omega (arith, bit_at_or n (2 ^ k) k, bit_at-pow_same k)

set-other : (n k i : ℕ) → i ≢ k → bit_at (bit_or n (2 ^ k)) i ≡ bit_at n i
set-other n k i apart = omega (arith, bit_at_or n (2 ^ k) i, bit_at-pow_other k i apart)

-- an edge of the vertex at place j sets one bit of its mask
pub masks-own : (step first parts y x j : ℕ) (es : List (ℕ × ℕ)) (masks : List ℕ) → first < step → x % parts < 64 → y ≡ j * step + first → j < length masks → AreMasks step first parts es masks →
    AreMasks step first parts (es ++ (y, x) ∷ []) (set masks j (bit_or (get_or masks j 0) (2 ^ (x % parts))))
masks-own step first parts y x j es masks lt small0 is low h =
    let r0 = x % parts in
    let mask = bit_or (get_or masks j 0) (2 ^ r0) in
    let mask_fits : mask < 2 ^ 64 = or_lt 64 (get_or masks j 0) (2 ^ r0) (h.fits j) (pow-lt small0) in
    record {
      fits = λ i. by_cases (i == j) _
          (λ t.
          let at : i ≡ j = eqb-true i j t in
          let now : get_or (set masks j mask) i 0 ≡ mask = rw at (get_or-set_same masks j mask 0 low) in
          rw now mask_fits)
          (λ f.
          let apart : i ≢ j = λ bad. absurd (let no_ : true ≡ false = sym (eq-eqb j j refl) ∙ ap (λ (k : ℕ). k == j) (sym bad) ∙ f in cc) in
          let kept : get_or (set masks j mask) i 0 ≡ get_or masks i 0 = rw get_or-set_other refl in
          rw kept (h.fits i));
      bits = λ i r within small.
          let inside : i < length masks = simp length-set at within in
          let test : ℕ × ℕ → Bool = λ e. (e.0 == i * step + first) && (e.1 % parts == r) in
          let whole : list_any test (es ++ (y, x) ∷ []) ≡ (list_any test es || (((y == i * step + first) && (r0 == r)) || false)) = list_any-append test es ((y, x) ∷ []) in
          by_cases (i == j) _
          (λ t.
          let at : i ≡ j = eqb-true i j t in
          let here : (y == i * step + first) ≡ true = rw (at, is) (eq-eqb (j * step + first) (j * step + first) refl) in
          let now : get_or (set masks j (bit_or (get_or masks j 0) (2 ^ r0))) i 0 ≡ bit_or (get_or masks i 0) (2 ^ r0) =
          rw at (get_or-set_same masks j _ 0 low) in
          by_cases (r0 == r) _
          (λ u.
          let same : r0 ≡ r = eqb-true r0 r u in
          rw (now, whole, here, u, or-true (list_any test es)) (subst (λ (k : ℕ). bit_at (bit_or (get_or masks i 0) (2 ^ r0)) k ≡ 1) same (set-same (get_or masks i 0) r0)))
          (λ f.
          let apart : r ≢ r0 = λ bad. absurd (let no_ : true ≡ false = sym (eq-eqb r0 r0 refl) ∙ ap (λ (k : ℕ). r0 == k) (sym bad) ∙ f in cc) in
          rw (now, whole, here, f, or-false (list_any test es)) (set-other (get_or masks i 0) r0 r apart ∙ h.bits i r inside small)))
          (λ f.
          let apart : i ≢ j = λ bad. absurd (let no_ : true ≡ false = sym (eq-eqb j j refl) ∙ ap (λ (k : ℕ). k == j) (sym bad) ∙ f in cc) in
          let off : (y == i * step + first) ≡ false =
          by_cases (y == i * step + first) _
          (λ t. absurd (apart (sym (div-mul-add i step first lt) ∙ ap (λ k. k / step) (sym (eqb-true y (i * step + first) t) ∙ is) ∙ div-mul-add j step first lt)))
          (λ g. g) in
          let kept : get_or (set masks j (bit_or (get_or masks j 0) (2 ^ r0))) i 0 ≡ get_or masks i 0 = rw get_or-set_other refl in
          rw (kept, any-other step first parts i r y x es off) (h.bits i r inside small));
    }

-- the index of a vertex in its partition is below the partition's size
pub place-within : (n parts p y : ℕ) → p < parts → y < n → y % parts ≡ p → y / parts < part_size n parts p
place-within n parts p y lt low at =
    let q = y / parts in
    let m = n + (parts - 1 - p) in
    let whole : parts * q + y % parts ≡ y = div-add-mod y parts in
    let all : parts * (m / parts) + m % parts ≡ m = div-add-mod m parts in
    let rest : m % parts < parts = mod-lt m (omega arith) in
    rw (part_size-is n parts p lt)
    (elim (cases_lt q (m / parts)) [
      | inl less ↦ less
      | inr more ↦ let up : parts * (m / parts) ≤ parts * q = mul-le-mul_left parts more in absurd (omega arith)
    ])

-- the vertex at an index is below the number of vertices
pub vertex-within : (n parts p i : ℕ) → p < parts → i < part_size n parts p → i * parts + p < n
vertex-within n parts p i lt low =
    let m = n + (parts - 1 - p) in
    let size : part_size n parts p ≡ m / parts = part_size-is n parts p lt in
    let all : parts * (m / parts) + m % parts ≡ m = div-add-mod m parts in
    let up : parts * (i + 1) ≤ parts * (m / parts) = mul-le-mul_left parts (omega arith) in
    let flip : parts * (i + 1) ≡ i * parts + parts = grind arith in
    omega arith

-- vertex i of a partition
vertex-at : (n parts p i : ℕ) → p < parts → i < part_size n parts p → get_or (vertices_of n parts p) i 0 ≡ i * parts + p
vertex-at n parts p i lt inside =
    ap (λ (l : List ℕ). get_or l i 0) (vertices_of-strided n parts p lt) ∙ get_or-map-range_with_len (λ k. k * parts + p) 0 (part_size n parts p) i i 0 inside (omega arith)

-- the masks of all edges are the feed masks
masks-feeds-of : (g : Graph) (n step first parts : ℕ) (masks : List ℕ) → first < step → 1 ≤ parts → parts ≤ 64 → length masks ≡ part_size n step first → AreMasks step first parts g.edges masks →
    masks ≡ map (λ x. feed_mask g parts x) (vertices_of n step first)
masks-feeds-of g n step first parts masks lt some few size h =
    let reach : length (range_with_len 0 (part_size n step first)) ≡ part_size n step first = simp length-range_with_len in
    let long : length (map (λ x. feed_mask g parts x) (vertices_of n step first)) ≡ part_size n step first = simp length-map in
    ext_get_or 0 masks (map (λ x. feed_mask g parts x) (vertices_of n step first)) (size ∙ sym long)
    (λ i low.
    let inside : i < part_size n step first = omega arith in
    let at = vertex-at n step first i lt inside in
    mask-is g parts (i * step + first) (get_or masks i 0) (omega (arith, some)) few (h.fits i) (λ r fits. h.bits i r low fits)
    ∙ ap (feed_mask g parts) (sym at)
    ∙ sym (get_or-map (λ x. feed_mask g parts x) (vertices_of n step first) i 0 0 inside))

pub masks-feeds : (g : Graph) (n m step first parts : ℕ) (masks : List ℕ) → n ≡ m → first < step → 1 ≤ parts → parts ≤ 64 → length masks ≡ part_size n step first → AreMasks step first parts g.edges masks →
    masks ≡ map (λ x. feed_mask g parts x) (vertices_of m step first)
masks-feeds g n m step first parts masks same lt some few size h = subst (λ (k : ℕ). masks ≡ map (λ x. feed_mask g parts x) (vertices_of k step first)) same (masks-feeds-of g n step first parts masks lt some few size h)

-- what a slice of a whole list was made of is that list
pub refill : {X : Type 0} (xs ys : List X) (n : ℕ) → n ≡ length ys → length xs ≡ length ys → take n (xs ++ drop (length xs) ys) ≡ xs
refill xs ys n count same =
    let none : drop (length xs) ys ≡ [] = drop_all (length xs) ys (omega arith) in
    rw (none, append-nil xs) (take_all n xs (omega arith))

-- the feed mask of vertex i of a part
part-mask : (j : Job) (p i : ℕ) → p < j.plan.parts → i < length (part_of j p).preds → get_or (part_of j p).feeds i 0 ≡ feed_mask j.graph j.plan.parts (i * j.plan.parts + p)
unfolding part_of
part-mask j p i lt low =
    let n = j.graph.vertices in
    let parts = j.plan.parts in
    let inside : i < part_size n parts p = simp length-map at low in
    get_or-map (λ x. feed_mask j.graph parts x) (vertices_of n parts p) i 0 0 inside ∙ ap (feed_mask j.graph parts) (vertex-at n parts p i lt inside)

-- whether vertex i of a part is counted
part-count : (j : Job) (p i : ℕ) → p < j.plan.parts → i < length (part_of j p).preds → get_or (part_of j p).counted i false ≡ is_counted j.graph (i * j.plan.parts + p)
unfolding part_of
part-count j p i lt low =
    let n = j.graph.vertices in
    let parts = j.plan.parts in
    let inside : i < part_size n parts p = simp length-map at low in
    get_or-map (λ x. is_counted j.graph x) (vertices_of n parts p) i 0 false inside ∙ ap (is_counted j.graph) (vertex-at n parts p i lt inside)

number-is : (j : Job) (p : ℕ) (v : PartValue) → v ≡ part_of j p → v.number ≡ p
unfolding part_of
number-is j p v is = ap (λ (w : PartValue). w.number) is

plan-is : (j : Job) (p : ℕ) (v : PartValue) → v ≡ part_of j p → v.plan ≡ j.plan
unfolding part_of
plan-is j p v is = ap (λ (w : PartValue). w.plan) is

-- the bits of the feed mask of vertex i of a part
pub feeds-bits : (v : PartValue) (m i : ℕ) → IsPart v → i < length v.preds → m ≡ get_or v.feeds i 0 → (j : Job) (p r : ℕ) → v ≡ part_of j p → has_bit m r ≡ feeds_into j.graph j.plan.parts (i * j.plan.parts + p) r
feeds-bits v m i part low at j p r is =
    let lt : p < j.plan.parts = rw (number-is j p v is, plan-is j p v is) at part.number in
    let inside : i < length (part_of j p).preds = subst (λ (w : PartValue). i < length w.preds) is low in
    ap (λ k. has_bit k r) (at ∙ ap (λ (w : PartValue). get_or w.feeds i 0) is ∙ part-mask j p i lt inside) ∙ mask-bit j.graph j.plan.parts (i * j.plan.parts + p) r (omega (arith, lt))

-- and whether it is counted
pub counts-graph : (v : PartValue) (b : Bool) (i : ℕ) → IsPart v → i < length v.preds → b ≡ get_or v.counted i false → (j : Job) (p : ℕ) → v ≡ part_of j p → b ≡ is_counted j.graph (i * j.plan.parts + p)
counts-graph v b i part low at j p is =
    let lt : p < j.plan.parts = rw (number-is j p v is, plan-is j p v is) at part.number in
    let inside : i < length (part_of j p).preds = subst (λ (w : PartValue). i < length w.preds) is low in
    at ∙ ap (λ (w : PartValue). get_or w.counted i false) is ∙ part-count j p i lt inside

-- the next of some vertices is a vertex
pub next-below : (n : ℕ) (ys before after : List ℕ) (y : ℕ) → All (λ z. z < n) ys → ys ≡ before ++ y ∷ after → y < n
next-below n ys before after y all is =
    let at : get_or ys (length before) 0 ≡ y = ap (λ l. get_or l (length before) 0) is ∙ get_or-append_seam before y after 0 in
    omega (arith, at, all (length before) 0 (omega (arith, ap length is, length-append before (y ∷ after))))

-- the edges from one source more
pub edges-more : (es : List (ℕ × ℕ)) (x y : ℕ) (ys : List ℕ) → (es ++ edges_into x ys) ++ (y, x) ∷ [] ≡ es ++ edges_into x (ys ++ y ∷ [])
edges-more es x y ys =
    append_assoc es (edges_into x ys) ((y, x) ∷ []) ∙ ap (λ (l : List (ℕ × ℕ)). es ++ l) (sym (map-append (λ z. (z, x)) ys (y ∷ [])))
