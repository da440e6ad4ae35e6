-- What is kept is told by the batches in their order: a replica is made of what it shows alone.
use Rattle.std.proofs.Common.{◌≡◌, ℕ, zero, suc, ◌+◌, ◌*◌, ◌<◌, ◌≤◌, List, [], ◌∷◌, ◌++◌, length, get_or, drop, refl, ap, sym, ◌∙◌, subst, arith, IfSome}
use Rattle.replica.proofs.Names.{Option, Some, None, same_lists, get_or_default, append-nil, BatchValue, PartValue, PlanValue, IsPlan, State, kept_batches}
use Rattle.std.proofs.lemmas.Option.{IfSome_then}
use Rattle.replica.specs.declared.saved.Saved.{Saved}
use Rattle.replica.specs.Kept.{AreEarly}
use Rattle.replica.specs.Saved.{IsRebuilt, order_key}
use Rattle.replica.specs.Seen.{IsState}
use Rattle.replica.proofs.AheadLemmas.{batches_in}
use Rattle.replica.proofs.KeptLemmas.Kept.{three_levels}
use Rattle.replica.proofs.RunsLemmas.Same.{same_state}

-- the first of the batches is behind that place
abbrev Heads : ℕ → List BatchValue → Type 0
Heads n batches = (b : BatchValue) (rest : List BatchValue) → batches ≡ b ∷ rest → n < order_key b

-- slots of one superstep, by source from k on
abbrev Named : ℕ → ℕ → List (Option BatchValue) → Type 0
Named s k slots = (i : ℕ) → IfSome (get_or slots i None) (λ b. order_key b ≡ s * 64 + (k + i))

named_rest : (s k : ℕ) (x : Option BatchValue) (rest : List (Option BatchValue)) → Named s k (x ∷ rest) → Named s (k + 1) rest
named_rest s k x rest named i = IfSome_then (get_or rest i None) (named (suc i)) (λ b is. is ∙ omega arith)

no_heads : (n : ℕ) → Heads n []
no_heads n b rest e = absurd (let size = ap (λ (l : List BatchValue). length l) e in omega (arith, size))

heads : (s k m : ℕ) (slots : List (Option BatchValue)) (more : List BatchValue) → m < s * 64 + k → Named s k slots → Heads m more → Heads m (batches_in slots ++ more)
unfolding batches_in
heads s k m [] more lt named after = after
heads s k m (None ∷ rest) more lt named after = heads s (k + 1) m rest more (omega (arith, lt)) (named_rest s k None rest named) after
heads s k m (Some y ∷ rest) more lt named after =
    λ b others e. let same : y ≡ b = ap (λ (l : List BatchValue). get_or l 0 y) e in
    let key : order_key y ≡ s * 64 + (k + 0) = named 0 in
    subst (λ (a : BatchValue). m < order_key a) same (omega (arith, lt, key))

weaken : (m n : ℕ) (more : List BatchValue) → n ≤ m → Heads m more → Heads n more
weaken m n more le after b rest e = let lt = after b rest e in omega (arith, lt, le)

-- THE SLOTS: they are told by their batches, whatever follows later
split : (s k m : ℕ) (xs ys : List (Option BatchValue)) (us vs : List BatchValue) → length xs ≡ length ys → s * 64 + k + length xs ≤ m + 1 → Named s k xs → Named s k ys → Heads m us → Heads m vs →
    batches_in xs ++ us ≡ batches_in ys ++ vs → (xs ≡ ys) × (us ≡ vs)
unfolding batches_in
split s k m [] [] us vs size fits nx ny hu hv e = (refl, e)
split s k m [] (y ∷ ys) us vs size fits nx ny hu hv e = absurd (omega (arith, size))
split s k m (x ∷ xs) [] us vs size fits nx ny hu hv e = absurd (omega (arith, size))
split s k m (None ∷ xs) (None ∷ ys) us vs size fits nx ny hu hv e =
    grind (arith, split s (k + 1) m xs ys us vs (omega (arith, size)) (omega (arith, fits)) (named_rest s k None xs nx) (named_rest s k None ys ny) hu hv e, named_rest)
split s k m (Some x ∷ xs) (Some y ∷ ys) us vs size fits nx ny hu hv e =
    let same : x ≡ y = ap (λ (l : List BatchValue). get_or l 0 x) e in
    let rest = split s (k + 1) m xs ys us vs (omega (arith, size)) (omega (arith, fits)) (named_rest s k (Some x) xs nx) (named_rest s k (Some y) ys ny) hu hv (ap (λ (l : List BatchValue). drop 1 l) e) in
    (rw (same, rest.0) refl, rest.1)
split s k m (Some x ∷ xs) (None ∷ ys) us vs size fits nx ny hu hv e =
    let key : order_key x ≡ s * 64 + (k + 0) = nx 0 in
    let later = heads s (k + 1) (s * 64 + k) ys vs (omega arith) (named_rest s k None ys ny) (weaken m (s * 64 + k) vs (omega (arith, fits)) hv) x _ (sym e) in
    absurd (omega (arith, key, later))
split s k m (None ∷ xs) (Some y ∷ ys) us vs size fits nx ny hu hv e =
    let key : order_key y ≡ s * 64 + (k + 0) = ny 0 in
    let later = heads s (k + 1) (s * 64 + k) xs us (omega arith) (named_rest s k None xs nx) (weaken m (s * 64 + k) us (omega (arith, fits)) hu) y _ e in
    absurd (omega (arith, key, later))

row_named : (plan : PlanValue) (p t i : ℕ) (early : List (List (Option BatchValue))) → AreEarly plan p t early → Named (t + 1 + i) 0 (get_or early i [])
row_named plan p t i early e q = grind arith

-- THE TABLE: it is told by its batches in their order
pub table_is_told : (plan : PlanValue) (p t : ℕ) (early other : List (List (Option BatchValue))) → IsPlan plan → AreEarly plan p t early → AreEarly plan p t other → kept_batches early ≡ kept_batches other → early ≡ other
table_is_told plan p t early other ok e o same =
    same_lists early other (e.table.levels ∙ sym o.table.levels)
    (λ i d lt. get_or_default early i d [] lt ∙ at_level i (omega (arith, lt, e.table.levels)) ∙ sym (get_or_default other i d [] (omega (arith, lt, e.table.levels, o.table.levels))))
  where
    ours : ℕ → List (Option BatchValue)
    ours i = get_or early i []

    others : ℕ → List (Option BatchValue)
    others i = get_or other i []

    long : (i : ℕ) → i < 3 → length (ours i) ≡ length (others i)
    long i lt = e.table.sources i lt ∙ sym (o.table.sources i lt)

    few : (i : ℕ) → i < 3 → (t + 1 + i) * 64 + 0 + length (ours i) ≤ (t + 1 + i) * 64 + 63 + 1
    few i lt = omega (arith, e.table.sources i lt, ok.parts_to)

    whole : batches_in (ours 0) ++ (batches_in (ours 1) ++ batches_in (ours 2)) ≡ batches_in (others 0) ++ (batches_in (others 1) ++ batches_in (others 2))
    whole = sym (three_levels early e.table.levels) ∙ same ∙ three_levels other o.table.levels

    last_heads : (slots : List (Option BatchValue)) → Named (t + 1 + 2) 0 slots → Heads ((t + 1 + 1) * 64 + 63) (batches_in slots)
    last_heads slots named = subst (λ (l : List BatchValue). Heads ((t + 1 + 1) * 64 + 63) l) (append-nil (batches_in slots)) (heads (t + 1 + 2) 0 ((t + 1 + 1) * 64 + 63) slots [] (omega arith) named (no_heads _))

    first : (ours 0 ≡ others 0) × (batches_in (ours 1) ++ batches_in (ours 2) ≡ batches_in (others 1) ++ batches_in (others 2))
    first = split (t + 1 + 0) 0 ((t + 1 + 0) * 64 + 63) (ours 0) (others 0) _ _ (long 0 (omega arith)) (few 0 (omega arith)) (row_named plan p t 0 early e) (row_named plan p t 0 other o)
        (heads (t + 1 + 1) 0 ((t + 1 + 0) * 64 + 63) (ours 1) (batches_in (ours 2)) (omega arith) (row_named plan p t 1 early e) (weaken ((t + 1 + 1) * 64 + 63) ((t + 1 + 0) * 64 + 63) _ (omega arith) (last_heads (ours 2) (row_named plan p t 2 early e))))
        (heads (t + 1 + 1) 0 ((t + 1 + 0) * 64 + 63) (others 1) (batches_in (others 2)) (omega arith) (row_named plan p t 1 other o) (weaken ((t + 1 + 1) * 64 + 63) ((t + 1 + 0) * 64 + 63) _ (omega arith) (last_heads (others 2) (row_named plan p t 2 other o))))
        whole

    second : (ours 1 ≡ others 1) × (batches_in (ours 2) ≡ batches_in (others 2))
    second = split (t + 1 + 1) 0 ((t + 1 + 1) * 64 + 63) (ours 1) (others 1) _ _ (long 1 (omega arith)) (few 1 (omega arith)) (row_named plan p t 1 early e) (row_named plan p t 1 other o)
        (last_heads (ours 2) (row_named plan p t 2 early e)) (last_heads (others 2) (row_named plan p t 2 other o)) first.1

    nothing : List BatchValue
    nothing = []

    third : (ours 2 ≡ others 2) × (nothing ≡ nothing)
    third = split (t + 1 + 2) 0 ((t + 1 + 2) * 64 + 63) (ours 2) (others 2) nothing nothing (long 2 (omega arith)) (few 2 (omega arith)) (row_named plan p t 2 early e) (row_named plan p t 2 other o)
        (no_heads _) (no_heads _) (append-nil (batches_in (ours 2)) ∙ second.1 ∙ sym (append-nil (batches_in (others 2))))

    at_level : (i : ℕ) → i < 3 → ours i ≡ others i
    at_level zero lt = first.0
    at_level (suc zero) lt = second.0
    at_level (suc (suc zero)) lt = third.0
    at_level (suc (suc (suc n))) lt = absurd (omega (arith, lt))

-- THE REPLICA: no two are made of the same
pub rebuilt_same : (part : PartValue) (s : Saved) (v w : State) → IsState v → IsState w → IsRebuilt part s v → IsRebuilt part s w → v ≡ w
rebuilt_same part s v w ok also a b =
    let parts : v.part ≡ w.part = a.part_is ∙ sym b.part_is in
    let step : v.superstep ≡ w.superstep = a.superstep ∙ sym b.superstep in
    let theirs : AreEarly v.part.plan v.part.number v.superstep w.early = rw (parts, step) also.early in
    same_state v w parts step (a.rows ∙ sym b.rows) (a.marks ∙ sym b.marks) (a.tallies ∙ sym b.tallies) (a.sums ∙ sym b.sums) (a.heard ∙ sym b.heard) (a.heard_change ∙ sym b.heard_change) (a.accumulated ∙ sym b.accumulated)
    (table_is_told v.part.plan v.part.number v.superstep v.early w.early ok.part.plan ok.early theirs (a.early ∙ sym b.early))
