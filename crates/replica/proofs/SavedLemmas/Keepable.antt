-- What a replica shows fits its part.
use Rattle.std.proofs.Common.{◌≡◌, ℕ, zero, suc, ◌+◌, ◌*◌, ◌^◌, ◌<◌, ◌≤◌, List, [], ◌∷◌, ◌++◌, length, map, get_or, sym, subst, arith, IfSome}
use Rattle.replica.proofs.Names.{Option, Some, None, All, BatchValue, kept_batches, PartValue, PlanValue, IsPlan, State, early_at}
use Rattle.replica.proofs.AheadLemmas.{batches_in}
use Rattle.replica.specs.declared.saved.Saved.{Saved}
use Rattle.replica.specs.Kept.{AreEarly, IsOfName}
use Rattle.replica.specs.Saved.{Fits, IsKeepable, IsRebuilt, MayKeep, MayBeKept, order_key}
use Rattle.replica.proofs.KeptLemmas.Kept.{three_levels}

-- ---- batches in their order

-- a batch that may be kept, at this place in the order
record Placed (plan : PlanValue) (p t place : ℕ) (b : BatchValue) : Type 0 where
  key : order_key b ≡ place
  may : MayKeep plan p t b

-- batches that may be kept, ascending, the first at `from` or behind it, and all before `to`
abbrev Within : PlanValue → ℕ → ℕ → ℕ → ℕ → List BatchValue → Type 0
Within plan p t from to [] = from ≤ to
Within plan p t from to (b ∷ rest) = (from ≤ order_key b) × (MayKeep plan p t b × Within plan p t (order_key b + 1) to rest)

within_earlier : (plan : PlanValue) (p t from before to : ℕ) (xs : List BatchValue) → before ≤ from → Within plan p t from to xs → Within plan p t before to xs
within_earlier plan p t from before to [] le w = omega (arith, le, w)
within_earlier plan p t from before to (b ∷ rest) le w = (omega (arith, le, w.0), w.1)

within_later : (plan : PlanValue) (p t from to behind : ℕ) (xs : List BatchValue) → to ≤ behind → Within plan p t from to xs → Within plan p t from behind xs
within_later plan p t from to behind [] le w = omega (arith, le, w)
within_later plan p t from to behind (b ∷ rest) le w = (w.0, (w.1.0, within_later plan p t (order_key b + 1) to behind rest le w.1.1))

within_both : (plan : PlanValue) (p t from middle to : ℕ) (xs ys : List BatchValue) → Within plan p t from middle xs → Within plan p t middle to ys → Within plan p t from to (xs ++ ys)
within_both plan p t from middle to [] ys w v = within_earlier plan p t middle from to ys w v
within_both plan p t from middle to (b ∷ rest) ys w v = (w.0, (w.1.0, within_both plan p t (order_key b + 1) middle to rest ys w.1.1 v))

within_each : (plan : PlanValue) (p t from to : ℕ) (xs : List BatchValue) → Within plan p t from to xs → All (MayKeep plan p t) xs
within_each plan p t from to [] w k d lt = absurd (omega (arith, lt))
within_each plan p t from to (b ∷ rest) w zero d lt = w.1.0
within_each plan p t from to (b ∷ rest) w (suc k) d lt = within_each plan p t (order_key b + 1) to rest w.1.1 k d (omega (arith, lt))

within_from : (plan : PlanValue) (p t from to : ℕ) (xs : List BatchValue) (k : ℕ) → Within plan p t from to xs → k < length xs → from ≤ get_or (map order_key xs) k 0
within_from plan p t from to [] k w lt = absurd (omega (arith, lt))
within_from plan p t from to (b ∷ rest) zero w lt = w.0
within_from plan p t from to (b ∷ rest) (suc k) w lt = let more = within_from plan p t (order_key b + 1) to rest k w.1.1 (omega (arith, lt)) in omega (arith, more, w.0)

within_ascends : (plan : PlanValue) (p t from to : ℕ) (xs : List BatchValue) (i j : ℕ) → Within plan p t from to xs → i < j → j < length xs → get_or (map order_key xs) i 0 < get_or (map order_key xs) j 0
within_ascends plan p t from to [] i j w up lt = absurd (omega (arith, lt))
within_ascends plan p t from to (b ∷ rest) i zero w up lt = absurd (omega (arith, up))
within_ascends plan p t from to (b ∷ rest) zero (suc j) w up lt = let more = within_from plan p t (order_key b + 1) to rest j w.1.1 (omega (arith, lt)) in omega (arith, more)
within_ascends plan p t from to (b ∷ rest) (suc i) (suc j) w up lt = within_ascends plan p t (order_key b + 1) to rest i j w.1.1 (omega (arith, up)) (omega (arith, lt))

pub within_kept : (plan : PlanValue) (p t from to : ℕ) (xs : List BatchValue) → Within plan p t from to xs → MayBeKept plan p t xs
within_kept plan p t from to xs w = search (arith, within_each, within_ascends)

-- ---- slots

abbrev AllPlaced : PlanValue → ℕ → ℕ → ℕ → ℕ → List (Option BatchValue) → Type 0
AllPlaced plan p t s k slots = (i : ℕ) → IfSome (get_or slots i None) (Placed plan p t (s * 64 + (k + i)))

placed_rest : (plan : PlanValue) (p t s k : ℕ) (x : Option BatchValue) (rest : List (Option BatchValue)) → AllPlaced plan p t s k (x ∷ rest) → AllPlaced plan p t s (k + 1) rest
placed_rest plan p t s k x rest all i = let same : k + suc i ≡ k + 1 + i = omega arith in subst (λ n. IfSome (get_or rest i None) (Placed plan p t (s * 64 + n))) same (all (suc i))

slots_within : (plan : PlanValue) (p t s k : ℕ) (slots : List (Option BatchValue)) → AllPlaced plan p t s k slots → Within plan p t (s * 64 + k) (s * 64 + k + length slots) (batches_in slots)
unfolding batches_in
slots_within plan p t s k [] all = omega arith
slots_within plan p t s k (None ∷ rest) all =
    let more = slots_within plan p t s (k + 1) rest (placed_rest plan p t s k None rest all) in
    within_earlier plan p t (s * 64 + (k + 1)) (s * 64 + k) _ (batches_in rest) (omega arith)
    (within_later plan p t (s * 64 + (k + 1)) (s * 64 + (k + 1) + length rest) _ (batches_in rest) (omega arith) more)
slots_within plan p t s k (Some b ∷ rest) all =
    let here : Placed plan p t (s * 64 + (k + 0)) b = all 0 in
    let more = slots_within plan p t s (k + 1) rest (placed_rest plan p t s k (Some b) rest all) in (
      omega (arith, here.key),
      (
        here.may,
        within_earlier plan p t (s * 64 + (k + 1)) (order_key b + 1) _ (batches_in rest) (omega (arith, here.key))
            (within_later plan p t (s * 64 + (k + 1)) (s * 64 + (k + 1) + length rest) _ (batches_in rest) (omega arith) more),
      ),
    )

slot_placed : (plan : PlanValue) (p t i q : ℕ) (slot : Option BatchValue) → i < 3 → (q ≡ p → slot ≡ None) → IfSome slot (IsOfName plan (record { superstep = t + 1 + i; source = q; target = p })) → IfSome slot (Placed plan p t ((t + 1 + i) * 64 + (0 + q)))
slot_placed plan p t i q slot lt own is = grind arith

level_within : (plan : PlanValue) (p t i : ℕ) (early : List (List (Option BatchValue))) → IsPlan plan → AreEarly plan p t early → i < 3 → Within plan p t ((t + 1 + i) * 64) ((t + 1 + i + 1) * 64) (batches_in (get_or early i []))
level_within plan p t i early ok e lt =
    let slots = get_or early i [] in
    let inside = slots_within plan p t (t + 1 + i) 0 slots (λ q. slot_placed plan p t i q (early_at early i q) lt (λ same. subst (λ n. early_at early i n ≡ None) (sym same) (e.own i)) (e.kept i q)) in
    grind (arith, within_earlier, within_later)

early_kept : (plan : PlanValue) (p t : ℕ) (early : List (List (Option BatchValue))) → IsPlan plan → AreEarly plan p t early → MayBeKept plan p t (kept_batches early)
early_kept plan p t early ok e =
    let one = batches_in (get_or early 0 []) in
    let two = batches_in (get_or early 1 []) in
    let three = batches_in (get_or early 2 []) in
    let told : kept_batches early ≡ one ++ (two ++ three) = three_levels early e.table.levels in
    let last : Within plan p t ((t + 1 + 1 + 1) * 64) ((t + 1 + 2 + 1) * 64) three = within_earlier plan p t ((t + 1 + 2) * 64) ((t + 1 + 1 + 1) * 64) _ three (omega arith) (level_within plan p t 2 early ok e (omega arith)) in
    let later : Within plan p t ((t + 1 + 0 + 1) * 64) ((t + 1 + 2 + 1) * 64) (two ++ three) =
    within_earlier plan p t ((t + 1 + 1) * 64) ((t + 1 + 0 + 1) * 64) _ (two ++ three) (omega arith)
    (within_both plan p t ((t + 1 + 1) * 64) ((t + 1 + 1 + 1) * 64) _ two three (level_within plan p t 1 early ok e (omega arith)) last) in
    let all = within_both plan p t ((t + 1 + 0) * 64) ((t + 1 + 0 + 1) * 64) _ one (two ++ three) (level_within plan p t 0 early ok e (omega arith)) later in
    subst (λ (xs : List BatchValue). MayBeKept plan p t xs) (sym told) (within_kept plan p t _ _ (one ++ (two ++ three)) all)

-- ---- the whole

-- what a replica shows fits its part, and so does all of which it is made
pub keepable_fits : (part : PartValue) (s : Saved) (v : State) → IsKeepable v → IsRebuilt part s v → s.rows.width ≡ 2 ^ part.plan.log2m → s.accumulated.width ≡ 2 ^ part.plan.log2m → Fits part s
keepable_fits part s v keep is width same =
    let st = keep.state in
    grind (arith, early_kept v.part.plan v.part.number v.superstep v.early st.part.plan st.early)
