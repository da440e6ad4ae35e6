-- Batches put at their places, and read off them again.
use Rattle.std.proofs.Common.{◌≡◌, ◌≢◌, ℕ, zero, suc, ◌+◌, ◌-◌, ◌*◌, ◌<◌, ◌≤◌, ◌==◌, ◌&&◌, true, List, [], ◌∷◌, ◌++◌, length, map, get_or, set, take, refl, ap, sym, ◌∙◌, subst, arith, inl, inr, ◌⊎◌, if◌then◌else◌, is_some, append_assoc}
use Rattle.replica.proofs.Names.{Option, Some, None, cases_eq, eq-eqb, same_lists, get_or_default, get_or-set_same, get_or-set_other, length-set, append-nil, get_or-map, length-map, take_all, take_more, BatchValue, IsBatch, PlanValue, IsPlan, most_parts, State, early_at, PartValue, IsPart}
use Rattle.replica.specs.Ahead.{IsTable}
use Rattle.ball_model.specs.Checkpoint.{kept_batches}
use Rattle.replica.specs.Kept.{AreEarly, IsOfName}
use Rattle.replica.specs.declared.saved.Saved.{Saved}
use Rattle.replica.specs.Saved.{Fits, IsRebuilt, MayKeep, MayBeKept, order_key}
use Rattle.replica.specs.Seen.{IsState}
use Rattle.replica.proofs.AheadLemmas.{batches_in}
use Rattle.replica.proofs.KeptLemmas.Kept.{three_levels}

-- ---- slots

-- nothing stands in them
in_none : (slots : List (Option BatchValue)) → ((k : ℕ) → get_or slots k None ≡ None) → batches_in slots ≡ []
unfolding batches_in
in_none [] none = refl
in_none (Some x ∷ rest) none = absurd (let e : Some x ≡ None = none 0 in cc)
in_none (None ∷ rest) none = in_none rest (λ k. none (suc k))

-- a batch behind all that stand
in_set : (slots : List (Option BatchValue)) (n : ℕ) (b : BatchValue) → n < length slots → ((k : ℕ) → n ≤ k → get_or slots k None ≡ None) → batches_in (set slots n (Some b)) ≡ batches_in slots ++ b ∷ []
unfolding batches_in
in_set [] n b lt none = absurd (omega (arith, lt))
in_set (Some x ∷ rest) zero b lt none = absurd (let e : Some x ≡ None = none 0 (omega arith) in cc)
in_set (None ∷ rest) zero b lt none =
    let e = in_none rest (λ k. none (suc k) (omega arith)) in
    ap (λ (l : List BatchValue). b ∷ l) e ∙ sym (ap (λ (l : List BatchValue). l ++ b ∷ []) e)
in_set (Some x ∷ rest) (suc n) b lt none = ap (λ (l : List BatchValue). x ∷ l) (in_set rest n b (omega (arith, lt)) (λ k le. none (suc k) (omega (arith, le))))
in_set (None ∷ rest) (suc n) b lt none = in_set rest n b (omega (arith, lt)) (λ k le. none (suc k) (omega (arith, le)))

-- ---- tables

-- so one table becomes the other: a batch comes to its place
abbrev IsMore : (level source : ℕ) (b : BatchValue) (early after : List (List (Option BatchValue))) → Type 0
IsMore level source b early after = (i k : ℕ) → early_at after i k ≡ (if (i == level) && (k == source) then Some b else early_at early i k)

elsewhere : (level source : ℕ) (b : BatchValue) (early after : List (List (Option BatchValue))) → IsMore level source b early after → (i k : ℕ) → ((i ≡ level) → (k ≡ source) → ⊥) → early_at after i k ≡ early_at early i k
elsewhere level source b early after more i k apart = grind arith

at_place : (level source : ℕ) (b : BatchValue) (early after : List (List (Option BatchValue))) → IsMore level source b early after → early_at after level source ≡ Some b
at_place level source b early after more = more level source ∙ rw (eq-eqb level level refl, eq-eqb source source refl) refl

-- a level that is not the batch's stays
row_stays : (parts level source i : ℕ) (b : BatchValue) (early after : List (List (Option BatchValue))) → IsTable parts early → IsTable parts after → IsMore level source b early after → i < 3 → i ≢ level →
    get_or after i [] ≡ get_or early i []
row_stays parts level source i b early after e a more lt other =
    same_lists (get_or after i []) (get_or early i []) (a.sources i lt ∙ sym (e.sources i lt))
    (λ k d below. get_or_default (get_or after i []) k d None below
    ∙ elsewhere level source b early after more i k (λ same _. other same)
    ∙ sym (get_or_default (get_or early i []) k d None (omega (arith, a.sources i lt, e.sources i lt))))

-- its own gains it
row_gains : (parts level source : ℕ) (b : BatchValue) (early after : List (List (Option BatchValue))) → IsTable parts early → IsTable parts after → IsMore level source b early after → level < 3 → source < parts →
    get_or after level [] ≡ set (get_or early level []) source (Some b)
row_gains parts level source b early after e a more lt below =
    let row = get_or early level [] in
    let new : List (Option BatchValue) = set row source (Some b) in
    let size : length new ≡ length row = length-set row source (Some b) in
    same_lists (get_or after level []) new (a.sources level lt ∙ sym (e.sources level lt) ∙ sym size)
    (λ k d inside. get_or_default (get_or after level []) k d None inside
    ∙ elim (cases_eq k source) [
      | inl here ↦ rw here (at_place level source b early after more ∙ sym (get_or-set_same row source (Some b) None (omega (arith, e.sources level lt))))
      | inr other ↦ elsewhere level source b early after more level k (λ _ same. other same) ∙ sym (get_or-set_other row source k (Some b) None other)
    ]
    ∙ sym (get_or_default new k d None (omega (arith, size, a.sources level lt, e.sources level lt))))

-- nothing stands at a place or behind it
abbrev NoneFrom : (level source : ℕ) (early : List (List (Option BatchValue))) → Type 0
NoneFrom level source early = (i k : ℕ) → ((level < i) ⊎ ((i ≡ level) × (source ≤ k))) → early_at early i k ≡ None

later_none : (level source i : ℕ) (early : List (List (Option BatchValue))) → NoneFrom level source early → level < i → batches_in (get_or early i []) ≡ []
later_none level source i early none lt = in_none (get_or early i []) (λ k. none i k (inl lt))

gained : (parts level source : ℕ) (b : BatchValue) (early after : List (List (Option BatchValue))) → IsTable parts early → IsTable parts after → IsMore level source b early after → level < 3 → source < parts → NoneFrom level source early →
    batches_in (get_or after level []) ≡ batches_in (get_or early level []) ++ b ∷ []
gained parts level source b early after e a more lt below none =
    ap batches_in (row_gains parts level source b early after e a more lt below)
    ∙ in_set (get_or early level []) source b (omega (arith, e.sources level lt)) (λ k le. none level k (inr (refl, le)))

-- THE TABLE: a batch behind all that stand is the last of them
last_of_all : (parts level source : ℕ) (b : BatchValue) (early after : List (List (Option BatchValue))) → IsTable parts early → IsTable parts after → IsMore level source b early after → level < 3 → source < parts → NoneFrom level source early →
    kept_batches after ≡ kept_batches early ++ b ∷ []
last_of_all parts level source b early after e a more lt below none =
    let stay : (i : ℕ) → i < 3 → i ≢ level → batches_in (get_or after i []) ≡ batches_in (get_or early i []) =
    λ i inside other. ap (λ l. batches_in l) (row_stays parts level source i b early after e a more inside other) in
    let empty : (i : ℕ) → level < i → batches_in (get_or early i []) ≡ [] = λ i far. later_none level source i early none far in
    grind (
      arith,
      three_levels after a.levels,
      three_levels early e.levels,
      gained parts level source b early after e a more lt below none,
      append-nil,
      append_assoc,
    )

-- ---- the state
pub rebuilt_state : (part : PartValue) (s : Saved) (v : State) → IsPart part → Fits part s → IsRebuilt part s v → AreEarly part.plan part.number s.superstep v.early → IsState v
rebuilt_state part s v ok fits is early = grind arith

-- ---- one batch after the other

-- the first k batches stand at their places, before all that follow
pub record Filled (plan : PlanValue) (p t k : ℕ) (batches : List BatchValue) (early : List (List (Option BatchValue))) : Type 0 where
  pub kept : AreEarly plan p t early
  pub first : kept_batches early ≡ take k batches
  pub before : (i q m : ℕ) → is_some (early_at early i q) ≡ true → k ≤ m → m < length batches → (t + 1 + i) * most_parts + q < get_or (map order_key batches) m 0

-- what stands where nothing stood
none_or : (o : Option BatchValue) → (is_some o ≡ true → ⊥) → o ≡ None
none_or o off = grind arith

-- the first of all
pub filled_none : (plan : PlanValue) (p t : ℕ) (batches : List BatchValue) (early : List (List (Option BatchValue))) → IsTable plan.parts early → ((i q : ℕ) → early_at early i q ≡ None) → Filled plan p t 0 batches early
filled_none plan p t batches early table none = grind (arith, three_levels, in_none)

-- its level is one of three, and its source another partition
pub level_of : (plan : PlanValue) (p t : ℕ) (b : BatchValue) → MayKeep plan p t b → b.name.superstep - t - 1 < 3
level_of plan p t b may = omega (arith, may.from, may.to)

pub source_of : (plan : PlanValue) (p t : ℕ) (b : BatchValue) → IsBatch b → MayKeep plan p t b → b.name.source < plan.parts
source_of plan p t b ok may = subst (λ (a : PlanValue). b.name.source < a.parts) may.plan_is ok.source

-- the next one
pub filled_more : (plan : PlanValue) (p t k : ℕ) (batches : List BatchValue) (b : BatchValue) (early after : List (List (Option BatchValue))) → IsPlan plan → MayBeKept plan p t batches → k < length batches → get_or batches k b ≡ b → IsBatch b →
    Filled plan p t k batches early → IsTable plan.parts after → IsMore (b.name.superstep - t - 1) b.name.source b early after → Filled plan p t (k + 1) batches after
filled_more plan p t k batches b early after ok may lt at batch f table more =
    let level = b.name.superstep - t - 1 in
    let source = b.name.source in
    let mine : MayKeep plan p t b = subst (λ (a : BatchValue). MayKeep plan p t a) at (may.each k b lt) in
    let up : t + 1 + level ≡ b.name.superstep = omega (arith, mine.from) in
    let below : source < plan.parts = source_of plan p t b batch mine in
    let key : get_or (map order_key batches) k 0 ≡ b.name.superstep * 64 + source = get_or-map order_key batches k b 0 lt ∙ ap order_key at in
    let behind : NoneFrom level source early = λ i q far. none_or (early_at early i q) (λ some. let small = f.before i q k some (omega arith) lt in grind arith) in
    let name_is : IsOfName plan (record { superstep = t + 1 + level; source = source; target = p }) b = grind arith in
    record {
      kept = record {
        table = table;
        kept = λ i q. grind (arith, more i q, f.kept.kept i q, name_is);
        own = λ i. grind (arith, more i p, f.kept.own i);
      };
      first =
          last_of_all plan.parts level source b early after f.kept.table table more (omega (arith, mine.from, mine.to)) below behind
          ∙ grind (arith, f.first, take_more);
      before = λ i q m some le inside. grind (arith, more i q, f.before i q m, may.ascending k m, key, up);
    }

-- all of them
pub filled_all : (plan : PlanValue) (p t k : ℕ) (batches : List BatchValue) (early : List (List (Option BatchValue))) → length batches ≤ k → Filled plan p t k batches early → kept_batches early ≡ batches
filled_all plan p t k batches early all f = f.first ∙ take_all k batches all

-- a batch among those that are shared
pub shared_at : {X : Type 0} (f : X → BatchValue) (items : List X) (k : ℕ) (x : X) (b : BatchValue) → k < length items → x ≡ get_or items k x → b ≡ f x → get_or (map f items) k b ≡ b
shared_at f items k x b lt at is = get_or-map f items k x b lt ∙ ap f (sym at) ∙ sym is

pub may_at : {X : Type 0} (f : X → BatchValue) (items : List X) (k : ℕ) (x : X) (b : BatchValue) (plan : PlanValue) (p t : ℕ) → MayBeKept plan p t (map f items) → k < length items → x ≡ get_or items k x → b ≡ f x → MayKeep plan p t b
may_at f items k x b plan p t may lt at is =
    subst (λ (a : BatchValue). MayKeep plan p t a) (shared_at f items k x b lt at is) (may.each k b (omega (arith, lt, length-map items f)))
