-- Batches that are heard, one after the other.
use Rattle.std.proofs.Common.{◌≡◌, ℕ, zero, suc, ◌+◌, ◌%◌, ◌<◌, ◌≤◌, ◌==◌, nat_lt, Bool, true, false, not, ◌&&◌, ◌||◌, List, length, get_or, set, replicate, refl, ap, arith, sym, ◌∙◌, inl, inr, if◌then◌else◌, is_some, IfSome}
use Rattle.replica.proofs.Names.{Option, Some, None, range_with_len, list_any, cases_eq, eq-eqb, ne_eqb, get_or-set_same, get_or-set_other, length-set, BatchValue, IsBatch, true_batch, changed_count, Job, IsJob, part_of, PlanValue, is_heard, heard_changes, rows_of, copies-at}
use Rattle.std.proofs.Math.Bool.{or-false, and-or_distrib_right}
use Rattle.ball_model.specs.Accumulated.{accumulated_of}
use Rattle.ball_model.proofs.AccumulatedPartLemmas.{accumulated_of-alike, accumulated_of-none}
use Rattle.ball_model.proofs.AccumulatedLemmas.{or_split}
use Rattle.ball_model.proofs.QuietLemmas.{none_of}
use Rattle.replica.specs.Hearing.{HeardState, IsTrueHearing, Hears, batch_by}
use Rattle.replica.specs.Index.{targets_of}
use Rattle.replica.specs.Kept.{AreCounters, AllRise}

-- a flag that is set
pub flag_set : (flags : List Bool) (k q : ℕ) → k < length flags → get_or (set flags k true) q false ≡ (get_or flags q false || (q == k))
flag_set flags k q lt = grind (arith, get_or-set_same, get_or-set_other)

pub any_or : (f g : ℕ → Bool) (a n : ℕ) → list_any (λ q. f q || g q) (range_with_len a n) ≡ (list_any f (range_with_len a n) || list_any g (range_with_len a n))
any_or f g a n = or_split (λ q. f q || g q) f g (range_with_len a n) (λ q. refl)

pub any_same : (p r : ℕ → Bool) (a n bound : ℕ) → a + n ≤ bound → ((k : ℕ) → k < bound → p k ≡ r k) → list_any p (range_with_len a n) ≡ list_any r (range_with_len a n)
any_same p r a zero bound le h = refl
any_same p r a (suc n) bound le h = rw (h a (omega arith), any_same p r (a + 1) n bound (omega arith) h) refl

-- one number alone passes
pub any_one_of : (f : ℕ → Bool) (k a n : ℕ) → a ≤ k → k < a + n → list_any (λ q. (q == k) && f q) (range_with_len a n) ≡ f k
any_one_of f k a zero from to = absurd (omega arith)
any_one_of f k a (suc n) from to =
    elim (cases_eq a k) [
      | inl here ↦
          let gone : list_any (λ q. (q == k) && f q) (range_with_len (a + 1) n) ≡ false = past f k (a + 1) n (omega arith) in
          rw (gone, here, eq-eqb k k refl) (or-false (f k))
      | inr other ↦ rw (ne_eqb a k other) (any_one_of f k (a + 1) n (omega arith) (omega arith))
    ]
  where
    past : (g : ℕ → Bool) (k a n : ℕ) → k < a → list_any (λ q. (q == k) && g q) (range_with_len a n) ≡ false
    past g k a zero lt = refl
    past g k a (suc n) lt = let ne : a ≡ k → ⊥ = λ e. omega arith in rw (ne_eqb a k ne) (past g k (a + 1) n (omega arith))

-- one source more: whether something changed
changes_more : (j : Job) (t k : ℕ) (heard after : List Bool) → k < j.plan.parts → ((q : ℕ) → get_or after q false ≡ (get_or heard q false || (q == k))) →
    heard_changes j t after ≡ (heard_changes j t heard || not (changed_count j t k == 0))
unfolding heard_changes
changes_more j t k heard after lt is =
    let c : ℕ → Bool = λ q. not (changed_count j t q == 0) in
    any_same (λ q. get_or after q false && c q) (λ q. (get_or heard q false && c q) || ((q == k) && c q)) 0 j.plan.parts j.plan.parts (omega arith) (λ q _. ap (λ b. b && c q) (is q) ∙ and-or_distrib_right (get_or heard q false) (q == k) (c q))
    ∙ any_or (λ q. get_or heard q false && c q) (λ q. (q == k) && c q) 0 j.plan.parts
    ∙ ap (λ b. list_any (λ q. get_or heard q false && c q) (range_with_len 0 j.plan.parts) || b) (any_one_of c k 0 j.plan.parts (omega arith) (omega arith))

-- where nothing is heard
pub none_heard : (j : Job) (p t n : ℕ) (heard : List Bool) (change : Bool) (rows : List (List ℕ)) → IsJob j → heard ≡ replicate n false → change ≡ false → rows ≡ rows_of j p t →
    IsTrueHearing j p t (record { heard = heard; change = change; accumulated = rows })
unfolding heard_changes
none_heard j p t n heard change rows ok none quiet is = record {
  change = quiet ∙ sym (none_of (λ q. get_or heard q false && not (changed_count j t q == 0)) 0 j.plan.parts (λ q _ _. ap (λ b. b && not (changed_count j t q == 0)) (off q)));
  accumulated = is ∙ sym (accumulated_of-none j p t) ∙ accumulated_of-alike j p t (λ z. false) (λ z. is_heard j.plan.parts heard z) ok.graph (λ z _. sym (off (z % j.plan.parts)));
}
  where
    off : (q : ℕ) → get_or heard q false ≡ false
    off q = ap (λ (l : List Bool). get_or l q false) none ∙ copies-at n q false

true_changed : (j : Job) (t q p : ℕ) → (true_batch j (record { superstep = t; source = q; target = p })).changed ≡ changed_count j t q
unfolding true_batch
true_changed j t q p = refl

true_job : (j : Job) (t q p : ℕ) → (true_batch j (record { superstep = t; source = q; target = p })).plan ≡ j.plan
unfolding true_batch
true_job j t q p = refl

-- one batch
pub hears_one : (log2m : ℕ) (targets : List (List ℕ)) (b : BatchValue) (a c : HeardState) → IsBatch b → b.name.source < length a.heard →
    c.heard ≡ set a.heard b.name.source true → c.change ≡ (a.change || not (b.changed == 0)) → AllRise log2m a.accumulated c.accumulated →
    ((j : Job) (p t q : ℕ) (heard : ℕ → Bool) → IsJob j → targets ≡ targets_of (part_of j p) → b ≡ true_batch j (record { superstep = t; source = q; target = p }) →
    a.accumulated ≡ accumulated_of j p t heard → c.accumulated ≡ accumulated_of j p t (λ w. heard w || (w % j.plan.parts == q))) →
    Hears log2m targets (batch_by b.name.source (Some b)) a c
hears_one log2m targets b a c ok lt heard change rise truth =
    let k = b.name.source in
    let flags : (q : ℕ) → get_or c.heard q false ≡ (get_or a.heard q false || (q == k)) = λ q. ap (λ (l : List Bool). get_or l q false) heard ∙ flag_set a.heard k q lt in
    record {
      count = ap length heard ∙ length-set a.heard k true;
      sources = λ q. flags q ∙ ap (λ e. get_or a.heard q false || e) (some_if (q == k));
      rise = rise;
      stands = λ j p t job index told h.
          let is : b ≡ true_batch j (record { superstep = t; source = k; target = p }) = rw (eq-eqb k k refl) at (told k) in
          let parts : b.plan.parts ≡ j.plan.parts = ap (λ (x : BatchValue). x.plan.parts) is ∙ ap (λ (x : PlanValue). x.parts) (true_job j t k p) in
          let below : k < j.plan.parts = omega (arith, ok.source, parts) in
          record {
            change = change ∙ ap (λ e. e || not (b.changed == 0)) h.change ∙ ap (λ n. heard_changes j t a.heard || not (n == 0)) (ap (λ (x : BatchValue). x.changed) is ∙ true_changed j t k p) ∙ sym (changes_more j t k a.heard c.heard below flags);
            accumulated =
                truth j p t k (λ z. is_heard j.plan.parts a.heard z) job index is h.accumulated
                ∙ accumulated_of-alike j p t (λ w. is_heard j.plan.parts a.heard w || (w % j.plan.parts == k)) (λ w. is_heard j.plan.parts c.heard w) job.graph (λ w _. sym (flags (w % j.plan.parts)));
          };
    }
  where
    some_if : (e : Bool) → e ≡ is_some (if e then Some b else None)
    some_if true = refl
    some_if false = refl

-- what holds of what an option has holds of what one that is the same has
pub if_some_as : (P : BatchValue → Type 0) (a b : Option BatchValue) → a ≡ b → IfSome b P → IfSome a P
if_some_as P a b e h = rw e h

-- whoever hears what one tells hears another that tells the same
pub hears_same : (log2m : ℕ) (targets : List (List ℕ)) (told other : ℕ → Option BatchValue) (a b : HeardState) → ((q : ℕ) → told q ≡ other q) → Hears log2m targets told a b → Hears log2m targets other a b
hears_same log2m targets told other a b same h = grind arith

-- one after the other
pub hears_on : (log2m : ℕ) (targets : List (List ℕ)) (first second told : ℕ → Option BatchValue) (a b c : HeardState) → AreCounters log2m a.accumulated →
    ((q : ℕ) → is_some (told q) ≡ (is_some (first q) || is_some (second q))) → ((P : BatchValue → Type 0) (q : ℕ) → IfSome (told q) P → IfSome (first q) P × IfSome (second q) P) →
    Hears log2m targets first a b → Hears log2m targets second b c → Hears log2m targets told a c
hears_on log2m targets first second told a b c are some if_some f g = grind arith

-- the batches that the sources below n tell of
abbrev pub batches_below : (ℕ → Option BatchValue) → ℕ → ℕ → Option BatchValue
batches_below told n q = if nat_lt q n then told q else None

-- one source more of those below a number
told_one : (told : ℕ → Option BatchValue) (n q : ℕ) (a b c : Bool) → nat_lt q (n + 1) ≡ a → nat_lt q n ≡ b → (q == n) ≡ c → is_some (if a then told q else None) ≡ (is_some (if b then told q else None) || is_some (if c then told n else None))
told_one told n q a b c at lt eq = grind arith

told_if : (P : BatchValue → Type 0) (told : ℕ → Option BatchValue) (n q : ℕ) (a b c : Bool) → nat_lt q (n + 1) ≡ a → nat_lt q n ≡ b → (q == n) ≡ c → IfSome (if a then told q else None) P → IfSome (if b then told q else None) P × IfSome (if c then told n else None) P
told_if P told n q a b c at lt eq h = grind arith

pub hears_next : (log2m : ℕ) (targets : List (List ℕ)) (told : ℕ → Option BatchValue) (n : ℕ) (a b c : HeardState) → AreCounters log2m a.accumulated →
    Hears log2m targets (batches_below told n) a b → Hears log2m targets (batch_by n (told n)) b c → Hears log2m targets (batches_below told (n + 1)) a c
hears_next log2m targets told n a b c are f g =
    hears_on log2m targets (batches_below told n) (batch_by n (told n)) (batches_below told (n + 1)) a b c are
    (λ q. told_one told n q (nat_lt q (n + 1)) (nat_lt q n) (q == n) refl refl refl)
    (λ P q. told_if P told n q (nat_lt q (n + 1)) (nat_lt q n) (q == n) refl refl refl) f g

-- from equal plans, indexes and states, what is told is heard alike
pub hears_as : {m m' : ℕ} {targets targets' : List (List ℕ)} {told : ℕ → Option BatchValue} {heard heard' : List Bool} {change : Bool} {rows rows' : List (List ℕ)} {b : HeardState} → m ≡ m' → targets ≡ targets' → heard ≡ heard' → rows ≡ rows' →
    Hears m targets told (record { heard = heard; change = change; accumulated = rows }) b → Hears m' targets' told (record { heard = heard'; change = change; accumulated = rows' }) b
hears_as {m} {m'} {targets} {targets'} {told} {heard} {heard'} {change} {rows} {rows'} {b} p q r s h =
    grind arith
