-- Some vertex is changed exactly where some partition counts one, and then the end is further.
use Rattle.std.proofs.Common.{◌≡◌, ℕ, ◌+◌, ◌%◌, ◌<◌, ◌≤◌, nat_le, Bool, true, false, not, ◌&&◌, ◌==◌, List, [], ◌∷◌, length, if◌then◌else◌, refl, arith, sym, ◌∙◌, inl, inr, subst, ap}
use Rattle.replica.proofs.Names.{list_any, range_with_len, filter, AllByRecursion, Some, ◌⊎◌, cases_lt, or_cases, eqb-true, eqb-false, le-leb, not-false, vertices_of, mixing_of, Job, IsJob, changed_count, verdict_at, length-filter, any_changed, end_of}
use Rattle.ball_model.specs.declared.names.Verdict.TheVariants as verdict
use Rattle.ball_model.specs.Change.{changed_at}
use Rattle.ball_model.proofs.AccumulatedPartLemmas.{all_own}
use Rattle.ball_model.proofs.QuietLemmas.{none_in, none_of}
use Rattle.ball_model.proofs.EndLemmas.{end_within, end_least, end_reached}
use Rattle.replica.specs.Level.{EndsRun}
use Rattle.replica.proofs.IndexLemmas.Own.{is_vertex}

count_one : (b : Bool) (y : ℕ) (rest : List ℕ) → length (if b then (y ∷ rest) else rest) ≡ 0 → (b ≡ false) × (length rest ≡ 0)
count_one b y rest e = grind arith

-- none of a list is counted
count_none : (test : ℕ → Bool) (ys : List ℕ) (z : ℕ) → length (filter test ys) ≡ 0 → list_any (λ k. k == z) ys ≡ true → test z ≡ false
count_none test [] z e mem = absurd (cc)
count_none test (y ∷ ys) z e mem =
    let parts = count_one (test y) y (filter test ys) e in
    elim (or_cases (y == z) _ mem) [
      | inl here ↦ let same : y ≡ z = eqb-true y z here in subst (λ (k : ℕ). test k ≡ false) same parts.0
      | inr later ↦ count_none test ys z parts.1 later
    ]

-- where no partition counts a changed vertex, no vertex is changed
none_changed : (j : Job) (t x : ℕ) → IsJob j → x < j.graph.vertices → ((q : ℕ) → q < j.plan.parts → changed_count j t q ≡ 0) → changed_at (mixing_of j.plan) j.graph x t ≡ false
unfolding changed_count
none_changed j t x ok lt h =
    let test : ℕ → Bool = λ y. changed_at (mixing_of j.plan) j.graph y t in
    let ys : List ℕ = vertices_of j.graph.vertices j.plan.parts (x % j.plan.parts) in
    count_none test ys x (length-filter test ys ∙ h (x % j.plan.parts) (omega arith)) (is_vertex j.graph.vertices j.plan.parts x lt)

none_more : (b : Bool) (y : ℕ) (rest : List ℕ) → b ≡ false → length rest ≡ 0 → length (if b then (y ∷ rest) else rest) ≡ 0
none_more b y rest e h = grind arith

none_filtered : (test : ℕ → Bool) (ys : List ℕ) → AllByRecursion (λ k. test k ≡ false) ys → length (filter test ys) ≡ 0
none_filtered test [] h = refl
none_filtered test (y ∷ ys) h = none_more (test y) y (filter test ys) h.0 (none_filtered test ys h.1)

-- where no vertex is changed, no partition counts one
none_counted : (j : Job) (t q : ℕ) → any_changed (mixing_of j.plan) j.graph t ≡ false → changed_count j t q ≡ 0
unfolding changed_count any_changed
none_counted j t q quiet =
    let test : ℕ → Bool = λ y. changed_at (mixing_of j.plan) j.graph y t in
    let ys : List ℕ = vertices_of j.graph.vertices j.plan.parts q in
    sym (length-filter test ys) ∙ none_filtered test ys (all_own (λ k. test k ≡ false) j.graph.vertices j.plan.parts q (λ x below. none_in test 0 j.graph.vertices x quiet (omega arith) (omega arith)))

same_false : (a b : Bool) → (a ≡ false → b ≡ false) → (b ≡ false → a ≡ false) → a ≡ b
same_false a b f g = grind arith

all_quiet : (j : Job) (t : ℕ) → IsJob j → ((q : ℕ) → q < j.plan.parts → changed_count j t q ≡ 0) → any_changed (mixing_of j.plan) j.graph t ≡ false
unfolding any_changed
all_quiet j t ok h = none_of (λ x. changed_at (mixing_of j.plan) j.graph x t) 0 j.graph.vertices (λ x low lt. none_changed j t x ok (omega arith) h)

-- THE VERDICT: some vertex is changed where some partition's count is not 0
pub changed_by_counts : (j : Job) (t : ℕ) → IsJob j → any_changed (mixing_of j.plan) j.graph t ≡ list_any (λ q. not (changed_count j t q == 0)) (range_with_len 0 j.plan.parts)
changed_by_counts j t ok =
    let counts : ℕ → Bool = λ q. not (changed_count j t q == 0) in
    same_false _ _
    (λ e. none_of counts 0 j.plan.parts (λ q low lt. ap (λ n. not (n == 0)) (none_counted j t q e)))
    (λ e. all_quiet j t ok (λ q lt. eqb-true (changed_count j t q) 0 (not-false (changed_count j t q == 0) (none_in counts 0 j.plan.parts q e (omega arith) (omega arith)))))

-- what a verdict of GoOn says
go_on : (early quiet last : Bool) → (if early && not quiet then verdict.Stable else (if last then verdict.Limit else verdict.GoOn)) ≡ verdict.GoOn → (early ≡ true → quiet ≡ true) × (last ≡ false)
go_on early quiet last e = grind arith

-- the end is after a superstep at which the run goes on
pub end_further : (j : Job) (t : ℕ) → IsJob j → t ≤ end_of (mixing_of j.plan) j.graph j.plan.limit → verdict_at j t ≡ verdict.GoOn → t + 1 ≤ end_of (mixing_of j.plan) j.graph j.plan.limit
unfolding verdict_at
end_further j t ok le on =
    let m = mixing_of j.plan in
    let g = j.graph in
    let end : ℕ = end_of m g j.plan.limit in
    let says = go_on (nat_le 1 t) (any_changed m g t) (t == j.plan.limit) on in
    let low : 1 ≤ end = (end_within m g j.plan.limit ok.plan.limit_from).0 in
    elim (cases_lt t end) [
      | inl before ↦ omega arith
      | inr at ↦
          let same : end ≡ t = omega arith in
          let changed : any_changed m g t ≡ true = says.0 (le-leb 1 t (omega arith)) in
          elim (end_reached m g j.plan.limit) [
            | inl quiet ↦ absurd (let q : any_changed m g t ≡ false = subst (λ (k : ℕ). any_changed m g k ≡ false) same quiet in cc)
            | inr last ↦ absurd (eqb-false t j.plan.limit says.1 (sym same ∙ last))
          ]
    ]

-- what a verdict that the run is over says
ends : (low changed last : Bool) → EndsRun (Some (if low && not changed then verdict.Stable else (if last then verdict.Limit else verdict.GoOn))) → ((low ≡ true) × (changed ≡ false)) ⊎ (last ≡ true)
ends low changed last e = grind arith

-- a run that is over is at the end
pub at_end : (j : Job) (t : ℕ) → IsJob j → t ≤ end_of (mixing_of j.plan) j.graph j.plan.limit → EndsRun (Some (verdict_at j t)) → t ≡ end_of (mixing_of j.plan) j.graph j.plan.limit
unfolding verdict_at
at_end j t ok le over = grind (arith, end_least, end_within)
