-- What a replica that holds its level says of the run.
use Rattle.std.proofs.Common.{◌≡◌, ℕ, Bool, true, false, not, ◌&&◌, ◌||◌, ◌==◌, List, [], ◌∷◌, length, map, get_or, if◌then◌else◌, refl, ap, arith, sym, ◌∙◌}
use Rattle.replica.proofs.Names.{list_any, range_with_len, filter, mixing_of, Job, verdict_at, verdict_of, close_of, changed_count, State, StandsFor, marks_of, heard_changes, content_of, length-filter, any_changed}
use Rattle.replica.specs.Level.{is_changing, level_verdict, found_verdict, close_answer}
use Rattle.replica.proofs.LevelLemmas.Verdict.{changed_by_counts}
use Rattle.replica.proofs.LevelLemmas.Level.{Ready, there, plan_is, number_is}
use Rattle.replica.proofs.HearingLemmas.Hear.{any_same, any_or, any_one_of}

some_counted : (b : Bool) (y : ℕ) (rest : List ℕ) (r : Bool) → r ≡ not (length rest == 0) → (b || r) ≡ not (length (if b then (y ∷ rest) else rest) == 0)
some_counted b y rest r h = grind arith

-- some mark is set where the count is not 0
any_passes : (test : ℕ → Bool) (ys : List ℕ) → list_any (λ mark. mark) (map test ys) ≡ not (length (filter test ys) == 0)
any_passes test [] = refl
any_passes test (y ∷ ys) = some_counted (test y) y (filter test ys) _ (any_passes test ys)

own_busy : (j : Job) (p t : ℕ) → list_any (λ mark. mark) (marks_of j p t) ≡ not (changed_count j t p == 0)
unfolding marks_of changed_count
own_busy j p t = grind (arith, any_passes, length-filter)

-- of all sources but one all are heard, and that one counts too
one_of : (own : Bool) (h c : Bool) → (own ≡ false → h ≡ true) → ((h && c) || (own && c)) ≡ c
one_of own h c f = grind arith

-- a vertex of a source that is heard, or an own one, is changed exactly where one is
changing_is : (j : Job) (p t : ℕ) (v : State) → Ready j p t v → is_changing v ≡ any_changed (mixing_of j.plan) j.graph t
unfolding heard_changes
changing_is j p t v r =
    let h = r.stands in
    let c : ℕ → Bool = λ q. not (changed_count j t q == 0) in
    let own : list_any (λ mark. mark) v.marks ≡ list_any (λ q. (q == p) && c q) (range_with_len 0 j.plan.parts) =
    ap (list_any (λ mark. mark)) h.marks ∙ own_busy j p t ∙ sym (any_one_of c p 0 j.plan.parts (omega arith) (omega (arith, h.partition))) in
    rw (h.heard_change, own)
    (sym (any_or (λ q. get_or v.heard q false && c q) (λ q. (q == p) && c q) 0 j.plan.parts)
    ∙ any_same (λ q. (get_or v.heard q false && c q) || ((q == p) && c q)) c 0 j.plan.parts j.plan.parts (omega arith)
    (λ q lt. one_of (q == p) (get_or v.heard q false) (c q) (λ other. there j p t q v r lt other)))
    ∙ sym (changed_by_counts j t h.job)

-- what a replica that holds its level says is the verdict
pub level_is : (j : Job) (p t : ℕ) (v : State) → Ready j p t v → level_verdict v ≡ verdict_at j t
unfolding verdict_at
level_is j p t v r = grind (arith, plan_is, changing_is)

-- the verdict of a replica that stands for its content
pub found_verdict-is : (j : Job) (p t : ℕ) (v : State) → StandsFor j p t v → found_verdict v ≡ verdict_of j p (content_of v)
unfolding verdict_of
found_verdict-is j p t v h = grind (arith, level_is, plan_is, number_is)

-- its answer to a close
pub close_answer-is : (j : Job) (p t : ℕ) (v : State) → StandsFor j p t v → close_answer v ≡ close_of j p (content_of v)
unfolding close_of
close_answer-is j p t v h = grind (arith, level_is, plan_is, number_is)
