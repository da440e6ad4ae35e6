-- A replica that stands for its content and holds its level has what the next superstep is made of.
use Rattle.std.proofs.Common.{◌≡◌, ℕ, ◌+◌, ◌%◌, ◌<◌, Bool, true, false, not, ◌&&◌, ◌||◌, ◌==◌, List, [], length, get_or, refl, ap, sym, arith, ◌∙◌}
use Rattle.replica.proofs.Names.{Option, None, length-map, same_lists, length-map-range_with_len, get_or-map-range_with_len, mixing_of, part_size, Job, PartValue, part_of, BatchValue, missing_of, State, StandsFor, content_of, rows_of, marks_of, holds_in, is_heard, eq-eqb, not-false, ne_eqb, bytes_eq, ball_counter}
use Rattle.ball_model.specs.Accumulated.{accumulated_of}
use Rattle.ball_model.specs.Change.{changed_at}
use Rattle.ball_model.proofs.AccumulatedPartLemmas.{accumulated_of-level}
use Rattle.ball_model.proofs.ChangeLemmas.{changed_next}
use Rattle.ball_model.proofs.EndLemmas.{find_none}
use Rattle.replica.specs.Level.{differences}
use Rattle.replica.specs.Spread.{AreTouched}
use Rattle.std.proofs.lemmas.Slice.Eq.{bytes_eq-Decides}
use Rattle.registers.specs.Laws.{max_each-repeats}
use Rattle.replica.proofs.LevelLemmas.Step.{list_is}
use Rattle.replica.proofs.IndexLemmas.Own.{vertex_of, at_own}

pub part_number : (j : Job) (p : ℕ) → (part_of j p).number ≡ p
unfolding part_of
part_number j p = refl

pub part_plan : (j : Job) (p : ℕ) → (part_of j p).plan ≡ j.plan
unfolding part_of
part_plan j p = refl

pub length-part_preds : (j : Job) (p : ℕ) → length (part_of j p).preds ≡ part_size j.graph.vertices j.plan.parts p
unfolding part_of
length-part_preds j p = simp length-map refl

pub row_at : (j : Job) (p t i : ℕ) (d : List ℕ) → p < j.plan.parts → i < part_size j.graph.vertices j.plan.parts p → get_or (rows_of j p t) i d ≡ ball_counter (mixing_of j.plan) j.graph (vertex_of j.plan.parts p i) t
unfolding rows_of
row_at j p t i d below lt = at_own (λ x. ball_counter (mixing_of j.plan) j.graph x t) j.graph.vertices j.plan.parts p i d below lt

pub mark_at : (j : Job) (p t i : ℕ) (d : Bool) → p < j.plan.parts → i < part_size j.graph.vertices j.plan.parts p → get_or (marks_of j p t) i d ≡ changed_at (mixing_of j.plan) j.graph (vertex_of j.plan.parts p i) t
unfolding marks_of
mark_at j p t i d below lt = at_own (λ x. changed_at (mixing_of j.plan) j.graph x t) j.graph.vertices j.plan.parts p i d below lt

-- a replica that stands for its content and has nothing missing
pub record Ready (j : Job) (p t : ℕ) (v : State) : Type 0 where
  pub stands : StandsFor j p t v
  pub none : missing_of v.part.plan.parts v.part.number (content_of v) ≡ None

-- the plan and the number of a part that is the job's
pub plan_of_part : (j : Job) (p : ℕ) (v : State) → v.part ≡ part_of j p → v.part.plan ≡ j.plan
plan_of_part j p v is = ap (λ (a : PartValue). a.plan) is ∙ part_plan j p

pub number_of_part : (j : Job) (p : ℕ) (v : State) → v.part ≡ part_of j p → v.part.number ≡ p
number_of_part j p v is = ap (λ (a : PartValue). a.number) is ∙ part_number j p

pub plan_is : (j : Job) (p t : ℕ) (v : State) → StandsFor j p t v → v.part.plan ≡ j.plan
plan_is j p t v h = plan_of_part j p v h.part

pub number_is : (j : Job) (p t : ℕ) (v : State) → StandsFor j p t v → v.part.number ≡ p
number_is j p t v h = number_of_part j p v h.part

pub size_is : (j : Job) (p t : ℕ) (v : State) → StandsFor j p t v → length v.part.preds ≡ part_size j.graph.vertices j.plan.parts p
size_is j p t v h = ap (λ (a : PartValue). length a.preds) h.part ∙ length-part_preds j p

pub length-rows_of : (j : Job) (p t : ℕ) → length (rows_of j p t) ≡ part_size j.graph.vertices j.plan.parts p
unfolding rows_of
length-rows_of j p t = simp length-map refl

pub length-marks_of : (j : Job) (p t : ℕ) → length (marks_of j p t) ≡ part_size j.graph.vertices j.plan.parts p
unfolding marks_of
length-marks_of j p t = simp length-map refl

pub length-differing : (old new : List (List ℕ)) (n : ℕ) → length (differences old new n) ≡ n
unfolding differences
length-differing old new n = length-map-range_with_len (λ i. not (bytes_eq (get_or new i []) (get_or old i []))) 0 n

-- the rows that differ from those of the superstep before are the changed ones
pub differing_is : (j : Job) (p t n : ℕ) (old new : List (List ℕ)) → p < j.plan.parts → n ≡ part_size j.graph.vertices j.plan.parts p → old ≡ rows_of j p t → new ≡ rows_of j p (t + 1) → differences old new n ≡ marks_of j p (t + 1)
unfolding differences
differing_is j p t n old new below size was now =
    grind (arith, length-map-range_with_len, same_lists, length-marks_of, row_at, get_or-map-range_with_len, changed_next, mark_at)

and_false_right : (a b : Bool) → (a && b) ≡ false → a ≡ true → b ≡ false
and_false_right a b e h = grind arith

-- a level with nothing missing has heard each other source
pub level_there : (parts p t q : ℕ) (heard : List Bool) (early : List (List (Option BatchValue))) → missing_of parts p (record { superstep = t; holds = λ s k. holds_in t heard early s k }) ≡ None → q < parts → (q == p) ≡ false →
    get_or heard q false ≡ true
unfolding missing_of
level_there parts p t q heard early none lt other =
    let f : (not (q == p) && not (holds_in t heard early t q)) ≡ false = find_none (λ k. not (k == p) && not (holds_in t heard early t k)) 0 parts none q (omega arith) (omega arith) in
    let held : holds_in t heard early t q ≡ true = not-false (holds_in t heard early t q) (and_false_right (not (q == p)) (not (holds_in t heard early t q)) f (ap not other)) in
    rw (eq-eqb t t refl) at held

pub there : (j : Job) (p t q : ℕ) (v : State) → Ready j p t v → q < j.plan.parts → (q == p) ≡ false → get_or v.heard q false ≡ true
there j p t q v r lt other =
    let at : missing_of j.plan.parts p (content_of v) ≡ None = rw (← plan_is j p t v r.stands, ← number_is j p t v r.stands) r.none in
    level_there j.plan.parts p v.superstep q v.heard v.early at lt other

-- what is accumulated, once the level is held and the own partition is spread too, are the next rows
pub next_rows_are : (j : Job) (p t : ℕ) (v : State) → Ready j p t v → accumulated_of j p t (λ z. is_heard j.plan.parts v.heard z || (z % j.plan.parts == p)) ≡ rows_of j p (t + 1)
next_rows_are j p t v r =
    accumulated_of-level j p t (λ q. get_or v.heard q false) r.stands.job.graph r.stands.job.plan.parts_from
    (λ q lt ne. there j p t q v r lt (ne_eqb q p ne))

-- the rows that are marked as differing from what is accumulated are those that differ
pub differing_from : (rows accumulated : List (List ℕ)) (marks : List Bool) (n : ℕ) → AreTouched rows accumulated marks → length rows ≡ n → marks ≡ differences rows accumulated n
unfolding differences
differing_from rows accumulated marks n is size =
    list_is (λ i. not (bytes_eq (get_or accumulated i []) (get_or rows i []))) marks false n (is.marks ∙ size) (λ k lt. is.differ k (omega (arith, size)))

-- rows differ nowhere from themselves
pub none_touched : (rows : List (List ℕ)) (marks : List Bool) → length marks ≡ length rows → ((i : ℕ) → get_or marks i false ≡ false) → AreTouched rows rows marks
none_touched rows marks count off = grind (arith, max_each-repeats, bytes_eq-Decides)

-- nor do others, with the same marks
pub touched_again : (rows others : List (List ℕ)) (marks : List Bool) → AreTouched rows rows marks → length others ≡ length rows → AreTouched others others marks
touched_again rows others marks are count = record {
  count = refl;
  marks = are.marks ∙ sym count;
  above = λ i lt. max_each-repeats (get_or others i []);
  differ = λ i lt.
      are.differ i (omega (arith, count, lt))
      ∙ ap not ((bytes_eq-Decides (get_or rows i []) (get_or rows i [])).1 refl)
      ∙ sym (ap not ((bytes_eq-Decides (get_or others i []) (get_or others i [])).1 refl));
}
