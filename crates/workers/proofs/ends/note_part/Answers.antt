use Rattle.std.proofs.Common.{◌≡◌, ◌∙◌, ◌+◌, ◌&&◌, ◌||◌, [], ◌∷◌, Bool, ℕ, List, ap, drop, subst, sym, true}
use Rattle.std.proofs.lemmas.List.{drop_all, drop_more}
use Rattle.std.specs.List.{list_any}
use Rattle.std.specs.Prelude.{Result}
use Rattle.workers.specs.declared.worker.node_run.NodeEnd.{NodeEnd}
use Rattle.workers.specs.declared.worker.node_run.NodeError.{NodeError}
use Rattle.workers.specs.Options.{orders_for}
use Rattle.workers.specs.Ends.{all_lost, is_done}
use Rattle.workers.proofs.EndsLemmas.{done_more, lost_more, noted_more, part_kept, part_lost, with_rest}
use Rattle.workers.proofs.JobLemmas.{PartSoFar, part_so_far_more}
use Rattle.workers.proofs.ends.note_part.Goals.{then-note, else-note, then-is_done, else-is_done}
use Rattle.workers.proofs.ends.note_part.Goals as goal

pub loop-end-preserved : goal.loop-end-preserved
loop-end-preserved c =
    let p : ℕ = c.args.p in
    let k : ℕ = c.loop-end.replica in
    let i : ℕ = c.loop-end.end-index in
    let xs : List (Result NodeEnd NodeError) = c.args.ends.now in
    let e : Result NodeEnd NodeError = c.end-item.result in
    let rest : List (Result NodeEnd NodeError) = drop (i + 1) xs in
    let h = c.loop-end.invariant in
    let next : drop i xs ≡ e ∷ rest = drop_more xs i e c.loop-end-test.true ∙ ap (λ (x : Result NodeEnd NodeError). x ∷ rest) (sym c.end-item.is) in
    let both : c.if-note.all_lost ≡ (c.note.result && c.loop-end.all_lost) = elim c.if-note.branch [
      | then-note w ↦ w.all_lost-is ∙ sym (ap (λ (b : Bool). b && c.loop-end.all_lost) w.if-note.true)
      | else-note w ↦ w.all_lost-is ∙ w.if-note.false ∙ sym (ap (λ (b : Bool). b && c.loop-end.all_lost) w.if-note.false)
    ] in
    let done : c.if-is_done.done ≡ (is_done e || c.loop-end.done) = elim c.if-is_done.branch [
      | then-is_done w ↦ (let is : c.if-is_done.done ≡ true = cc (w.done-is, w.if-is_done.true) in is ∙ sym (ap (λ (b : Bool). b || c.loop-end.done) (sym c.is_done.ensures ∙ w.if-is_done.true)))
      | else-is_done w ↦ (let is : c.if-is_done.done ≡ c.loop-end.done = cc (w.done-is, w.if-is_done.false) in is ∙ sym (ap (λ (b : Bool). b || c.loop-end.done) (sym c.is_done.ensures ∙ w.if-is_done.false)))
    ] in
    record {
      place = ap (λ (n : ℕ). n + 1) h.place;
      so_far = λ j o ends. part_so_far_more j o p k e rest c.args.faults.now c.loop-end.faults c.note.new.faults c.note.result c.loop-end.all_lost c.if-note.all_lost
          (subst (λ (l : List (Result NodeEnd NodeError)). PartSoFar j o p k l c.args.faults.now c.loop-end.faults c.loop-end.all_lost) next (h.so_far j o ends))
          (c.note.ensures.noted j o p k) (c.note.ensures.lost j p (orders_for o p k)) both;
      noted = noted_more p k e rest xs c.args.faults.now c.loop-end.faults c.note.new.faults (subst (λ (l : List (Result NodeEnd NodeError)). with_rest p k l c.loop-end.faults ≡ with_rest p 0 xs c.args.faults.now) next h.noted) c.note.ensures.exact;
      lost = lost_more e rest xs c.loop-end.all_lost c.if-note.all_lost (subst (λ (l : List (Result NodeEnd NodeError)). (c.loop-end.all_lost && all_lost l) ≡ all_lost xs) next h.lost) (both ∙ ap (λ (b : Bool). b && c.loop-end.all_lost) c.note.ensures.told);
      found = done_more e rest xs c.loop-end.done c.if-is_done.done (subst (λ (l : List (Result NodeEnd NodeError)). (c.loop-end.done || list_any is_done l) ≡ list_any is_done xs) next h.found) done;
    }

pub returns-then-all_lost-clause-exact : goal.returns-then-all_lost-clause-exact
returns-then-all_lost-clause-exact c =
    let none : drop c.loop-end.end-index c.args.ends.now ≡ [] = drop_all c.loop-end.end-index c.args.ends.now c.loop-end-test.false in
    part_lost c.args.p c.loop-end.replica _ c.args.ends.now c.args.faults.now c.loop-end.faults c.note_lost.new.faults c.loop-end.all_lost none c.loop-end.invariant.noted c.loop-end.invariant.lost c.if-all_lost.true c.note_lost.ensures.exact

pub returns-else-all_lost-clause-exact : goal.returns-else-all_lost-clause-exact
returns-else-all_lost-clause-exact c =
    let none : drop c.loop-end.end-index c.args.ends.now ≡ [] = drop_all c.loop-end.end-index c.args.ends.now c.loop-end-test.false in
    part_kept c.args.p c.loop-end.replica _ c.args.ends.now c.args.faults.now c.loop-end.faults c.loop-end.all_lost none c.loop-end.invariant.noted c.loop-end.invariant.lost c.if-all_lost.false
