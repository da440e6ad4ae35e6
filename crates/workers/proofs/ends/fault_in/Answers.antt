use Rattle.std.proofs.Common.{◌≡◌, ◌∙◌, ◌+◌, ◌&&◌, [], ◌∷◌, Bool, ℕ, ap, drop, subst, sym}
use Rattle.std.proofs.lemmas.List.{drop_all, drop_more}
use Rattle.std.specs.List.{list_any}
use Rattle.workers.specs.Job.{IsPartEnd}
use Rattle.workers.specs.Ends.{each_has_done, fault_noted, faults_in, is_done, with_part}
use Rattle.workers.proofs.EndsLemmas.{all_noted_more, complete_end, complete_more, fault_told, parts_end, with_parts}
use Rattle.workers.proofs.JobLemmas.{AllSoFar, all_so_far_more}
use Rattle.workers.proofs.ends.fault_in.Goals.{then-note_part, else-note_part}
use Rattle.workers.proofs.ends.fault_in.Goals as goal

pub loop-own-preserved : goal.loop-own-preserved
loop-own-preserved c =
    let p : ℕ = c.loop-own.p in
    let i : ℕ = c.loop-own.own-index in
    let xs = c.args.ends.now in
    let own = c.own-item.result in
    let rest = drop (i + 1) xs in
    let h = c.loop-own.invariant in
    let next : drop i xs ≡ own ∷ rest = drop_more xs i own c.loop-own-test.true ∙ ap (λ x. x ∷ rest) (sym c.own-item.is) in
    let value = c.deref.ensures.value in
    let part : c.note_part.new.faults ≡ with_part p own.items c.loop-own.faults = subst (λ rs. c.note_part.new.faults ≡ with_part p rs c.loop-own.faults) value c.note_part.ensures.exact in
    let told : c.note_part.result ≡ list_any is_done own.items = subst (λ rs. c.note_part.result ≡ list_any is_done rs) value c.note_part.ensures.told in
    let both : c.if-note_part.complete ≡ (c.note_part.result && c.loop-own.complete) = elim c.if-note_part.branch [
      | then-note_part w ↦ w.complete-is ∙ sym (ap (λ (b : Bool). b && c.loop-own.complete) w.if-note_part.true)
      | else-note_part w ↦ w.complete-is ∙ w.if-note_part.false ∙ sym (ap (λ (b : Bool). b && c.loop-own.complete) w.if-note_part.false)
    ] in
    record {
      place = ap (λ (n : ℕ). n + 1) h.place;
      so_far = λ j o ends. all_so_far_more (λ own. own.items) j o p own rest c.loop-own.faults c.note_part.new.faults
          (subst (λ l. AllSoFar (λ own. own.items) j o p l c.loop-own.faults) next (h.so_far j o ends))
          (λ one. c.note_part.ensures.noted j o (subst (λ rs. IsPartEnd j o p rs) (sym value) one));
      noted = all_noted_more (λ own. own.items) p own rest xs c.loop-own.faults c.note_part.new.faults (subst (λ l. with_parts (λ own. own.items) p l c.loop-own.faults ≡ faults_in (λ own. own.items) xs) next h.noted) part;
      complete = complete_more (λ own. own.items) own rest xs c.loop-own.complete c.note_part.result c.if-note_part.complete (subst (λ l. (c.loop-own.complete && each_has_done (λ own. own.items) l) ≡ each_has_done (λ own. own.items) xs) next h.complete) told both;
    }

pub returns-else-complete-clause-exact : goal.returns-else-complete-clause-exact
returns-else-complete-clause-exact c =
    let xs = c.args.ends.now in
    let h = c.loop-own.invariant in
    let none : drop c.loop-own.own-index xs ≡ [] = drop_all c.loop-own.own-index xs c.loop-own-test.false in
    fault_told (λ own. own.items) xs c.first.result
    (complete_end (λ own. own.items) _ xs c.loop-own.complete none h.complete c.if-complete.false)
    (c.first.ensures.exact ∙ ap fault_noted (parts_end (λ own. own.items) c.loop-own.p _ xs c.loop-own.faults none h.noted))
