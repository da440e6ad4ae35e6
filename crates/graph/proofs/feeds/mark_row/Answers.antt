use Rattle.std.proofs.Common.{◌≡◌, ◌∙◌, ◌++◌, ◌∷◌, [], ◌%◌, ℕ, List, ap, sym, subst, append_assoc}
use Rattle.graph.specs.Feeding.{AreMasks, edges_into, masks_of}
use Rattle.graph.proofs.FeedLemmas.{place-within, next-below, edges-more}
use Rattle.graph.proofs.feeds.mark_row.Goals as goal

pub mark_edge-requires-clause-place : goal.mark_edge-requires-clause-place
mark_edge-requires-clause-place c = λ own.
    let turn : c.loop-source.source-iterator ≡ c.in-Some.source ∷ c.next.new.self = rw c.in-Some.is at c.next.ensures.steps in
    let is = c.loop-source.invariant.left ∙ ap (λ (l : List ℕ). c.loop-source.yielded ++ l) turn in
    let low = next-below c.args.plan.now.vertices c.args.sources c.loop-source.yielded c.next.new.self c.in-Some.source c.requires.sources is in
    rw (c.loop-source.invariant.size, c.requires.size) (place-within c.args.plan.now.vertices c.args.stride.step c.args.stride.first c.in-Some.source c.requires.stride low own)

pub loop-source-preserved : goal.loop-source-preserved
loop-source-preserved c =
    let turn : c.loop-source.source-iterator ≡ c.in-Some.source ∷ c.next.new.self = rw c.in-Some.is at c.next.ensures.steps in
    let is = c.loop-source.invariant.left ∙ ap (λ (l : List ℕ). c.loop-source.yielded ++ l) turn in
    let into : c.from-into.result ≡ c.args.target % c.args.plan.now.parts = c.from-into.ensures ∙ c.partition_of.ensures.value in
    record {
      left = is ∙ sym (append_assoc c.loop-source.yielded (c.in-Some.source ∷ []) c.next.new.self);
      size = c.mark_edge.ensures.size ∙ c.loop-source.invariant.size;
      room = c.mark_edge.ensures.room ∙ c.loop-source.invariant.room;
      masks = λ es start.
          let more = c.mark_edge.ensures.masks (es ++ edges_into c.args.target c.loop-source.yielded) c.args.plan.now.parts c.args.target into (c.loop-source.invariant.masks es start) in
          subst (λ (l : List (ℕ × ℕ)). AreMasks c.args.stride.step c.args.stride.first c.args.plan.now.parts l (masks_of c.mark_edge.new.feeds)) (edges-more es c.args.target c.in-Some.source c.loop-source.yielded) more;
    }
