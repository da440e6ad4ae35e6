use Rattle.std.proofs.Common.{◌≡◌, ◌∙◌, ◌+◌, ◌*◌, ◌<◌, ◌∷◌, ◌++◌, [], ℕ, List, length, refl, sym, ap, subst, arith}
use Rattle.std.specs.List.{sum_by}
use Rattle.std.proofs.lemmas.List.Sums.{sum_by-append, sum_by-cons}
use Rattle.gapcode.specs.Lists.{AscendsFrom}
use Rattle.ball_model.specs.Graph.{preds_of}
use Rattle.graph.proofs.OwnLemmas.{first-next, first-all, preds-from, left-first, left-stride}
use Rattle.graph.proofs.part.own_lists.Goals as goal

pub loop-i-init : goal.loop-i-init
loop-i-init c = record {
  lists = c.in_ok-builder.ensures;
  total = rw c.in_ok-builder.ensures refl;
  room = omega (arith, left-first c.args.graph.now.graph c.args.graph.now.graph.vertices c.args.plan.now.parts c.args.p c.vertices.ensures.graph refl);
}

-- one list more
total-more : (lists : List (List ℕ)) (list : List ℕ) (total len : ℕ) → total ≡ sum_by length lists → len ≡ length list → total + len ≡ sum_by length (lists ++ list ∷ [])
total-more lists list total len is long =
    omega (arith, is, long, sum_by-append length lists (list ∷ []), sum_by-cons length list [])

pub push_preds-requires : goal.push_preds-requires
push_preds-requires c =
    let is = c.preds.ensures.value in
    subst (λ (xs : List ℕ). AscendsFrom 0 xs) (sym is) (preds-from c.args.graph.now.graph c.vertex_at.result)

pub overflow_add-total : goal.overflow_add-total
overflow_add-total c =
    let g = c.args.graph.now.graph in
    let low : c.loop-i.i * c.args.plan.now.parts + c.args.p < g.vertices = omega (arith, c.vertex_at.ensures.value, c.vertex_at.ensures.below, c.requires.vertices) in
    omega (
      arith,
      c.len-total.ensures,
      c.push_preds.new.row.ok.0,
      ap (length {A = ℕ}) (c.in_ok-builder-2.ensures.row ∙ c.preds.ensures.value ∙ ap (preds_of g) c.vertex_at.ensures.value),
      c.loop-i.invariant.room,
      left-stride g g.vertices c.args.plan.now.parts c.args.p c.loop-i.i c.requires.part low,
      c.vertices.ensures.few_edges,
    )

pub loop-i-preserved : goal.loop-i-preserved
loop-i-preserved c =
    let g = c.args.graph.now.graph in
    let i = c.loop-i.i in
    let parts = c.args.plan.now.parts in
    let p = c.args.p in
    let low : i * parts + p < g.vertices = omega (arith, c.vertex_at.ensures.value, c.vertex_at.ensures.below, c.requires.vertices) in
    let list = c.preds.ensures.value ∙ ap (preds_of g) c.vertex_at.ensures.value in
    let built = c.in_ok-builder-2.ensures.lists ∙ ap (λ (xs : List ℕ). c.loop-i.builder ++ xs ∷ []) list in
    let len : c.len-total.result ≡ length (preds_of g (i * parts + p)) = omega (arith, c.len-total.ensures, c.push_preds.new.row.ok.0, ap (length {A = ℕ}) (c.in_ok-builder-2.ensures.row ∙ list)) in
    record {
      lists = built ∙ ap (λ (ls : List (List ℕ)). ls ++ preds_of g (i * parts + p) ∷ []) c.loop-i.invariant.lists ∙ sym (first-next (preds_of g) parts p i);
      total = total-more c.loop-i.builder (preds_of g (i * parts + p)) c.loop-i.total c.len-total.result c.loop-i.invariant.total len ∙ ap (λ (ls : List (List ℕ)). sum_by length ls) (sym built);
      room = omega (arith, c.loop-i.invariant.room, len, left-stride g g.vertices parts p i c.requires.part low);
    }

pub of-requires : goal.of-requires
of-requires c = record { total = c.loop-i.invariant.total ∙ ap (λ (ls : List (List ℕ)). sum_by length ls) (sym c.finish.ensures); few = omega (arith, c.loop-i.invariant.room, c.vertices.ensures.few_edges) }

pub returns : goal.returns
returns c =
    let at : c.loop-i.i ≡ c.part_size-size.result = omega (arith, c.loop-i-test.false, c.loop-i.auto.i-end) in
    c.of.ensures ∙ c.finish.ensures ∙ c.loop-i.invariant.lists
    ∙ first-all (preds_of c.args.graph.now.graph) c.args.plan.now.vertices c.args.graph.now.graph.vertices c.args.plan.now.parts c.args.p c.loop-i.i c.requires.part (at ∙ c.part_size-size.ensures) c.requires.vertices
