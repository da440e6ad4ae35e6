use Rattle.std.proofs.Common.{◌≡◌, ◌∙◌, ◌+◌, ◌*◌, refl, ap, sym, arith}
use Rattle.std.specs.List.{flat_map}
use Rattle.std.proofs.lemmas.Result.{err_from_is_err_and}
use Rattle.ball_model.specs.State.{own_vertices}
use Rattle.ball_model.specs.WorldText.{row_text}
use Rattle.world.proofs.TellLemmas.{first-texts, is-own, own-is}
use Rattle.world.proofs.ToldLemmas.{of_none, of_same, stops_next, writes_next}
use Rattle.world.proofs.tell.tell_vertices.Goals as goal

pub own_vertex-requires : goal.own_vertex-requires
own_vertex-requires g c =
    is-own c.args.replica.now c.part_size-i-end.result c.partition-partition.result c.loop-i.i c.plan.result.now c.plan.ensures c.part_size-i-end.ensures c.partition-partition.ensures c.loop-i-test.true

pub loop-i-init : goal.loop-i-init
loop-i-init g c = record {
  whole = of_none c.args.replica.now (g.W.Write.contents c.args.writer.now) (λ j h. row_text j h.superstep) (λ i. i * c.args.replica.now.part.plan.parts + c.args.replica.now.part.number);
  counted = refl;
}

pub loop-i-preserved : goal.loop-i-preserved
loop-i-preserved g c =
    writes_next g.W.Write.contents g.W.CountedWrite.failed_calls c.args.replica.now c.args.writer.now c.loop-i.writer c.tell_vertex.new.writer (λ j h. row_text j h.superstep)
    (λ i. i * c.args.replica.now.part.plan.parts + c.args.replica.now.part.number) c.loop-i.i c.own_vertex.result c.own_vertex.ensures.value c.loop-i.invariant c.in_ok-tell_vertex.ensures

pub returns-in_err-tell_vertex : goal.returns-in_err-tell_vertex
returns-in_err-tell_vertex g c =
    let v = c.args.replica.now in
    let p = err_from_is_err_and c.from_residual.result c.from_residual.ensures.1 in
    rw (p.1, p.2)
    (stops_next g.W.Write.contents g.W.CountedWrite.failed_calls v c.args.writer.now c.loop-i.writer c.tell_vertex.new.writer (λ j h. row_text j h.superstep) (λ j h. own_vertices j h.partition)
    (λ i. i * v.part.plan.parts + v.part.number) c.loop-i.i c.part_size-i-end.result c.own_vertex.result c.in_err-tell_vertex.field-0.0
    (λ j h has. own-is j h v v.part.plan.parts v.part.number c.partition-partition.result c.part_size-i-end.result c.plan.result.now has refl refl c.plan.ensures c.part_size-i-end.ensures c.partition-partition.ensures)
    c.own_vertex.ensures.value c.loop-i-test.true c.loop-i.invariant c.in_err-tell_vertex.ensures)

pub returns : goal.returns
returns g c =
    let v = c.args.replica.now in
    let last : c.loop-i.i ≡ c.part_size-i-end.result = omega (arith, c.loop-i.auto.i-end, c.loop-i-test.false) in
    record {
      whole =
          of_same v (g.W.Write.contents c.args.writer.now) (g.W.Write.contents c.loop-i.writer)
          (λ j h. first-texts (row_text j h.superstep) (λ i. i * v.part.plan.parts + v.part.number) c.loop-i.i)
          (λ j h. flat_map (row_text j h.superstep) (own_vertices j h.partition))
          (λ j h has. ap (flat_map (row_text j h.superstep)) (sym (own-is j h v v.part.plan.parts v.part.number c.partition-partition.result c.loop-i.i c.plan.result.now has refl refl c.plan.ensures (last ∙ c.part_size-i-end.ensures) c.partition-partition.ensures)))
          c.loop-i.invariant.whole;
      counted = c.loop-i.invariant.counted;
    }
