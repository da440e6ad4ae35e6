use Rattle.std.proofs.Common.{◌≡◌, ◌∙◌, ◌+◌, ◌*◌, refl, ap, sym, arith}
use Rattle.std.specs.List.{flat_map}
use Rattle.ball_model.specs.PlanValue.{mixing_of}
use Rattle.ball_model.specs.Report.{vertex_text}
use Rattle.node.specs.NodeText.{figures_text}
use Rattle.world.proofs.TellLemmas.{first-texts, is-own, own-is}
use Rattle.world.proofs.ToldLemmas.{of_next, of_none, of_same}
use Rattle.node.proofs.own.tell_own.Goals as goal

pub own_vertex-requires : goal.own_vertex-requires
own_vertex-requires g c =
    is-own c.args.replica.now c.part_size-i-end.result c.partition-partition.result c.loop-i.i c.plan.result.now c.plan.ensures c.part_size-i-end.ensures c.partition-partition.ensures c.loop-i-test.true

pub loop-i-init : goal.loop-i-init
loop-i-init g c = record {
  done = of_none c.args.replica.now (g.W.Write.contents c.args.writer.now) (λ j h. vertex_text (mixing_of j.plan) j.graph c.args.graph.now.labels h.superstep) (λ i. i * c.args.replica.now.part.plan.parts + c.args.replica.now.part.number);
  written = refl;
}

pub loop-i-preserved : goal.loop-i-preserved
loop-i-preserved g c = record {
  done =
      of_next c.args.replica.now (g.W.Write.contents c.args.writer.now) (g.W.Write.contents c.loop-i.writer) (g.W.Write.contents c.tell_vertex.new.writer)
      (λ j h. vertex_text (mixing_of j.plan) j.graph c.args.graph.now.labels h.superstep) (λ i. i * c.args.replica.now.part.plan.parts + c.args.replica.now.part.number) c.loop-i.i c.own_vertex.result
      c.own_vertex.ensures.value c.loop-i.invariant.done c.in_ok-tell_vertex.ensures.done;
  written = c.in_ok-tell_vertex.ensures.write.none (λ e. absurd (cc)) ∙ c.loop-i.invariant.written;
}

pub returns-clause-done : goal.returns-clause-done
unfolding figures_text
returns-clause-done g c =
    let last : c.loop-i.i ≡ c.part_size-i-end.result = omega (arith, c.loop-i.auto.i-end, c.loop-i-test.false) in
    of_same c.args.replica.now (g.W.Write.contents c.args.writer.now) (g.W.Write.contents c.loop-i.writer)
    (λ j h. first-texts (vertex_text (mixing_of j.plan) j.graph c.args.graph.now.labels h.superstep) (λ i. i * c.args.replica.now.part.plan.parts + c.args.replica.now.part.number) c.loop-i.i)
    (λ j h. figures_text j c.args.graph.now.labels h)
    (λ j h has. ap (flat_map (vertex_text (mixing_of j.plan) j.graph c.args.graph.now.labels h.superstep)) (sym (own-is j h c.args.replica.now c.args.replica.now.part.plan.parts c.args.replica.now.part.number c.partition-partition.result c.loop-i.i c.plan.result.now has refl refl c.plan.ensures (last ∙ c.part_size-i-end.ensures) c.partition-partition.ensures)))
    c.loop-i.invariant.done
