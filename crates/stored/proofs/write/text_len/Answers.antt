use Rattle.std.proofs.Common.{◌<◌, List, ℕ, length, ap, ◌∙◌, subst, arith}
use Rattle.std.specs.List.{AllByRecursion}
use Rattle.std.proofs.lemmas.List.{take_all}
use Rattle.stored.specs.Stored.{IsLabel, label_lines}
use Rattle.stored.proofs.TextLemmas.{labels_more, lines_more, refused_label, refused_text, storable}
use Rattle.stored.proofs.write.text_len.Goals as goal

pub loop-v-init : goal.loop-v-init
loop-v-init c = record { so_far = omega arith; few = omega arith; labels = tt }

pub loop-v-preserved : goal.loop-v-preserved
loop-v-preserved c =
    let labels = c.args.graph.now.labels in
    let v = c.loop-v.v in
    let lt : v < length labels = omega (arith, c.vertices-v-end.ensures.count, c.vertices-v-end.ensures.labels) in
    record {
      so_far = omega (arith, c.loop-v.invariant.so_far, lines_more labels v lt, ap length c.label-label.ensures);
      few = omega (arith, c.loop-v.invariant.few);
      labels = labels_more labels v lt c.loop-v.invariant.labels (subst IsLabel c.label-label.ensures (c.is_label.ensures.yes c.if-not-is_label.false));
    }

pub returns-then-not-is_label-clause-refused : goal.returns-then-not-is_label-clause-refused
returns-then-not-is_label-clause-refused c =
    let lt : c.loop-v.v < length c.args.graph.now.labels = omega (arith, c.vertices-v-end.ensures.count, c.vertices-v-end.ensures.labels) in
    refused_label c.args.graph.now c.loop-v.v c.label-label.result.now c.is_label.result lt c.label-label.ensures c.if-not-is_label.true c.is_label.ensures.only

pub returns-then-sum-from-clause-refused : goal.returns-then-sum-from-clause-refused
returns-then-sum-from-clause-refused c =
    let labels = c.args.graph.now.labels in
    let all = ap (λ (l : List (List ℕ)). length (label_lines l)) (take_all c.loop-v.v labels (omega (arith, c.vertices-v-end.ensures.count, c.vertices-v-end.ensures.labels))) in
    refused_text c.args.graph.now c.loop-v.sum (c.loop-v.invariant.so_far ∙ all) (omega arith)

pub returns-clause-value : goal.returns-clause-value
returns-clause-value c =
    let labels = c.args.graph.now.labels in
    let all = ap (λ (l : List (List ℕ)). length (label_lines l)) (take_all c.loop-v.v labels (omega (arith, c.vertices-v-end.ensures.count, c.vertices-v-end.ensures.labels))) in
    omega (arith, c.loop-v.invariant.so_far, all)

pub returns-clause-storable : goal.returns-clause-storable
returns-clause-storable c =
    let net = c.args.graph.now in
    let whole = take_all c.loop-v.v net.labels (omega (arith, c.vertices-v-end.ensures.count, c.vertices-v-end.ensures.labels)) in
    let facts = c.vertices-v-end.ensures in
    storable net facts.graph facts.labels facts.few facts.few_edges (subst (AllByRecursion IsLabel) whole c.loop-v.invariant.labels) (omega (arith, c.loop-v.invariant.so_far, ap (λ (l : List (List ℕ)). length (label_lines l)) whole))
