use Rattle.std.proofs.Common.{◌≡◌, ◌∙◌, ◌++◌, List, ℕ, ap, arith, subst, sym, take}
use Rattle.std.specs.Prelude.{reverse}
use Rattle.std.proofs.lemmas.List.{append-nil}
use Rattle.graph.specs.Codes.{AreTurned, sources_between}
use Rattle.graph.specs.declared.edge.Edge.{Edge}
use Rattle.graph.proofs.CodesLemmas.{all-between, none-between}
use Rattle.graph.proofs.EdgeLemmas.{below-none}
use Rattle.graph.proofs.codes.code_rounds.Goals as goal

pub loop-from-init : goal.loop-from-init
loop-from-init g c =
    let es = reverse c.args.edges.now.items in
    record {
      order = omega arith;
      turned = record { ascend = c.requires.ascend; ends = c.requires.below; least = below-none es };
      lists = rw c.in_ok-builder.ensures (all-between es c.args.count);
    }

pub code_round-requires-clause-turned : goal.code_round-requires-clause-turned
code_round-requires-clause-turned g c = rw c.as_slice.ensures.value (λ κs lives. c.loop-from.invariant.turned)

pub loop-from-smaller : goal.loop-from-smaller
loop-from-smaller g c = omega (arith, c.in_ok-more.ensures.first, c.in_ok-more.ensures.last)

pub loop-from-preserved : goal.loop-from-preserved
loop-from-preserved g c =
    let n = c.args.count in
    let more = c.in_ok-more in
    let is = c.as_slice.ensures.value in
    let turned = subst (λ (es : List Edge). AreTurned n more.to (take more.place es)) is more.ensures.turned in
    let lists = subst (λ (es : List Edge). more.more ++ sources_between n (reverse (take more.place es)) more.to n ≡ c.loop-from.builder ++ sources_between n (reverse es) c.loop-from.from n) is more.ensures.lists in
    record {
      order = more.ensures.last;
      turned = rw c.shorten.ensures turned;
      lists = rw c.shorten.ensures (lists ∙ c.loop-from.invariant.lists);
    }

pub returns : goal.returns
returns g c =
    let n = c.args.count in
    let l = c.loop-from in
    let end : l.from ≡ n = omega (arith, l.invariant.order, c.loop-from-test.false) in
    let es = reverse l.edges.items in
    c.finish.ensures
    ∙ sym (append-nil l.builder)
    ∙ ap (λ (ls : List (List ℕ)). l.builder ++ ls) (sym (ap (λ x. sources_between n es x n) end ∙ none-between es n n))
    ∙ l.invariant.lists
