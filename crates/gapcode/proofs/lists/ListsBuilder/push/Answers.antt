use Rattle.std.proofs.Common.{◌∙◌, ◌++◌, ◌∷◌, [], ℕ, List, ap, arith}
use Rattle.gapcode.proofs.IndexLemmas.{last_place, pushed, ascends_below}
use Rattle.gapcode.proofs.lists.ListsBuilder.push.Goals as goal

pub push-requires-clause-order : goal.push-requires-clause-order
push-requires-clause-order c =
    let b = c.self.inside in
    omega (arith, last_place b.writer [] b.places c.self.invariant, c.len.ensures.count)

pub invariant_of-result : goal.invariant_of-result
invariant_of-result c =
    let b = c.self.inside in
    let up = ascends_below 0 c.args.list.now (λ i. omega (arith, c.type_inv.list i)) c.requires in
    rw (c.in_ok-put_list.ensures, c.in_ok-places.ensures, c.len.ensures.count) (pushed b.writer b.places c.args.list.now c.self.invariant up).index

pub returns : goal.returns
returns c =
    let b = c.self.inside in
    let up = ascends_below 0 c.args.list.now (λ i. omega (arith, c.type_inv.list i)) c.requires in
    rw (c.in_ok-put_list.ensures, c.in_ok-places.ensures, c.len.ensures.count) (pushed b.writer b.places c.args.list.now c.self.invariant up).shows
    ∙ ap (λ (lists : List (List ℕ)). lists ++ c.args.list.now ∷ []) c.self.view_is
