use Rattle.std.proofs.Common.{◌∙◌}
use Rattle.std.proofs.lemmas.Result.{IfOk-weaker}
use Rattle.graph.proofs.CodesLemmas.{both-lists, first-turned, last-turned}
use Rattle.graph.proofs.codes.+codes.Goals as goal

pub code_parts-code_both-requires-clause-low_turned : goal.code_parts-code_both-requires-clause-low_turned
code_parts-code_both-requires-clause-low_turned g t c =
    let b = c.args.block in
    rw c.split_at.ensures.back (λ κs lives. last-turned b.edges.now b.count b.from c.middle-cut.result c.place_of-place.result c.requires.turned c.place_of-place.ensures.place)

pub code_parts-code_both-requires-clause-high_turned : goal.code_parts-code_both-requires-clause-high_turned
code_parts-code_both-requires-clause-high_turned g t c =
    let b = c.args.block in
    rw c.split_at.ensures.front (λ κs lives. first-turned b.edges.now b.count b.from c.middle-cut.result c.place_of-place.result c.requires.turned c.place_of-place.ensures.place)

pub code_parts-returns : goal.code_parts-returns
code_parts-returns g t c =
    let b = c.args.block in
    let both = both-lists b.edges.now b.count b.from c.middle-cut.result b.to c.place_of-place.result c.requires.turned c.place_of-place.ensures.place c.middle-cut.ensures.first c.middle-cut.ensures.last in
    IfOk-weaker c.code_both.result _ _ (λ lists is. is ∙ rw (c.split_at.ensures.back, c.split_at.ensures.front) both) c.code_both.ensures
