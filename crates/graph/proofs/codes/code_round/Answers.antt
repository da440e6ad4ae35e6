use Rattle.std.proofs.Common.{arith}
use Rattle.graph.proofs.CodesLemmas.{first-turned, last-turned, round-lists}
use Rattle.graph.proofs.codes.code_round.Goals as goal

pub code_parts-requires-clause-turned : goal.code_parts-requires-clause-turned
code_parts-requires-clause-turned g c =
    let r = c.args.rest in
    rw c.split_at.ensures.back (λ κs lives. last-turned r.edges.now r.count r.from c.round_end-to.result c.place_of-place.result c.requires.turned c.place_of-place.ensures.place)

pub returns-clause-turned : goal.returns-clause-turned
returns-clause-turned g c =
    let r = c.args.rest in
    first-turned r.edges.now r.count r.from c.round_end-to.result c.place_of-place.result c.requires.turned c.place_of-place.ensures.place

pub returns-clause-lists : goal.returns-clause-lists
returns-clause-lists g c =
    let r = c.args.rest in
    round-lists r.edges.now r.count r.from c.round_end-to.result r.to c.place_of-place.result c.args.builder c.in_ok-made.made c.finish-codes.result c.in_ok-lists.lists
    c.requires.turned c.place_of-place.ensures.place (omega (arith, c.round_end-to.ensures.first)) c.round_end-to.ensures.last (rw (← c.split_at.ensures.back) c.in_ok-made.ensures) c.finish-codes.ensures c.in_ok-lists.ensures
