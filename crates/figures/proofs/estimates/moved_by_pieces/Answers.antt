use Rattle.std.proofs.Common.{◌*◌, ◌+◌, get_or, arith}
use Rattle.figures.proofs.PieceLemmas.{moved_at, moved_by_none, moved_by_one, moved_by_all}
use Rattle.figures.proofs.SumLemmas.{piece_more, so_far_le, weight_few}
use Rattle.figures.proofs.estimates.moved_by_pieces.Goals as goal

pub loop-j-init : goal.loop-j-init
loop-j-init c = moved_by_none c.args.weight c.args.count c.args.places.now c.args.old.now c.args.new.now c.requires.places

pub moved_by-moved-requires-clause-within : goal.moved_by-moved-requires-clause-within
moved_by-moved-requires-clause-within c =
    let old = c.args.old.now in
    let places = c.args.places.now in
    let i = get_or places c.loop-j.j 0 * 32 in
    let here = moved_at c.args.weight c.loop-j.moved c.args.count c.loop-j.j places old c.args.new.now c.requires.places c.loop-j.invariant (omega arith) in
    omega (arith, here, c.requires.weight, piece_more old i, so_far_le old (i + 32))

pub moved_by-moved-requires-clause-few : goal.moved_by-moved-requires-clause-few
moved_by-moved-requires-clause-few c =
    let old = c.args.old.now in
    let new = c.args.new.now in
    let places = c.args.places.now in
    let i = get_or places c.loop-j.j 0 * 32 in
    let here = moved_at c.args.weight c.loop-j.moved c.args.count c.loop-j.j places old new c.requires.places c.loop-j.invariant (omega arith) in
    omega (arith, here, c.requires.weight, weight_few old c.requires.short, so_far_le new i, weight_few new (omega (arith, c.requires.same, c.requires.short)))

pub loop-j-preserved : goal.loop-j-preserved
loop-j-preserved c =
    moved_by_one c.args.weight c.loop-j.moved c.moved_by-moved.result c.args.count c.loop-j.j c.args.places.now c.args.old.now c.args.new.now c.requires.places c.loop-j.invariant (omega arith) c.moved_by-moved.ensures

pub returns : goal.returns
returns c =
    moved_by_all c.args.weight c.loop-j.moved c.args.count c.loop-j.j c.args.places.now c.args.old.now c.args.new.now c.requires.places c.loop-j.invariant (omega arith) c.requires.weight c.requires.same c.requires.pieces
