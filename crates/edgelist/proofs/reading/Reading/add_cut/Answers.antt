use Rattle.std.proofs.Common.{◌<◌, [], arith, ap, length, get_or}
use Rattle.std.proofs.lemmas.List.{get_or_default}
use Rattle.edgelist.specs.Reading.{limits_of}
use Rattle.edgelist.proofs.RowLemmas.{adds-next}
use Rattle.edgelist.proofs.reading.Reading.add_cut.Goals as goal

pub add_one_cut-requires-clause-room : goal.add_one_cut-requires-clause-room
add_one_cut-requires-clause-room c =
    let lt : c.loop-i.i < length c.args.cut.now = omega (arith, c.loop-i-test.true, c.len-i-end.ensures.count) in
    let grows = c.loop-i.invariant.grows in
    let same = ap length c.look_ahead_from.ensures.labels in
    omega (arith, lt, grows, same, c.requires.room)

pub loop-i-preserved : goal.loop-i-preserved
loop-i-preserved c =
    let lt : c.loop-i.i < length c.args.cut.now = omega (arith, c.loop-i-test.true, c.len-i-end.ensures.count) in
    let grows = c.loop-i.invariant.grows in
    let more = c.in_ok-add_one_cut.ensures.grows in
    let same = ap length c.look_ahead_from.ensures.labels in
    let row = get_or c.args.cut.now c.loop-i.i [] in
    record {
      adds = adds-next (limits_of c.args.limits) c.args.number c.loop-i.i c.args.cut.now row c.args.self.now.labels c.loop-i.self.labels c.add_one_cut.new.self.labels
          c.args.self.now.edges.items c.loop-i.self.edges.items c.add_one_cut.new.self.edges.items lt (get_or_default c.args.cut.now c.loop-i.i [] row lt) c.loop-i.invariant.adds
          (rw (c.look_ahead_from.ensures.labels, c.look_ahead_from.ensures.edges) at c.in_ok-add_one_cut.ensures.adds);
      grows = omega (arith, grows, more, same);
    }
