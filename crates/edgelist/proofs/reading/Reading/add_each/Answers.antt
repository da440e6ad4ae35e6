use Rattle.std.proofs.Common.{◌≡◌, ◌<◌, arith, length, get_or}
use Rattle.std.proofs.lemmas.Result.{err_from_is_err_and}
use Rattle.edgelist.specs.Reading.{limits_of}
use Rattle.edgelist.proofs.RowLemmas.{adds-next, form-at}
use Rattle.edgelist.proofs.reading.Reading.add_each.Goals as goal

pub returns-in_err-add-clause-memory : goal.returns-in_err-add-clause-memory
returns-in_err-add-clause-memory c =
    let rows = c.args.rows.now in
    let lt : c.loop-i.i < length rows = omega (arith, c.loop-i-test.true) in
    let here : c.index-rows-i.result ≡ get_or rows c.loop-i.i c.index-rows-i.result = search (c.index-rows-i.is) in
    let form = form-at rows c.loop-i.i c.index-rows-i.result lt here c.requires.form in
    let p = err_from_is_err_and c.from_residual.result c.from_residual.ensures.1 in
    let grows = c.loop-i.invariant.grows in
    rw (p.1, p.2) (c.in_err-add.ensures.room (omega (arith, lt, c.requires.number)) form (omega (arith, lt, grows, c.requires.room)))

pub loop-i-preserved : goal.loop-i-preserved
loop-i-preserved c =
    let lt : c.loop-i.i < length c.args.rows.now = omega (arith, c.loop-i-test.true) in
    let here : c.index-rows-i.result ≡ get_or c.args.rows.now c.loop-i.i c.index-rows-i.result = search (c.index-rows-i.is) in
    let grows = c.loop-i.invariant.grows in
    let more = c.in_ok-add.ensures.grows in
    record {
      adds = adds-next (limits_of c.args.limits) c.args.number c.loop-i.i c.args.rows.now c.index-rows-i.result c.args.self.now.labels c.loop-i.self.labels c.add.new.self.labels
          c.args.self.now.edges.items c.loop-i.self.edges.items c.add.new.self.edges.items lt here c.loop-i.invariant.adds c.in_ok-add.ensures.adds;
      grows = omega (arith, grows, more);
    }
