use Rattle.std.proofs.Common.{◌≡◌, ◌<◌, ◌+◌, ℕ, List, [], length, get_or, arith, true, false, subst}
use Rattle.std.proofs.lemmas.List.{get_or_default}
use Rattle.std.proofs.lemmas.Result.{err_from_is_err_and}
use Rattle.graph.specs.Records.{ReadsOne}
use Rattle.edgelist.specs.Reading.{limits_of}
use Rattle.edgelist.specs.declared.limits.EdgeError.TheVariants as refused
use Rattle.edgelist.proofs.PieceLemmas.{part-read-more, reads-failed, reads-part, reads-refused, reads-whole}
use Rattle.edgelist.proofs.RowLemmas.{part-read-rows}
use Rattle.edgelist.proofs.reading.Reading.read_some.Goals as goal

pub returns-in_err-count-clause-reads : goal.returns-in_err-count-clause-reads
returns-in_err-count-clause-reads g c = λ d text before part.
    let p = err_from_is_err_and c.from_residual.result c.from_residual.ensures.1 in
    rw (p.1, p.2) (reads-failed g.R.Read.remaining d (limits_of c.args.limits) before text c.read_rows.new.reader _ _ c.in_err-count.field-0.0 c.in_err-count.ensures.failed)

pub returns-in_err-add_each-clause-reads : goal.returns-in_err-add_each-clause-reads
returns-in_err-add_each-clause-reads g c = λ d text before part.
    let p = err_from_is_err_and c.from_residual-in_err-add_each.result c.from_residual-in_err-add_each.ensures.1 in
    rw (p.1, p.2, c.in_err-add_each.ensures.memory) (reads-failed g.R.Read.remaining d (limits_of c.args.limits) before text c.read_rows.new.reader _ _ refused.Memory (λ says. tt))

pub returns-then-not-more-clause-reads : goal.returns-then-not-more-clause-reads
returns-then-not-more-clause-reads g c = λ d text before part.
    let none : c.in_ok-count.more ≡ false = search c.if-not-more.true in
    let after = c.in_ok-count.ensures.end none in
    let lt : c.in_ok-count.count < length c.read_rows.new.rows = omega (arith, c.in_ok-count.ensures.few, c.room_for-most.ensures.most, c.requires.rows, c.read_rows.auto.rows) in
    let adds = rw c.look_ahead.ensures at c.in_ok-add_each.ensures.adds in
    let here = part-read-rows g.R.Read.remaining d (limits_of c.args.limits) c.args.number before text c.args.reader.now after.middle c.args.self.now.labels c.add_each.new.self.labels c.args.self.now.edges.items c.add_each.new.self.edges.items c.read_rows.new.rows c.in_ok-count.count (omega (arith, lt)) part after.reads adds in
    reads-whole g.R.Read.remaining d (limits_of c.args.limits) (c.args.number + c.in_ok-count.count) before text after.middle c.read_rows.new.reader c.add_each.new.self.labels c.add_each.new.self.edges.items here (after.none d text here.past here.at)

pub returns-in_err-add-clause-reads : goal.returns-in_err-add-clause-reads
returns-in_err-add-clause-reads g c = λ d text before part.
    let more_is : c.in_ok-count.more ≡ true = search c.if-not-more.false in
    let after = c.in_ok-count.ensures.one more_is in
    let lt : c.in_ok-count.count < length c.read_rows.new.rows = omega (arith, c.in_ok-count.ensures.few, c.room_for-most.ensures.most, c.requires.rows, c.read_rows.auto.rows) in
    let adds = rw c.look_ahead.ensures at c.in_ok-add_each.ensures.adds in
    let here = part-read-rows g.R.Read.remaining d (limits_of c.args.limits) c.args.number before text c.args.reader.now after.middle c.args.self.now.labels c.add_each.new.self.labels c.args.self.now.edges.items c.add_each.new.self.edges.items c.read_rows.new.rows c.in_ok-count.count (omega (arith, lt)) part after.reads adds in
    let row = get_or c.read_rows.new.rows c.in_ok-count.count c.index-rows-count.result in
    let one = subst (λ (r : List (List ℕ)). ReadsOne g.R.Read.remaining after.middle c.read_rows.new.reader r) (get_or_default c.read_rows.new.rows c.in_ok-count.count [] c.index-rows-count.result lt) after.one in
    let p = err_from_is_err_and c.from_residual-in_err-add.result c.from_residual-in_err-add.ensures.1 in
    rw (p.1, p.2) (reads-refused g.R.Read.remaining d (limits_of c.args.limits) (c.args.number + c.in_ok-count.count) before text after.middle c.read_rows.new.reader
    c.add_each.new.self.labels _ c.add_each.new.self.edges.items _ row c.in_err-add.field-0.0
    here (one d text here.past here.at) c.in_err-add.ensures.stops)

pub returns-clause-reads : goal.returns-clause-reads
returns-clause-reads g c = λ d text before part.
    let more_is : c.in_ok-count.more ≡ true = search c.if-not-more.false in
    let after = c.in_ok-count.ensures.one more_is in
    let lt : c.in_ok-count.count < length c.read_rows.new.rows = omega (arith, c.in_ok-count.ensures.few, c.room_for-most.ensures.most, c.requires.rows, c.read_rows.auto.rows) in
    let adds = rw c.look_ahead.ensures at c.in_ok-add_each.ensures.adds in
    let here = part-read-rows g.R.Read.remaining d (limits_of c.args.limits) c.args.number before text c.args.reader.now after.middle c.args.self.now.labels c.add_each.new.self.labels c.args.self.now.edges.items c.add_each.new.self.edges.items c.read_rows.new.rows c.in_ok-count.count (omega (arith, lt)) part after.reads adds in
    let row = get_or c.read_rows.new.rows c.in_ok-count.count c.index-rows-count.result in
    let one = subst (λ (r : List (List ℕ)). ReadsOne g.R.Read.remaining after.middle c.read_rows.new.reader r) (get_or_default c.read_rows.new.rows c.in_ok-count.count [] c.index-rows-count.result lt) after.one in
    reads-part g.R.Read.remaining d (limits_of c.args.limits) (c.args.number + c.in_ok-count.count + 1) before text c.read_rows.new.reader c.add.new.self.labels c.add.new.self.edges.items
    (part-read-more g.R.Read.remaining d (limits_of c.args.limits) (c.args.number + c.in_ok-count.count) before text after.middle c.read_rows.new.reader
    c.add_each.new.self.labels c.add.new.self.labels c.add_each.new.self.edges.items c.add.new.self.edges.items row
    here (one d text here.past here.at) c.in_ok-add.ensures.adds)
