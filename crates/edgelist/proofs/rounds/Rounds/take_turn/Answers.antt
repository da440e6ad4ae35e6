use Rattle.std.proofs.Common.{◌++◌}
use Rattle.std.specs.List.{flat_map}
use Rattle.std.proofs.lemmas.Result.{err_from_is_err_and}
use Rattle.graph.specs.Records.{byte_of}
use Rattle.edgelist.specs.Reading.{limits_of}
use Rattle.edgelist.specs.Rounds.{records_of}
use Rattle.edgelist.proofs.RoundLemmas.{begun-refused, begun-turn, on-turn, on-weaker, same-texts}
use Rattle.edgelist.proofs.rounds.Rounds.take_turn.Goals as goal

pub returns-in_err-n-clause-refused : goal.returns-in_err-n-clause-refused
returns-in_err-n-clause-refused g c = λ text on.
    let p = err_from_is_err_and c.from_residual.result c.from_residual.ensures.1 in
    let begun = c.fill_pieces-filled.ensures.begun text (on.before ++ flat_map records_of c.args.pieces.now) on.on in
    rw (p.1, p.2) (begun-refused (limits_of c.args.self.now.limits) (byte_of c.args.self.now.delimiter) text on.before c.args.pieces.now (flat_map records_of c.fill_pieces-filled.new.pieces) c.in_err-n.field-0.0 begun
    (λ rest. c.in_err-n.ensures.refused on.before rest on.plain on.through))

pub returns-clause-on : goal.returns-clause-on
returns-clause-on g c = λ text on.
    let filled = c.fill_pieces-filled.ensures in
    let done = on.before ++ flat_map records_of c.args.pieces.now in
    let same = same-texts c.fill_pieces-filled.new.pieces c.add_and_cut.new.coming c.add_and_cut.auto.coming c.in_ok-n.ensures.cut in
    on-weaker c.fill_pieces-filled.result _ _ (filled.on text done on.on) (λ next.
    on-turn (limits_of c.args.self.now.limits) (byte_of c.args.self.now.delimiter) text c.args.number c.in_ok-n.n c.args.reading.now.labels c.add_and_cut.new.reading.labels c.args.reading.now.edges.items c.add_and_cut.new.reading.edges.items
    c.args.pieces.now c.fill_pieces-filled.new.pieces c.add_and_cut.new.coming c.args.held.now.bytes.items c.fill_pieces-filled.new.held.bytes.items (g.S.Read.remaining c.args.reader.now) (g.S.Read.remaining c.fill_pieces-filled.new.reader) on next
    (filled.plain text done on.on) same (c.in_ok-n.ensures.ok on.before on.plain on.through))

pub returns-clause-begun : goal.returns-clause-begun
returns-clause-begun g c = λ text on.
    let filled = c.fill_pieces-filled.ensures in
    let done = on.before ++ flat_map records_of c.args.pieces.now in
    let same = same-texts c.fill_pieces-filled.new.pieces c.add_and_cut.new.coming c.add_and_cut.auto.coming c.in_ok-n.ensures.cut in
    begun-turn (limits_of c.args.self.now.limits) (byte_of c.args.self.now.delimiter) text c.in_ok-n.n c.add_and_cut.new.reading.labels c.add_and_cut.new.reading.edges.items on.before c.args.pieces.now c.fill_pieces-filled.new.pieces c.add_and_cut.new.coming
    (filled.begun text done on.on) (filled.plain text done on.on) same (c.in_ok-n.ensures.ok on.before on.plain on.through)
