use Rattle.graph.specs.Records.{byte_of}
use Rattle.edgelist.proofs.RoundLemmas.{begun-filled, begun-none, on-cleared}
use Rattle.edgelist.proofs.rounds.fill_next.Goals as goal

pub returns-in-Ok-Much-clause-begun : goal.returns-in-Ok-Much-clause-begun
returns-in-Ok-Much-clause-begun g c = λ text done on begun.
    begun-filled c.fill.result (byte_of c.args.delimiter) text done c.fill.new.self c.fill.new.held.bytes.items (g.S.Read.remaining c.fill.new.reader)
    (c.fill.ensures.on text done (rw c.in-Ok-Much.is at on)) c.fill.ensures.dropped begun

pub returns-in-Ok-Little-clause-on : goal.returns-in-Ok-Little-clause-on
returns-in-Ok-Little-clause-on g c = λ text done on.
    on-cleared c.args.filled (byte_of c.args.delimiter) text done c.args.held.now.bytes.items (g.S.Read.remaining c.args.reader.now) c.clear.new.self c.clear.ensures on

pub returns-in-Ok-Little-clause-begun : goal.returns-in-Ok-Little-clause-begun
returns-in-Ok-Little-clause-begun g c = λ text done on begun.
    begun-none (byte_of c.args.delimiter) text done c.clear.new.self c.clear.ensures begun
