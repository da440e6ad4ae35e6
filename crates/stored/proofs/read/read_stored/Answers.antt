use Rattle.std.proofs.Common.{◌≡◌, ◌++◌, [], List, ℕ, subst}
use Rattle.std.specs.Io.KnownBytes.{Consumes}
use Rattle.std.proofs.lemmas.Result.{err_from_is_err_and}
use Rattle.sha2.specs.Sha256.{sha256}
use Rattle.stored.specs.Stored.{network_bytes, stored_of}
use Rattle.stored.proofs.LawLemmas.{is_found, is_network, is_sealed, is_wanting}
use Rattle.stored.proofs.ReadLemmas.{takes_then}
use Rattle.stored.proofs.ReadWholeLemmas.{seal_fails, stored-err}
use Rattle.stored.proofs.WholeLemmas.{counts_whole, same_network}
use Rattle.stored.proofs.read.read_stored.Goals as goal

pub returns-in_err-graph-clause-back : goal.returns-in_err-graph-clause-back
returns-in_err-graph-clause-back g c = λ v more s known.
    let p = err_from_is_err_and c.from_residual.result c.from_residual.ensures.1 in
    let bytes = network_bytes v ++ more in
    let e = c.in_err-graph.field-0.0 in
    rw (p.1, p.2) (is_wanting v more e s (λ of. stored-err bytes e (c.in_err-graph.ensures.fails.due bytes known of)))

pub returns-in_err-graph-clause-refused : goal.returns-in_err-graph-clause-refused
returns-in_err-graph-clause-refused g c = λ bytes known.
    let p = err_from_is_err_and c.from_residual.result c.from_residual.ensures.1 in
    rw (p.1, p.2) (λ of. stored-err bytes c.in_err-graph.field-0.0 (c.in_err-graph.ensures.fails.due bytes known of))

pub returns-in_err-read_seal-clause-back : goal.returns-in_err-read_seal-clause-back
returns-in_err-read_seal-clause-back g c = λ v more s known.
    let p = err_from_is_err_and c.from_residual-in_err-read_seal.result c.from_residual-in_err-read_seal.ensures.1 in
    let told_all = c.in_ok-graph.ensures.done in
    let right : c.finalize-right.result ≡ sha256 told_all.piece = c.finalize-right.ensures told_all.piece (told_all.digested [] c.new-hasher.ensures) in
    let fails = seal_fails told_all (c.in_err-read_seal.ensures.fails told_all.piece right) in
    rw (p.1, p.2) (is_wanting v more c.in_err-read_seal.field-0.0 s (fails.due (network_bytes v ++ more) known))

pub returns-in_err-read_seal-clause-refused : goal.returns-in_err-read_seal-clause-refused
returns-in_err-read_seal-clause-refused g c = λ bytes known.
    let p = err_from_is_err_and c.from_residual-in_err-read_seal.result c.from_residual-in_err-read_seal.ensures.1 in
    let told_all = c.in_ok-graph.ensures.done in
    let right : c.finalize-right.result ≡ sha256 told_all.piece = c.finalize-right.ensures told_all.piece (told_all.digested [] c.new-hasher.ensures) in
    let fails = seal_fails told_all (c.in_err-read_seal.ensures.fails told_all.piece right) in
    rw (p.1, p.2) (fails.due bytes known)

pub returns-in_err-graph-clause-same : goal.returns-in_err-graph-clause-same
returns-in_err-graph-clause-same g c = λ net more s is all known.
    let p = err_from_is_err_and c.from_residual.result c.from_residual.ensures.1 in
    let bytes = network_bytes (stored_of net) ++ more in
    let e = c.in_err-graph.field-0.0 in
    rw (p.1, p.2) (is_wanting (stored_of net) more e s (λ of. stored-err bytes e (c.in_err-graph.ensures.fails.due bytes known of)))

pub returns-in_err-read_seal-clause-same : goal.returns-in_err-read_seal-clause-same
returns-in_err-read_seal-clause-same g c = λ net more s is all known.
    let p = err_from_is_err_and c.from_residual-in_err-read_seal.result c.from_residual-in_err-read_seal.ensures.1 in
    let told_all = c.in_ok-graph.ensures.done in
    let right : c.finalize-right.result ≡ sha256 told_all.piece = c.finalize-right.ensures told_all.piece (told_all.digested [] c.new-hasher.ensures) in
    let fails = seal_fails told_all (c.in_err-read_seal.ensures.fails told_all.piece right) in
    rw (p.1, p.2) (is_wanting (stored_of net) more c.in_err-read_seal.field-0.0 s (fails.due (network_bytes (stored_of net) ++ more) known))

pub returns-clause-storable : goal.returns-clause-storable
returns-clause-storable g c = (is_network (stored_of c.in_ok-graph.graph) c.in_ok-graph.ensures.done).0

pub returns-clause-found : goal.returns-clause-found
returns-clause-found g c =
    let told_all = c.in_ok-graph.ensures.done in
    let v = stored_of c.in_ok-graph.graph in
    let right : c.finalize-right.result ≡ sha256 told_all.piece = c.finalize-right.ensures told_all.piece (told_all.digested [] c.new-hasher.ensures) in
    let takes = takes_then c.args.reader.now c.read_content.new.reader c.read_seal.new.reader told_all.piece c.finalize-right.result told_all.takes c.in_ok-read_seal.ensures.done in
    subst (λ (l : List ℕ). Consumes (g.R.Read.remaining c.args.reader.now) (g.R.Read.remaining c.read_seal.new.reader) l) (is_sealed v told_all.piece c.finalize-right.result (is_network v told_all).1 right) takes.consumed

pub returns-clause-back : goal.returns-clause-back
returns-clause-back g c = λ v more s known. is_found v (stored_of c.in_ok-graph.graph) more s c.in_ok-graph.ensures.done known

pub returns-clause-all : goal.returns-clause-all
returns-clause-all g c = counts_whole c.in_ok-graph.graph.graph (stored_of c.in_ok-graph.graph).preds c.in_ok-graph.ensures.graph

pub returns-clause-same : goal.returns-clause-same
returns-clause-same g c = λ net more s is all known.
    let graph = c.in_ok-graph.graph in
    same_network graph net c.in_ok-graph.ensures.graph is all (is_found (stored_of net) (stored_of graph) more s c.in_ok-graph.ensures.done known)
