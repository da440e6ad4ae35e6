use Rattle.std.proofs.Common.{rules, ◌≡◌, List, ℕ, subst}
use Rattle.std.specs.Io.KnownBytes.{IsAtEnd}
use Rattle.edgelist.specs.Pieces.{Fills}
use Rattle.graph.specs.Records.{byte_of}
use Rattle.edgelist.proofs.RoundLemmas.{on-filled, on-front, on-last, on-plain}
use Rattle.edgelist.proofs.piece.Piece.take_lines.Goals as goal

pub returns-then-eq-clause-on : goal.returns-then-eq-clause-on
returns-then-eq-clause-on g c = λ text done on.
    let d = byte_of c.args.delimiter in
    let old = g.S.Read.remaining c.args.reader.now in
    let new = g.S.Read.remaining c.fill.new.reader in
    let lines = c.fill.new.lines.items in
    let first : c.extend_from_slice.new.self.items ≡ c.args.held.now.bytes.items = rw (c.clear.ensures.items, c.deref.ensures.value) at c.in_ok-extend_from_slice.ensures.items in
    let fills = subst (λ (l : List ℕ). Fills old new l lines) first c.in_ok-gives.ensures.fills in
    let at : IsAtEnd new = c.in_ok-gives.ensures.end (search rules) in
    rw c.clear-then-eq.ensures.items (on-last d text done lines new (on-filled d text done c.args.held.now.bytes.items lines old new fills on) at).0

pub returns-in_ok-hold_from-clause-on : goal.returns-in_ok-hold_from-clause-on
returns-in_ok-hold_from-clause-on g c = λ text done on.
    let d = byte_of c.args.delimiter in
    let old = g.S.Read.remaining c.args.reader.now in
    let new = g.S.Read.remaining c.fill.new.reader in
    let lines = c.fill.new.lines.items in
    let first : c.extend_from_slice.new.self.items ≡ c.args.held.now.bytes.items = rw (c.clear.ensures.items, c.deref.ensures.value) at c.in_ok-extend_from_slice.ensures.items in
    let fills = subst (λ (l : List ℕ). Fills old new l lines) first c.in_ok-gives.ensures.fills in
    let within = rw c.deref-else-eq.ensures.value at c.last_end-end.ensures.within in
    let ends = rw c.deref-else-eq.ensures.value at c.last_end-end.ensures.ends in
    rw (c.in_ok-hold_from.ensures.front, c.in_ok-hold_from.ensures.rest)
    (on-front d text done lines new c.last_end-end.result (on-filled d text done c.args.held.now.bytes.items lines old new fills on) within ends)

pub returns-in_ok-hold_from-clause-plain : goal.returns-in_ok-hold_from-clause-plain
returns-in_ok-hold_from-clause-plain g c = λ text done on.
    let d = byte_of c.args.delimiter in
    let old = g.S.Read.remaining c.args.reader.now in
    let new = g.S.Read.remaining c.fill.new.reader in
    let lines = c.fill.new.lines.items in
    let first : c.extend_from_slice.new.self.items ≡ c.args.held.now.bytes.items = rw (c.clear.ensures.items, c.deref.ensures.value) at c.in_ok-extend_from_slice.ensures.items in
    let fills = subst (λ (l : List ℕ). Fills old new l lines) first c.in_ok-gives.ensures.fills in
    let within = rw c.deref-else-eq.ensures.value at c.last_end-end.ensures.within in
    let ends = rw c.deref-else-eq.ensures.value at c.last_end-end.ensures.ends in
    rw c.in_ok-hold_from.ensures.front
    (on-plain d text done lines new c.last_end-end.result (on-filled d text done c.args.held.now.bytes.items lines old new fills on) within ends)
