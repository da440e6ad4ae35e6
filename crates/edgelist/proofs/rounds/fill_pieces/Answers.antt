use Rattle.std.proofs.Common.{◌<◌, ◌≤◌, ◌++◌, [], List, ℕ, length, take, arith, subst, sym}
use Rattle.std.specs.Prelude.{OnOk}
use Rattle.std.specs.List.{All, flat_map}
use Rattle.std.proofs.lemmas.List.{append-nil, take_all, take_more_set}
use Rattle.std.proofs.lemmas.List.Elements.{All-push}
use Rattle.edgelist.specs.Pieces.{IsOn}
use Rattle.graph.specs.Records.{byte_of}
use Rattle.edgelist.specs.Rounds.{IsBegun, has_plain_lines, records_of}
use Rattle.edgelist.specs.declared.piece.Piece.{Piece}
use Rattle.edgelist.proofs.RoundLemmas.{begun-on, pieces-put}
use Rattle.edgelist.proofs.rounds.fill_pieces.Goals as goal

pub loop-i-init : goal.loop-i-init
loop-i-init g c =
    let d = byte_of c.args.delimiter in
    let held = c.args.held.now.bytes.items in
    let left = g.S.Read.remaining c.args.reader.now in
    record {
      on = λ text done on. subst (λ (rs : List (List (List ℕ))). IsOn d text rs held left) (sym (append-nil done)) on;
      begun = λ text done on. subst (λ (rs : List (List (List ℕ))). IsBegun d text rs) (sym (append-nil done)) (begun-on d text done held left on);
      plain = λ text done on i p lt. absurd (omega (arith, lt));
      end = λ e. absurd (cc);
      failed = tt;
    }

pub loop-i-preserved : goal.loop-i-preserved
loop-i-preserved g c =
    let d = byte_of c.args.delimiter in
    let i = c.loop-i.i in
    let xs = c.loop-i.pieces in
    let inv = c.loop-i.invariant in
    let lt : i < length xs = omega (arith, c.loop-i-test.true, c.loop-i.auto.pieces) in
    let piece = c.fill_next-filled.new.piece in
    let next = c.fill_next-filled.ensures in
    record {
      on = λ text done on.
          subst (λ (rs : List (List (List ℕ))). OnOk c.fill_next-filled.result (IsOn d text rs c.fill_next-filled.new.held.bytes.items (g.S.Read.remaining c.fill_next-filled.new.reader))) (pieces-put xs i piece done lt)
          (next.on text (done ++ flat_map records_of (take i xs)) (inv.on text done on));
      begun = λ text done on.
          subst (λ (rs : List (List (List ℕ))). IsBegun d text rs) (pieces-put xs i piece done lt)
          (next.begun text (done ++ flat_map records_of (take i xs)) (inv.on text done on) (inv.begun text done on));
      plain = λ text done on.
          subst (λ (ps : List Piece). All has_plain_lines ps) (sym (take_more_set xs i piece lt))
          (All-push has_plain_lines (take i xs) piece (inv.plain text done on) (next.plain text (done ++ flat_map records_of (take i xs)) (inv.on text done on)));
      end = next.end inv.end;
      failed = next.failed inv.failed;
    }

pub returns-clause-plain : goal.returns-clause-plain
returns-clause-plain g c = λ text done on.
    let at : length c.loop-i.pieces ≤ c.loop-i.i = omega (arith, c.loop-i-test.false, c.loop-i.auto.pieces, c.loop-i.auto.i-end) in
    subst (λ (ps : List Piece). All has_plain_lines ps) (take_all c.loop-i.i c.loop-i.pieces at) (c.loop-i.invariant.plain text done on)

pub returns-clause-on : goal.returns-clause-on
returns-clause-on g c = λ text done on.
    let at : length c.loop-i.pieces ≤ c.loop-i.i = omega (arith, c.loop-i-test.false, c.loop-i.auto.pieces, c.loop-i.auto.i-end) in
    subst (λ (ps : List Piece). OnOk c.loop-i.filled (IsOn (byte_of c.args.delimiter) text (done ++ flat_map records_of ps) c.loop-i.held.bytes.items (g.S.Read.remaining c.loop-i.reader)))
    (take_all c.loop-i.i c.loop-i.pieces at) (c.loop-i.invariant.on text done on)

pub returns-clause-begun : goal.returns-clause-begun
returns-clause-begun g c = λ text done on.
    let at : length c.loop-i.pieces ≤ c.loop-i.i = omega (arith, c.loop-i-test.false, c.loop-i.auto.pieces, c.loop-i.auto.i-end) in
    subst (λ (ps : List Piece). IsBegun (byte_of c.args.delimiter) text (done ++ flat_map records_of ps))
    (take_all c.loop-i.i c.loop-i.pieces at) (c.loop-i.invariant.begun text done on)
