use Rattle.std.proofs.Common.{◌≡◌, ◌++◌, ℕ, List, take}
use Rattle.std.specs.Prelude.{Result, IfErr, IfOk, OnOk}
use Rattle.std.specs.List.{All, flat_map}
use Rattle.ball_model.specs.Input.{Network, Refusal}
use Rattle.edgelist.specs.Pieces.{IsDone, IsOn}
use Rattle.edgelist.specs.Reading.{Refuses}
use Rattle.graph.specs.Records.{byte_of}
use Rattle.edgelist.specs.Rounds.{IsBegun, has_plain_lines, records_of}
use Rattle.edgelist.specs.declared.piece.Gives.TheVariants as gave
use Rattle.edgelist.proofs.rounds.fill_pieces.Given as goal

abbrev pub invariant-loop-i : goal.invariant-loop-i
invariant-loop-i g l = record {
  on : (text : List ℕ) (done : List (List (List ℕ))) → IsOn (byte_of l.delimiter) text done l.initial.held.bytes.items (g.S.Read.remaining l.initial.reader) →
      OnOk l.filled (IsOn (byte_of l.delimiter) text (done ++ flat_map records_of (take l.i l.pieces)) l.held.bytes.items (g.S.Read.remaining l.reader));
  begun : (text : List ℕ) (done : List (List (List ℕ))) → IsOn (byte_of l.delimiter) text done l.initial.held.bytes.items (g.S.Read.remaining l.initial.reader) →
      IsBegun (byte_of l.delimiter) text (done ++ flat_map records_of (take l.i l.pieces));
  plain : (text : List ℕ) (done : List (List (List ℕ))) → IsOn (byte_of l.delimiter) text done l.initial.held.bytes.items (g.S.Read.remaining l.initial.reader) → All has_plain_lines (take l.i l.pieces);
  end : IfOk l.filled (λ gives. gives ≡ gave.Nothing → IsDone l.held.bytes.items (g.S.Read.remaining l.reader));
  failed : IfErr l.filled (λ e. (says : Result Network Refusal) → Refuses says e);
}
