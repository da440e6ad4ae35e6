use Rattle.std.proofs.Common.{◌≡◌, []}
use Rattle.std.specs.Io.KnownBytes.{prepend_known}
use Rattle.ball_model.specs.Input.{Limits}
use Rattle.edgelist.specs.Given.{IsGivenUnder}
use Rattle.graph.specs.declared.delimiter.Delimiter.{Delimiter}
use Rattle.job.proofs.InputLemmas.{GivesSoFar}
use Rattle.job.proofs.input.give_section.Given as goal

abbrev pub invariant-loop-count : goal.invariant-loop-count
invariant-loop-count g l = record {
  so :
      (limits : Limits) (delimiter : Delimiter) → IsGivenUnder limits delimiter [] l.initial.edges →
      GivesSoFar limits delimiter l._count l.cut.begins (g.R.Read.remaining l.initial.reader) (prepend_known l.cut.ahead.items (g.R.Read.remaining l.reader)) l.edges;
  counted : g.R.CountedRead.failed_calls l.reader ≡ g.R.CountedRead.failed_calls l.initial.reader;
}
