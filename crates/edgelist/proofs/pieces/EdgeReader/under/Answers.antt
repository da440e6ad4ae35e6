use Rattle.std.proofs.Common.{[], refl, inl}
use Rattle.graph.specs.Records.{byte_of}
use Rattle.edgelist.proofs.GivenLemmas.{records-none}
use Rattle.edgelist.proofs.PieceLemmas.{through-none}
use Rattle.edgelist.proofs.pieces.EdgeReader.under.Goals as goal

pub returns-clause-ok : goal.returns-clause-ok
returns-clause-ok c = record {
  none = refl;
  delimiter_is = refl;
  limits_are = refl;
  done = [];
  left = [];
  text_is = refl;
  ends = inl refl;
  held = inl (refl, c.new-2.ensures.items);
  through = λ plain. rw (records-none (byte_of c.args.delimiter), c.in_ok-reading.ensures.labels, c.in_ok-reading.ensures.edges) (through-none _);
}
