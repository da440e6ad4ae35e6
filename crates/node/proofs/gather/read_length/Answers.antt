use Rattle.std.proofs.Common.{◌∙◌, List, ℕ, [], ◌∷◌, ◌++◌, ap, sym, subst}
use Rattle.std.specs.Io.KnownBytes.{Consumes}
use Rattle.node.proofs.GatherLemmas.{part_line_lacks}
use Rattle.node.proofs.gather.read_length.Goals as goal

pub returns-in-Some-clause-read : goal.returns-in-Some-clause-read
returns-in-Some-clause-read g c =
    subst (Consumes (g.R.Read.remaining c.args.reader.now) (g.R.Read.remaining c.read_line.new.reader))
    (ap (λ (l : List ℕ). l ++ 10 ∷ []) (sym c.deref.ensures.value) ∙ c.length_in.ensures.spelled c.in-Some.length c.in-Some.is)
    c.in-Whole.ensures.read.consumed

pub returns-in-Memory-clause-refused : goal.returns-in-Memory-clause-refused
returns-in-Memory-clause-refused g c =
    part_line_lacks c.args.part.now (g.R.Read.remaining c.args.reader.now) (g.R.Read.remaining c.read_line.new.reader) c.in-Memory.ensures.read
