use Rattle.std.proofs.Common.{◌∙◌, ℕ, ap}
use Rattle.ball_model.specs.Figures.{TallyValue, closeness_of, lin_of}
use Rattle.figures.specs.declared.ends.Figures.{Figures}
use Rattle.figures.specs.Values.{value_of}
use Rattle.figures.proofs.SumLemmas.{weight_apart}
use Rattle.figures.proofs.ends.figures_by.Goals as goal

-- the figures of a tally, with the number of empty registers
abbrev figures_as : TallyValue → ℕ → Figures
figures_as tally empty = record {
  estimate = tally.last;
  harmonic = tally.harm;
  closeness = closeness_of tally.dist;
  lin = lin_of tally.last tally.dist;
  empty = empty;
}

pub returns : goal.returns
returns c = λ row short is.
    c.figures_with.ensures ∙ ap (figures_as (value_of c.args.tally)) (weight_apart row c.args.weight short is).1
