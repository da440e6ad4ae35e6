use Rattle.std.proofs.Common.{ap, sym, ◌∙◌, slice_index_or, false}
use Rattle.registers.specs.Flags.{number_of_flags}
use Rattle.registers.specs.Laws.{number_back}
use Rattle.registers.proofs.FlagLemmas.{flag_at}
use Rattle.registers.proofs.mask.SourceMask.bits.Goals as goal

pub returns-clause-source : goal.returns-clause-source
returns-clause-source c q below = sym (flag_at c.self.inside.bits q below) ∙ ap (λ flags. slice_index_or flags q false) c.self.view_is

pub returns-clause-value : goal.returns-clause-value
returns-clause-value c = sym (number_back c.self.inside.bits c.self.invariant) ∙ ap number_of_flags c.self.view_is
