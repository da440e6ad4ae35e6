use Rattle.std.proofs.Common.{ap, sym, ◌∙◌, length}
use Rattle.registers.proofs.FlagLemmas.{length-flags_of}
use Rattle.registers.proofs.mask.SourceMask.limits.Goals as goal

pub returns : goal.returns
returns c = sym (ap (λ flags. length flags) c.bits-flags.ensures.back) ∙ length-flags_of c.bits-flags.result
