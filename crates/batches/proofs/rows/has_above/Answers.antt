use Rattle.std.proofs.Common.{◌∙◌, ap, ltb, ℕ}
use Rattle.batches.proofs.CheckLemmas.{greatest_above}
use Rattle.batches.proofs.rows.has_above.Goals as goal

pub returns : goal.returns
returns c = ap (λ (most : ℕ). ltb 33 most) c.greatest.ensures ∙ greatest_above c.args.registers.now
