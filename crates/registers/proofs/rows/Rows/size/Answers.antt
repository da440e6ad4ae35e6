use Rattle.std.proofs.Common.{ℕ, ap₂, ◌∙◌, ◌*◌}
use Rattle.registers.proofs.TableLemmas.{shown}
use Rattle.registers.proofs.rows.Rows.size.Goals as goal

pub returns : goal.returns
returns c =
    let r = c.self.inside in
    let is = shown r.width r.count r.cells.items c.args.self.now c.self.view_is in
    c.len.ensures ∙ c.self.invariant.filled ∙ ap₂ (λ (n w : ℕ). n * w) is.count is.width
