use Rattle.std.proofs.Common.{◌≡◌, ℕ, List, ◌*◌, length, refl, ap, ap₂, sym, ◌∙◌, arith}
use Rattle.ball_model.specs.Table.{pieces}
use Rattle.registers.proofs.TableLemmas.{lent_shown, shown}
use Rattle.registers.proofs.rows.Rows.cells_mut.Goals as goal

pub returns : goal.returns
returns c =
    let r = c.self.inside in
    let t = c.args.self.now in
    let is = shown r.width r.count r.cells.items t c.self.view_is in
    let long : length r.cells.items ≡ r.cells.len = sym r.cells.ok.0 in (
      (refl, λ w. lent_shown r.width r.count r.cells.len r.cells.items w t is c.self.invariant.filled long),
      record {
        rows = ap₂ (λ (k n : ℕ). pieces k n c.as_mut_slice.result.now) (sym is.width) (sym is.count) ∙ ap (λ (l : List ℕ). pieces r.width r.count l) c.as_mut_slice.ensures.value ∙ is.rows;
        length = omega (arith, c.as_mut_slice.ensures.len, c.self.invariant.filled, ap₂ (λ (n k : ℕ). n * k) is.count is.width);
        writes_back = tt;
      },
    )
