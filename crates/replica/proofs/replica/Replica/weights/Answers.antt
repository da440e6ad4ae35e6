use Rattle.std.proofs.Common.{◌≤◌, ◌∙◌, [], length, get_or, ap, subst, sym}
use Rattle.figures.proofs.SumLemmas.{short}
use Rattle.replica.proofs.Names.{State, get_or_default}
use Rattle.replica.specs.Level.{weights_of}
use Rattle.replica.proofs.replica.Replica.weights.Goals as goal

pub returns : goal.returns
returns c =
    let s = c.limits.ensures.state in
    let rows = c.args.self.now.rows in
    record {
      each = c.deref.ensures.value ∙ c.self.invariant.weights ∙ ap (λ (v : State). weights_of v.rows) c.self.view_is;
      short = λ i d lt.
          let row = s.rows.row i lt in
          subst (λ row. length row ≤ 1024) (sym (get_or_default rows i d [] lt)) (short (get_or rows i []) c.args.self.now.part.plan.log2m row.to row.width);
    }
