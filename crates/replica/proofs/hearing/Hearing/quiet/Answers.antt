use Rattle.std.proofs.Common.{◌≡◌, Bool, List, false, replicate, rules, refl, sym, ◌∙◌, subst}
use Rattle.replica.proofs.Names.{length-replicate, copies-at}
use Rattle.replica.specs.Spread.{AreTouched}
use Rattle.replica.proofs.LevelLemmas.Level.{none_touched}
use Rattle.replica.proofs.hearing.Hearing.quiet.Goals as goal

pub returns : goal.returns
returns c =
    let rows = c.args.accumulated.rows in
    let n = c.len.result in
    let items : c.in_ok-touched.touched.items ≡ replicate n false = c.in_ok-touched.ensures.items_if_clones_equal (search rules) in
    let quiet : AreTouched rows rows (replicate n false) = none_touched rows (replicate n false) (length-replicate {A = Bool} n false ∙ c.len.ensures.value) (λ q. copies-at n q false) in
    record {
      heard = c.empty.ensures;
      change = refl;
      accumulated = refl;
      kept = subst (λ (l : List Bool). AreTouched rows rows l) (sym items) quiet;
    }
