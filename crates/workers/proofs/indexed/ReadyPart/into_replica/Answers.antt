use Rattle.std.proofs.Common.{◌∙◌, Err, Ok}
use Rattle.std.specs.Prelude.{IfOk, Result}
use Rattle.std.proofs.lemmas.Result.{IfOk-weaker}
use Rattle.std.specs.Arc.{arc_value}
use Rattle.replica.proofs.StartLemmas.Start.{starts_empty, starts_stands}
use Rattle.workers.proofs.PathLemmas.{start_held}
use Rattle.workers.proofs.indexed.ReadyPart.into_replica.Goals as goal

-- two facts of what an answer that is Ok has
both : {T E : Type 0} (r : Result T E) (P Q : T → Type 0) → IfOk r P → IfOk r Q → IfOk r (λ v. P v × Q v)
both (Ok v) P Q p q = (p, q)
both (Err e) P Q p q = tt

pub returns-in-Some : goal.returns-in-Some
returns-in-Some c = λ j p ok below is.
    IfOk-weaker c.with_tables.result _ _ (λ v s.
    let stands = starts_stands j p (arc_value c.self.inside.part) v ok below (c.self.view_is ∙ is) s in
    record { stands = stands; held = start_held j p v stands (λ r q. starts_empty (arc_value c.self.inside.part) v r q s) }) c.with_tables.ensures

pub returns-in-None : goal.returns-in-None
returns-in-None c = λ j p ok below is.
    IfOk-weaker c.new.result _ _ (λ v h.
    let stands = h.0 j p ok below (c.self.view_is ∙ is) in
    record { stands = stands; held = start_held j p v stands h.1 }) (both c.new.result _ _ c.new.ensures.stands c.new.ensures.names)
