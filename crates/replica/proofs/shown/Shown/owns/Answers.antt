use Rattle.std.proofs.Common.{◌≡◌, ◌<◌, ◌≤◌, ◌%◌, ◌==◌, ◌&&◌, ℕ, false, ap, sym, ◌∙◌, arith}
use Rattle.replica.proofs.Names.{list_any, lt-ltb, le-ltb, PlanValue, vertices_of, State}
use Rattle.replica.proofs.IndexLemmas.Own.{owns_is}
use Rattle.replica.proofs.shown.Shown.owns.Goals as goal

inside : (x n parts p : ℕ) → x < n → (x % parts == p) ≡ list_any (λ v. v == x) (vertices_of n parts p)
inside x n parts p lt = sym (owns_is x n parts p ∙ ap (λ b. b && (x % parts == p)) (lt-ltb x n lt))

outside : (x n parts p : ℕ) → n ≤ x → false ≡ list_any (λ v. v == x) (vertices_of n parts p)
outside x n parts p le = sym (owns_is x n parts p ∙ ap (λ b. b && (x % parts == p)) (le-ltb x n le))

pub returns-then-x-vertices-clause-value : goal.returns-then-x-vertices-clause-value
returns-then-x-vertices-clause-value g c =
    let v : State = g.Self.Shown.state c.args.self.now in
    let of : c.partition_of.result ≡ c.args.x % v.part.plan.parts = c.partition_of.ensures.value ∙ ap (λ (a : PlanValue). c.args.x % a.parts) c.plan-plan.ensures in
    let lt : c.args.x < v.part.plan.vertices = omega (arith, c.vertices.ensures.value, ap (λ (a : PlanValue). a.vertices) c.plan-plan.ensures) in
    rw (of, c.partition.ensures) (inside c.args.x v.part.plan.vertices v.part.plan.parts v.part.number lt)

pub returns-else-x-vertices-clause-value : goal.returns-else-x-vertices-clause-value
returns-else-x-vertices-clause-value g c =
    let v : State = g.Self.Shown.state c.args.self.now in
    let le : v.part.plan.vertices ≤ c.args.x = omega (arith, c.vertices.ensures.value, ap (λ (a : PlanValue). a.vertices) c.plan-plan.ensures) in
    le-ltb c.args.x c.vertices.result c.if-x-vertices.false ∙ outside c.args.x v.part.plan.vertices v.part.plan.parts v.part.number le
