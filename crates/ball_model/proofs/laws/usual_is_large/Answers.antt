use Rattle.std.proofs.Common.{arith, refl}
use Rattle.std.proofs.lemmas.Bool.{le-ltb}
use Rattle.ball_model.specs.PlanValue.{most_vertices, usual_vertices}
use Rattle.ball_model.proofs.laws.usual_is_large.Goals as goal

pub returns : goal.returns
returns c = λ p few. rw (le-ltb most_vertices p.vertices (omega (arith, few)), le-ltb usual_vertices p.vertices few) refl
