use Rattle.ball_model.proofs.JoinLemmas.{join_commutes, join_associates, join_repeats, join_is_union}
use Rattle.ball_model.proofs.laws.join_is_a_join.Goals as goal

pub returns-clause-commutative : goal.returns-clause-commutative
returns-clause-commutative c = join_commutes

pub returns-clause-associative : goal.returns-clause-associative
returns-clause-associative c = join_associates

pub returns-clause-repeats : goal.returns-clause-repeats
returns-clause-repeats c = join_repeats

pub returns-clause-union : goal.returns-clause-union
returns-clause-union c = join_is_union
