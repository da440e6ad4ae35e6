use Rattle.std.proofs.Common.{ap, ◌∙◌}
use Rattle.std.specs.BTreeMap.{get}
use Rattle.board.specs.Noted.{by_name}
use Rattle.board.proofs.NameLemmas.{below_cut, from_cut}
use Rattle.board.proofs.book.drop_batches.Goals as goal

pub returns-clause-left : goal.returns-clause-left
returns-clause-left c n = ap (λ m. get by_name m n) c.replace.ensures.after ∙ from_cut c.args.standing.now c.in_ok-left.left c.args.s n c.in_ok-left.ensures.from

pub returns-clause-dropped : goal.returns-clause-dropped
returns-clause-dropped c n = ap (λ m. get by_name m n) c.replace.ensures.value ∙ below_cut c.args.standing.now c.split_off.new.self c.args.s n c.in_ok-left.ensures.below
