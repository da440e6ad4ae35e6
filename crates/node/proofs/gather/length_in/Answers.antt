use Rattle.std.proofs.Common.{◌≡◌, ◌∙◌, true, sym}
use Rattle.std.specs.Prelude.{codes}
use Rattle.std.specs.Str.{bytes_eq}
use Rattle.node.proofs.GatherLemmas.{part_spelled}
use Rattle.node.proofs.gather.length_in.Goals as goal

pub returns-then-eq-clause-spelled : goal.returns-then-eq-clause-spelled
returns-then-eq-clause-spelled c = λ n is.
    let word : bytes_eq c.in_ok-word.word.now (codes "part") ≡ true = cc in
    part_spelled c.args.line.now c.in_ok-word.word.now c.in_ok-word.length.now n c.in_ok-word.ensures word (sym is ∙ c.size.ensures)
