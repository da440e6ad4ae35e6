use Rattle.std.proofs.Common.{◌≡◌, take, drop}
use Rattle.ball_model.specs.Sections.{sections_from, sections_of}
use Rattle.job.proofs.SectionLemmas.{behind}
use Rattle.hyperball.proofs.whole.sections.Given as goal

abbrev pub invariant-loop-i : goal.invariant-loop-i
invariant-loop-i l = sections_of l.input ≡ behind (take l.i l.input) (sections_from l.begins (drop l.i l.input))
