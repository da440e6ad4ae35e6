use Rattle.std.proofs.Common.{◌≡◌, take, drop}
use Rattle.world.specs.Script.{cut_of}
use Rattle.job.proofs.SectionLemmas.{behind}
use Rattle.world.proofs.script.cut.Given as goal

abbrev pub invariant-loop-i : goal.invariant-loop-i
invariant-loop-i l = cut_of l.byte l.text ≡ behind (take l.i l.text) (cut_of l.byte (drop l.i l.text))
