use Rattle.replica.proofs.Names.{early_at}
use Rattle.replica.specs.Hearing.{HearsAlso}
use Rattle.replica.proofs.HearingLemmas.Hear.{batches_below}
use Rattle.replica.proofs.hearing.Hearing.hear_early.Given as goal

abbrev pub invariant-loop-source : goal.invariant-loop-source
invariant-loop-source l = record {
  hears : HearsAlso l.plan.log2m l.targets (batches_below (λ q. early_at l.early 0 q) l.source) l.initial.self l.self;
}
