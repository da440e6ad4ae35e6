use Rattle.batches.proofs.HeldLemmas.{pushed_held}
use Rattle.batches.proofs.batch.Batch.push.Goals as goal

pub invariant_of-self-2 : goal.invariant_of-self-2
invariant_of-self-2 c =
    let f = c.self.inside in
    (pushed_held f.plan f.name f.changed c.width-width.result f.ids.items _ c.args.registers.now c.args.id f.registers _ c.args.self.now c.width-width.ensures.value c.self.view_is c.self.invariant
    c.requires.row c.requires.above c.requires.room c.in_ok-push_onto.ensures.ids c.in_ok-push_onto.ensures.registers c.in_ok-push_onto.ensures.lie).held

pub returns-clause-ok : goal.returns-clause-ok
returns-clause-ok c =
    let f = c.self.inside in
    (pushed_held f.plan f.name f.changed c.width-width.result f.ids.items _ c.args.registers.now c.args.id f.registers _ c.args.self.now c.width-width.ensures.value c.self.view_is c.self.invariant
    c.requires.row c.requires.above c.requires.room c.in_ok-push_onto.ensures.ids c.in_ok-push_onto.ensures.registers c.in_ok-push_onto.ensures.lie).is
