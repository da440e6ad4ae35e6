use Rattle.std.proofs.Common.{◌∙◌}
use Rattle.world.specs.contracts.message.Message.{the_view}
use Rattle.world.proofs.ApplyLemmas.{only_wants, read_gives}
use Rattle.world.proofs.message.Message.read.Goals as goal

pub returns-in_ok-new-in-Ok : goal.returns-in_ok-new-in-Ok
returns-in_ok-new-in-Ok c = λ j name job ok spells.
    c.in_ok-new-in-Ok.ensures.ok ∙ read_gives j name (the_view c.self.inside) c.in-Ok.batch job ok (c.self.view_is ∙ spells)
    (λ x is agrees bytes. c.in-Ok.ensures.only x is agrees (c.deref.ensures.value ∙ bytes))

pub want_of-requires : goal.want_of-requires
want_of-requires c =
    only_wants (the_view c.self.inside) c.in-Err.error c.self.invariant
    (λ x is agrees bytes. c.in-Err.ensures.only x is agrees (c.deref.ensures.value ∙ bytes))
