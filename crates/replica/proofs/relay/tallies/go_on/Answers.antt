use Rattle.std.proofs.Common.{sym, arith, subst, List}
use Rattle.replica.proofs.Names.{Option, TallyValue}
use Rattle.replica.specs.Relay.{DifferAt, IsRelay, Marked, shown_of}
use Rattle.replica.proofs.TalliesLemmas.{has_marks}
use Rattle.replica.proofs.relay.tallies.go_on.Goals as goal

pub leave-requires-clause-room : goal.leave-requires-clause-room
leave-requires-clause-room c = grind (arith, c.requires.each, c.take_up-left.ensures.left)

pub leave-requires-clause-behind : goal.leave-requires-clause-behind
leave-requires-clause-behind c = λ none. rw (c.take_up-left.ensures.behind none) (has_marks (shown_of c.args.own.now c.args.out) c.args.behind.now _ c.requires.each c.requires.relayed)

pub returns : goal.returns
returns c = record {
  own_is = c.take_up-left.ensures.own;
  behind_is = λ ahead d.
      c.leave.ensures (shown_of c.args.own.now c.args.out) ahead d (grind (arith, c.take_up-left.ensures.left))
      (λ none. subst (λ (b : Option (Marked (List TallyValue))). IsRelay DifferAt (shown_of c.args.own.now c.args.out) b) (sym (c.take_up-left.ensures.behind none)) c.requires.relayed);
}
