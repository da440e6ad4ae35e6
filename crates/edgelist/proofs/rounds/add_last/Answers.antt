use Rattle.std.proofs.Common.{◌++◌, ℕ}
use Rattle.std.specs.Prelude.{Err}
use Rattle.std.specs.List.{flat_map}
use Rattle.std.proofs.lemmas.Result.{IfErr-weaker}
use Rattle.ball_model.specs.Input.{network_from}
use Rattle.edgelist.specs.Reading.{AreWithin, IsClean, Refuses, limits_of}
use Rattle.edgelist.specs.Rounds.{records_of}
use Rattle.edgelist.specs.declared.limits.EdgeError.TheVariants as refused
use Rattle.edgelist.proofs.RoundLemmas.{IsToldLast, last-added, last-err, last-filled, last-if}
use Rattle.edgelist.proofs.rounds.add_last.Goals as goal

told : (c : goal.After-told_last) → IsToldLast c.add_pieces-added.result c.told_last.result c.args.filled
told c = record { adds = c.told_last.ensures.added; fills = c.told_last.ensures.filled; goes = c.told_last.ensures.ok }

pub returns-clause-number : goal.returns-clause-number
returns-clause-number c = last-if _ _ _ _ (told c) c.add_pieces-added.ensures.number

pub returns-clause-within : goal.returns-clause-within
returns-clause-within c = last-if _ _ _ _ (told c) c.add_pieces-added.ensures.within

pub returns-clause-filled : goal.returns-clause-filled
returns-clause-filled c = last-filled _ _ _ (told c)

pub returns-clause-ok : goal.returns-clause-ok
returns-clause-ok c = λ before plain through. last-if _ _ _ _ (told c) (c.add_pieces-added.ensures.ok before plain through)

pub returns-clause-refused : goal.returns-clause-refused
returns-clause-refused c = λ before more plain through.
    let says = network_from (limits_of c.args.limits) (before ++ (flat_map records_of c.args.pieces.now ++ more)) in
    last-err _ _ _ (Refuses says) (told c) (c.add_pieces-added.ensures.refused before more plain through)
    (IfErr-weaker c.args.filled _ (Refuses says) (λ e any. any says) c.requires.failed)

pub returns-clause-read : goal.returns-clause-read
returns-clause-read c = λ before plain through is.
    last-added _ _ _ refused.Read _ _ (told c) c.add_pieces-added.ensures.read is (c.add_pieces-added.ensures.ok before plain through) (λ n t. t.clean)
