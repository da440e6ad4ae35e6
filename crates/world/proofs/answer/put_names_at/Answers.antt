use Rattle.std.proofs.Common.{◌≡◌, ◌∙◌, ℕ, Bool, true, false, ◌==◌, ◌&&◌, sym, append-nil}
use Rattle.std.proofs.lemmas.Bool.{eq-eqb}
use Rattle.world.proofs.AnswerLemmas.{name-put, name-left, put-is}
use Rattle.world.proofs.answer.put_names_at.Goals.{then-holds+in_ok-extend_from_slice+in_ok-put_pair, else-holds}
use Rattle.world.specs.Answer.{spaced}
use Rattle.world.proofs.answer.put_names_at.Goals as goal

pub loop-source-init : goal.loop-source-init
unfolding spaced
loop-source-init c = sym (append-nil c.args.line.now.items)

held : (a b : ℕ) (t : Bool) → a ≡ b → ((a == b) && t) ≡ true → t ≡ true
held a b t same is = rw (eq-eqb a b same) at is

unheld : (a b : ℕ) (t : Bool) → a ≡ b → ((a == b) && t) ≡ false → t ≡ false
unheld a b t same is = rw (eq-eqb a b same) at is

pub loop-source-preserved : goal.loop-source-preserved
loop-source-preserved c =
    let same = c.partition.ensures in
    elim c.if-holds.branch [
      | then-holds+in_ok-extend_from_slice+in_ok-put_pair w ↦ rw w.line-is (name-put c.args.replica.now c.args.superstep c.loop-source.source c.args.line.now.items c.loop-source.line.items w.extend_from_slice.new.self.items w.put_pair.new.line.items c.loop-source.invariant
          (held c.partition.result c.args.replica.now.part.number _ same (sym c.holds.ensures ∙ w.if-holds.true)) (put-is _ _ _ _ w.in_ok-extend_from_slice.ensures.items w.as_slice.ensures) w.in_ok-put_pair.ensures)
      | else-holds w ↦ rw w.line-is (name-left c.args.replica.now c.args.superstep c.loop-source.source c.args.line.now.items c.loop-source.line.items c.loop-source.invariant (unheld c.partition.result c.args.replica.now.part.number _ same (sym c.holds.ensures ∙ w.if-holds.false)))
    ]
