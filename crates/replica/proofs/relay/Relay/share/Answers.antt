use Rattle.std.proofs.Common.{◌≡◌, ◌∙◌}
use Rattle.std.specs.Arc.{arc_value}
use Rattle.replica.specs.Relay.{shown_of}
use Rattle.replica.proofs.relay.Relay.share.Goals as goal
use Rattle.replica.proofs.relay.Relay.share.Goals.{in-Some, in-None}

pub returns-clause-shared : goal.returns-clause-shared
unfolding shown_of
returns-clause-shared g c =
    let shown : shown_of c.self.inside.own c.self.inside.out ≡ c.hand_out.new.self = c.self.view_is in
    elim c.match-self.branch [
      | in-Some w ↦
          let out : arc_value w.out.inside.table ≡ c.args.self.now = w.out.view_is ∙ (rw w.in-Some.is at shown) ∙ c.hand_out.ensures in
          rw (w.result-is, ← out) w.try_clone.ensures
      | in-None w ↦ rw w.result-is search
    ]
