use Rattle.std.proofs.Common.{◌≡◌, ◌-◌, ◌<◌, ◌≤◌, false, true, get_or, length}
use Rattle.replica.specs.Sent.{changed_first}
use Rattle.replica.proofs.replica.Replica.changed_vertices.Given as goal

abbrev pub invariant-loop-i : goal.invariant-loop-i
invariant-loop-i l = record {
  in_range : l.i ≤ length l.self.marks;
  changed : l.i < length l.self.marks → get_or l.self.marks l.i false ≡ true;
  list : l.vertices.items ≡ changed_first l.self l.i;
}

abbrev pub decreases-loop-i : goal.decreases-loop-i
decreases-loop-i l = length l.self.marks - l.i
