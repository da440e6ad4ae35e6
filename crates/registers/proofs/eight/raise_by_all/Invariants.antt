use Rattle.std.proofs.Common.{◌≡◌, ◌-◌, ◌≤◌, map}
use Rattle.registers.specs.Raised.{raised_over}
use Rattle.registers.proofs.UptoLemmas.{upto, rises}
use Rattle.registers.proofs.eight.raise_by_all.Given as goal

abbrev pub invariant-loop-done : goal.invariant-loop-done
invariant-loop-done l = record {
  in_range : l.done ≤ l.len;
  raised : l.row ≡ upto l.done l.fn.row (raised_over l.fn.row (map (λ other. other.now) l.others));
  told : l.changed ≡ rises l.done l.fn.row (raised_over l.fn.row (map (λ other. other.now) l.others));
}

abbrev pub decreases-loop-done : goal.decreases-loop-done
decreases-loop-done l = l.len - l.done

abbrev pub invariant-loop-i : goal.invariant-loop-i
invariant-loop-i l = record {
  in_range : l.i ≤ l.len;
  raised : l.row ≡ upto l.i l.fn.row (raised_over l.fn.row (map (λ other. other.now) l.others));
  told : l.changed ≡ rises l.i l.fn.row (raised_over l.fn.row (map (λ other. other.now) l.others));
}
