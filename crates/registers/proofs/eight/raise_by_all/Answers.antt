use Rattle.std.proofs.Common.{◌≡◌, ◌∙◌, ◌+◌, ◌≤◌, length, map, arith, refl}
use Rattle.std.specs.List.{All}
use Rattle.std.proofs.lemmas.List.Elements.{All-map}
use Rattle.registers.proofs.UptoLemmas.{rises, rises-told, upto}
use Rattle.registers.proofs.RaisedLemmas.{all_raised, piece_raised}
use Rattle.registers.proofs.eight.raise_by_all.Goals as goal
use Rattle.registers.proofs.eight.raise_by_all.Goals.{then-len-done-ge-HALF, else-len-done-ge-HALF, Start}

-- the others are as long as the row
long : (c : Start) → All (λ other. length other ≡ length c.args.row.now) (map (λ other. other.now) c.args.others.now)
long c = All-map (λ other. length other ≡ length c.args.row.now) (λ other. other.now) c.args.others.now c.requires

pub loop-done-init : goal.loop-done-init
unfolding upto rises
loop-done-init c = record { in_range = omega arith; raised = refl; told = refl }

pub loop-done-preserved : goal.loop-done-preserved
loop-done-preserved c =
    let inv = c.loop-done.invariant in
    let room : c.loop-done.done + 32 ≤ length c.args.row.now = omega arith in
    let step = piece_raised c.loop-done.done 32 c.args.row.now c.loop-done.row c.raise_lanes_by-changed.new.row (map (λ other. other.now) c.args.others.now) c.loop-done.changed c.raise_lanes_by-changed.result
    (long ((goal.at.loop-done-preserved c).Start)) room inv.raised inv.told c.raise_lanes_by-changed.ensures in
    record { in_range = room; raised = step.0; told = step.1 }

pub loop-i-init : goal.loop-i-init
loop-i-init c =
    let inv = c.loop-done.invariant in
    elim c.if-len-done-ge-HALF.branch [
      | then-len-done-ge-HALF w ↦
          let room : c.loop-done.done + 16 ≤ length c.args.row.now = omega arith in
          let step = piece_raised c.loop-done.done 16 c.args.row.now c.loop-done.row w.raise_half_by-changed.new.row (map (λ other. other.now) c.args.others.now) c.loop-done.changed w.raise_half_by-changed.result
          (long ((goal.at.loop-i-init c).Start)) room inv.raised inv.told w.raise_half_by-changed.ensures in
          record {
            in_range = omega arith;
            raised = w.row-is ∙ rw w.done-is step.0;
            told = w.changed-is ∙ rw w.done-is step.1;
          }
      | else-len-done-ge-HALF w ↦ record {
        in_range = omega arith;
        raised = w.row-is ∙ rw w.done-is inv.raised;
        told = w.changed-is ∙ rw w.done-is inv.told;
      }
    ]

pub loop-i-preserved : goal.loop-i-preserved
loop-i-preserved c =
    let inv = c.loop-i.invariant in
    let room : c.loop-i.i + 1 ≤ length c.args.row.now = omega arith in
    let step = piece_raised c.loop-i.i 1 c.args.row.now c.loop-i.row c.raise_register_by-changed.new.row (map (λ other. other.now) c.args.others.now) c.loop-i.changed c.raise_register_by-changed.result
    (long ((goal.at.loop-i-preserved c).Start)) room inv.raised inv.told c.raise_register_by-changed.ensures in
    record { in_range = room; raised = step.0; told = step.1 }

pub returns-clause-maximum : goal.returns-clause-maximum
returns-clause-maximum c =
    all_raised c.loop-i.i c.args.row.now c.loop-i.row (map (λ other. other.now) c.args.others.now) (long ((goal.at.returns-clause-maximum c).Start)) (omega arith) c.loop-i.invariant.raised

pub returns-clause-unchanged : goal.returns-clause-unchanged
returns-clause-unchanged c = rw c.loop-i.invariant.raised (rises-told _ c.loop-i.i c.args.row.now _ c.loop-i.invariant.told)
