use Rattle.std.proofs.Common.{◌≡◌, ◌++◌, List, [], length, map, take}
use Rattle.std.specs.Arc.{arc_value}
use Rattle.std.specs.List.{All, flat_map}
use Rattle.ball_model.specs.Batches.{BatchValue}
use Rattle.ball_model.specs.Checkpoint.{early_bytes}
use Rattle.checkpoint.specs.Told.{IsOfPlan}
use Rattle.checkpoint.proofs.RightLemmas.{Stands}
use Rattle.checkpoint.proofs.saved.add_batches.Given as goal

-- as many batches are read as rounds are done
abbrev pub invariant-loop : goal.invariant-loop
invariant-loop l = record {
  count : length l.early.items ≡ l.counter;
  spelled : l.bytes ≡ flat_map early_bytes (map arc_value l.early.items) ++ l.rest;
  right : (batches : List BatchValue) → All (IsOfPlan l.part.plan) batches → length batches ≡ l.count → l.bytes ≡ flat_map early_bytes batches
      → (map arc_value l.early.items ≡ take l.counter batches) × Stands early_bytes batches l.counter l.rest [];
}
