-- The order of names of batches, and of nodes.
use Rattle.std.specs.Prelude.{Bool, ◌==◌, ◌&&◌, ◌||◌, nat_lt}
use Rattle.ball_model.specs.declared.names.BatchName.{BatchName}
use Rattle.ball_model.specs.declared.names.NodeId.{NodeId}

-- a name is before another: by superstep, then by source, then by target
abbrev pub stands_before : BatchName → BatchName → Bool
stands_before a b =
    nat_lt a.superstep b.superstep
    || ((a.superstep == b.superstep)
    && (nat_lt a.source b.source || ((a.source == b.source) && nat_lt a.target b.target)))

-- a node is before another: by partition, then by replica
abbrev pub node_stands_before : NodeId → NodeId → Bool
node_stands_before a b =
    nat_lt a.part b.part || ((a.part == b.part) && nat_lt a.replica b.replica)
