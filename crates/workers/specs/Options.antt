-- What is asked of a run, and which of it fits.
use Rattle.std.specs.Prelude.{ℕ, Bool, true, ◌&&◌, ◌==◌, nat_le, nat_lt, if◌then◌else◌, List, [], ◌∷◌, length, Option, None, Some}
use Rattle.ball_model.specs.declared.names.NodeId.{NodeId}
use Rattle.ball_model.specs.declared.plan.TheConstants.{MOST_REPLICAS}
use Rattle.ball_model.specs.PlanValue.{greatest_limit}
use Rattle.board.specs.declared.board.TheConstants.{LEAST_ENTRIES, MOST_ENTRIES}
use Rattle.job.specs.declared.job.JobOptions.{JobOptions}
use Rattle.workers.specs.declared.worker.node_run.NodeOrders.{NodeOrders}
use Rattle.workers.specs.declared.options.RunOptions.{RunOptions}

-- what is asked of the job that is run
abbrev pub job_asked : RunOptions → JobOptions
job_asked o = record {
  log2m = o.log2m;
  seed = o.seed;
  parts = o.parts;
  limit = o.limit;
  estimate = o.estimate;
  delimiter = o.delimiter;
  large = o.large;
  threads = o.threads;
}

-- a run of so many partitions and replicas has the node
abbrev pub is_named : ℕ → ℕ → NodeId → Bool
is_named parts replicas node = nat_lt node.part parts && nat_lt node.replica replicas

-- it has each node that is ordered
abbrev pub are_all_named : ℕ → ℕ → List (NodeId × ℕ) → Bool
are_all_named parts replicas [] = true
are_all_named parts replicas (o ∷ more) =
    is_named parts replicas o.0 && are_all_named parts replicas more

-- a number from one to another
abbrev pub is_from : ℕ → ℕ → ℕ → Bool
is_from least most n = nat_le least n && nat_le n most

-- the options that no plan has are within their limits, and each node that is ordered is one of the run
abbrev pub are_in_limits : RunOptions → Bool
are_in_limits o =
    is_from 1 MOST_REPLICAS o.replicas && is_from LEAST_ENTRIES MOST_ENTRIES o.entries
    && nat_le o.keep greatest_limit && nat_le 1 o.patience
    && are_all_named o.parts o.replicas o.lose.items
    && are_all_named o.parts o.replicas o.restart.items

-- the superstep of the first order for replica k of partition p
abbrev pub order_for : ℕ → ℕ → List (NodeId × ℕ) → Option ℕ
order_for p k [] = None
order_for p k (o ∷ more) =
    if (o.0.part == p) && (o.0.replica == k) then Some o.1 else order_for p k more

-- a run has one node, and nobody is to start anew: no call can recall a snapshot
abbrev pub recalls_nothing : RunOptions → Bool
recalls_nothing o = (o.parts == 1) && (o.replicas == 1) && (length o.restart.items == 0)

-- every how many supersteps the nodes of a run keep a snapshot; 0 is never
abbrev pub kept_by : RunOptions → ℕ
kept_by o = if recalls_nothing o then 0 else o.keep

-- the orders of that replica
abbrev pub orders_for : RunOptions → ℕ → ℕ → NodeOrders
orders_for o p k = record {
  keep = kept_by o;
  patience = o.patience;
  lose = order_for p k o.lose.items;
  restart = order_for p k o.restart.items;
}
