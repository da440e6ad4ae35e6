-- What some command lines say.
use Rattle.std.specs.Prelude.{ℕ, List, [], ◌∷◌, true, false}
use Rattle.ball_model.specs.PlanValue.{greatest_limit}
use Rattle.ball_model.specs.declared.names.NodeId.{NodeId}
use Rattle.ball_model.specs.declared.plan.Estimate.TheVariants.{Corrected, Raw}
use Rattle.graph.specs.declared.delimiter.Delimiter.TheVariants.{Comma, Space, Tab}
use Rattle.world.specs.declared.replay.ReplayOptions.{ReplayOptions}
use Rattle.job.specs.declared.input.JobInput.{JobInput}
use Rattle.hyperball.specs.declared.cli.gather.GatherArgs.{GatherArgs}
use Rattle.hyperball.specs.declared.cli.one_node.NodeArgs.{NodeArgs}
use Rattle.hyperball.specs.declared.cli.replay.ReplayArgs.{ReplayArgs}
use Rattle.hyperball.specs.declared.cli.run.RunArgs.{RunArgs}
use Rattle.hyperball.specs.Words.{usual_options}

-- a run of which no option is given, with the lists of orders of another, which these laws say nothing of
abbrev pub usual_run : RunArgs → RunArgs
usual_run w = record {
  options = record w.options {
    log2m = 8;
    seed = 0;
    parts = 1;
    limit = greatest_limit;
    estimate = Raw;
    delimiter = Tab;
    large = false;
    threads = 0;
    replicas = 1;
    entries = 1048576;
    keep = 1;
    patience = 1000000;
  };
  counted = false;
  progress = false;
}

abbrev pub log2m_words : RunArgs → RunArgs
log2m_words w = record (usual_run w) { options = record (usual_run w).options { log2m = 4 } }

abbrev pub space_words : RunArgs → RunArgs
space_words w = record (usual_run w) {
  options = record (usual_run w).options { delimiter = Space; limit = 5000 };
}

abbrev pub corrected_words : RunArgs → RunArgs
corrected_words w = record (usual_run w) {
  options = record (usual_run w).options { estimate = Corrected };
}

abbrev pub counted_words : RunArgs → RunArgs
counted_words w = record (usual_run w) {
  options = record (usual_run w).options { parts = 2 };
  counted = true;
}

abbrev pub node_words : RunArgs → RunArgs
node_words w = record (usual_run w) {
  options = record (usual_run w).options { replicas = 2; keep = 0 };
}

abbrev pub board_words : RunArgs → RunArgs
board_words w = record (usual_run w) {
  options = record (usual_run w).options {
    entries = 64;
    patience = 10;
    threads = 2;
    large = true;
  };
}

-- the options of a replay if none is given
abbrev pub usual_replay_options : ReplayOptions
usual_replay_options = record {
  log2m = 8;
  seed = 0;
  parts = 1;
  limit = greatest_limit;
  replicas = 1;
  estimate = Raw;
  delimiter = Tab;
}

abbrev pub usual_replay : ReplayArgs
usual_replay = record { options = usual_replay_options; counted = false; progress = false }

abbrev pub replayed_plan : ReplayArgs
replayed_plan = record {
  options = record usual_replay_options { log2m = 4; parts = 3; limit = 9; replicas = 2 };
  counted = false;
  progress = false;
}

abbrev pub replayed_input : ReplayArgs
replayed_input = record {
  options = record usual_replay_options { seed = 7; estimate = Corrected; delimiter = Comma };
  counted = true;
  progress = true;
}

-- replica 1 of partition 0 at superstep 2
abbrev pub one_order : List (NodeId × ℕ)
one_order = (record { part = 0; replica = 1 }, 2) ∷ []

-- and replica 0 of partition 1 at superstep 3
abbrev pub two_orders : List (NodeId × ℕ)
two_orders = (record { part = 0; replica = 1 }, 2) ∷ (record { part = 1; replica = 0 }, 3) ∷ []

-- what is asked of a job if no option is given
abbrev pub usual_job : JobInput
usual_job = record { options = usual_options; counted = false }

abbrev pub usual_node : NodeArgs
usual_node = record { job = usual_job; part = 0; progress = false }

abbrev pub third_node : NodeArgs
third_node = record {
  job = record {
    options = record usual_job.options { log2m = 4; parts = 3; large = true };
    counted = true;
  };
  part = 2;
  progress = false;
}

abbrev pub telling_node : NodeArgs
telling_node = record { job = usual_job; part = 0; progress = true }

abbrev pub gathered_job : GatherArgs
gathered_job = record {
  job = record {
    options = record usual_job.options {
      parts = 3;
      estimate = Corrected;
      delimiter = Comma;
      large = true;
      threads = 2;
    };
    counted = false;
  };
  progress = false;
}

abbrev pub telling_gathering : GatherArgs
telling_gathering = record { job = usual_job; progress = true }
