use denote.Ref.{NamedLft}
use denote.Param.Send.{IsSend, IsSync, sendable}
use Rattle.std.proofs.Crossing.{crosses}
use Rattle.state_tests.specs.contracts.of_board.Scene as scene
use Rattle.state_tests.specs.contracts.of_board.User as user
use Rattle.ball_model.proofs.Crossing.{plan_sync}
use Rattle.graph.proofs.Crossing.{graph_sync}
use Rattle.batches.proofs.Crossing.{shared_batch_sync}
use Rattle.replica.proofs.Crossing.{replica_sync, shared_snapshot_sync}
use Rattle.board.proofs.Crossing.{seat_send, board_sync}
use Rattle.state_tests.proofs.of_board.threads.+crowd+fn-crowd-join+arg3.Goals as goal

-- threads may share a scene
scene_sync : IsSync scene.the_row
scene_sync = search (sendable, crosses, board_sync, graph_sync, plan_sync, replica_sync, shared_batch_sync, shared_snapshot_sync) depth 30

-- a user may cross threads
user_send : (κ : NamedLft) → IsSend (user.the_row κ)
user_send κ = search (sendable, crosses, seat_send, scene_sync) depth 30

pub join-requires-send-F : goal.join-requires-send-F
join-requires-send-F g l c κs within = search (sendable, crosses, user_send) depth 20
