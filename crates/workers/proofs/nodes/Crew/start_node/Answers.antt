use denote.Param.Send.{sendable}
use Rattle.board.proofs.Crossing.{board_sync}
use Rattle.workers.proofs.Crossing.{running_sync, seated_send}
use Rattle.workers.proofs.nodes.Crew.start_node.Goals as goal

pub spawn_with-requires-send-F : goal.spawn_with-requires-send-F
spawn_with-requires-send-F g c κs within = search (sendable, board_sync, seated_send, running_sync) depth 20
