-- What the threads of a run are given may cross threads, and what they share may be shared.
use denote.Param.Send.{IsSend, IsSync, sendable}
use Rattle.std.proofs.Crossing.{crosses, send as heap_send, sync as heap_sync}
use Rattle.atomic_table.proofs.shared.Shared.TheSendSync as table
use Rattle.atomic_table.proofs.send_lease.SendLease.TheSendSync as lease
use Rattle.board.proofs.Crossing.{seat_send}
use Rattle.graph.proofs.Crossing.{shared_part_send}
use Rattle.replica.proofs.Crossing.{first_send, targets_send}
use Rattle.workers.specs.contracts.indexed.ReadyPart as ready
use Rattle.workers.specs.contracts.nodes.Seated as seated
use Rattle.workers.specs.contracts.running.Running as running

ready_part_send : IsSend ready.the_row
ready_part_send = search (shared_part_send, first_send, targets_send, sendable, crosses) depth 30

-- a node's part may be that of other threads too
pub seated_send : IsSend seated.the_row
seated_send = search (seat_send, ready_part_send, sendable, crosses) depth 30

pub running_sync : IsSync running.the_row
running_sync = search (sendable, crosses, table.the_sync, lease.the_sync, heap_send, heap_sync) depth 30
