-- Seats may cross threads, and threads may share a board.
use denote.Param.Send.{IsSend, IsSync, sendable}
use Rattle.std.proofs.Crossing.{crosses, send as heap_send, sync as heap_sync}
use Rattle.std.proofs.MapsCrossing as maps
use Rattle.std.specs.contracts.option.Option as option
use Rattle.atomic_table.specs.contracts.shared.Seat as pass
use Rattle.atomic_table.proofs.shared.Seat.TheSendSync as pass_sent
use Rattle.atomic_table.proofs.shared.Shared.TheSendSync as table
use Rattle.atomic_table.proofs.send_lease.SendLease.TheSendSync as lease
use Rattle.batches.proofs.Crossing.{shared_batch_send}
use Rattle.replica.proofs.Crossing.{shared_snapshot_send}
use Rattle.board.specs.contracts.event.Entry as line
use Rattle.board.specs.contracts.book.Book as book
use Rattle.board.specs.contracts.rule.Knowledge as knowledge
use Rattle.board.specs.contracts.seat.Seat as seat
use Rattle.board.specs.contracts.board.Board as board

line_send : IsSend line.the_row
line_send = search (sendable, crosses) depth 30

pub book_send : IsSend book.the_row
book_send = search (line_send, shared_batch_send, shared_snapshot_send, sendable, crosses, maps.crosses) depth 30

slot_send : IsSend (option.the_row book.the_row)
slot_send = search (sendable, book_send) depth 30

pass_send : IsSend (pass.the_row (option.the_row book.the_row) knowledge.the_row)
pass_send = pass_sent.the_send _ _ slot_send

pub seat_send : IsSend seat.the_row
seat_send = search (sendable, pass_send) depth 30

pub board_sync : IsSync board.the_row
board_sync = search (sendable, crosses, slot_send, table.the_sync, lease.the_sync, heap_send, heap_sync) depth 30
