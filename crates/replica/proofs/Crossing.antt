-- Snapshots, replicas, indexes and first tables of parts may cross threads.
use denote.Param.Send.{IsSend, IsSync, sendable}
use Rattle.std.proofs.Crossing.{crosses, Arc-send, Arc-sync}
use Rattle.std.specs.contracts.alloc.Global as Heap
use Rattle.std.specs.contracts.impls.GlobalAllocator.TheImpl.{ghosts}
use Rattle.std.specs.contracts.sync.Arc as arc
use Rattle.registers.proofs.Crossing.{rows_send, rows_sync}
use Rattle.batches.proofs.Crossing.{batch_send, batch_sync}
use Rattle.graph.proofs.Crossing.{part_send, part_sync}
use Rattle.figures.proofs.Crossing.{estimator_send, estimator_sync, tally_send, tally_sync}
use Rattle.replica.specs.contracts.first.FirstTables as first
use Rattle.replica.specs.contracts.stage.Stage as stage
use Rattle.replica.specs.contracts.replica.Replica as replica
use Rattle.replica.specs.contracts.replica.Snapshot as snapshot
use Rattle.replica.specs.contracts.relay.tallies.Tallies as tallies
use Rattle.replica.specs.contracts.tables.Tables as tables
use Rattle.replica.specs.contracts.targets.Targets as targets

tallies_send : IsSend tallies.the_row
tallies_send = search (tally_send, tally_sync, sendable, crosses) depth 30 fits 20000

tallies_sync : IsSync tallies.the_row
tallies_sync = search (tally_send, tally_sync, sendable, crosses) depth 30 fits 20000

pub tables_send : IsSend tables.the_row
tables_send = search (rows_send, rows_sync, tallies_send, tallies_sync, sendable, crosses) depth 30 fits 20000

pub tables_sync : IsSync tables.the_row
tables_sync = search (rows_send, rows_sync, tallies_send, tallies_sync, sendable, crosses) depth 30 fits 20000

pub stage_send : IsSend stage.the_row
stage_send = search (part_send, part_sync, rows_send, tables_send, batch_send, batch_sync, sendable, crosses) depth 30 fits 20000

pub stage_sync : IsSync stage.the_row
stage_sync = search (part_send, part_sync, rows_sync, tables_sync, batch_send, batch_sync, sendable, crosses) depth 30 fits 20000

pub snapshot_send : IsSend snapshot.the_row
snapshot_send = search (stage_send, sendable, crosses) depth 30 fits 20000

pub snapshot_sync : IsSync snapshot.the_row
snapshot_sync = search (stage_sync, sendable, crosses) depth 30 fits 20000

pub replica_send : IsSend replica.the_row
replica_send = search (stage_send, estimator_send, sendable, crosses) depth 30 fits 20000

pub replica_sync : IsSync replica.the_row
replica_sync = search (stage_sync, estimator_sync, sendable, crosses) depth 30 fits 20000

-- threads may share a snapshot
pub shared_snapshot_send : IsSend (arc.the_row snapshot.the_row Heap.the_row ghosts)
shared_snapshot_send = Arc-send _ snapshot_send snapshot_sync

pub shared_snapshot_sync : IsSync (arc.the_row snapshot.the_row Heap.the_row ghosts)
shared_snapshot_sync = Arc-sync _ snapshot_send snapshot_sync

pub targets_send : IsSend targets.the_row
targets_send = search (sendable, crosses) depth 30 fits 20000

pub first_send : IsSend first.the_row
first_send = search (rows_send, tables_send, estimator_send, sendable, crosses) depth 30 fits 20000
