-- Batches may cross threads.
use denote.Param.Send.{IsSend, IsSync, sendable}
use Rattle.std.proofs.Crossing.{crosses, Arc-send, Arc-sync}
use Rattle.std.specs.contracts.alloc.Global as Heap
use Rattle.std.specs.contracts.impls.GlobalAllocator.TheImpl.{ghosts}
use Rattle.std.specs.contracts.sync.Arc as arc
use Rattle.batches.specs.contracts.batch.Batch as batch

pub batch_send : IsSend batch.the_row
batch_send = search (sendable, crosses) depth 30

pub batch_sync : IsSync batch.the_row
batch_sync = search (sendable, crosses) depth 30

-- threads may share a batch
pub shared_batch_send : IsSend (arc.the_row batch.the_row Heap.the_row ghosts)
shared_batch_send = Arc-send _ batch_send batch_sync

pub shared_batch_sync : IsSync (arc.the_row batch.the_row Heap.the_row ghosts)
shared_batch_sync = Arc-sync _ batch_send batch_sync
