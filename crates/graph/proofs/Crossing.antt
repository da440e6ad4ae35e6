-- Parts may cross threads; graphs, and the masks that parts are made by, may be shared.
use denote.Param.Send.{IsSend, IsSync, sendable}
use Rattle.std.proofs.Crossing.{crosses, Arc-send, Arc-sync}
use Rattle.std.specs.contracts.alloc.Global as Heap
use Rattle.std.specs.contracts.impls.GlobalAllocator.TheImpl.{ghosts}
use Rattle.std.specs.contracts.sync.Arc as arc
use Rattle.graph.specs.contracts.feeds.Feeds as feeds
use Rattle.graph.specs.contracts.graph.Graph as graph
use Rattle.graph.specs.contracts.part.Part as part

pub part_send : IsSend part.the_row
part_send = search (sendable, crosses) depth 30

pub part_sync : IsSync part.the_row
part_sync = search (sendable, crosses) depth 30

pub graph_sync : IsSync graph.the_row
graph_sync = search (sendable, crosses) depth 30

-- replicas of one partition share a part
pub shared_part_send : IsSend (arc.the_row part.the_row Heap.the_row ghosts)
shared_part_send = Arc-send _ part_send part_sync

pub shared_part_sync : IsSync (arc.the_row part.the_row Heap.the_row ghosts)
shared_part_sync = Arc-sync _ part_send part_sync

-- threads make parts by the same masks
pub feeds_sync : IsSync feeds.the_row
feeds_sync = search (sendable, crosses) depth 30
