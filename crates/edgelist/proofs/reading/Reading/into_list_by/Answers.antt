use Rattle.std.proofs.Common.{◌∙◌, sym}
use Rattle.ball_model.specs.Input.{most_records}
use Rattle.ball_model.specs.PlanValue.{most_vertices}
use Rattle.edgelist.proofs.GivenLemmas.{network-same}
use Rattle.edgelist.proofs.MovedLemmas.{network-moved, within-moved}
use Rattle.edgelist.proofs.reading.Reading.into_list_by.Goals as goal

pub into_graph_by-requires-clause-within : goal.into_graph_by-requires-clause-within
into_graph_by-requires-clause-within g c κs lives = within-moved most_vertices most_records c.args.self.labels c.sort_by.new.self.labels c.args.self.edges.items c.sort_by.new.self.edges.items c.requires.within c.sort_by.ensures.labels c.sort_by.ensures.edges c.sort_by.ensures.len

pub returns-clause-graph : goal.returns-clause-graph
returns-clause-graph g c =
    sym (network-same _ _ _ c.in_ok-graph.ensures.graph c.in_ok-graph.ensures.labels)
    ∙ network-moved c.args.self.labels c.sort_by.new.self.labels c.args.self.edges.items c.sort_by.new.self.edges.items c.sort_by.ensures.labels c.sort_by.ensures.edges
