use Rattle.workers.proofs.worker.node_run.run_node.Goals as goal

pub returns : goal.returns
returns g c =
    let end = c.run_ready.ensures.ends in
    record {
      seen = c.run_ready.ensures.seen;
      done = end.done;
      told = end.told;
      kept = end.kept;
      lost = end.lost;
      reached = end.reached;
      spared = end.spared;
      starved = end.starved;
      starved_told = end.starved_told;
      starved_kept = end.starved_kept;
      source = end.source;
      path = end.path;
      came = end.came;
      full = end.full;
      alone = end.alone;
      alone_fits = c.run_ready.ensures.fits;
    }
