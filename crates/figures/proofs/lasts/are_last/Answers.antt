use Rattle.ball_model.specs.Figures.{estimate_with}
use Rattle.figures.proofs.LastLemmas.{one_by_one}
use Rattle.figures.proofs.lasts.are_last.Goals as goal

pub returns : goal.returns
returns c =
    one_by_one (estimate_with (record { log2m = c.args.log2m; corrected = c.args.is_corrected })) c.args.tallies.now c.args.rows.now.rows c.are_by_table.result
    c.requires.count c.are_by_table.ensures
