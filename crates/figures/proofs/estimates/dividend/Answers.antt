use Rattle.ball_model.specs.Figures.{dividend_of, factor_of}
use Rattle.figures.proofs.DividendLemmas.{whole_at}
use Rattle.figures.proofs.estimates.dividend.Goals as goal

pub returns : goal.returns
unfolding dividend_of factor_of
returns c = whole_at c.from.result c.args.log2m c.from.ensures c.requires.low c.requires.high
