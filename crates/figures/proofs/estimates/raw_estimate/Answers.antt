use Rattle.std.proofs.Common.{◌≡◌, ◌/◌, ◌*◌, ◌^◌, ◌<◌, ◌∙◌, ap, arith}
use Rattle.std.proofs.lemmas.Nat.{pow_pos}
use Rattle.ball_model.specs.Figures.{dividend_of, factor_of}
use Rattle.ball_model.proofs.EstimateLemmas.{estimate_small}
use Rattle.figures.proofs.DividendLemmas.{estimate_whole, whole_small, two_steps}
use Rattle.figures.proofs.estimates.raw_estimate.Goals as goal
use Rattle.figures.proofs.estimates.raw_estimate.Goals.{After-dividend-dividend}

-- the quotient is the estimate, and so it is small
value : (c : After-dividend-dividend) → c.dividend-dividend.result / c.args.inverses ≡ dividend_of c.args.log2m / (factor_of c.args.log2m * c.args.inverses)
value c = estimate_whole c.args.log2m c.args.inverses c.dividend-dividend.result c.dividend-dividend.ensures

small : (c : After-dividend-dividend) → c.dividend-dividend.result / c.args.inverses < 2 ^ 63
small c = omega (arith, value c, estimate_small c.args.log2m c.args.inverses c.requires.low c.requires.high c.requires.least)

pub overflow_cast-high-2 : goal.overflow_cast-high-2
overflow_cast-high-2 c = omega (arith, whole_small c.args.log2m c.requires.low c.requires.high, c.dividend-dividend.ensures)

pub returns-in-Ok-clause-value : goal.returns-in-Ok-clause-value
returns-in-Ok-clause-value c =
    ap (λ d. d / c.args.inverses) c.in-Ok.ensures.1 ∙ value (goal.at.returns-in-Ok-clause-value c).After-dividend-dividend

pub returns-in-Ok-clause-small : goal.returns-in-Ok-clause-small
returns-in-Ok-clause-small c = rw c.in-Ok.ensures.1 (small (goal.at.returns-in-Ok-clause-small c).After-dividend-dividend)

pub returns-clause-value : goal.returns-clause-value
returns-clause-value c =
    let at = (goal.at.returns-clause-value c).After-dividend-dividend in
    two_steps c.dividend-dividend.result c.args.inverses (omega (arith, c.requires.least, pow_pos c.args.log2m)) c.requires.greatest (small at) ∙ value at

pub returns-clause-small : goal.returns-clause-small
returns-clause-small c =
    rw (returns-clause-value c) (estimate_small c.args.log2m c.args.inverses c.requires.low c.requires.high c.requires.least)
