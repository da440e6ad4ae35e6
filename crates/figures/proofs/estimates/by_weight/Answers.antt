use Rattle.std.proofs.Common.{◌≡◌, ◌^◌, ℕ, Bool, true, false, List, length, refl, ◌∙◌}
use Rattle.ball_model.specs.Figures.{corrected_of, estimate_by, estimate_of}
use Rattle.figures.specs.Values.{weight_of}
use Rattle.figures.proofs.SumLemmas.{short, weight_apart}
use Rattle.figures.proofs.estimates.by_weight.Goals as goal
use Rattle.figures.proofs.estimates.by_weight.Goals.{After-raw_estimate-raw}

-- an estimate of either kind, where it is known which
are_corrected : (kind : Bool) (b : ℕ) (row : List ℕ) → kind ≡ true → corrected_of b row ≡ estimate_by kind b row
unfolding estimate_by
are_corrected kind b row is = rw is refl

are_raw : (kind : Bool) (b : ℕ) (row : List ℕ) → kind ≡ false → estimate_of b row ≡ estimate_by kind b row
unfolding estimate_by
are_raw kind b row is = rw is refl

raw_is : (c : After-raw_estimate-raw) (row : List ℕ) → length row ≡ 2 ^ c.args.log2m → c.args.weight ≡ weight_of row → c.raw_estimate-raw.result ≡ estimate_of c.args.log2m row
unfolding estimate_of
raw_is c row width is = rw (c.raw_estimate-raw.ensures.value, (weight_apart row c.args.weight (short row c.args.log2m c.requires.high width) is).0) refl

pub returns-then-is_corrected-clause-value : goal.returns-then-is_corrected-clause-value
returns-then-is_corrected-clause-value c = λ row width is.
    let at = (goal.at.returns-then-is_corrected-clause-value c).After-raw_estimate-raw in
    c.corrected.ensures.value row width (raw_is at row width is) (weight_apart row c.args.weight (short row c.args.log2m c.requires.high width) is).1
    ∙ are_corrected c.args.is_corrected c.args.log2m row c.if-is_corrected.true

pub returns-else-is_corrected-clause-value : goal.returns-else-is_corrected-clause-value
returns-else-is_corrected-clause-value c = λ row width is.
    raw_is (goal.at.returns-else-is_corrected-clause-value c).After-raw_estimate-raw row width is ∙ are_raw c.args.is_corrected c.args.log2m row c.if-is_corrected.false
