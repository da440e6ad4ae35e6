use Rattle.std.proofs.Common.{refl}
use Rattle.hyperball.proofs.hints.Hint.line.Goals as goal

pub returns-in-Gzip : goal.returns-in-Gzip
returns-in-Gzip c = rw c.in-Gzip.is refl

pub returns-in-MatrixMarket : goal.returns-in-MatrixMarket
returns-in-MatrixMarket c = rw c.in-MatrixMarket.is refl

pub returns-in-Tab : goal.returns-in-Tab
returns-in-Tab c = rw c.in-Tab.is refl

pub returns-in-Comma : goal.returns-in-Comma
returns-in-Comma c = rw c.in-Comma.is refl

pub returns-in-Space : goal.returns-in-Space
returns-in-Space c = rw c.in-Space.is refl
