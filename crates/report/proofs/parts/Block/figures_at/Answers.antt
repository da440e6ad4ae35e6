use Rattle.std.proofs.Common.{◌≡◌, ◌-◌, ◌/◌, ◌%◌, ℕ, get_or, length, arith, subst}
use Rattle.report.proofs.PlaceLemmas.{figures_there, is_placed}
use Rattle.report.proofs.parts.Block.figures_at.Goals as goal

pub index-requires : goal.index-requires
index-requires c =
    let some = (is_placed c.args.self.now.first c.args.x c.args.self.now.parts.items c.requires).some in
    omega (arith, some, c.len-count.ensures)

pub returns : goal.returns
returns c =
    let parts = c.args.self.now.parts.items in
    let own = c.index.result.now in
    let first : ℕ = c.args.self.now.first in
    let f = c.index-2.result.now in
    let count : c.len-count.result ≡ length parts = omega arith in
    figures_there first c.args.x parts own f c.requires
    (subst (λ (n : ℕ). own ≡ get_or parts (c.args.x % n) own) count c.index.ensures)
    (subst (λ (n : ℕ). f ≡ get_or own.items (c.args.x / n - first) f) count c.index-2.ensures)
