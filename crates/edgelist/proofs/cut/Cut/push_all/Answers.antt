use Rattle.std.proofs.Common.{◌≡◌, false, sym}
use Rattle.edgelist.proofs.cut.Cut.push_all.Goals as goal

pub returns-then-not-more : goal.returns-then-not-more
returns-then-not-more g c = λ d text at.
    let no_more : c.in-Ok.more ≡ false = search c.if-not-more.true in
    sym (c.in-Ok.ensures.end no_more d text c.loop-turn.self (c.loop-turn.invariant.left d text at)).all
