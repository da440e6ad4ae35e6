use Rattle.std.proofs.Common.{◌≡◌, ◌∙◌, ◌+◌, ◌-◌, ◌∷◌, List, ℕ, ap, sym, arith, [], drop}
use Rattle.gapcode.specs.Bits.{bits_of}
use Rattle.gapcode.specs.Lists.{elements_of}
use Rattle.gapcode.proofs.WordsLemmas.{at_rest}
use Rattle.gapcode.proofs.SteppingLemmas.{moved, none_left}
use Rattle.gapcode.proofs.elements.Elements.pull.Goals as goal

pub returns-then-self-eq0 : goal.returns-then-self-eq0
returns-then-self-eq0 c =
    let e = c.self.inside in
    let none : c.args.self.now ≡ [] = sym c.self.view_is ∙ none_left e.left e.least (drop e.position (bits_of e.bytes.now)) c.if-self-eq0.true in
    (none, none)

pub invariant_of-self : goal.invariant_of-self
invariant_of-self c =
    let e = c.self.inside in
    (omega arith, rw c.from.ensures (moved e.bytes.now _ c.step-element.result.1 (e.left - 1) (c.step-element.result.0 + 1) c.behind-self-inside.ensures c.step-element.ensures.placed))

pub returns : goal.returns
returns c =
    let e = c.self.inside in
    let first = c.step-element.result.0 in
    sym c.self.view_is ∙ c.step-element.ensures.next
    ∙ ap (λ (xs : List ℕ). first ∷ xs) (rw c.from.ensures (ap (elements_of (e.left - 1) (first + 1)) (at_rest e.bytes.now _ c.step-element.result.1 c.behind-self-inside.ensures)))
