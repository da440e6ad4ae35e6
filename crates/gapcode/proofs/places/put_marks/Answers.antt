use Rattle.std.proofs.Common.{◌≡◌, ◌∙◌, ◌+◌, ◌-◌, ◌++◌, ◌∷◌, [], ℕ, List, length, ap, append_assoc, arith}
use Rattle.std.specs.Prelude.{replicate}
use Rattle.std.proofs.lemmas.List.{replicate_more}
use Rattle.gapcode.proofs.places.put_marks.Goals as goal

pub loop-preserved : goal.loop-preserved
loop-preserved c =
    let old = c.args.marks.now.items in
    let k = c.loop.counter - length old in
    let next : k + 1 ≡ c.loop.counter + 1 - length old = omega (arith, c.loop.invariant.from) in
    record {
      so_far = c.in_ok-push.ensures.items ∙ ap (λ (xs : List ℕ). xs ++ c.args.entry ∷ []) c.loop.invariant.so_far
          ∙ append_assoc old (replicate k c.args.entry) (c.args.entry ∷ []) ∙ ap (λ (xs : List ℕ). old ++ xs) (replicate_more k c.args.entry ∙ ap (λ (n : ℕ). replicate n c.args.entry) next);
      from = omega (arith, c.loop.invariant.from);
    }

pub returns : goal.returns
returns c =
    let old = c.args.marks.now.items in
    let end : c.loop.counter - length old ≡ c.args.count - length old = omega arith in
    c.loop.invariant.so_far ∙ ap (λ (n : ℕ). old ++ replicate n c.args.entry) end
