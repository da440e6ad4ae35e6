use Rattle.std.proofs.Common.{arith, ◌∙◌, ap, refl, ◌≡◌, ℕ, ◌+◌, ◌*◌, ◌-◌}
use Rattle.ball_model.specs.Figures.{closeness_of, lin_of}
use Rattle.uses.proofs.of_figures.of_three_estimates.Goals as goal

sum-of-three : (l0 d0 l1 d1 d2 : ℕ) → l0 ≡ 1000000 → d0 ≡ 0 → l1 ≡ 3000000
    → d1 ≡ d0 + 1 * (3000000 - l0) → d2 ≡ d1 + 2 * (4000000 - l1) → d2 ≡ 4000000
sum-of-three l0 d0 l1 d1 d2 first none second one two = omega arith

closeness-of-three : closeness_of 4000000 ≡ 250000
unfolding closeness_of
closeness-of-three = refl

lin-of-three : lin_of 4000000 4000000 ≡ 4000000
unfolding lin_of
lin-of-three = refl

pub returns-clause-closeness : goal.returns-clause-closeness
returns-clause-closeness c = let distance : c.step-2.new.self.dist ≡ 4000000 =
    sum-of-three _ _ _ _ _ c.start-tally.ensures.last c.start-tally.ensures.dist c.step.ensures.last
    c.step.ensures.dist c.step-2.ensures.dist in
    c.closeness.ensures ∙ (ap closeness_of distance ∙ closeness-of-three)

pub returns-clause-lin : goal.returns-clause-lin
returns-clause-lin c = let distance : c.step-2.new.self.dist ≡ 4000000 =
    sum-of-three _ _ _ _ _ c.start-tally.ensures.last c.start-tally.ensures.dist c.step.ensures.last
    c.step.ensures.dist c.step-2.ensures.dist in
    c.lin.ensures ∙ (ap (λ d. lin_of c.step-2.new.self.last d) distance
    ∙ (ap (λ l. lin_of l 4000000) c.step-2.ensures.last ∙ lin-of-three))
