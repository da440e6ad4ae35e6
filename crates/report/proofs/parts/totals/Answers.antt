use Rattle.std.proofs.Common.{◌≡◌, ◌+◌, ◌++◌, ◌∙◌, ◌∷◌, [], ℕ, List, map, ap, sym, arith}
use Rattle.std.specs.List.{range_with_len}
use Rattle.std.proofs.lemmas.List.FromFn.{map-range_with_len_more}
use Rattle.report.specs.Parts.{total_in, totals_in}
use Rattle.report.proofs.parts.totals.Goals as goal

pub total-requires : goal.total-requires
total-requires c = λ k d lt. omega (arith, c.requires k d lt)

pub loop-i-preserved : goal.loop-i-preserved
loop-i-preserved c =
    let i = c.loop-i.i in
    let f : ℕ → ℕ = λ i. total_in c.args.replicas.now i in
    record {
      made = c.in_ok-push.ensures.items
          ∙ ap (λ (l : List ℕ). l ++ c.total.result ∷ []) c.loop-i.invariant.made
          ∙ ap (λ n. map f (range_with_len 0 i) ++ n ∷ []) c.total.ensures
          ∙ sym (map-range_with_len_more f 0 i i (omega arith));
    }

pub returns : goal.returns
unfolding totals_in
returns c =
    let all : c.loop-i.i ≡ c.args.«end» + 1 = omega arith in
    c.loop-i.invariant.made ∙ ap (λ n. map (λ i. total_in c.args.replicas.now i) (range_with_len 0 n)) all
