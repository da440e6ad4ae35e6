use Rattle.std.proofs.Common.{◌≡◌, ℕ, nat_lt, Bool, false, List, length, inl, inr, sym, ◌∙◌, arith}
use Rattle.replica.proofs.Names.{list_any, cases_lt, le-ltb, lt-ltb, get_or_default, list_any_at, list_any_none, IsNextMarked}
use Rattle.replica.proofs.marks.any_marked.Goals as goal

-- there is a marked place exactly where the first one is no end
some_marked : (marks : List Bool) (next : ℕ) → IsNextMarked marks 0 next → nat_lt next (length marks) ≡ list_any (λ mark. mark) marks
some_marked marks next is =
    elim (cases_lt next (length marks)) [
      | inl inside ↦ lt-ltb next (length marks) inside ∙ sym (list_any_at (λ mark. mark) marks next false inside (is.marked inside))
      | inr past ↦
          le-ltb next (length marks) past
          ∙ sym (list_any_none (λ mark. mark) marks (λ k d lt. get_or_default marks k d false lt ∙ is.blank k (omega arith) (omega arith)))
    ]

pub returns : goal.returns
returns c = some_marked c.args.marks.now c.next_marked.result c.next_marked.ensures
