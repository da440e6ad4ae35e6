use Rattle.std.proofs.Common.{◌≡◌, ◌∙◌, ℕ, List, Vec, Global, ap, length, map, sym, take}
use Rattle.std.proofs.lemmas.List.{length-map, take-map}
use Rattle.graph.specs.Labels.{texts}
use Rattle.graph.proofs.builder.GraphBuilder.edge.Goals as goal

abbrev text : Vec ℕ Global → List ℕ
text v = v.items

-- labels that were cut back to as many as there were are those that were there
back : (old more new : List (Vec ℕ Global)) (n : ℕ) → n ≡ length old → new ≡ take n more
    → take (length (map text old)) (map text more) ≡ map text old → map text new ≡ map text old
back old more new n count cut front =
    ap (λ vs. map text vs) cut ∙ sym (take-map text n more)
    ∙ ap (λ k. take k (map text more)) (count ∙ sym (length-map old text)) ∙ front

pub returns-in-Err-clause-kept : goal.returns-in-Err-clause-kept
returns-in-Err-clause-kept c =
    let same : texts c.truncate.new.self ≡ texts c.self.inside.labels =
    back c.self.inside.labels.keys c.edge_between.new.labels.keys c.truncate.new.self.keys c.len-count.result c.len-count.ensures.len c.truncate.ensures.keys c.in-Err.ensures.longer in
    rw (same, c.reserve.ensures.items) c.self.view_is
