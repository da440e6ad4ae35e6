-- What is stored of a network.
use Rattle.std.proofs.Common.{◌≡◌, ℕ, ◌+◌, ◌-◌, ◌<◌, ◌≤◌, Bool, true, List, [], ◌∷◌, ◌++◌, length, get_or, take, drop, refl, ap, sym, ◌∙◌, arith, inl, inr}
use Rattle.std.specs.Prelude.{◌⊎◌}
use Rattle.std.proofs.lemmas.List.{drop-drop, length-drop, get_or-drop}
use Rattle.std.proofs.lemmas.List.FromFn.{length-map-range_with_len, get_or-map-range_with_len}
use Rattle.ball_model.specs.Graph.{preds_of}
use Rattle.ball_model.specs.Input.{Network}
use Rattle.gapcode.specs.Lists.{list_bits}
use Rattle.stored.specs.Blocks.{EndsAt}
use Rattle.stored.specs.Stored.{blocks_of, code_of, is_full, label_lines, stored_of}
use Rattle.stored.proofs.BlockLemmas.{Begins, begins_ends}
use Rattle.stored.proofs.ListLemmas.{code_more}

pub preds_many : (net : Network) → length (stored_of net).preds ≡ net.graph.vertices
unfolding stored_of
preds_many net = length-map-range_with_len (preds_of net.graph) 0 net.graph.vertices

pub same_labels : (net : Network) → length (label_lines net.labels) ≡ length (label_lines (stored_of net).labels)
unfolding stored_of
same_labels net = refl

pub preds_at : (net : Network) (v : ℕ) → v < net.graph.vertices → get_or (stored_of net).preds v [] ≡ preds_of net.graph v
unfolding stored_of
preds_at net v lt = get_or-map-range_with_len (preds_of net.graph) 0 net.graph.vertices v v [] lt (omega arith)

-- the code of a block's lists, one more
pub block_more : (net : Network) (from to : ℕ) (before after : List Bool) → from ≤ to → to < net.graph.vertices
    → before ≡ code_of (take (to - from) (drop from (stored_of net).preds)) → after ≡ before ++ list_bits (preds_of net.graph to) → after ≡ code_of (take (to + 1 - from) (drop from (stored_of net).preds))
block_more net from to before after le lt so_far put =
    let lists = drop from (stored_of net).preds in
    let k = to - from in
    let many = preds_many net in
    let next : to + 1 - from ≡ k + 1 = omega arith in
    let place : from + k ≡ to = omega arith in
    let at : get_or lists k [] ≡ preds_of net.graph to = get_or-drop from (stored_of net).preds k [] ∙ ap (λ (v : ℕ). get_or (stored_of net).preds v []) place ∙ preds_at net to lt in
    put ∙ ap (λ (l : List Bool). l ++ list_bits (preds_of net.graph to)) so_far ∙ ap (λ (l : List ℕ). code_of (take k lists) ++ list_bits l) (sym at)
    ∙ sym (rw next (code_more lists k (omega (arith, length-drop from (stored_of net).preds, many, le, lt))))

-- where it ends
pub block_ends : (lists : List (List ℕ)) (from to : ℕ) → from < to → to ≤ length lists → (length lists ≤ to) ⊎ (is_full (take (to - from) (drop from lists)) ≡ true) → Begins (drop from lists) (to - from) → EndsAt lists from to
block_ends lists from to lt le (inl all) p =
    let there : from + (to - from) ≡ to = omega arith in
    record {
      some = lt;
      within = le;
      first = begins_ends (drop from lists) (to - from) (omega (arith, lt)) (inl (omega (arith, length-drop from lists, all))) p ∙ ap (λ (l : List (List ℕ)). take (to - from) (drop from lists) ∷ blocks_of l) (drop-drop (to - from) from lists ∙ ap (λ (k : ℕ). drop k lists) there);
    }
block_ends lists from to lt le (inr full) p =
    let there : from + (to - from) ≡ to = omega arith in
    record {
      some = lt;
      within = le;
      first = begins_ends (drop from lists) (to - from) (omega (arith, lt)) (inr full) p ∙ ap (λ (l : List (List ℕ)). take (to - from) (drop from lists) ∷ blocks_of l) (drop-drop (to - from) from lists ∙ ap (λ (k : ℕ). drop k lists) there);
    }
