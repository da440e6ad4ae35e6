use Rattle.std.proofs.Common.{◌≡◌, ℕ, ◌+◌, ◌*◌, ◌%◌, ◌^◌, ◌<◌, ◌≤◌, List, [], ◌∷◌, length, take, drop, refl, ap, ◌∙◌, arith}
use Rattle.std.specs.List.{All}
use Rattle.std.specs.Arc.{arc_value}
use Rattle.std.proofs.lemmas.List.Elements.{All-take, All-drop, All-push}
use Rattle.ball_model.specs.Batches.{BatchValue, IsRow, IsBatch, ids_of}
use Rattle.batches.specs.Kept.{rows_at}
use Rattle.batches.proofs.KeptLemmas.{seen, batch-push}
use Rattle.batches.proofs.HeldLemmas.{place-length}
use Rattle.base_tests.proofs.of_batches.sharing.over.Goals as goal

-- a batch of two rows of a table of three
two_is : (like : BatchValue) (table : List ℕ) (p q : ℕ) → IsBatch like → like.plan.log2m ≡ 4 → like.plan.parts ≡ 2 → like.plan.vertices ≡ 5 → like.name.source ≡ 0 → like.changed ≡ 3
    → length table ≡ 48 → All (λ r. r ≤ 33) table → p < 3 → q < 3 → IsBatch (seen like.plan like.name like.changed (rows_at (2 ^ like.plan.log2m) table (0 ∷ 2 ∷ []) (p ∷ q ∷ [])))
unfolding rows_at
two_is like table p q is log2m parts vertices source changed len ranks lt_p lt_q =
    let m = 2 ^ like.plan.log2m in
    let wide : m ≡ 16 = ap (λ (k : ℕ). 2 ^ k) log2m in
    let row : ℕ → List ℕ = λ (place : ℕ). take m (drop (place * m) table) in
    let lies : (place : ℕ) → place < 3 → (place + 1) * m ≤ length table = λ (place : ℕ) (lt : place < 3). rw wide (omega arith) in
    let fits : (z place : ℕ) → z < 5 → z % 2 ≡ 0 → place < 3 → IsRow like.plan like.name.source (z, row place) =
    λ (z place : ℕ) (lt_z : z < 5) (even : z % 2 ≡ 0) (lt : place < 3). record {
      vertex = rw vertices lt_z;
      own = rw (parts, source) even;
      width = place-length m place table (lies place lt);
      ranks = All-take (λ r. r ≤ 33) m (drop (place * m) table) (All-drop (λ r. r ≤ 33) (place * m) table ranks);
    } in
    let none : IsBatch (seen like.plan like.name like.changed []) = record {
      plan = is.plan;
      superstep = is.superstep;
      source = is.source;
      target = is.target;
      changed = is.changed;
      count = omega arith;
      ascending = λ k lt. absurd (omega arith);
      rows = λ k d lt. absurd (omega arith);
    } in
    let one : IsBatch (seen like.plan like.name like.changed ((0, row p) ∷ [])) =
    batch-push (seen like.plan like.name like.changed []) 0 (row p) none (fits 0 p (omega arith) refl lt_p) (λ k d lt. absurd (omega arith)) (omega arith) in
    let above : All (λ before. before < 2) (0 ∷ []) = All-push (λ before. before < 2) [] 0 (λ k d lt. absurd (omega arith)) (omega arith) in
    batch-push (seen like.plan like.name like.changed ((0, row p) ∷ [])) 2 (row q) one (fits 2 q (omega arith) refl lt_q) above (omega arith)

-- the rows lie in the table
two_lie : (m p q : ℕ) (table : List ℕ) → m ≡ 16 → length table ≡ 48 → p < 3 → q < 3 → All (λ p. (p + 1) * m ≤ length table) (p ∷ q ∷ [])
two_lie m p q table wide len lt_p lt_q =
    let P : ℕ → Type 0 = λ (place : ℕ). (place + 1) * m ≤ length table in
    let lies : (place : ℕ) → place < 3 → P place = λ (place : ℕ) (lt : place < 3). rw wide (omega arith) in
    All-push P (p ∷ []) q (All-push P [] p (λ k d lt. absurd (omega arith)) (lies p lt_p)) (lies q lt_q)

-- they are of vertices 0 and 2
two_ids : (m p q : ℕ) (table ids places : List ℕ) → ids ≡ 0 ∷ 2 ∷ [] → places ≡ p ∷ q ∷ [] → ids_of (rows_at m table ids places) ≡ 0 ∷ 2 ∷ []
unfolding rows_at
two_ids m p q table ids places is_ids is_places = rw (is_ids, is_places) refl

pub sharing-requires-clause-places : goal.sharing-requires-clause-places
sharing-requires-clause-places c =
    let like = c.args.like.now in
    rw (c.plan.ensures.value, c.in_ok-places.ensures) (two_lie (2 ^ like.plan.log2m) c.args.first c.args.second (arc_value c.args.table).items (ap (λ (k : ℕ). 2 ^ k) c.requires.plan.0) c.requires.length c.requires.places.0 c.requires.places.1)

pub sharing-requires-clause-batch : goal.sharing-requires-clause-batch
sharing-requires-clause-batch c =
    let like = c.args.like.now in
    rw (c.plan.ensures.value, c.name.ensures.value, c.changed.ensures.value, c.in_ok-ids.ensures, c.in_ok-places.ensures)
    (two_is like (arc_value c.args.table).items c.args.first c.args.second c.plan.ensures.batch c.requires.plan.0 c.requires.plan.1 c.requires.plan.2 c.requires.name.0 c.requires.name.1 c.requires.length c.requires.ranks c.requires.places.0 c.requires.places.1)

pub returns-clause-rows : goal.returns-clause-rows
returns-clause-rows c =
    ap (λ (b : BatchValue). ids_of b.rows) c.sharing.ensures ∙ two_ids _ c.args.first c.args.second _ c.in_ok-ids.ids.items c.in_ok-places.places.items c.in_ok-ids.ensures c.in_ok-places.ensures
