-- A true batch is within the limits.
use Rattle.std.proofs.Common.{◌≡◌, ℕ, ◌+◌, ◌%◌, ◌<◌, ◌≤◌, ◌==◌, ◌&&◌, Bool, true, false, cond, List, [], ◌∷◌, length, map, get_or, refl, sym, ap, subst, arith}
use Rattle.std.specs.List.{filter, range_with_len, All}
use Rattle.std.specs.List.Sorted.{IsStrictlyIncreasing}
use Rattle.std.proofs.lemmas.Bool.{eqb-true}
use Rattle.std.proofs.lemmas.List.{length-map, get_or-map}
use Rattle.std.proofs.lemmas.List.Elements.{All-filter, filter_passes}
use Rattle.std.proofs.lemmas.List.FromFn.{length-range_with_len, get_or-range_with_len}
use Rattle.std.proofs.lemmas.List.Kept.{IsStrictlyIncreasing-filter}
use Rattle.std.proofs.lemmas.List.Sums.{length-filter, count_by-le-length}
use Rattle.ball_model.specs.declared.names.BatchName.{BatchName}
use Rattle.ball_model.specs.Counter.{ball_counter}
use Rattle.ball_model.specs.Change.{changed_at}
use Rattle.ball_model.specs.PlanValue.{mixing_of, vertices_of, part_size}
use Rattle.ball_model.specs.Job.{Job, IsJob, feeds_into}
use Rattle.ball_model.specs.Batches.{IsRow, IsBatch, ids_of, sent_vertices, changed_count, true_batch}
use Rattle.ball_model.proofs.RankLemmas.{counter_length, ball_ranks}

-- no more pass two tests than the first
both_fewer : (p q : ℕ → Bool) (xs : List ℕ) → length (filter (λ y. p y && q y) xs) ≤ length (filter p xs)
both_fewer p q [] = omega arith
both_fewer p q (x ∷ xs) = one (p x) (q x) (both_fewer p q xs)
  where
    one : (a b : Bool) → length (filter (λ y. p y && q y) xs) ≤ length (filter p xs)
        → length (cond (a && b) (x ∷ filter (λ y. p y && q y) xs) (filter (λ y. p y && q y) xs)) ≤ length (cond a (x ∷ filter p xs) (filter p xs))
    one true true h = omega arith
    one true false h = omega arith
    one false b h = h

-- the vertices of a partition are below the number of vertices, of the partition, and ascend
below : (n parts p : ℕ) → All (λ v. v < n) (vertices_of n parts p)
unfolding vertices_of
below n parts p = All-filter (λ v. v % parts == p) (λ v. v < n) (range_with_len 0 n) (λ k d lt. let in_range : k < n = omega (arith, lt, length-range_with_len 0 n) in rw (get_or-range_with_len 0 n k d in_range) (omega arith))

own : (n parts p : ℕ) → All (λ v. v % parts ≡ p) (vertices_of n parts p)
unfolding vertices_of
own n parts p k d lt = eqb-true _ _ (filter_passes (λ v. v % parts == p) (range_with_len 0 n) k d lt)

rises : (n parts p : ℕ) → IsStrictlyIncreasing (vertices_of n parts p)
unfolding vertices_of
rises n parts p =
    IsStrictlyIncreasing-filter (λ v. v % parts == p) (range_with_len 0 n) (λ k lt.
    let in_range : k + 1 < n = omega (arith, lt, length-range_with_len 0 n) in
    omega (arith, get_or-range_with_len 0 n k 0 (omega arith), get_or-range_with_len 0 n (k + 1) 0 in_range))

-- the vertices of rows that are made of vertices
ids-map : (f : ℕ → List ℕ) (ys : List ℕ) → ids_of (map (λ y. (y, f y)) ys) ≡ ys
ids-map f [] = refl
ids-map f (y ∷ ys) = ap (λ (t : List ℕ). y ∷ t) (ids-map f ys)

-- a true batch is within the limits
pub true_is_batch : (j : Job) (name : BatchName) → IsJob j → name.superstep ≤ j.plan.limit → name.source < j.plan.parts → name.target < j.plan.parts → IsBatch (true_batch j name)
unfolding true_batch sent_vertices changed_count
true_is_batch j name ok superstep source target =
    let m = mixing_of j.plan in
    let n = j.graph.vertices in
    let vs = vertices_of n j.plan.parts name.source in
    let changed : ℕ → Bool = λ y. changed_at m j.graph y name.superstep in
    let feeds : ℕ → Bool = λ y. feeds_into j.graph j.plan.parts y name.target in
    let both : ℕ → Bool = λ y. changed y && feeds y in
    let ys = filter both vs in
    let row : ℕ → ℕ × List ℕ = λ y. (y, ball_counter m j.graph y name.superstep) in
    let size : part_size j.plan.vertices j.plan.parts name.source ≡ part_size n j.plan.parts name.source = ap (λ (k : ℕ). part_size k j.plan.parts name.source) ok.vertices in
    let in_ys : All (λ v. v < n) ys = All-filter both (λ v. v < n) vs (below n j.plan.parts name.source) in
    let of_source : All (λ v. v % j.plan.parts ≡ name.source) ys = All-filter both (λ v. v % j.plan.parts ≡ name.source) vs (own n j.plan.parts name.source) in
    record {
      plan = ok.plan;
      superstep = superstep;
      source = source;
      target = target;
      changed = omega (arith, count_by-le-length changed vs, size);
      count = omega (arith, length-map ys row, both_fewer changed feeds vs, length-filter changed vs);
      ascending = subst IsStrictlyIncreasing (sym (ids-map (λ y. ball_counter m j.graph y name.superstep) ys)) (IsStrictlyIncreasing-filter both vs (rises n j.plan.parts name.source));
      rows = λ k d lt.
          let lt' : k < length ys = omega (arith, lt, length-map ys row) in
          let y = get_or ys k 0 in
          let one : IsRow j.plan name.source (row y) = record {
            vertex = omega (arith, in_ys k 0 lt', ok.vertices);
            own = of_source k 0 lt';
            width = counter_length m j.graph y name.superstep;
            ranks = λ i e at. ball_ranks m j.graph y name.superstep i e at;
          } in
          subst (λ (r : ℕ × List ℕ). IsRow j.plan name.source r) (sym (get_or-map row ys k 0 d lt')) one;
    }
