-- Blocks on their way, and where they stop.
use Rattle.std.proofs.Common.{◌≡◌, ℕ, ◌-◌, ◌<◌, ◌≤◌, Bool, true, false, cond, List, [], ◌∷◌, ◌++◌, length, take, drop, refl, ap, sym, ◌∙◌, subst, arith, append_assoc, append-nil, length-append}
use Rattle.std.specs.Prelude.{Option}
use Rattle.std.specs.List.{flat_map}
use Rattle.std.proofs.KnownBytes.{Appends-trans}
use Rattle.std.proofs.lemmas.Grind.{flat_map-append}
use Rattle.std.proofs.lemmas.List.{drop_all, length-drop}
use Rattle.ball_model.specs.Checkpoint.{sealed}
use Rattle.ball_model.specs.Streams.{RisesByOne, AreSure}
use Rattle.sha2.specs.Sha256.{sha256}
use Rattle.stored.specs.declared.error.StoreError.{StoreError}
use Rattle.stored.specs.declared.error.StoreError.TheVariants as errors
use Rattle.stored.specs.declared.spool.Spool.{Spool}
use Rattle.stored.specs.Blocks.{EndsAt}
use Rattle.stored.specs.Spooled.{PassesOn, waiting}
use Rattle.stored.specs.Stored.{block_bytes, blocks_after, blocks_of, is_full}
use Rattle.stored.specs.Writing.{StopsWriting, Halts}
use Rattle.stored.proofs.SpoolLemmas.{passes_as, passes_none, passes_then, stops_next}
use Rattle.stored.proofs.WriteLemmas.{sure_fewer, sure_rest}

abbrev all_bytes : List (List (List ℕ)) → List ℕ
all_bytes blocks = flat_map block_bytes blocks

-- the blocks of the lists up to a place were passed on
pub record Written {W : Type 0} (contents : W → Option (List ℕ)) (failed : W → ℕ) (sure : W → Option ℕ) (room : W → ℕ) (a b : W) (s t : Spool) (lists : List (List ℕ)) (from : ℕ) : Type 0 where
  pub within : from ≤ length lists
  pub before : List (List (List ℕ))
  pub split : blocks_of lists ≡ before ++ blocks_of (drop from lists)
  pub passes : PassesOn contents failed sure room a b s t (all_bytes before)

block_long : (lists : List (List ℕ)) → 0 < length (block_bytes lists)
unfolding block_bytes
block_long lists = omega arith

long_either : (full : Bool) (block : List (List ℕ)) (one two : List (List (List ℕ))) → 0 < length (all_bytes two) → 0 < length (all_bytes (cond full (block ∷ one) two))
long_either true block one two p = omega (arith, block_long block, length-append (block_bytes block) (all_bytes one))
long_either false block one two p = p

after_long : (block lists : List (List ℕ)) → 0 < length (all_bytes (blocks_after block lists))
unfolding blocks_after
after_long block [] = omega (arith, block_long block, length-append (block_bytes block) [])
after_long block (xs ∷ lists) = long_either (is_full block) block (blocks_after (xs ∷ []) lists) (blocks_after (block ++ xs ∷ []) lists) (after_long (block ++ xs ∷ []) lists)

some_long : (lists : List (List ℕ)) → 0 < length lists → 0 < length (all_bytes (blocks_of lists))
unfolding blocks_of
some_long [] lt = absurd (omega (arith, lt))
some_long (xs ∷ lists) lt = after_long (xs ∷ []) lists

module _ {W : Type 0} (contents : W → Option (List ℕ)) (failed : W → ℕ) (sure : W → Option ℕ) (room : W → ℕ) where
  abbrev written : W → W → Spool → Spool → List (List ℕ) → ℕ → Type 0
  written a b s t lists from = Written contents failed sure room a b s t lists from

  abbrev halts : W → W → List ℕ → StoreError → Type 0
  halts a b bytes e = Halts contents failed sure room a b bytes e

  pub written_none : (a : W) (s : Spool) (lists : List (List ℕ)) → written a a s s lists 0
  written_none a s lists = record { within = omega arith; before = []; split = refl; passes = passes_none contents failed sure room a s }

  pub written_more : (a b c : W) (s m t : Spool) (lists : List (List ℕ)) (from to : ℕ) → written a b s m lists from → EndsAt lists from to → PassesOn contents failed sure room b c m t (block_bytes (take (to - from) (drop from lists))) → written a c s t lists to
  written_more a b c s m t lists from to p ends q =
      let block = take (to - from) (drop from lists) in
      record {
        within = ends.within;
        before = p.before ++ block ∷ [];
        split = p.split ∙ ap (λ (l : List (List (List ℕ))). p.before ++ l) ends.first ∙ sym (append_assoc p.before (block ∷ []) (blocks_of (drop to lists)));
        passes = passes_as contents failed sure room a c s t (all_bytes p.before ++ block_bytes block) (all_bytes (p.before ++ block ∷ []))
            (sym (flat_map-append block_bytes p.before (block ∷ []) ∙ ap (λ (l : List ℕ). all_bytes p.before ++ l) (append-nil (block_bytes block))))
            (passes_then contents failed sure room a b c s m t (all_bytes p.before) (block_bytes block) p.passes q);
      }

  pub written_all : (a b : W) (s t : Spool) (lists : List (List ℕ)) (from : ℕ) → length lists ≤ from → written a b s t lists from → PassesOn contents failed sure room a b s t (all_bytes (blocks_of lists))
  unfolding blocks_of
  written_all a b s t lists from le p =
      let none : drop from lists ≡ [] = drop_all from lists le in
      let whole : blocks_of lists ≡ p.before = p.split ∙ ap (λ (l : List (List ℕ)). p.before ++ blocks_of l) none ∙ append-nil p.before in
      passes_as contents failed sure room a b s t (all_bytes p.before) (all_bytes (blocks_of lists)) (ap all_bytes (sym whole)) p.passes

  -- a block is not written
  pub written_stops : (a b c : W) (s m : Spool) (lists : List (List ℕ)) (from to : ℕ) → written a b s m lists from → EndsAt lists from to → StopsWriting contents failed sure room b c (waiting m ++ block_bytes (take (to - from) (drop from lists)))
      → StopsWriting contents failed sure room a c (waiting s ++ all_bytes (blocks_of lists))
  written_stops a b c s m lists from to p ends q =
      let block = take (to - from) (drop from lists) in
      let rest = blocks_of (drop to lists) in
      let whole : (all_bytes p.before ++ block_bytes block) ++ all_bytes rest ≡ all_bytes (blocks_of lists) =
      append_assoc (all_bytes p.before) (block_bytes block) (all_bytes rest) ∙ sym (flat_map-append block_bytes p.before (block ∷ rest)) ∙ ap all_bytes (sym (p.split ∙ ap (λ (l : List (List (List ℕ))). p.before ++ l) ends.first)) in
      stops_next contents failed sure room a b c s m (all_bytes p.before) (block_bytes block) (all_bytes rest) (all_bytes (blocks_of lists)) whole p.passes q

  pub halts_of : (a b : W) (bytes : List ℕ) (e : StoreError) → e ≡ errors.Write → StopsWriting contents failed sure room a b bytes → halts a b bytes e
  halts_of a b bytes e is p = record {
    front = p.front;
    rises = λ _. p.rises;
    unsure = λ sure fits _. p.unsure sure fits;
    counted = λ other. absurd (write_not_memory e is other);
    kind = λ other. write_not_labels e is other;
  }
    where
      write_not_memory : (e : StoreError) → e ≡ errors.Write → e ≡ errors.Memory → ⊥
      write_not_memory e is other = absurd (cc)

      write_not_labels : (e : StoreError) → e ≡ errors.Write → e ≡ errors.Labels → ⊥
      write_not_labels e is other = absurd (cc)

  -- memory for a block is refused
  pub halts_memory : (a b : W) (s t : Spool) (lists : List (List ℕ)) (from : ℕ) (e : StoreError) → e ≡ errors.Memory → from < length lists → written a b s t lists from → halts a b (waiting s ++ all_bytes (blocks_of lists)) e
  halts_memory a b s t lists from e is lt p =
      let rest = all_bytes (blocks_of (drop from lists)) in
      let x = all_bytes p.before in
      let whole : all_bytes (blocks_of lists) ≡ x ++ rest = ap all_bytes p.split ∙ flat_map-append block_bytes p.before (blocks_of (drop from lists)) in
      record {
        front = record {
          front = p.passes.first;
          rest = waiting t ++ rest;
          split = ap (λ (l : List ℕ). waiting s ++ l) whole ∙ sym (append_assoc (waiting s) x rest) ∙ ap (λ (l : List ℕ). l ++ rest) p.passes.split ∙ append_assoc p.passes.first (waiting t) rest;
          fewer = omega (arith, length-append (waiting t) rest, some_long (drop from lists) (omega (arith, length-drop from lists, lt)));
          appended = p.passes.written.appended;
        };
        rises = λ other. absurd (cc);
        unsure = λ sure fits other. absurd (cc);
        counted = λ _. p.passes.written.counted;
        kind = λ other. absurd (cc);
      }

  -- what follows bytes that were passed on stops
  pub halts_after : (a b c : W) (s m : Spool) (xs ys : List ℕ) (e : StoreError) → PassesOn contents failed sure room a b s m xs → halts b c (waiting m ++ ys) e → halts a c (waiting s ++ (xs ++ ys)) e
  halts_after a b c s m xs ys e p q =
      let whole : waiting s ++ (xs ++ ys) ≡ p.first ++ (waiting m ++ ys) = sym (append_assoc (waiting s) xs ys) ∙ ap (λ (l : List ℕ). l ++ ys) p.split ∙ append_assoc p.first (waiting m) ys in
      let long = length-append p.first (waiting m ++ ys) in
      let w = p.written in
      rw whole (record {
        front = record { front = p.first ++ q.front.front; rest = q.front.rest; split = ap (λ (l : List ℕ). p.first ++ l) q.front.split ∙ sym (append_assoc p.first q.front.front q.front.rest); fewer = q.front.fewer; appended = Appends-trans (contents a) (contents b) (contents c) p.first q.front.front w.appended q.front.appended };
        rises = λ is. subst (λ (k : ℕ). RisesByOne k (failed c)) w.counted (q.rises is);
        unsure = λ is fits. q.unsure (sure_rest (length p.first) (length (waiting m ++ ys)) (sure a) (sure b) (subst (λ n. AreSure (sure a) n) long is) w.calls) (omega (arith, long, fits, w.taken));
        counted = λ is. q.counted is ∙ w.counted;
        kind = q.kind;
      })

  -- where a part stops, the whole does
  pub halts_first : (a b : W) (xs ys : List ℕ) (e : StoreError) → halts a b xs e → halts a b (xs ++ ys) e
  halts_first a b xs ys e p =
      let long = length-append xs ys in
      let f = p.front in
      record {
        front = record { front = f.front; rest = f.rest ++ ys; split = ap (λ (l : List ℕ). l ++ ys) f.split ∙ append_assoc f.front f.rest ys; fewer = omega (arith, f.fewer, length-append f.rest ys); appended = f.appended };
        rises = p.rises;
        unsure = λ is fits. p.unsure (sure_fewer (length xs) (length (xs ++ ys)) (sure a) is (omega (arith, long))) (omega (arith, long, fits));
        counted = p.counted;
        kind = p.kind;
      }

  pub halts_unsealed : (a b : W) (s : Spool) (bytes : List ℕ) (e : StoreError) → waiting s ≡ [] → halts a b (waiting s ++ bytes) e → halts a b (sealed bytes) e
  halts_unsealed a b s bytes e none p = halts_first a b bytes (sha256 bytes) e (subst (λ (l : List ℕ). halts a b (l ++ bytes) e) none p)
