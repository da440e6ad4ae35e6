-- Bytes that pass a spool.
use Rattle.std.proofs.Common.{◌≡◌, ℕ, suc, ◌+◌, ◌<◌, List, [], ◌++◌, length, get_or, take, drop, refl, ap, sym, ◌∙◌, subst, append_assoc}
use Rattle.std.specs.Prelude.{Option}
use Rattle.std.specs.List.{flat_map}
use Rattle.std.proofs.lemmas.List.{append-nil}
use Rattle.sha2.specs.declared.Sha256.{Sha256}
use Rattle.sha2.specs.Hashers.{Holds256}
use Rattle.sha2.specs.Sha256.{sha256}
use Rattle.ball_model.specs.Checkpoint.{sealed}
use Rattle.stored.specs.declared.spool.Spool.{Spool}
use Rattle.graph.specs.Planning.{Hashes}
use Rattle.stored.specs.Writing.{Writes, StopsWriting}
use Rattle.stored.specs.Spooled.{PassesOn, waiting}
use Rattle.stored.proofs.DigestLemmas.{hashes_none, hashes_then}
use Rattle.stored.proofs.WriteLemmas.{writes_none, writes_then, stops_first, stops_then, pieces_split, pieces_more}

module _ {W : Type 0} (contents : W → Option (List ℕ)) (failed : W → ℕ) (sure : W → Option ℕ) (room : W → ℕ) where
  abbrev passes : W → W → Spool → Spool → List ℕ → Type 0
  passes a b s t bytes = PassesOn contents failed sure room a b s t bytes

  abbrev writes : W → W → List ℕ → Type 0
  writes a b bytes = Writes contents failed sure room a b bytes

  abbrev stops : W → W → List ℕ → Type 0
  stops a b bytes = StopsWriting contents failed sure room a b bytes

  -- bytes that wait alone
  pub passes_waiting : (a : W) (s t : Spool) (bytes : List ℕ) → waiting t ≡ waiting s ++ bytes → t.hasher ≡ s.hasher → passes a a s t bytes
  passes_waiting a s t bytes e h = record { first = []; split = sym e; written = writes_none contents failed sure room a; digested = subst (λ (x : Sha256). Hashes s.hasher x []) (sym h) (hashes_none s.hasher) }

  pub passes_none : (a : W) (s : Spool) → passes a a s s []
  passes_none a s = passes_waiting a s s [] (sym (append-nil (waiting s))) refl

  -- what waited is written, and the bytes wait
  pub passes_put : (a b : W) (s m t : Spool) (bytes : List ℕ) → writes a b (waiting s) → Hashes s.hasher m.hasher (waiting s) → m.used ≡ 0 → waiting t ≡ waiting m ++ bytes → t.hasher ≡ m.hasher → passes a b s t bytes
  passes_put a b s m t bytes w h empty e same = record {
    first = waiting s;
    split = ap (λ (l : List ℕ). waiting s ++ l) (sym (e ∙ ap (λ (n : ℕ). take n m.piece ++ bytes) empty));
    written = w;
    digested = subst (λ (x : Sha256). Hashes s.hasher x (waiting s)) (sym same) h;
  }

  -- both are written
  pub passes_all : (a b c : W) (s m t : Spool) (bytes : List ℕ) → writes a b (waiting s) → Hashes s.hasher m.hasher (waiting s) → t.used ≡ 0 → writes b c bytes → Hashes m.hasher t.hasher bytes → passes a c s t bytes
  passes_all a b c s m t bytes w h empty also too = record {
    first = waiting s ++ bytes;
    split = sym (ap (λ (n : ℕ). (waiting s ++ bytes) ++ take n t.piece) empty ∙ append-nil (waiting s ++ bytes));
    written = writes_then contents failed sure room a b c (waiting s) bytes w also;
    digested = hashes_then s.hasher m.hasher t.hasher (waiting s) bytes h too;
  }

  -- one after the other
  pub passes_then : (a b c : W) (s m t : Spool) (xs ys : List ℕ) → passes a b s m xs → passes b c m t ys → passes a c s t (xs ++ ys)
  passes_then a b c s m t xs ys p q = record {
    first = p.first ++ q.first;
    split = sym (append_assoc (waiting s) xs ys) ∙ ap (λ (l : List ℕ). l ++ ys) p.split ∙ append_assoc p.first (waiting m) ys ∙ ap (λ (l : List ℕ). p.first ++ l) q.split ∙ sym (append_assoc p.first q.first (waiting t));
    written = writes_then contents failed sure room a b c p.first q.first p.written q.written;
    digested = hashes_then s.hasher m.hasher t.hasher p.first q.first p.digested q.digested;
  }

  -- where the first part fails, the whole does
  pub stops_before : (a b : W) (before xs ys : List ℕ) → stops a b (before ++ xs) → stops a b (before ++ (xs ++ ys))
  stops_before a b before xs ys p = subst (λ (l : List ℕ). stops a b l) (append_assoc before xs ys) (stops_first contents failed sure room a b (before ++ xs) ys p)

  -- and where the second does
  pub stops_after : (a b c : W) (s m : Spool) (xs ys : List ℕ) → passes a b s m xs → stops b c (waiting m ++ ys) → stops a c (waiting s ++ (xs ++ ys))
  stops_after a b c s m xs ys p q =
      let whole : waiting s ++ (xs ++ ys) ≡ p.first ++ (waiting m ++ ys) = sym (append_assoc (waiting s) xs ys) ∙ ap (λ (l : List ℕ). l ++ ys) p.split ∙ append_assoc p.first (waiting m) ys in
      subst (λ (l : List ℕ). stops a c l) (sym whole) (stops_then contents failed sure room a b c p.first (waiting m ++ ys) p.written q)

  -- ---- pieces, one after the other
  -- one piece more
  pub passes_piece : {X : Type 0} (f : X → List ℕ) (xs : List X) (k : ℕ) (d : X) (a b c : W) (s m t : Spool) → k < length xs → passes a b s m (flat_map f (take k xs)) → passes b c m t (f (get_or xs k d)) → passes a c s t (flat_map f (take (k + 1) xs))
  passes_piece f xs k d a b c s m t lt p q = subst (λ (l : List ℕ). passes a c s t l) (sym (pieces_more f xs k d lt)) (passes_then a b c s m t (flat_map f (take k xs)) (f (get_or xs k d)) p q)

  -- it fails at a piece
  pub stops_piece : {X : Type 0} (f : X → List ℕ) (xs : List X) (k : ℕ) (d : X) (a b c : W) (s m : Spool) → k < length xs → passes a b s m (flat_map f (take k xs)) → stops b c (waiting m ++ f (get_or xs k d)) → stops a c (waiting s ++ flat_map f xs)
  stops_piece f xs k d a b c s m lt p q =
      subst (λ (l : List ℕ). stops a c (waiting s ++ l)) (sym (pieces_split f xs k d lt))
      (stops_after a b c s m (flat_map f (take k xs)) (f (get_or xs k d) ++ flat_map f (drop (suc k) xs)) p
      (subst (λ (l : List ℕ). stops b c l) (append_assoc (waiting m) (f (get_or xs k d)) (flat_map f (drop (suc k) xs)))
      (stops_first contents failed sure room b c (waiting m ++ f (get_or xs k d)) (flat_map f (drop (suc k) xs)) q)))

  -- ---- other words for the same bytes
  pub passes_as : (a b : W) (s t : Spool) (xs ys : List ℕ) → xs ≡ ys → passes a b s t xs → passes a b s t ys
  passes_as a b s t xs ys e p = subst (λ (l : List ℕ). passes a b s t l) e p

  pub stops_as : (a b : W) (before xs ys : List ℕ) → xs ≡ ys → stops a b (before ++ xs) → stops a b (before ++ ys)
  stops_as a b before xs ys e p = subst (λ (l : List ℕ). stops a b (before ++ l)) e p

  pub passes_next : (a b c : W) (s m t : Spool) (xs ys zs : List ℕ) → xs ++ ys ≡ zs → passes a b s m xs → passes b c m t ys → passes a c s t zs
  passes_next a b c s m t xs ys zs e p q = passes_as a c s t (xs ++ ys) zs e (passes_then a b c s m t xs ys p q)

  pub stops_next : (a b c : W) (s m : Spool) (xs ys rest zs : List ℕ) → (xs ++ ys) ++ rest ≡ zs → passes a b s m xs → stops b c (waiting m ++ ys) → stops a c (waiting s ++ zs)
  stops_next a b c s m xs ys rest zs e p q = stops_as a c (waiting s) ((xs ++ ys) ++ rest) zs e (stops_before a c (waiting s) (xs ++ ys) rest (stops_after a b c s m xs ys p q))

  pub stops_front : (a b : W) (before xs ys zs : List ℕ) → xs ++ ys ≡ zs → stops a b (before ++ xs) → stops a b (before ++ zs)
  stops_front a b before xs ys zs e p = stops_as a b before (xs ++ ys) zs e (stops_before a b before xs ys p)

  pub stops_behind : (a b c : W) (s m : Spool) (xs ys zs : List ℕ) → xs ++ ys ≡ zs → passes a b s m xs → stops b c (waiting m ++ ys) → stops a c (waiting s ++ zs)
  stops_behind a b c s m xs ys zs e p q = stops_as a c (waiting s) (xs ++ ys) zs e (stops_after a b c s m xs ys p q)

  -- ---- the digest behind all
  pub sealed_is : (first last bytes : List ℕ) → bytes ≡ first ++ last → first ++ (last ++ sha256 (first ++ last)) ≡ sealed bytes
  sealed_is first last bytes e = rw e (sym (append_assoc first last (sha256 (first ++ last))))

  pub writes_sealed : (a b c : W) (s m : Spool) (bytes : List ℕ) → waiting s ≡ [] → Holds256 s.hasher [] → passes a b s m bytes → ((message : List ℕ) → Holds256 m.hasher message → writes b c (waiting m ++ sha256 (message ++ waiting m))) → writes a c (sealed bytes)
  writes_sealed a b c s m bytes none fresh p q =
      let whole : bytes ≡ p.first ++ waiting m = subst (λ (l : List ℕ). l ++ bytes ≡ p.first ++ waiting m) none p.split in
      subst (λ (l : List ℕ). writes a c l) (sealed_is p.first (waiting m) bytes whole)
      (writes_then contents failed sure room a b c p.first _ p.written (q p.first (p.digested [] fresh)))

  pub stops_sealed : (a b c : W) (s m : Spool) (bytes : List ℕ) → waiting s ≡ [] → Holds256 s.hasher [] → passes a b s m bytes → ((message : List ℕ) → Holds256 m.hasher message → stops b c (waiting m ++ sha256 (message ++ waiting m))) → stops a c (sealed bytes)
  stops_sealed a b c s m bytes none fresh p q =
      let whole : bytes ≡ p.first ++ waiting m = subst (λ (l : List ℕ). l ++ bytes ≡ p.first ++ waiting m) none p.split in
      subst (λ (l : List ℕ). stops a c l) (sealed_is p.first (waiting m) bytes whole)
      (stops_then contents failed sure room a b c p.first _ p.written (q p.first (p.digested [] fresh)))

  pub stops_unsealed : (a b : W) (s : Spool) (bytes : List ℕ) → waiting s ≡ [] → stops a b (waiting s ++ bytes) → stops a b (sealed bytes)
  stops_unsealed a b s bytes none p = stops_first contents failed sure room a b bytes (sha256 bytes) (subst (λ (l : List ℕ). stops a b (l ++ bytes)) none p)
