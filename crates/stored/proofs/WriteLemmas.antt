-- Bytes that are written one after the other.
use Rattle.std.proofs.Common.{◌≡◌, ℕ, zero, suc, ◌+◌, ◌<◌, List, [], ◌∷◌, ◌++◌, length, get_or, take, drop, refl, ap, sym, ◌∙◌, subst, arith, append_assoc}
use Rattle.std.specs.Prelude.{◌≤◌, Option, None, Some}
use Rattle.std.specs.List.{flat_map}
use Rattle.std.proofs.KnownBytes.{Appends-nil, Appends-trans}
use Rattle.std.proofs.lemmas.List.{length-append}
use Rattle.std.proofs.lemmas.Grind.{flat_map-append}
use Rattle.std.proofs.Math.Seq.{take-suc}
use Rattle.ball_model.specs.Streams.{AfterAtMost, AreSure}
use Rattle.ball_model.proofs.StreamLemmas.{after_none}
use Rattle.stored.specs.Writing.{Writes, StopsWriting}

-- ---- calls that are sure
after_then : (n m : ℕ) (a b c : Option ℕ) → AfterAtMost n a b → AfterAtMost m b c → AfterAtMost (n + m) a c
after_then n m None b c p q = subst (λ (o : Option ℕ). AfterAtMost m o c) p q
after_then n m (Some k) None c p q = absurd p
after_then n m (Some k) (Some j) None p q = absurd q
after_then n m (Some k) (Some j) (Some i) p q = omega (arith, p, q)

pub sure_rest : (n m : ℕ) (a b : Option ℕ) → AreSure a (n + m) → AfterAtMost n a b → AreSure b m
sure_rest n m None b sure p = subst (λ (o : Option ℕ). AreSure o m) (sym p) tt
sure_rest n m (Some k) None sure p = absurd p
sure_rest n m (Some k) (Some j) sure p = omega (arith, sure, p)

pub sure_fewer : (n m : ℕ) (a : Option ℕ) → AreSure a m → n ≤ m → AreSure a n
sure_fewer n m None sure le = tt
sure_fewer n m (Some k) sure le = omega (arith, sure, le)

-- ---- writes
pub writes_none : {W : Type 0} (contents : W → Option (List ℕ)) (failed : W → ℕ) (sure : W → Option ℕ) (room : W → ℕ) (a : W) → Writes contents failed sure room a a []
writes_none contents failed sure room a = record { appended = Appends-nil (contents a); counted = refl; calls = after_none (sure a); taken = omega arith }

pub writes_then : {W : Type 0} (contents : W → Option (List ℕ)) (failed : W → ℕ) (sure : W → Option ℕ) (room : W → ℕ) (a b c : W) (xs ys : List ℕ) →
    Writes contents failed sure room a b xs → Writes contents failed sure room b c ys → Writes contents failed sure room a c (xs ++ ys)
writes_then contents failed sure room a b c xs ys p q =
    let long = length-append xs ys in
    record {
      appended = Appends-trans (contents a) (contents b) (contents c) xs ys p.appended q.appended;
      counted = q.counted ∙ p.counted;
      calls = subst (λ n. AfterAtMost n (sure a) (sure c)) (sym long) (after_then (length xs) (length ys) (sure a) (sure b) (sure c) p.calls q.calls);
      taken = omega (arith, p.taken, q.taken, long);
    }

-- where a part is not written whole, the whole is not
pub stops_first : {W : Type 0} (contents : W → Option (List ℕ)) (failed : W → ℕ) (sure : W → Option ℕ) (room : W → ℕ) (a b : W) (xs ys : List ℕ) →
    StopsWriting contents failed sure room a b xs → StopsWriting contents failed sure room a b (xs ++ ys)
stops_first contents failed sure room a b xs ys p =
    let long = length-append xs ys in
    let f = p.front in
    record {
      front = record {
        front = f.front;
        rest = f.rest ++ ys;
        split = ap (λ (l : List ℕ). l ++ ys) f.split ∙ append_assoc f.front f.rest ys;
        fewer = omega (arith, f.fewer, length-append f.rest ys);
        appended = f.appended;
      };
      rises = p.rises;
      unsure = λ is fits. p.unsure (sure_fewer (length xs) (length (xs ++ ys)) (sure a) is (omega (arith, long))) (omega (arith, long, fits));
    }

pub stops_then : {W : Type 0} (contents : W → Option (List ℕ)) (failed : W → ℕ) (sure : W → Option ℕ) (room : W → ℕ) (a b c : W) (xs ys : List ℕ) →
    Writes contents failed sure room a b xs → StopsWriting contents failed sure room b c ys → StopsWriting contents failed sure room a c (xs ++ ys)
stops_then contents failed sure room a b c xs ys p q =
    let long = length-append xs ys in
    let f = q.front in
    record {
      front = record {
        front = xs ++ f.front;
        rest = f.rest;
        split = ap (λ (l : List ℕ). xs ++ l) f.split ∙ sym (append_assoc xs f.front f.rest);
        fewer = f.fewer;
        appended = Appends-trans (contents a) (contents b) (contents c) xs f.front p.appended f.appended;
      };
      rises = omega (arith, q.rises, p.counted);
      unsure = λ is fits. q.unsure (sure_rest (length xs) (length ys) (sure a) (sure b) (subst (λ n. AreSure (sure a) n) long is) p.calls) (omega (arith, long, fits, p.taken));
    }

-- ---- a list of pieces
pub pieces_more : {X : Type 0} (f : X → List ℕ) (xs : List X) (k : ℕ) (d : X) → k < length xs → flat_map f (take (k + 1) xs) ≡ flat_map f (take k xs) ++ f (get_or xs k d)
pieces_more f xs k d lt =
    let next : k + 1 ≡ suc k = omega arith in
    rw next (ap (flat_map f) (take-suc xs k d lt) ∙ flat_map-append f (take k xs) (get_or xs k d ∷ []) ∙ ap (λ l. flat_map f (take k xs) ++ l) (one (f (get_or xs k d))))
  where
    one : (ys : List ℕ) → ys ++ [] ≡ ys
    one [] = refl
    one (y ∷ ys) = ap (λ l. y ∷ l) (one ys)

pub pieces_split : {X : Type 0} (f : X → List ℕ) (xs : List X) (k : ℕ) (d : X) → k < length xs → flat_map f xs ≡ flat_map f (take k xs) ++ (f (get_or xs k d) ++ flat_map f (drop (suc k) xs))
pieces_split f [] k d lt = absurd (omega (arith, lt))
pieces_split f (x ∷ xs) zero d lt = refl
pieces_split f (x ∷ xs) (suc k) d lt = ap (λ l. f x ++ l) (pieces_split f xs k d (omega (arith, lt))) ∙ sym (append_assoc (f x) _ _)
