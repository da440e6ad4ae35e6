-- What several calls of a stream did, call by call.
use Rattle.std.proofs.Common.{◌≡◌, ℕ, ◌+◌, ◌-◌, ◌<◌, ◌≤◌, ◌⊎◌, List, [], ◌++◌, length, take, drop, refl, sym, ap, ◌∙◌, arith, append_assoc, append-nil, length-append, length-take-le, take-append-drop, inl, inr, subst, None, Some}
use Rattle.std.specs.Prelude.{⊤}
use Rattle.std.specs.declared.option.Option.{Option}
use Rattle.std.specs.Io.KnownBytes.{Appends, Consumes, Keeps}
use Rattle.std.proofs.lemmas.List.{take_rest}
use Rattle.std.proofs.KnownBytes.{Appends-nil, Appends-trans, Appends-kept, Consumes-trans}
use Rattle.ball_model.specs.Streams.{AfterAtMost, AreSure, after_call, PutsFront, TakesAtMost, TextWritten}

-- a beginning of all bytes was appended, and the rest is left
pub record IsPut (all rest : List ℕ) (old new : Option (List ℕ)) : Type 0 where
  pub gone : List ℕ
  pub split : all ≡ gone ++ rest
  pub appended : Appends old new gone

pub put_none : (all : List ℕ) (a : Option (List ℕ)) → IsPut all all a a
put_none all a = record { gone = []; split = refl; appended = Appends-nil a }

-- what is gone grows by the first n bytes of the rest
moves_front : (all gone rest : List ℕ) (n : ℕ) → all ≡ gone ++ rest → all ≡ (gone ++ take n rest) ++ take (length rest - n) (drop n rest)
moves_front all gone rest n e =
    e ∙ ap (λ l. gone ++ l) (sym (take-append-drop n rest)) ∙ sym (append_assoc gone (take n rest) (drop n rest)) ∙ ap (λ l. (gone ++ take n rest) ++ l) (sym (take_rest rest n))

pub put_more : (all rest : List ℕ) (a b c : Option (List ℕ)) (n : ℕ) → IsPut all rest a b → Appends b c (take n rest) → IsPut all (take (length rest - n) (drop n rest)) a c
put_more all rest a b c n p q = record {
  gone = p.gone ++ take n rest;
  split = moves_front all p.gone rest n p.split;
  appended = Appends-trans a b c p.gone (take n rest) p.appended q;
}

pub put_fewer : (all rest : List ℕ) (a b : Option (List ℕ)) → IsPut all rest a b → length rest ≤ length all
put_fewer all rest a b p = let e : length all ≡ length p.gone + length rest = ap length p.split ∙ length-append p.gone rest in omega arith

pub put_front : (all rest : List ℕ) (a b c : Option (List ℕ)) → IsPut all rest a b → 0 < length rest → Keeps b c → PutsFront a c all
put_front all rest a b c p some kept = record { front = p.gone; rest = rest; split = p.split; fewer = some; appended = Appends-kept a b c p.gone p.appended kept }

-- ---- texts that were written whole

pub written_none : {W : Type 0} (contents : W → Option (List ℕ)) (failed : W → ℕ) (a : W) → TextWritten contents failed a a []
written_none contents failed a = record { appended = Appends-nil (contents a); counted = refl }

-- a text, and the one behind it
pub written_both : {W : Type 0} (contents : W → Option (List ℕ)) (failed : W → ℕ) (a b c : W) (text more : List ℕ) →
    TextWritten contents failed a b text → TextWritten contents failed b c more → TextWritten contents failed a c (text ++ more)
written_both contents failed a b c text more one two = record {
  appended = Appends-trans (contents a) (contents b) (contents c) text more one.appended two.appended;
  counted = two.counted ∙ one.counted;
}

-- ---- calls that are sure

pub after_none : (a : Option ℕ) → AfterAtMost 0 a a
after_none None = refl
after_none (Some k) = omega arith

pub after_more : (n m : ℕ) (a b : Option ℕ) → AfterAtMost n a b → n < m → AfterAtMost m a (after_call b)
after_more n m None b p lt = ap after_call p
after_more n m (Some k) None p lt = absurd p
after_more n m (Some k) (Some j) p lt = omega arith

pub after_fewer : (n m : ℕ) (a b : Option ℕ) → AfterAtMost n a b → n ≤ m → AfterAtMost m a b
after_fewer n m None b p le = p
after_fewer n m (Some k) None p le = absurd p
after_fewer n m (Some k) (Some j) p le = omega arith

abbrev HasNone : Option ℕ → Type 0
HasNone None = ⊤
HasNone (Some n) = ⊥

abbrev number_or_0 : Option ℕ → ℕ
number_or_0 None = 0
number_or_0 (Some n) = n

-- a call that is sure does not fail
pub sure_goes : (n m : ℕ) (a b : Option ℕ) → AreSure a m → AfterAtMost n a b → n < m → b ≡ Some 0 → ⊥
sure_goes n m None b s p lt e = subst HasNone (sym p ∙ e) tt
sure_goes n m (Some k) None s p lt e = absurd p
sure_goes n m (Some k) (Some j) s p lt e = let z : j ≡ 0 = ap number_or_0 e in omega arith

-- nor where there is room
pub put_goes : (all rest room : ℕ) (sure now : Option ℕ) (left : ℕ) → AreSure sure all → AfterAtMost (all - rest) sure now → left ≡ room - (all - rest) → rest ≤ all → 0 < rest → all ≤ room
    → (now ≡ Some 0) ⊎ (left ≡ 0) → ⊥
put_goes all rest room sure now left s p e le some fits = elim [
  | inl z ↦ sure_goes (all - rest) all sure now s p (omega arith) z
  | inr z ↦ omega arith
]

pub room_less : (all rest n room left now : ℕ) → left ≡ room - (all - rest) → now ≡ left - n → rest ≤ all → n ≤ rest → now ≡ room - (all - (rest - n))
room_less all rest n room left now is less le fits = omega arith

-- ---- bytes that were read

-- a read of no bytes changes nothing
pub read_none : (a b c : Option (List ℕ)) (bs ys : List ℕ) (n : ℕ) → n ≡ 0 → Consumes a b bs → Consumes b c (take n ys) → Consumes a c bs
read_none a b c bs ys n none p q = subst (Consumes a c) (append-nil bs) (Consumes-trans a b c bs [] p (rw none at q))

-- the front of a buffer is no more than the buffer
pub read_few : (at n : ℕ) (buf : List ℕ) (a b : Option (List ℕ)) → at ≤ length buf → length buf ≡ n → Consumes a b (take at buf) → TakesAtMost n a b
read_few at n buf a b within size read = record { bytes = take at buf; consumed = read; few = let e : length (take at buf) ≡ at = length-take-le at buf within in omega arith }
