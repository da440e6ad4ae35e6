-- Bytes that are read part by part.
use Rattle.std.proofs.Common.{◌≡◌, ℕ, suc, ◌+◌, ◌-◌, ◌*◌, ◌<◌, ◌≤◌, List, [], ◌++◌, length, take, Result, Ok, Err, refl, ap, sym, ◌∙◌, subst, arith, append_assoc, append-nil, inl, inr}
use Rattle.std.specs.Prelude.{◌≢◌, ◌==◌, ◌&&◌, ◌/◌, ◌%◌, ◌^◌, Bool, true, false, not, ⊤, Option, Some, None}
use Rattle.std.specs.Int.{w16, w64, from_be_bytes}
use Rattle.std.specs.Io.KnownBytes.{Consumes, IsAtEnd}
use Rattle.std.proofs.KnownBytes.{Consumes-nil, Consumes-trans}
use Rattle.std.proofs.Math.Seq.{take-append_seam, drop-append_seam}
use Rattle.std.proofs.lemmas.Bool.{le-ltb, lt-ltb, cases_lt, and_parts, leb-true, eqb-true, cases_Bool}
use Rattle.std.proofs.lemmas.List.{length-append, length-take, take_all, take-append-le}
use Rattle.ball_model.specs.PlanValue.{PlanValue, part_size}
use Rattle.std.proofs.Math.Nat.{mul-le-mul_right, div-add-mod}
use Rattle.std.proofs.Math.Dec.{leb, eqb}
use Rattle.std.specs.Str.{bytes_eq}
use Rattle.std.proofs.lemmas.Slice.Eq.{bytes_eq-Decides}
use Rattle.sha2.specs.Sha256.{sha256}
use Rattle.graph.proofs.LabelLemmas.{text_same}
use Rattle.ball_model.specs.declared.streams.whole.Filled.{Filled}
use Rattle.ball_model.specs.declared.streams.whole.Filled.TheVariants as filled
use Rattle.ball_model.specs.Job.{PartValue}
use Rattle.ball_model.specs.Streams.{AfterAtMost, AreSure, EndsAfter, TakesAtMost, RisesByOne}
use Rattle.ball_model.proofs.StreamLemmas.{after_none}
use Rattle.checkpoint.specs.declared.header.CheckpointHeader.{CheckpointHeader}
use Rattle.checkpoint.specs.declared.sizes.TheConstants.{DIGEST_LEN, HEADER_LEN}
use Rattle.checkpoint.specs.declared.error.KeepError.{KeepError}
use Rattle.checkpoint.specs.declared.error.KeepError.TheVariants as errors
use Rattle.ball_model.specs.Checks.{◌>>=◌}
use Rattle.checkpoint.specs.Texts.{Adds, IsFresh}
use Rattle.checkpoint.specs.declared.text.Text.{Text}
use Rattle.checkpoint.proofs.DigestLemmas.{hashes_none, hashes_then}
use Rattle.checkpoint.specs.Reading.{Form, needs, followed, is_batch_length, greatest_batch, told_batch, batch_form, batches_form, told_batches, early_form, fixed_length, most_after, most_checkpoint_body, most_early, allowed, allowed_content, TakesWithin, held_form, content_form, sealed_form, told_body, body_form, check_checkpoint_head, checkpoint_head_at, seal_form, TakesBytes, Grows, GrowsByContent, GrowsByHead, Fails, IsRead, IsOfBytes, IsOfBody, HasHead, OnOkOrMemory}

-- ---- calls that are sure
pub after_then : (n m : ℕ) (a b c : Option ℕ) → AfterAtMost n a b → AfterAtMost m b c → AfterAtMost (n + m) a c
after_then n m None b c p q = subst (λ (o : Option ℕ). AfterAtMost m o c) p q
after_then n m (Some k) None c p q = absurd p
after_then n m (Some k) (Some j) None p q = absurd q
after_then n m (Some k) (Some j) (Some i) p q = omega (arith, p, q)

pub sure_rest : (n m : ℕ) (a b : Option ℕ) → AreSure a (n + m) → AfterAtMost n a b → AreSure b m
sure_rest n m None b sure p = subst (λ (o : Option ℕ). AreSure o m) (sym p) tt
sure_rest n m (Some k) None sure p = absurd p
sure_rest n m (Some k) (Some j) sure p = omega (arith, sure, p)

pub sure_fewer : (n m : ℕ) (a : Option ℕ) → AreSure a m → n ≤ m → AreSure a n
sure_fewer n m None sure le = tt
sure_fewer n m (Some k) sure le = omega (arith, sure, le)

-- ---- forms
pub needs-ok : (n : ℕ) (bytes : List ℕ) → n ≤ length bytes → needs n bytes ≡ Ok n
unfolding needs
needs-ok n bytes le = rw (le-ltb (length bytes) n le) refl

pub needs-err : (n : ℕ) (bytes : List ℕ) → length bytes < n → needs n bytes ≡ Err errors.Short
unfolding needs
needs-err n bytes lt = rw (lt-ltb (length bytes) n lt) refl

pub needs-piece : (n : ℕ) (piece rest : List ℕ) → length piece ≡ n → needs n (piece ++ rest) ≡ Ok (length piece)
needs-piece n piece rest e = needs-ok n (piece ++ rest) (omega (arith, e, length-append piece rest)) ∙ ap Ok (sym e)

abbrev number : Result ℕ KeepError → ℕ
number (Ok x) = x
number (Err e) = 0

-- where n bytes are wanted and there, the form takes n
pub needs-takes : (n k : ℕ) (bytes : List ℕ) → needs n bytes ≡ Ok k → n ≡ k
needs-takes n k bytes e = elim (cases_lt (length bytes) n) [
  | inl lt ↦ let short = needs-err n bytes lt in absurd (cc)
  | inr le ↦ ap number (sym (needs-ok n bytes le) ∙ e)
]

abbrev refusal : KeepError → Result ℕ KeepError
refusal e = Err e

-- and why they are refused
pub needs-refuses : (n : ℕ) (e : KeepError) (bytes : List ℕ) → needs n bytes ≡ Err e → (length bytes < n) × (refusal errors.Short ≡ refusal e)
needs-refuses n e bytes is = elim (cases_lt (length bytes) n) [
  | inl lt ↦ (lt, sym (needs-err n bytes lt) ∙ is)
  | inr le ↦ let long = needs-ok n bytes le in absurd (cc)
]

pub followed-at : (first : Form) (second : List ℕ → Form) (piece rest : List ℕ) → first (piece ++ rest) ≡ Ok (length piece)
    → followed first second (piece ++ rest) ≡ (second piece rest >>= λ k. Ok (length piece + k))
unfolding followed
followed-at first second piece rest e = rw (e, take-append_seam piece rest, drop-append_seam piece rest) refl

pub followed-err : (first : Form) (second : List ℕ → Form) (bytes : List ℕ) (e : KeepError) → first bytes ≡ Err e → followed first second bytes ≡ Err e
unfolding followed
followed-err first second bytes e is = rw is refl

-- ---- no want of memory
abbrev is_memory : KeepError → Type 0
is_memory errors.Memory = ⊤
is_memory e = ⊥

-- another refusal is no want of memory
pub not_wanting : {P : Type 0} (e : KeepError) → (is_memory e → ⊥) → e ≡ errors.Memory → P
not_wanting e other is = absurd (other (subst is_memory (sym is) tt))

-- ---- what is read
pub takes_then : {R : Type 0} {remaining : R → Option (List ℕ)} {failed : R → ℕ} {sure : R → Option ℕ} (a b c : R) (xs ys : List ℕ)
    → TakesBytes remaining failed sure a b xs → TakesBytes remaining failed sure b c ys → TakesBytes remaining failed sure a c (xs ++ ys)
takes_then {remaining} {failed} {sure} a b c xs ys p q = record {
  consumed = Consumes-trans (remaining a) (remaining b) (remaining c) xs ys p.consumed q.consumed;
  counted = q.counted ∙ p.counted;
  calls = subst (λ n. AfterAtMost n (sure a) (sure c)) (sym (length-append xs ys)) (after_then (length xs) (length ys) (sure a) (sure b) (sure c) p.calls q.calls);
}

abbrev HasNone : Option (List ℕ) → Type 0
HasNone None = ⊤
HasNone (Some x) = ⊥

abbrev bytes_of : Option (List ℕ) → List ℕ
bytes_of None = []
bytes_of (Some x) = x

-- the bytes before are the piece and those that are left
left : (old new : Option (List ℕ)) (piece bytes : List ℕ) → Consumes old new piece → old ≡ Some bytes → record { rest : List ℕ; is : new ≡ Some rest; split : bytes ≡ piece ++ rest }
left None new piece bytes p e = absurd (subst HasNone e tt)
left (Some xs) None piece bytes p e = absurd p
left (Some xs) (Some ys) piece bytes p e = record { rest = ys; is = refl; split = sym (ap bytes_of e) ∙ p }

pub grows_as : {R : Type 0} {remaining : R → Option (List ℕ)} {failed : R → ℕ} {sure : R → Option ℕ} {form : Form} {most : ℕ} {a b : R} {t u : Text} (other : Form) (more : ℕ)
    → ((bytes : List ℕ) → other bytes ≡ form bytes) → most ≤ more → Grows remaining failed sure form most a b t u → Grows remaining failed sure other more a b t u
grows_as other more same le p = record { piece = p.piece; grown = p.grown; takes = p.takes; is_form = λ rest. same (p.piece ++ rest) ∙ p.is_form rest; few = omega (arith, p.few, le) }

pub few_more : (n m : ℕ) (old new : Option (List ℕ)) → TakesAtMost n old new → n ≤ m → TakesAtMost m old new
few_more n m old new p le = record { bytes = p.bytes; consumed = p.consumed; few = omega (arith, p.few, le) }

pub fails_as : {R : Type 0} {remaining : R → Option (List ℕ)} {failed : R → ℕ} {sure : R → Option ℕ} {form : Form} {most : ℕ} {a b : R} {e : KeepError} (other : Form) (more : ℕ)
    → ((bytes : List ℕ) → other bytes ≡ form bytes) → most ≤ more → Fails remaining failed sure form most a b e → Fails remaining failed sure other more a b e
fails_as {remaining} {sure} {form} {most} {a} {b} other more same le p = record {
  few = few_more most more (remaining a) (remaining b) p.few le;
  rises = p.rises;
  counted = p.counted;
  unsure = λ is. p.unsure (sure_fewer most more (sure a) is le);
  wanting = p.wanting;
  due = λ bytes known of. same bytes ∙ p.due bytes known of;
}

-- where the first form is not there, the whole is not
pub fails_first : {R : Type 0} {remaining : R → Option (List ℕ)} {failed : R → ℕ} {sure : R → Option ℕ} {form : Form} {most : ℕ} {a b : R} {e : KeepError} (second : List ℕ → Form) (more : ℕ)
    → most ≤ more → Fails remaining failed sure form most a b e → Fails remaining failed sure (followed form second) more a b e
fails_first {remaining} {sure} {form} {most} {a} {b} {e} second more le p = record {
  few = few_more most more (remaining a) (remaining b) p.few le;
  rises = p.rises;
  counted = p.counted;
  unsure = λ is. p.unsure (sure_fewer most more (sure a) is le);
  wanting = p.wanting;
  due = λ bytes known of. followed-err form second bytes e (p.due bytes known of);
}

-- a piece is read, and then the rest is not, for whatever form of the whole has this refusal then
pub fails_then : {R : Type 0} {remaining : R → Option (List ℕ)} {failed : R → ℕ} {sure : R → Option ℕ} {a b c : R} {piece : List ℕ} {form : Form} {most : ℕ} {e : KeepError} (whole : Form) (n more : ℕ)
    → TakesBytes remaining failed sure a b piece → length piece ≤ n → n + most ≤ more → ((rest : List ℕ) → form rest ≡ Err e → whole (piece ++ rest) ≡ Err e)
    → Fails remaining failed sure form most b c e → Fails remaining failed sure whole more a c e
fails_then {remaining} {failed} {sure} {a} {b} {c} {piece} {form} {most} {e} whole n more p short le same q = record {
  few = record { bytes = piece ++ q.few.bytes; consumed = Consumes-trans (remaining a) (remaining b) (remaining c) piece q.few.bytes p.consumed q.few.consumed; few = omega (arith, length-append piece q.few.bytes, q.few.few, short, le) };
  rises = λ is. subst (λ k. RisesByOne k (failed c)) p.counted (q.rises is);
  counted = λ is. q.counted is ∙ p.counted;
  unsure = λ is. q.unsure (sure_rest (length piece) most (sure a) (sure b) (sure_fewer (length piece + most) more (sure a) is (omega (arith, short, le))) p.calls);
  wanting = q.wanting;
  due = λ bytes known of.
      let l = left (remaining a) (remaining b) piece bytes p.consumed known in
      rw l.split (same l.rest (q.due l.rest l.is of));
}

pub fails_second : {R : Type 0} {remaining : R → Option (List ℕ)} {failed : R → ℕ} {sure : R → Option ℕ} {a b c : R} {form : Form} {n most : ℕ} {t u : Text} {e : KeepError} (second : List ℕ → Form) (more : ℕ)
    → (p : Grows remaining failed sure form n a b t u) → n + most ≤ more → Fails remaining failed sure (second p.piece) most b c e → Fails remaining failed sure (followed form second) more a c e
fails_second {form} {n} {e} second more p le q =
    fails_then (followed form second) n more p.takes p.few le (λ rest is. followed-at form second p.piece rest (p.is_form rest) ∙ ap (λ (r : Result ℕ KeepError). r >>= λ k. Ok (length p.piece + k)) is) q

-- nothing more is read, and what stands there is refused
pub fails_here : {R : Type 0} (remaining : R → Option (List ℕ)) (failed : R → ℕ) (sure : R → Option ℕ) (a : R) (form : Form) (most : ℕ) (e : KeepError)
    → (IsRead e → ⊥) → e ≢ errors.Memory → ((bytes : List ℕ) → IsOfBytes e → form bytes ≡ Err e) → Fails remaining failed sure form most a a e
fails_here remaining failed sure a form most e other some refused = record {
  few = record { bytes = []; consumed = Consumes-nil (remaining a); few = omega arith };
  rises = λ is. absurd (other is);
  counted = λ _. refl;
  unsure = λ _ is. other is;
  wanting = some;
  due = λ bytes known of. refused bytes of;
}

-- nothing follows a text
adds_none : (t : Text) → Adds t t []
adds_none t = record { digested = hashes_none t.hasher; kept = λ is. (is, sym (append-nil t.bytes.items)) }

-- a piece follows, and then another
adds_then : {t u v : Text} (one two : List ℕ) → Adds t u one → Adds u v two → Adds t v (one ++ two)
adds_then {t} {u} {v} one two p q = record {
  digested = hashes_then t.hasher u.hasher v.hasher one two p.digested q.digested;
  kept = λ is.
      let last = q.kept is in
      let first = p.kept last.0 in
      (first.0, last.1 ∙ ap (λ (l : List ℕ). l ++ two) first.1 ∙ append_assoc t.bytes.items one two);
}

-- what stands there is all that was read
pub text_kept : {t u : Text} {piece : List ℕ} → Adds t u piece → IsFresh t → u.whole ≡ true → u.bytes.items ≡ piece
text_kept {piece} p fresh is = (p.kept is).1 ∙ ap (λ (l : List ℕ). l ++ piece) fresh.bytes

-- a piece of n bytes follows a text
abbrev pub piece_grows : {R : Type 0} {remaining : R → Option (List ℕ)} {failed : R → ℕ} {sure : R → Option ℕ} {a b : R} {piece : List ℕ} {t u : Text} (n : ℕ)
    → TakesBytes remaining failed sure a b piece → length piece ≡ n → Adds t u piece → Grows remaining failed sure (needs n) n a b t u
piece_grows {piece} n p len grown = record { piece = piece; grown = grown; takes = p; is_form = λ rest. needs-piece n piece rest len; few = omega (arith, len) }

pub grows_then : {R : Type 0} {remaining : R → Option (List ℕ)} {failed : R → ℕ} {sure : R → Option ℕ} {a b c : R} {form : Form} {n most : ℕ} {t u v : Text} (second : List ℕ → Form) (more : ℕ)
    → (p : Grows remaining failed sure form n a b t u) → n + most ≤ more → Grows remaining failed sure (second p.piece) most b c u v → Grows remaining failed sure (followed form second) more a c t v
grows_then {a} {b} {c} {form} {n} second more p le q =
    let one = p.piece in
    let two = q.piece in
    record {
      piece = one ++ two;
      grown = adds_then one two p.grown q.grown;
      takes = takes_then a b c one two p.takes q.takes;
      is_form = λ rest. ap (followed form second) (append_assoc one two rest) ∙ followed-at form second one (two ++ rest) (p.is_form (two ++ rest))
          ∙ ap (λ (r : Result ℕ KeepError). r >>= λ k. Ok (length one + k)) (q.is_form rest) ∙ ap Ok (sym (length-append one two));
      few = omega (arith, length-append one two, p.few, q.few, le);
    }

-- a refusal of n bytes, where n is written in another way
pub fails_full : {R : Type 0} {remaining : R → Option (List ℕ)} {failed : R → ℕ} {sure : R → Option ℕ} {a b : R} {e : KeepError} (n m : ℕ)
    → m ≡ n → Fails remaining failed sure (needs m) m a b e → Fails remaining failed sure (needs n) n a b e
fails_full {remaining} {failed} {sure} {a} {b} {e} n m is p = subst (λ (k : ℕ). Fails remaining failed sure (needs k) k a b e) is p

-- a piece of n bytes was read, and what follows is not
pub fails_after : {R : Type 0} {remaining : R → Option (List ℕ)} {failed : R → ℕ} {sure : R → Option ℕ} {a b c : R} {piece : List ℕ} {most : ℕ} {e : KeepError} (n : ℕ) (second : List ℕ → Form) (more : ℕ)
    → TakesBytes remaining failed sure a b piece → length piece ≡ n → n + most ≤ more → Fails remaining failed sure (second piece) most b c e → Fails remaining failed sure (followed (needs n) second) more a c e
fails_after {piece} n second more p len le q =
    fails_then (followed (needs n) second) n more p (omega (arith, len)) le (λ rest is. followed-at (needs n) second piece rest (needs-piece n piece rest len) ∙ ap (λ (r : Result ℕ KeepError). r >>= λ k. Ok (length piece + k)) is) q

pub grows_after : {R : Type 0} {remaining : R → Option (List ℕ)} {failed : R → ℕ} {sure : R → Option ℕ} {a b c : R} {piece : List ℕ} {t u v : Text} {most : ℕ} (n : ℕ) (second : List ℕ → Form) (more : ℕ)
    → TakesBytes remaining failed sure a b piece → length piece ≡ n → Adds t u piece → n + most ≤ more → Grows remaining failed sure (second piece) most b c u v → Grows remaining failed sure (followed (needs n) second) more a c t v
grows_after n second more p len grown le q = grows_then second more (piece_grows n p len grown) le q

-- nothing is read
pub grows_none : {R : Type 0} (remaining : R → Option (List ℕ)) (failed : R → ℕ) (sure : R → Option ℕ) (a : R) (t : Text) (form : Form) (most : ℕ)
    → ((rest : List ℕ) → form rest ≡ Ok 0) → Grows remaining failed sure form most a a t t
grows_none remaining failed sure a t form most is = record {
  piece = [];
  grown = adds_none t;
  takes = record { consumed = Consumes-nil (remaining a); counted = refl; calls = after_none (sure a) };
  is_form = is;
  few = omega arith;
}

-- ---- n bytes, in pieces
pub needs_then : {R : Type 0} {remaining : R → Option (List ℕ)} {failed : R → ℕ} {sure : R → Option ℕ} {a b c : R} {n m : ℕ} {t u v : Text} (k : ℕ)
    → k ≡ n + m → Grows remaining failed sure (needs n) n a b t u → Grows remaining failed sure (needs m) m b c u v → Grows remaining failed sure (needs k) k a c t v
needs_then {a} {b} {c} {n} {m} k sum p q =
    let one = p.piece in
    let two = q.piece in
    let len = length-append one two in
    let e1 = needs-takes n (length one) (one ++ []) (p.is_form []) in
    let e2 = needs-takes m (length two) (two ++ []) (q.is_form []) in
    record {
      piece = one ++ two;
      grown = adds_then one two p.grown q.grown;
      takes = takes_then a b c one two p.takes q.takes;
      is_form = λ rest. needs-piece k (one ++ two) rest (omega (arith, len, e1, e2, sum));
      few = omega (arith, len, e1, e2, sum);
    }

pub needs_fails : {R : Type 0} {remaining : R → Option (List ℕ)} {failed : R → ℕ} {sure : R → Option ℕ} {a b c : R} {n m : ℕ} {t u : Text} {e : KeepError} (k : ℕ)
    → n + m ≤ k → Grows remaining failed sure (needs n) n a b t u → Fails remaining failed sure (needs m) m b c e → Fails remaining failed sure (needs k) k a c e
needs_fails {n} {m} {e} k le p q =
    let one = p.piece in
    let e1 = needs-takes n (length one) (one ++ []) (p.is_form []) in
    fails_then (needs k) n k p.takes p.few le (λ rest is. let r = needs-refuses m e rest is in needs-err k (one ++ rest) (omega (arith, length-append one rest, e1, r.0, le)) ∙ r.1) q

-- ---- batches
-- i of `count` batches were read
pub record Walks {R : Type 0} (remaining : R → Option (List ℕ)) (failed : R → ℕ) (sure : R → Option ℕ) (plan : PlanValue) (count i each : ℕ) (a b : R) (t u : Text) : Type 0 where
  pub piece : List ℕ
  pub grown : Adds t u piece
  pub takes : TakesBytes remaining failed sure a b piece
  pub walk : (rest : List ℕ) → batches_form plan count (piece ++ rest) ≡ (batches_form plan (count - i) rest >>= λ k. Ok (length piece + k))
  pub few : length piece ≤ i * each

plus_none : (r : Result ℕ KeepError) → r ≡ (r >>= λ k. Ok (0 + k))
plus_none (Ok x) = ap Ok (omega arith)
plus_none (Err e) = refl

plus_twice : (n m : ℕ) (r : Result ℕ KeepError) → ((r >>= λ k. Ok (m + k)) >>= λ k. Ok (n + k)) ≡ (r >>= λ k. Ok ((n + m) + k))
plus_twice n m (Ok x) = ap Ok (omega arith)
plus_twice n m (Err e) = refl

pub walks_none : {R : Type 0} (remaining : R → Option (List ℕ)) (failed : R → ℕ) (sure : R → Option ℕ) (plan : PlanValue) (count each : ℕ) (a : R) (t : Text)
    → Walks remaining failed sure plan count 0 each a a t t
walks_none remaining failed sure plan count each a t = record {
  piece = [];
  grown = adds_none t;
  takes = record { consumed = Consumes-nil (remaining a); counted = refl; calls = after_none (sure a) };
  walk = λ rest. let all : count - 0 ≡ count = omega arith in rw all (plus_none (batches_form plan count rest));
  few = omega arith;
}

one_more : (plan : PlanValue) (n : ℕ) (bytes : List ℕ) → batches_form plan (suc n) bytes ≡ followed (batch_form plan) (λ _. batches_form plan n) bytes
unfolding batches_form
one_more plan n bytes = refl

pub walks_next : {R : Type 0} {remaining : R → Option (List ℕ)} {failed : R → ℕ} {sure : R → Option ℕ} {plan : PlanValue} {count i each : ℕ} {a b c : R} {t u v : Text}
    → i < count → Walks remaining failed sure plan count i each a b t u → Grows remaining failed sure (batch_form plan) each b c u v → Walks remaining failed sure plan count (i + 1) each a c t v
walks_next {plan} {count} {i} {each} {a} {b} {c} lt p q =
    let one = p.piece in
    let two = q.piece in
    let k : count - i ≡ suc (count - (i + 1)) = omega arith in
    let more : (i + 1) * each ≡ i * each + each = omega arith in
    let n = count - (i + 1) in
    record {
      piece = one ++ two;
      grown = adds_then one two p.grown q.grown;
      takes = takes_then a b c one two p.takes q.takes;
      walk = λ rest.
          ap (batches_form plan count) (append_assoc one two rest) ∙ p.walk (two ++ rest)
          ∙ ap (λ (r : Result ℕ KeepError). r >>= λ k. Ok (length one + k))
          (ap (λ (j : ℕ). batches_form plan j (two ++ rest)) k ∙ one_more plan n (two ++ rest) ∙ followed-at (batch_form plan) (λ _. batches_form plan n) two rest (q.is_form rest))
          ∙ plus_twice (length one) (length two) (batches_form plan n rest)
          ∙ ap (λ (j : ℕ). batches_form plan n rest >>= λ k. Ok (j + k)) (sym (length-append one two));
      few = omega (arith, length-append one two, p.few, q.few, more);
    }

pub walks_fails : {R : Type 0} {remaining : R → Option (List ℕ)} {failed : R → ℕ} {sure : R → Option ℕ} {plan : PlanValue} {count i each : ℕ} {a b c : R} {t u : Text} {e : KeepError}
    → i < count → Walks remaining failed sure plan count i each a b t u → Fails remaining failed sure (batch_form plan) each b c e → Fails remaining failed sure (batches_form plan count) (count * each) a c e
walks_fails {plan} {count} {i} {each} {e} lt p q =
    let k : count - i ≡ suc (count - (i + 1)) = omega arith in
    let n = count - (i + 1) in
    let all : count ≡ i + 1 + n = omega arith in
    let most : i * each + each ≤ count * each = rw all (omega arith) in
    fails_then (batches_form plan count) (i * each) (count * each) p.takes p.few most (λ rest is.
    p.walk rest ∙ ap (λ (r : Result ℕ KeepError). r >>= λ k. Ok (length p.piece + k))
    (ap (λ (j : ℕ). batches_form plan j rest) k ∙ one_more plan n rest ∙ followed-err (batch_form plan) (λ _. batches_form plan n) rest e is)) q

no_more : (plan : PlanValue) (n : ℕ) (bytes : List ℕ) → n ≡ 0 → batches_form plan n bytes ≡ Ok 0
unfolding batches_form
no_more plan n bytes e = rw e refl

pub walks_done : {R : Type 0} {remaining : R → Option (List ℕ)} {failed : R → ℕ} {sure : R → Option ℕ} {plan : PlanValue} {count i each : ℕ} {a b : R} {t u : Text}
    → i ≡ count → Walks remaining failed sure plan count i each a b t u → Grows remaining failed sure (batches_form plan count) (count * each) a b t u
walks_done {plan} {count} {i} {each} e p = record {
  piece = p.piece;
  grown = p.grown;
  takes = p.takes;
  is_form = λ rest. p.walk rest ∙ ap (λ (r : Result ℕ KeepError). r >>= λ k. Ok (length p.piece + k)) (no_more plan (count - i) rest (omega (arith, e))) ∙ ap Ok (omega arith);
  few = rw (← e) p.few;
}

-- ---- what a fill did
abbrev IsGood : Filled → Type 0
IsGood filled.Failed = ⊥
IsGood x = ⊤

pub ended_good : (n : ℕ) → filled.Ended n ≡ filled.Failed → ⊥
ended_good n e = subst IsGood e tt

pub full_good : filled.Full ≡ filled.Failed → ⊥
full_good e = subst IsGood e tt

-- the input ended too early
pub ended_fails : {R : Type 0} (remaining : R → Option (List ℕ)) (failed : R → ℕ) (sure : R → Option ℕ) (a b : R) (form : Form) (n most k : ℕ) (buf : List ℕ)
    → ((bytes : List ℕ) → length bytes < n → form bytes ≡ Err errors.Short) → EndsAfter k (remaining a) (remaining b) buf → length buf ≡ n → n ≤ most
    → TakesAtMost n (remaining a) (remaining b) → failed b ≡ failed a → Fails remaining failed sure form most a b errors.Short
ended_fails remaining failed sure a b form n most k buf short ends len le few same = record {
  few = few_more n most (remaining a) (remaining b) few le;
  rises = λ is. absurd is;
  counted = λ _. same;
  unsure = λ _ is. is;
  wanting = not_wanting errors.Short (λ is. is);
  due = λ bytes known _.
      let l = left (remaining a) (remaining b) (take k buf) bytes ends.consumed known in
      let none : l.rest ≡ [] = subst IsAtEnd l.is ends.last in
      let size : length bytes ≡ length (take k buf) + length l.rest = ap length l.split ∙ length-append (take k buf) l.rest in
      short bytes (omega (arith, size, ap length none, ends.fewer, len, length-take k buf));
}

-- ---- the digest
seal-at : (text digest rest : List ℕ) → length digest ≡ 32 → bytes_eq digest (sha256 text) ≡ true → 0 < length rest → seal_form text (digest ++ rest) ≡ Err errors.Trailing
unfolding seal_form
seal-at text digest rest len same more =
    let size = length-append digest rest in
    let front : take 32 (digest ++ rest) ≡ digest = ap (λ (n : ℕ). take n (digest ++ rest)) (sym len) ∙ take-append_seam digest rest in
    rw (le-ltb (length (digest ++ rest)) 32 (omega arith), front, same, lt-ltb 32 (length (digest ++ rest)) (omega arith)) refl

seal-other : (text digest rest : List ℕ) → length digest ≡ 32 → bytes_eq digest (sha256 text) ≡ false → seal_form text (digest ++ rest) ≡ Err errors.Digest
unfolding seal_form
seal-other text digest rest len other =
    let size = length-append digest rest in
    let front : take 32 (digest ++ rest) ≡ digest = ap (λ (n : ℕ). take n (digest ++ rest)) (sym len) ∙ take-append_seam digest rest in
    rw (le-ltb (length (digest ++ rest)) 32 (omega arith), front, other) refl

pub seal-short : (text bytes : List ℕ) → length bytes < 32 → seal_form text bytes ≡ Err errors.Short
unfolding seal_form
seal-short text bytes lt = rw (lt-ltb (length bytes) 32 lt) refl

pub seal_differs : {R : Type 0} {remaining : R → Option (List ℕ)} {failed : R → ℕ} {sure : R → Option ℕ} {a b : R} {digest : List ℕ} (text : List ℕ)
    → TakesBytes remaining failed sure a b digest → length digest ≡ 32 → bytes_eq digest (sha256 text) ≡ false → Fails remaining failed sure (seal_form text) 33 a b errors.Digest
seal_differs {remaining} {failed} {sure} {b} {digest} text p len other =
    fails_then (seal_form text) 32 33 p (omega (arith, len)) (omega arith) (λ rest _. seal-other text digest rest len other)
    (fails_here remaining failed sure b (λ _. Err errors.Digest) 1 errors.Digest (λ is. is) (not_wanting errors.Digest (λ is. is)) (λ bytes _. refl))

pub seal_trails : {R : Type 0} {remaining : R → Option (List ℕ)} {failed : R → ℕ} {sure : R → Option ℕ} {a b c : R} {digest more : List ℕ} (text : List ℕ)
    → TakesBytes remaining failed sure a b digest → length digest ≡ 32 → bytes_eq digest (sha256 text) ≡ true → TakesBytes remaining failed sure b c more → length more ≡ 1
    → Fails remaining failed sure (seal_form text) 33 a c errors.Trailing
seal_trails {remaining} {failed} {sure} {a} {b} {c} {digest} {more} text p len same q one =
    let size = length-append digest more in
    fails_then (seal_form text) 33 33 (takes_then a b c digest more p q) (omega (arith, size, len, one)) (omega arith)
    (λ rest _. ap (seal_form text) (append_assoc digest more rest) ∙ seal-at text digest (more ++ rest) len same (omega (arith, length-append more rest, one)))
    (fails_here remaining failed sure c (λ _. Err errors.Trailing) 0 errors.Trailing (λ is. is) (not_wanting errors.Trailing (λ is. is)) (λ bytes _. refl))

pub seal_unread : {R : Type 0} {remaining : R → Option (List ℕ)} {failed : R → ℕ} {sure : R → Option ℕ} {a b c : R} {digest : List ℕ} (text : List ℕ)
    → TakesBytes remaining failed sure a b digest → length digest ≡ 32 → TakesAtMost 1 (remaining b) (remaining c) → RisesByOne (failed b) (failed c) → (AreSure (sure b) 1 → ⊥)
    → Fails remaining failed sure (seal_form text) 33 a c errors.Read
seal_unread {remaining} {failed} {sure} {a} {b} {c} {digest} text p len few rises unsure =
    fails_then {form = λ _. Ok 0} (seal_form text) 32 33 p (omega (arith, len)) (omega arith) (λ rest is. absurd (cc))
    (record { few = few; rises = λ _. rises; counted = λ is. absurd (is tt); unsure = λ is _. unsure is; wanting = not_wanting errors.Read (λ is. is); due = λ bytes known is. absurd is })

-- ---- lengths that are read
pub told-refused : (plan : PlanValue) (piece bytes : List ℕ) → is_batch_length plan (from_be_bytes w64 piece) ≡ false → told_batch plan piece bytes ≡ Err errors.Shape
unfolding told_batch
told-refused plan piece bytes is = rw is refl

pub told-needs : (plan : PlanValue) (piece bytes : List ℕ) (n : ℕ) → from_be_bytes w64 piece ≡ n → is_batch_length plan n ≡ true → told_batch plan piece bytes ≡ needs n bytes
unfolding told_batch
told-needs plan piece bytes n e is =
    let here : is_batch_length plan (from_be_bytes w64 piece) ≡ true = ap (is_batch_length plan) e ∙ is in
    rw here (ap (λ (k : ℕ). needs k bytes) e)

pub batch-small : (plan : PlanValue) (n : ℕ) → is_batch_length plan n ≡ true → n ≤ greatest_batch plan
unfolding is_batch_length
batch-small plan n is =
    let row = 4 + 2 ^ plan.log2m in
    let size = part_size plan.vertices plan.parts 0 in
    let both = and_parts (leb 54 n && (eqb ((n - 54) % row) 0)) (leb ((n - 54) / row) size) is in
    let two = and_parts (leb 54 n) (eqb ((n - 54) % row) 0) both.0 in
    let le : (n - 54) / row ≤ size = leb-true _ _ both.1 in
    let zero_left : (n - 54) % row ≡ 0 = eqb-true _ _ two.1 in
    let sum = div-add-mod (n - 54) row in
    let most : (n - 54) / row * row ≤ size * row = mul-le-mul_right row le in
    let turn : row * ((n - 54) / row) ≡ (n - 54) / row * row = omega arith in
    omega (arith, sum, zero_left, most, turn)

pub number-refused : (plan : PlanValue) (piece bytes : List ℕ) (n : ℕ) → from_be_bytes w16 piece ≡ n → 3 * (plan.parts - 1) < n → told_batches plan piece bytes ≡ Err errors.Shape
unfolding told_batches
number-refused plan piece bytes n e lt =
    rw (lt-ltb (3 * (plan.parts - 1)) (from_be_bytes w16 piece) (omega (arith, e, lt))) refl

pub number-told : (plan : PlanValue) (piece bytes : List ℕ) (n : ℕ) → from_be_bytes w16 piece ≡ n → n ≤ 3 * (plan.parts - 1) → told_batches plan piece bytes ≡ batches_form plan n bytes
unfolding told_batches
number-told plan piece bytes n e le =
    rw (le-ltb (3 * (plan.parts - 1)) (from_be_bytes w16 piece) (omega (arith, e, le))) (ap (λ (k : ℕ). batches_form plan k bytes) e)

pub batches-most : (n m each : ℕ) → n ≤ m → n * each ≤ m * each
batches-most n m each le = mul-le-mul_right each le

pub held-none : (plan : PlanValue) (version : ℕ) (rest : List ℕ) → version ≡ 1 → held_form plan version rest ≡ Ok 0
unfolding held_form
held-none plan version rest e = rw e refl

pub held-some : (plan : PlanValue) (version : ℕ) (rest : List ℕ) → (version == 1) ≡ false → held_form plan version rest ≡ early_form plan rest
unfolding held_form
held-some plan version rest e = rw e refl

pub fixed-most : (part : PartValue) (h : CheckpointHeader) → fixed_length part h ≤ most_after part h
fixed-most part h = omega arith

pub fixed-early : (part : PartValue) (h : CheckpointHeader) → (h.version == 1) ≡ false → fixed_length part h + most_early part.plan ≤ most_after part h
fixed-early part h is = rw is (omega arith)

-- a checkpoint of the part at a later superstep may have more
pub after-most : (part : PartValue) (h : CheckpointHeader) (t : ℕ) → h.superstep ≤ t → most_after part h ≤ most_checkpoint_body part t
after-most part h t le = elim (cases_Bool (h.version == 1)) [
  | inl is ↦ rw is (omega (arith, le))
  | inr is ↦ rw is (omega (arith, le))
]

-- ---- what the fixed fields allow
pub within-head : (part : PartValue) (old new : Option (List ℕ)) → TakesAtMost HEADER_LEN old new → TakesWithin (allowed_content part) old new
within-head part old new p = record { bytes = p.bytes; consumed = p.consumed; few = omega (arith, p.few) }

-- the front of what has grown
pub front_kept : (n : ℕ) (front more : List ℕ) → length front ≡ n → take n (front ++ more) ≡ front
front_kept n front more len = take-append-le n front more (omega (arith, len)) ∙ take_all n front (omega (arith, len))

-- the fixed fields, and then no more than they allow
pub content-few : (part : PartValue) (h : CheckpointHeader) (head more : List ℕ) → length head ≡ HEADER_LEN → checkpoint_head_at head ≡ h → length more ≤ most_after part h → length (head ++ more) ≤ allowed_content part (head ++ more)
content-few part h head more len is few =
    rw (front_kept HEADER_LEN head more len, is) (omega (arith, length-append head more, len, few))

pub within-content : (part : PartValue) (h : CheckpointHeader) (a b c : Option (List ℕ)) (head : List ℕ) → length head ≡ HEADER_LEN → checkpoint_head_at head ≡ h → Consumes a b head → TakesAtMost (most_after part h) b c
    → TakesWithin (allowed_content part) a c
within-content part h a b c head len is first p = record {
  bytes = head ++ p.bytes;
  consumed = Consumes-trans a b c head p.bytes first p.consumed;
  few = content-few part h head p.bytes len is p.few;
}

-- and the digest behind it, and one byte
pub within-seal : (part : PartValue) (a b c : Option (List ℕ)) (text : List ℕ) → HEADER_LEN ≤ length text → length text ≤ allowed_content part text → Consumes a b text → TakesAtMost (DIGEST_LEN + 1) b c
    → TakesWithin (allowed part) a c
within-seal part a b c text long few first p =
    let front : take HEADER_LEN (text ++ p.bytes) ≡ take HEADER_LEN text = take-append-le HEADER_LEN text p.bytes long in
    record {
      bytes = text ++ p.bytes;
      consumed = Consumes-trans a b c text p.bytes first p.consumed;
      few = rw front (omega (arith, length-append text p.bytes, p.few, few));
    }

pub within-more : (part : PartValue) (old new : Option (List ℕ)) → TakesWithin (allowed_content part) old new → TakesWithin (allowed part) old new
within-more part old new p = record { bytes = p.bytes; consumed = p.consumed; few = omega (arith, p.few) }

-- nothing more comes
pub takes_ended : {R : Type 0} {remaining : R → Option (List ℕ)} {failed : R → ℕ} {sure : R → Option ℕ} {a b : R} {digest : List ℕ} (c : R) (k : ℕ) (buf : List ℕ) → TakesBytes remaining failed sure a b digest
    → EndsAfter k (remaining b) (remaining c) buf → length buf ≡ 1 → Consumes (remaining a) (remaining c) digest
takes_ended {remaining} {a} {b} {digest} c k buf p ends one =
    let few : k ≡ 0 = omega (arith, ends.fewer, one) in
    let here : Consumes (remaining b) (remaining c) [] = subst (λ (n : ℕ). Consumes (remaining b) (remaining c) (take n buf)) few ends.consumed in
    subst (λ (l : List ℕ). Consumes (remaining a) (remaining c) l) (append-nil digest) (Consumes-trans (remaining a) (remaining b) (remaining c) digest [] p.consumed here)

pub same_bytes : (xs ys : List ℕ) → bytes_eq xs ys ≡ true → xs ≡ ys
same_bytes xs ys is = (bytes_eq-Decides xs ys).0 is

flip_true : (b : Bool) → true ≡ not b → b ≡ false
flip_true true e = e
flip_true false e = refl

pub flip_false : (b : Bool) → false ≡ not b → b ≡ true
flip_false true e = refl
flip_false false e = e

pub digest_other : (digest told text : List ℕ) → true ≡ not (bytes_eq digest told) → told ≡ sha256 text → bytes_eq digest (sha256 text) ≡ false
digest_other digest told text e is = ap (bytes_eq digest) (sym is) ∙ flip_true (bytes_eq digest told) e

pub digest_same : (digest told text : List ℕ) → false ≡ not (bytes_eq digest told) → told ≡ sha256 text → bytes_eq digest (sha256 text) ≡ true
digest_same digest told text e is = ap (bytes_eq digest) (sym is) ∙ flip_false (bytes_eq digest told) e

-- ---- the whole
pub told-body : (part : PartValue) (piece rest : List ℕ) (h : CheckpointHeader) → checkpoint_head_at piece ≡ h → check_checkpoint_head part h ≡ Ok tt → told_body part piece rest ≡ body_form part h rest
unfolding told_body
told-body part piece rest h is fine =
    ap (λ (x : CheckpointHeader). check_checkpoint_head part x >>= λ _. body_form part x rest) is ∙ ap (λ (r : Result (Unit {0}) KeepError). r >>= λ _. body_form part h rest) fine

pub told-bad : (part : PartValue) (piece rest : List ℕ) (e : KeepError) → Err e ≡ check_checkpoint_head part (checkpoint_head_at piece) → told_body part piece rest ≡ Err e
unfolding told_body
told-bad part piece rest e is = ap (λ (r : Result (Unit {0}) KeepError). r >>= λ _. body_form part (checkpoint_head_at piece) rest) (sym is)

-- the fixed fields are refused
pub head_fails : {R : Type 0} {remaining : R → Option (List ℕ)} {failed : R → ℕ} {sure : R → Option ℕ} {a b : R} {piece : List ℕ} (part : PartValue) (e : KeepError)
    → TakesBytes remaining failed sure a b piece → length piece ≡ 54 → Err e ≡ check_checkpoint_head part (checkpoint_head_at piece) → (IsRead e → ⊥) → e ≢ errors.Memory → Fails remaining failed sure (content_form part) 54 a b e
head_fails {remaining} {failed} {sure} {a} {b} {piece} part e p len is other fine =
    fails_after {most = 0} 54 (told_body part) 54 p len (omega arith)
    (fails_here remaining failed sure b (told_body part piece) 0 e other fine (λ bytes _. told-bad part piece bytes e is))

-- the fixed fields were read, and what follows them
pub content_grown : {R : Type 0} {remaining : R → Option (List ℕ)} {failed : R → ℕ} {sure : R → Option ℕ} {a b c : R} {t u v : Text} (part : PartValue) (h : CheckpointHeader) → (p : GrowsByHead remaining failed sure a b t u h)
    → check_checkpoint_head part h ≡ Ok tt → h.superstep ≤ part.plan.limit → Grows remaining failed sure (body_form part h) (most_after part h) b c u v → GrowsByContent remaining failed sure part a c t v h
unfolding grows_then grows_as
content_grown part h p checked le q =
    let head = p.grows.piece in
    let most = most_checkpoint_body part part.plan.limit in
    record {
      grows = grows_then (told_body part) (HEADER_LEN + most) p.grows (omega arith) (grows_as (told_body part head) most (λ bytes. told-body part head bytes h (sym p.head) checked) (after-most part h part.plan.limit le) q);
      long = omega (arith, length-append head q.piece, p.long);
      head = p.head ∙ ap checkpoint_head_at (sym (front_kept HEADER_LEN head q.piece p.long));
      few = content-few part h head q.piece p.long (sym p.head) q.few;
    }

-- the fixed fields were read, and pass
pub has_head : {R : Type 0} {remaining : R → Option (List ℕ)} {failed : R → ℕ} {sure : R → Option ℕ} {a b : R} {piece : List ℕ} (part : PartValue)
    → TakesBytes remaining failed sure a b piece → length piece ≡ 54 → check_checkpoint_head part (checkpoint_head_at piece) ≡ Ok tt → (bytes : List ℕ) → remaining a ≡ Some bytes → HasHead part bytes
has_head {remaining} {a} {b} {piece} part p len passes bytes known =
    let l = left (remaining a) (remaining b) piece bytes p.consumed known in
    let front : take 54 bytes ≡ piece = ap (take 54) l.split ∙ ap (λ (n : ℕ). take n (piece ++ l.rest)) (sym len) ∙ take-append_seam piece l.rest in
    record {
      long = omega (arith, ap length l.split, length-append piece l.rest, len);
      passes = ap (λ (t : List ℕ). check_checkpoint_head part (checkpoint_head_at t)) front ∙ passes;
    }

-- what holds anyway
pub whatever_it_is : {A : Type 0} {has : Type 0} (r : Result A KeepError) → has → OnOkOrMemory r has
whatever_it_is (Ok x) h = h
whatever_it_is (Err e) h = λ _. h

-- a call fails
pub unread_fails : {R : Type 0} {remaining : R → Option (List ℕ)} {failed : R → ℕ} {sure : R → Option ℕ} {a b : R} (form : Form) (most : ℕ)
    → TakesAtMost most (remaining a) (remaining b) → RisesByOne (failed a) (failed b) → (AreSure (sure a) most → ⊥) → Fails remaining failed sure form most a b errors.Read
unread_fails form most few rises unsure = record {
  few = few;
  rises = λ _. rises;
  counted = λ is. absurd (is tt);
  unsure = λ is _. unsure is;
  wanting = not_wanting errors.Read (λ is. is);
  due = λ bytes known is. absurd is;
}

pub seal-fine : (text bytes : List ℕ) → length (sha256 text) ≡ 32 → bytes ≡ sha256 text → seal_form text bytes ≡ Ok 32
unfolding seal_form
seal-fine text bytes len is =
    let size : length bytes ≡ 32 = ap length is ∙ len in
    let front : take 32 bytes ≡ sha256 text = take_all 32 bytes (omega (arith, size)) ∙ is in
    let same : bytes_eq (take 32 bytes) (sha256 text) ≡ true = ap (λ (l : List ℕ). bytes_eq l (sha256 text)) front ∙ (text_same (sha256 text)) in
    rw (le-ltb (length bytes) 32 (omega (arith, size)), same, le-ltb 32 (length bytes) (omega (arith, size))) refl

-- what was read is the content, and its digest behind it
pub whole_read : {R : Type 0} {remaining : R → Option (List ℕ)} {failed : R → ℕ} {sure : R → Option ℕ} {a b : R} {most : ℕ} {t u : Text} (part : PartValue) → (p : Grows remaining failed sure (content_form part) most a b t u)
    → length (sha256 p.piece) ≡ 32 → sealed_form part (p.piece ++ sha256 p.piece) ≡ Ok (length (p.piece ++ sha256 p.piece))
whole_read part p len =
    let text = p.piece in
    followed-at (content_form part) seal_form text (sha256 text) (p.is_form (sha256 text))
    ∙ ap (λ (r : Result ℕ KeepError). r >>= λ k. Ok (length text + k)) (seal-fine text (sha256 text) len refl)
    ∙ ap Ok (omega (arith, length-append text (sha256 text), len))

-- all bytes were read and the digest is right
pub whole_fine : {R : Type 0} {remaining : R → Option (List ℕ)} {failed : R → ℕ} {sure : R → Option ℕ} {a b : R} {most : ℕ} {t u : Text} (c : R) (part : PartValue) → (p : Grows remaining failed sure (content_form part) most a b t u)
    → Consumes (remaining b) (remaining c) (sha256 p.piece) → IsAtEnd (remaining c) → length (sha256 p.piece) ≡ 32 → (bytes : List ℕ) → remaining a ≡ Some bytes → sealed_form part bytes ≡ Ok (length p.piece + 32)
whole_fine {remaining} {a} {b} c part p seal end len bytes known =
    let text = p.piece in
    let one = left (remaining a) (remaining b) text bytes p.takes.consumed known in
    let two = left (remaining b) (remaining c) (sha256 text) one.rest seal one.is in
    let none : two.rest ≡ [] = subst IsAtEnd two.is end in
    let rest : one.rest ≡ sha256 text = two.split ∙ ap (λ (l : List ℕ). sha256 text ++ l) none ∙ append-nil (sha256 text) in
    ap (sealed_form part) one.split ∙ followed-at (content_form part) seal_form text one.rest (p.is_form one.rest)
    ∙ ap (λ (r : Result ℕ KeepError). r >>= λ k. Ok (length text + k)) (seal-fine text one.rest len rest)

-- and they are the content, sealed
pub whole_sealed : {R : Type 0} {remaining : R → Option (List ℕ)} {failed : R → ℕ} {sure : R → Option ℕ} {a b : R} {form : Form} {most : ℕ} {t u : Text} (c : R) → (p : Grows remaining failed sure form most a b t u)
    → Consumes (remaining b) (remaining c) (sha256 p.piece) → IsAtEnd (remaining c) → (bytes : List ℕ) → remaining a ≡ Some bytes → bytes ≡ p.piece ++ sha256 p.piece
whole_sealed {remaining} {a} {b} c p seal end bytes known =
    let text = p.piece in
    let one = left (remaining a) (remaining b) text bytes p.takes.consumed known in
    let two = left (remaining b) (remaining c) (sha256 text) one.rest seal one.is in
    let none : two.rest ≡ [] = subst IsAtEnd two.is end in
    one.split ∙ ap (λ (l : List ℕ). text ++ l) (two.split ∙ ap (λ (l : List ℕ). sha256 text ++ l) none ∙ append-nil (sha256 text))

-- a fault of the body is no failed read
pub body_unread : (e : KeepError) → IsOfBody e → IsRead e → ⊥
body_unread e of is = elim of [
  | inl memory ↦ subst IsRead memory is
  | inr shape ↦ subst IsRead shape is
]
