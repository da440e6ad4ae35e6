-- Blocks that are read one after another.
use Rattle.std.proofs.Common.{◌≡◌, ℕ, zero, suc, ◌+◌, ◌-◌, ◌<◌, ◌≤◌, true, false, List, [], ◌++◌, length, Result, Ok, Err, refl, ap, sym, ◌∙◌, subst, arith, append_assoc, append-nil, length-append, eq-eqb, inl, inr}
use Rattle.std.specs.Prelude.{◌≢◌, ◌⊎◌, ◌==◌, Option, IfOk, IfErr}
use Rattle.std.specs.Int.{w32, w64}
use Rattle.std.proofs.KnownBytes.{Consumes-nil}
use Rattle.std.proofs.lemmas.Bool.{ne_eqb, le-ltb, lt-ltb}
use Rattle.sha2.specs.declared.Sha256.{Sha256}
use Rattle.ball_model.specs.Checks.{◌>>=◌}
use Rattle.gapcode.specs.Lists.{all_of, GivesOrMemory}
use Rattle.gapcode.specs.declared.error.CodeError.{CodeError}
use Rattle.gapcode.specs.declared.error.CodeError.TheVariants as code_fault
use Rattle.graph.specs.Planning.{Hashes}
use Rattle.stored.specs.declared.error.StoredError.{StoredError}
use Rattle.stored.specs.declared.error.StoredError.TheVariants as errors
use Rattle.stored.specs.Reading.{Reading, block_reading, blocks_reading, check_block, check_block_head, check_code, code_reading, field, followed, is_block, needs, refusal_of, told, AreBytes, Fails, IsOfBytes, IsRead, TakesBytes, Tells}
use Rattle.stored.proofs.DigestLemmas.{hashes_none, hashes_then}
use Rattle.stored.proofs.ReadLemmas.{bytes_both, checked_stops, fails_first, fails_second, fails_then, followed-at, followed-err, takes_then, tells_checked, tells_then}

-- ---- what takes no bytes
takes_none : {R : Type 0} {remaining : R → Option (List ℕ)} {failed : R → ℕ} {sure : R → Option ℕ} (a : R) → TakesBytes remaining failed sure a a []
takes_none {remaining} a = record { consumed = Consumes-nil (remaining a); counted = refl; calls = λ is. is }

tells_told : {R : Type 0} {remaining : R → Option (List ℕ)} {failed : R → ℕ} {sure : R → Option ℕ} {A : Type 0} (r : Result A StoredError) (x : A) (a : R) (t : Sha256) → r ≡ Ok x → Tells remaining failed sure (told r) a a t t x
unfolding told
tells_told r x a t e = record { piece = []; digested = hashes_none t; takes = takes_none a; bytes = λ i. omega arith; is_told = λ rest. rw e refl }

told_fails : {R : Type 0} {remaining : R → Option (List ℕ)} {failed : R → ℕ} {sure : R → Option ℕ} {A : Type 0} (r : Result A StoredError) (e : StoredError) (a : R) → r ≡ Err e → (IsRead e → ⊥) → Fails remaining failed sure (told r) a a e
unfolding told
told_fails r e a is other = record { rises = λ read. absurd (other read); counted = λ _. refl; unsure = λ _. other; due = λ bytes known of. rw is refl }

-- memory was refused after a piece
pub memory_fails : {R : Type 0} {remaining : R → Option (List ℕ)} {failed : R → ℕ} {sure : R → Option ℕ} {A : Type 0} (reading : Reading A) {a b : R} {piece : List ℕ} → TakesBytes remaining failed sure a b piece → Fails remaining failed sure reading a b errors.Memory
memory_fails reading p = record { rises = λ no_. absurd no_; counted = λ _. p.counted; unsure = λ _ no_. no_; due = λ bytes known no_. absurd no_ }

-- ---- the first fields of a block
pub head_passes : (left count : ℕ) (head : List ℕ) → count ≡ field w32 0 head → count ≢ 0 → count ≤ left → check_block_head left head ≡ Ok tt
unfolding check_block_head
head_passes left count head is some le = rw (← is, ne_eqb count 0 some, le-ltb left count le) refl

pub head_refused : (left count : ℕ) (head : List ℕ) → count ≡ field w32 0 head → (count ≡ 0) ⊎ ((count ≡ 0 → ⊥) × (left < count)) → check_block_head left head ≡ Err errors.Block
unfolding check_block_head
head_refused left count head is (inl none) = rw (← is, eq-eqb count 0 none) refl
head_refused left count head is (inr more) = rw (← is, ne_eqb count 0 more.0, lt-ltb left count more.1) refl

abbrev pub block_rest : ℕ → ℕ → List ℕ → Reading (List (List ℕ))
block_rest n left head = followed (told (check_block_head left head)) (λ _. code_reading n left head)

pub head_fails : {R : Type 0} {remaining : R → Option (List ℕ)} {failed : R → ℕ} {sure : R → Option ℕ} {a b : R} {t u : Sha256} (n left : ℕ) (head : List ℕ) → check_block_head left head ≡ Err errors.Block → Tells remaining failed sure (needs 12) a b t u head
    → Fails remaining failed sure (block_reading n left) a b errors.Block
head_fails {b} n left head is p = fails_second (block_rest n left) head p (fails_first (λ _. code_reading n left head) (told_fails (check_block_head left head) errors.Block b is (λ read. read)))

pub block_fails : {R : Type 0} {remaining : R → Option (List ℕ)} {failed : R → ℕ} {sure : R → Option ℕ} {a b c : R} {t u : Sha256} {e : StoredError} (n left : ℕ) (head : List ℕ) → check_block_head left head ≡ Ok tt → Tells remaining failed sure (needs 12) a b t u head
    → Fails remaining failed sure (code_reading n left head) b c e → Fails remaining failed sure (block_reading n left) a c e
block_fails {b} {u} n left head is p q = fails_second (block_rest n left) head p (fails_second (λ _. code_reading n left head) tt (tells_told (check_block_head left head) tt b u is) q)

block_tells : {R : Type 0} {remaining : R → Option (List ℕ)} {failed : R → ℕ} {sure : R → Option ℕ} {a b c : R} {t u v : Sha256} (n left : ℕ) (head : List ℕ) (lists : List (List ℕ)) → check_block_head left head ≡ Ok tt → Tells remaining failed sure (needs 12) a b t u head
    → Tells remaining failed sure (code_reading n left head) b c u v lists → Tells remaining failed sure (block_reading n left) a c t v lists
block_tells {b} {u} n left head lists is p q = tells_then (block_rest n left) head lists p (tells_then (λ _. code_reading n left head) tt lists (tells_told (check_block_head left head) tt b u is) q)

-- ---- the code of a block
pub code_passes : (n left count : ℕ) (code : List ℕ) (lists : List (List ℕ)) → Ok lists ≡ all_of n count code → is_block (length lists == left) lists ≡ true → check_code n left count code ≡ Ok lists
unfolding check_block
code_passes n left count code lists is block = rw (← is, block) refl

pub code_refused : (n left count : ℕ) (code : List ℕ) (lists : List (List ℕ)) → Ok lists ≡ all_of n count code → is_block (length lists == left) lists ≡ false → check_code n left count code ≡ Err errors.Block
unfolding check_block
code_refused n left count code lists is block = rw (← is, block) refl

code_faults : (n left count : ℕ) (code : List ℕ) (fault : CodeError) → Err fault ≡ all_of n count code → check_code n left count code ≡ Err (refusal_of fault)
code_faults n left count code fault is = rw (← is) refl

pub code_due : (n left count : ℕ) (code : List ℕ) (fault : CodeError) → GivesOrMemory (Err fault) (all_of n count code) → IsOfBytes (refusal_of fault) → check_code n left count code ≡ Err (refusal_of fault)
code_due n left count code code_fault.Memory due of = absurd of
code_due n left count code code_fault.Ended due of = code_faults n left count code code_fault.Ended due
code_due n left count code code_fault.TooLong due of = code_faults n left count code code_fault.TooLong due
code_due n left count code code_fault.Range due of = code_faults n left count code code_fault.Range due
code_due n left count code code_fault.Padding due of = code_faults n left count code code_fault.Padding due
code_due n left count code code_fault.Trailing due of = code_faults n left count code code_fault.Trailing due

pub code_kind : (fault : CodeError) → IsRead (refusal_of fault) → ⊥
code_kind code_fault.Memory read = read
code_kind code_fault.Ended read = read
code_kind code_fault.TooLong read = read
code_kind code_fault.Range read = read
code_kind code_fault.Padding read = read
code_kind code_fault.Trailing read = read

abbrev with_code : ℕ → ℕ → ℕ → ℕ → Reading (List (List ℕ))
with_code n left count size = followed (needs size) (λ z. told (check_code n left count z))

code_tells : {R : Type 0} {remaining : R → Option (List ℕ)} {failed : R → ℕ} {sure : R → Option ℕ} {a b : R} {t u : Sha256} (n left count size : ℕ) (head : List ℕ) (lists : List (List ℕ)) → count ≡ field w32 0 head → size ≡ field w64 4 head
    → Tells remaining failed sure (with_code n left count size) a b t u lists → Tells remaining failed sure (code_reading n left head) a b t u lists
code_tells {remaining} {failed} {sure} {a} {b} {t} {u} n left count size head lists many long p =
    subst (λ (k : ℕ). Tells remaining failed sure (with_code n left (field w32 0 head) k) a b t u lists) long
    (subst (λ (k : ℕ). Tells remaining failed sure (with_code n left k size) a b t u lists) many p)

code_fails : {R : Type 0} {remaining : R → Option (List ℕ)} {failed : R → ℕ} {sure : R → Option ℕ} {a b : R} (n left count size : ℕ) (head : List ℕ) (e : StoredError) → count ≡ field w32 0 head → size ≡ field w64 4 head
    → Fails remaining failed sure (with_code n left count size) a b e → Fails remaining failed sure (code_reading n left head) a b e
code_fails {remaining} {failed} {sure} {a} {b} n left count size head e many long p =
    subst (λ (k : ℕ). Fails remaining failed sure (with_code n left (field w32 0 head) k) a b e) long
    (subst (λ (k : ℕ). Fails remaining failed sure (with_code n left k size) a b e) many p)

pub code_unread : {R : Type 0} {remaining : R → Option (List ℕ)} {failed : R → ℕ} {sure : R → Option ℕ} {a b : R} (n left size : ℕ) (head : List ℕ) (e : StoredError) → size ≡ field w64 4 head
    → Fails remaining failed sure (needs size) a b e → Fails remaining failed sure (code_reading n left head) a b e
code_unread n left size head e long p = code_fails n left (field w32 0 head) size head e refl long (fails_first (λ z. told (check_code n left (field w32 0 head) z)) p)

-- the lists that were found in a code, or the refusal of it
pub block_ends : {R : Type 0} {remaining : R → Option (List ℕ)} {failed : R → ℕ} {sure : R → Option ℕ} {a b c : R} {t u v : Sha256} (n left count size : ℕ) (head code : List ℕ) (r : Result (List (List ℕ)) StoredError)
    → check_block_head left head ≡ Ok tt → count ≡ field w32 0 head → size ≡ field w64 4 head → Tells remaining failed sure (needs 12) a b t u head → Tells remaining failed sure (needs size) b c u v code
    → IfOk r (λ lists. check_code n left count code ≡ Ok lists) → IfOk r (λ lists. Tells remaining failed sure (block_reading n left) a c t v lists)
block_ends n left count size head code (Ok lists) passes many long p q is = block_tells n left head lists passes p (code_tells n left count size head lists many long (tells_checked (check_code n left count) code lists is q))
block_ends n left count size head code (Err e) passes many long p q is = tt

pub block_stops : {R : Type 0} {remaining : R → Option (List ℕ)} {failed : R → ℕ} {sure : R → Option ℕ} {a b c : R} {t u v : Sha256} (n left count size : ℕ) (head code : List ℕ) (r : Result (List (List ℕ)) StoredError)
    → check_block_head left head ≡ Ok tt → count ≡ field w32 0 head → size ≡ field w64 4 head → Tells remaining failed sure (needs 12) a b t u head → Tells remaining failed sure (needs size) b c u v code
    → IfErr r (λ e. IsOfBytes e → check_code n left count code ≡ Err e) → IfErr r (λ e. IsRead e → ⊥) → IfErr r (λ e. Fails remaining failed sure (block_reading n left) a c e)
block_stops n left count size head code (Ok lists) passes many long p q is other = tt
block_stops n left count size head code (Err e) passes many long p q is other = block_fails n left head passes p (code_fails n left count size head e many long (checked_stops (check_code n left count) code e is other q))

pub some_found : (count : ℕ) (r : Result (List (List ℕ)) StoredError) → (count ≡ 0 → ⊥) → IfOk r (λ lists. length lists ≡ count) → IfOk r (λ lists. 0 < length lists)
some_found count (Ok lists) some is = omega (arith, some, is)
some_found count (Err e) some is = tt

pub few_found : (count left : ℕ) (r : Result (List (List ℕ)) StoredError) → count ≤ left → IfOk r (λ lists. length lists ≡ count) → IfOk r (λ lists. length lists ≤ left)
few_found count left (Ok lists) le is = omega (arith, le, is)
few_found count left (Err e) le is = tt

-- ---- block after block
-- the reading of some lists, and after it that of the others
abbrev pub with_lists : List (List ℕ) → ℕ → Result (List (List ℕ) × ℕ) StoredError → Result (List (List ℕ) × ℕ) StoredError
with_lists lists k (Ok x) = Ok (lists ++ x.0, k + x.1)
with_lists lists k (Err e) = Err e

with_none : (r : Result (List (List ℕ) × ℕ) StoredError) → r ≡ with_lists [] 0 r
with_none (Ok x) = let e : x.1 ≡ 0 + x.1 = omega arith in ap (λ (k : ℕ). Ok (x.0, k)) e
with_none (Err e) = refl

with_more : (xs ys : List (List ℕ)) (j k l : ℕ) → l ≡ j + k → (r : Result (List (List ℕ) × ℕ) StoredError) → with_lists xs j (with_lists ys k r) ≡ with_lists (xs ++ ys) l r
with_more xs ys j k l sum (Ok x) = let e : j + (k + x.1) ≡ l + x.1 = omega (arith, sum) in rw (e, append_assoc xs ys x.0) refl
with_more xs ys j k l sum (Err e) = refl

pub blocks-none : (n most : ℕ) (bytes : List ℕ) → blocks_reading n most 0 bytes ≡ Ok ([], 0)
unfolding blocks_reading
blocks-none n zero bytes = refl
blocks-none n (suc most) bytes = refl

abbrev behind : ℕ → List (List ℕ) × ℕ → Result (List (List ℕ) × ℕ) StoredError
behind k x = Ok (x.0, k + x.1)

abbrev after_lists : List (List ℕ) → List (List ℕ) × ℕ → Result (List (List ℕ) × ℕ) StoredError
after_lists lists x = Ok (lists ++ x.0, x.1 + 0)

and_others : (lists : List (List ℕ)) (k : ℕ) (r : Result (List (List ℕ) × ℕ) StoredError) → ((r >>= after_lists lists) >>= behind k) ≡ with_lists lists k r
and_others lists k (Ok x) = let e : x.1 + 0 ≡ x.1 = omega arith in rw e refl
and_others lists k (Err e) = refl

pub blocks-more : (n most left : ℕ) (piece rest : List ℕ) (lists : List (List ℕ)) → left ≢ 0 → block_reading n left (piece ++ rest) ≡ Ok (lists, length piece) → blocks_reading n (suc most) left (piece ++ rest) ≡ with_lists lists (length piece) (blocks_reading n most (left - length lists) rest)
unfolding blocks_reading followed told
blocks-more n most left piece rest lists some is =
    rw (ne_eqb left 0 some) (followed-at (block_reading n left) (λ block. followed (blocks_reading n most (left - length block)) (λ others. told (Ok (block ++ others)))) piece rest lists is
    ∙ and_others lists (length piece) (blocks_reading n most (left - length lists) rest))

blocks-err : (n most left : ℕ) (bytes : List ℕ) (e : StoredError) → left ≢ 0 → block_reading n left bytes ≡ Err e → blocks_reading n (suc most) left bytes ≡ Err e
unfolding blocks_reading
blocks-err n most left bytes e some is = rw (ne_eqb left 0 some) (followed-err (block_reading n left) (λ lists. followed (blocks_reading n most (left - length lists)) (λ others. told (Ok (lists ++ others)))) bytes e is)

-- bytes were read that are some lists, and the blocks of the vertices that are left are the others
pub record TellsFirst {R : Type 0} (remaining : R → Option (List ℕ)) (failed : R → ℕ) (sure : R → Option ℕ) (n left : ℕ) (old new : R) (before after : Sha256) (lists : List (List ℕ)) : Type 0 where
  pub piece : List ℕ
  pub digested : Hashes before after piece
  pub takes : TakesBytes remaining failed sure old new piece
  pub bytes : AreBytes piece
  pub most : ℕ
  pub enough : left ≤ most
  pub many : length lists + left ≡ n
  pub goes_on : (rest : List ℕ) → blocks_reading n n n (piece ++ rest) ≡ with_lists lists (length piece) (blocks_reading n most left rest)

pub first_none : {R : Type 0} (remaining : R → Option (List ℕ)) (failed : R → ℕ) (sure : R → Option ℕ) (n : ℕ) (a : R) (t : Sha256) (lists : List (List ℕ)) → lists ≡ [] → TellsFirst remaining failed sure n n a a t t lists
first_none remaining failed sure n a t lists none = rw none (record { piece = []; digested = hashes_none t; takes = takes_none a; bytes = λ i. omega arith; most = n; enough = omega arith; many = omega arith; goes_on = λ rest. with_none (blocks_reading n n n rest) })

is_suc : (k : ℕ) → 0 < k → suc (k - 1) ≡ k
is_suc k lt = omega (arith, lt)

pub first_more : {R : Type 0} {remaining : R → Option (List ℕ)} {failed : R → ℕ} {sure : R → Option ℕ} {a b c : R} {t u v : Sha256} (n left rest : ℕ) (lists block more : List (List ℕ)) → 0 < left → 0 < length block → length block ≤ left → rest ≡ left - length block → more ≡ lists ++ block
    → TellsFirst remaining failed sure n left a b t u lists → Tells remaining failed sure (block_reading n left) b c u v block → TellsFirst remaining failed sure n rest a c t v more
first_more {a} {b} {c} {t} {u} {v} n left rest lists block more some filled within are sum p q =
    let one = p.piece in
    let two = q.piece in
    let most = p.most - 1 in
    let next : suc most ≡ p.most = is_suc p.most (omega (arith, some, p.enough)) in
    let other : left ≢ 0 = λ none. absurd (omega (arith, some, none)) in
    record {
      piece = one ++ two;
      digested = hashes_then t u v one two p.digested q.digested;
      takes = takes_then a b c one two p.takes q.takes;
      bytes = bytes_both one two p.bytes q.bytes;
      most = most;
      enough = omega (arith, next, p.enough, are, filled);
      many = omega (arith, ap length sum, length-append lists block, p.many, are, within);
      goes_on = λ more_bytes. ap (blocks_reading n n n) (append_assoc one two more_bytes) ∙ p.goes_on (two ++ more_bytes)
          ∙ ap (λ (k : ℕ). with_lists lists (length one) (blocks_reading n k left (two ++ more_bytes))) (sym next)
          ∙ ap (with_lists lists (length one)) (blocks-more n most left two more_bytes block other (q.is_told more_bytes))
          ∙ rw (sum, are) (with_more lists block (length one) (length two) (length (one ++ two)) (length-append one two) (blocks_reading n most (left - length block) more_bytes));
    }

pub first_fails : {R : Type 0} {remaining : R → Option (List ℕ)} {failed : R → ℕ} {sure : R → Option ℕ} {a b c : R} {t u : Sha256} {lists : List (List ℕ)} {e : StoredError} (n left : ℕ) → 0 < left → TellsFirst remaining failed sure n left a b t u lists
    → Fails remaining failed sure (block_reading n left) b c e → Fails remaining failed sure (blocks_reading n n n) a c e
first_fails {lists} {e} n left some p q =
    let most = p.most - 1 in
    let next : suc most ≡ p.most = is_suc p.most (omega (arith, some, p.enough)) in
    let other : left ≢ 0 = λ none. absurd (omega (arith, some, none)) in
    fails_then (blocks_reading n n n) p.takes
    (λ rest is. p.goes_on rest ∙ ap (λ (k : ℕ). with_lists lists (length p.piece) (blocks_reading n k left rest)) (sym next) ∙ ap (with_lists lists (length p.piece)) (blocks-err n most left rest e other is)) q

pub first_all : {R : Type 0} {remaining : R → Option (List ℕ)} {failed : R → ℕ} {sure : R → Option ℕ} {a b : R} {t u : Sha256} {lists : List (List ℕ)} (n left : ℕ) → left ≡ 0 → TellsFirst remaining failed sure n left a b t u lists → Tells remaining failed sure (blocks_reading n n n) a b t u lists
first_all {lists} n left none p =
    let k = length p.piece in
    let e : k + 0 ≡ k = omega arith in
    record {
      piece = p.piece;
      digested = p.digested;
      takes = p.takes;
      bytes = p.bytes;
      is_told = λ rest. p.goes_on rest ∙ ap (λ (l : ℕ). with_lists lists k (blocks_reading n p.most l rest)) none ∙ ap (with_lists lists k) (blocks-none n p.most rest) ∙ rw (e, append-nil lists) refl;
    }
