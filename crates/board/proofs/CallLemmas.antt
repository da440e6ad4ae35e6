-- A call of a book, and of the board: from the turn to its end.
use Rattle.std.proofs.Common.{◌≡◌, ◌≢◌, ℕ, ◌<◌, ◌≤◌, length-append, [], ◌∷◌, ◌++◌, true, false, Option, None, Some, is_some, Result, Ok, Err, IfOk, IfSome, IfNone, refl, sym, ap, ◌∙◌, subst, ⊎_elim, arith}
use Rattle.atomic_table.specs.Table.{Me}
use Rattle.std.proofs.lemmas.Bool.{leb-true, le-leb}
use Rattle.ball_model.specs.declared.names.BatchName.{BatchName}
use Rattle.ball_model.specs.Join.{Holding}
use Rattle.ball_model.specs.History.{HistoryEvent, Fetch, Recall, History, Object, board_of, is_kept_from, Begins, IsLegal, calls_by, entries_of, entry, with_entry}
use Rattle.ball_model.proofs.HistoryLemmas.{begins_self, begins_entry, calls_by-other, calls_by-own, board_of-push, last_is_answer, kept_never_goes_back}
use Rattle.board.specs.View.{View}
use Rattle.ball_model.specs.Caller.{Caller, Called}
use Rattle.board.specs.Rule.{at_turn, after_turn}
use Rattle.board.specs.Turn.{GoesOnBySeat}
use Rattle.board.specs.Noted.{IsNext, IsNoted}
use Rattle.board.specs.Inside.{SeatFits, GrantFits, IsTurn, caller_of}
use Rattle.board.specs.declared.seat.Grant.{Grant}

-- what follows where the history is the same, and where it has one entry more
next_cases : (limit n : ℕ) (old new : History) (P : History → Type 0) → IsNext limit n old new → P old → ((x : HistoryEvent) → entries_of old < limit → P (with_entry old (entry n x))) → P new
next_cases limit n old new P h same more = ⊎_elim
    (λ (e : new ≡ old). subst P (sym e) same)
    (λ (e : (x : HistoryEvent) × IsNoted limit n x old new). subst P (sym e.1.0) (more e.0 e.1.1))
    h.1

longer_of : (limit n : ℕ) (old new : History) → IsNext limit n old new → Begins old new
longer_of limit n old new h = next_cases limit n old new (Begins old) h (begins_self old) (λ x _. begins_entry old (entry n x))

others_of : (limit n : ℕ) (old new : History) → IsNext limit n old new → (k : ℕ) → k ≢ n → calls_by k new ≡ calls_by k old
others_of limit n old new h k ne = next_cases limit n old new (λ l. calls_by k l ≡ calls_by k old) h refl (λ x _. calls_by-other k old (entry n x) (λ q. ne (sym q)))

fits_of : (limit n : ℕ) (old new : History) → IsNext limit n old new → entries_of old ≤ limit → entries_of new ≤ limit
fits_of limit n old new h le = next_cases limit n old new (λ l. entries_of l ≤ limit) h le (λ x lt. let q = length-append old.calls (entry n x ∷ []) in omega arith)

-- the caller when it has seen that history
abbrev pub seeing : Caller → History → Caller
seeing v h = record { number = v.number; limit = v.limit; seen = h }

-- and where it noted one, that is the one call which it made
pub met_called : (v : Caller) (met new : History) (e : HistoryEvent) → Begins v.seen met → calls_by v.number met ≡ calls_by v.number v.seen → IsNoted v.limit v.number e met new → Called v e (seeing v new)
met_called v met new e longer own h = record {
  met = met;
  begins = longer;
  last = h.0;
  own = ap (calls_by v.number) h.0 ∙ (calls_by-own v.number met e ∙ ap (λ l. l ++ e ∷ []) own);
}

-- ---- the turn of a seat
-- what the seat's caller meets in its turn has none of its calls but those that it made
own_before : (was now : Grant) (found : History) → IsTurn was now found → calls_by was.number found ≡ calls_by was.number was.pass.me.0.seen
own_before was now found t = subst (λ (k : ℕ). calls_by k found ≡ calls_by k was.pass.me.0.seen) (sym t.fits.number_is) t.goes_on.1

pub turn_next : (was now : Grant) (found book : History) → IsTurn was now found → IsNext was.pass.me.0.limit was.number found book → GoesOnBySeat now.pass.me.0 book
turn_next was now found book t h =
    let limit = was.pass.me.0.limit in
    let n : was.number ≡ now.pass.me.0.number = t.fits.number_is ∙ sym t.view.0 in
    let le : entries_of book ≤ limit = fits_of limit was.number found book h t.goes_on.4 in
    record {
      legal = h.0;
      fits = let k = t.view.3 in omega arith;
      longer = subst (λ (l : History). Begins l book) t.seen (longer_of limit was.number found book h);
      others = λ k ne. others_of limit was.number found book h k (λ e. ne (e ∙ n)) ∙ ap (calls_by k) t.seen;
    }

pub turn_fits : (was now end : Grant) (found book : History) → IsTurn was now found → IsNext was.pass.me.0.limit was.number found book → end.number ≡ now.number → end.room ≡ now.room
    → end.pass.me ≡ (after_turn (at_turn now.pass.me.0 book), []) → GrantFits end
turn_fits was now end found book t h number room e =
    let limit = was.pass.me.0.limit in
    let le : entries_of book ≤ limit = fits_of limit was.number found book h t.goes_on.4 in
    subst (λ (x : ℕ × ℕ × Me (Option History) View). SeatFits x.0 x.1 x.2) (λ i. (sym (number ∙ t.number) i, sym (room ∙ t.room) i, sym e i)) record {
      number_is = t.fits.number_is ∙ sym t.view.0;
      room_is = t.fits.room_is ∙ sym t.view.1;
      live = let l = t.fits.live in let r = t.view.1 in omega arith;
      bound = let b = t.fits.bound in let n = t.view.0 in let r = t.view.1 in omega arith;
      idle = refl;
      told = t.view.2 ∙ t.fits.told;
      holds = refl;
      legal = h.0;
      fits = let k = t.view.3 in omega arith;
      unused = λ k lo hi.
          let n = t.fits.number_is in
          let n1 = t.view.0 in
          let r1 = t.view.1 in
          others_of limit was.number found book h k (λ q. omega arith) ∙ t.goes_on.3 k (omega arith) (omega arith);
    }

-- who calls by what was granted, after the turn
pub turn_caller : (was now end : Grant) (found book : History) → IsTurn was now found → end.number ≡ now.number → end.pass.me ≡ (after_turn (at_turn now.pass.me.0 book), []) → caller_of end ≡ seeing (caller_of was) book
turn_caller was now end found book t number e =
    λ i. record {
      number = (number ∙ t.number) i;
      limit = (ap (λ (x : Me (Option History) View). x.0.limit) e ∙ t.view.3) i;
      seen = ap (λ (x : Me (Option History) View). x.0.seen) e i;
    }

pub turn_called : (was now : Grant) (found book : History) (e : HistoryEvent) → IsTurn was now found → IsNoted was.pass.me.0.limit was.number e found book → Called (caller_of was) e (seeing (caller_of was) book)
turn_called was now found book e t h = met_called (caller_of was) found book e t.goes_on.0 (own_before was now found t) h

-- ---- what was found
-- a name whose batch was found stands
found_stands : (limit n : ℕ) (old new : History) (name : BatchName) → IsLegal new → IsNoted limit n (Fetch name) old new → (board_of new).stands name ≡ true
found_stands limit n old new name legal h =
    let e = entry n (Fetch name) in
    subst (λ (l : History). (board_of l).stands name ≡ true) (sym h.0)
    (ap (λ (o : Object). o.stands name) (board_of-push old e) ∙ last_is_answer old e (subst IsLegal h.0 legal))

pub fetch_stands : {A : Type 0} (P : A → Type 0) (r : Option A) (limit n : ℕ) (old new : History) (name : BatchName) → IsLegal new → IfSome r (λ a. IsNoted limit n (Fetch name) old new × P a)
    → IfNone r ((new ≡ old) × ((board_of old).stands name ≡ false)) → is_some r ≡ (board_of new).stands name
fetch_stands P None limit n old new name legal some none = sym (ap (λ (l : History). (board_of l).stands name) none.0 ∙ none.1)
fetch_stands P (Some a) limit n old new name legal some none = sym (found_stands limit n old new name legal some.0)

-- a content that was found is kept, and is far enough
kept_far : (kept : Option Holding) (c : Holding) (s : ℕ) → kept ≡ Some c → s ≤ c.superstep → is_kept_from kept s ≡ true
kept_far kept c s e le = subst (λ (k : Option Holding). is_kept_from k s ≡ true) (sym e) (le-leb s c.superstep le)

found_far : (limit n : ℕ) (old new : History) (p s : ℕ) (c : Holding) → IsLegal new → IsNoted limit n (Recall p s c) old new → is_kept_from ((board_of new).kept p) s ≡ true
found_far limit n old new p s c legal h =
    let e = entry n (Recall p s c) in
    let answer = last_is_answer old e (subst IsLegal h.0 legal) in
    subst (λ (l : History). is_kept_from ((board_of l).kept p) s ≡ true) (sym h.0)
    (subst (λ (o : Object). is_kept_from (o.kept p) s ≡ true) (sym (board_of-push old e)) (kept_far ((board_of old).kept p) c s answer.0 answer.1))

pub recall_far : {A : Type 0} (P : A → Type 0) (content : A → Holding) (r : Option A) (limit n : ℕ) (old new : History) (p s : ℕ) → IsLegal new
    → IfSome r (λ a. IsNoted limit n (Recall p s (content a)) old new × P a)
    → IfNone r ((new ≡ old) × (is_kept_from ((board_of old).kept p) s ≡ false)) → is_some r ≡ is_kept_from ((board_of new).kept p) s
recall_far P content None limit n old new p s legal some none = sym (ap (λ (l : History). is_kept_from ((board_of l).kept p) s) none.0 ∙ none.1)
recall_far P content (Some a) limit n old new p s legal some none = sym (found_far limit n old new p s (content a) legal some.0)

-- and it is as far as what the seat had seen kept
pub recall_furthest : (limit n : ℕ) (seen old new : History) (p s least : ℕ) (c : Holding) → Begins seen old → IsLegal old → IsLegal new → IsNoted limit n (Recall p s c) old new
    → is_kept_from ((board_of seen).kept p) least ≡ true → least ≤ c.superstep
recall_furthest limit n seen old new p s least c begins was legal h kept =
    let answer = last_is_answer old (entry n (Recall p s c)) (subst IsLegal h.0 legal) in
    leb-true least c.superstep (subst (λ (k : Option Holding). is_kept_from k least ≡ true) answer.0 (kept_never_goes_back seen old p least was begins kept))

-- ---- answers
pub if_ok : {T E : Type 0} (r : Result T E) (P Q R : T → Type 0) → IfOk r P → IfOk r Q → ((x : T) → P x → Q x → R x) → IfOk r R
if_ok (Ok x) P Q R p q f = f x p q
if_ok (Err e) P Q R p q f = tt
