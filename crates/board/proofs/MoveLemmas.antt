-- Each step keeps the rule.
use Rattle.std.proofs.Common.{◌≡◌, ◌≢◌, ◌⊎◌, ℕ, ◌+◌, ◌%◌, ◌^◌, ◌<◌, ◌≤◌, ◌==◌, min, Bool, true, false, List, [], ◌∷◌, set, Option, Some, None, refl, sym, ap, ◌∙◌, subst, inl, inr, ⊎_elim, arith}
use Rattle.std.specs.Prelude.{slice_index}
use Rattle.std.proofs.Math.Nat.{add-mod}
use Rattle.std.proofs.lemmas.Bool.Decides.{nat_tests}
use mathlib.Core.Option.{some, none, some-injective}
use mathlib.Core.Option as maybe
use lib.ListN.{get_elem?}
use lib.Seq.{set-get_or}
use Rattle.atomic_table.specs.Table.{State, Me, Step, step, Act, keeps, takes, gives, Valid, carried_after, Allows, stepped}
use Rattle.atomic_table.proofs.Lists.{set_again, set_else, one_turn}
use Rattle.board.specs.View.{View}
use Rattle.ball_model.specs.History.{History, Begins, entries_of, calls_by}
use Rattle.board.specs.Rule.{total, room_of, tickets_of, IsNotOf, FitsLog, IsKeptSafe, IsLocked, with_ticket, at_turn, after_turn, DrewTicket, LookedIfServed, LookedAtServing, WroteLength, RaisedServing}
use Rattle.board.specs.Turn.{GoesOnBySeat}
use Rattle.ball_model.proofs.HistoryLemmas.{begins_self, begins_trans}
use Rattle.board.proofs.ViewLemmas.{total_set, total_le, each_set, apart_set, numbers_set, set_at}

-- what is known after a step does not depend on which step it is
abbrev pub still : Step (Option History)
still = step 0 0 0 0 none

-- the tickets out are at most 2^64
few : (s : State (Option History) View) (h : IsLocked s) → total tickets_of s.views ≤ 2 ^ 64
few s h =
    let le = total_le tickets_of room_of s.views (λ i v e. room_for v (h.each i v e)) in
    let r = h.rooms in
    omega arith
  where
    room_for : (v : View) → FitsLog h.limit h.log h.next h.serving v → tickets_of v ≤ room_of v
    room_for v f = grind (arith, f.out)

-- a ticket more, or the same
fits_next : (limit : ℕ) (log : History) (next serving : ℕ) (u : View) → FitsLog limit log next serving u → FitsLog limit log (next + 1) serving u
fits_next limit log next serving u f = record {
  begins = f.begins;
  limit_is = f.limit_is;
  own = f.own;
  unused = f.unused;
  out = λ p. let o = f.out p in (o.0, o.1, omega arith);
  turn = f.turn;
  told = f.told;
}

-- the book is where it was, since neither view has the turn
pub home_same : (log : History) (s : State (Option History) View) (ws : List ℕ) (id : ℕ) (v w : View) → get_elem? s.views id ≡ some v → v.stage ≢ 2 → w.stage ≢ 2 → IsKeptSafe log s
    → IsKeptSafe log record { words = ws; homes = s.homes; views = set s.views id w }
home_same log s ws id v w at nv nw home =
    ⊎_elim
    (λ (a : (s.homes ≡ some (Some log) ∷ []) × ((i : ℕ) (u : View) → get_elem? s.views i ≡ some u → u.stage ≢ 2)). inl (a.0, each_set (λ u. u.stage ≢ 2) s.views id w nw (λ j u _ e. a.1 j u e)))
    (λ (b : (s.homes ≡ none ∷ []) × ((i : ℕ) × (u : View) × (get_elem? s.views i ≡ some u) × (u.stage ≡ 2))).
    let apart : b.1.0 ≢ id = λ e. nv (ap (λ (u : View). u.stage) (some-injective v b.1.1 (sym at ∙ ap (get_elem? s.views) (sym e) ∙ b.1.2)) ∙ b.1.3) in
    inr (b.0, (b.1.0, b.1.1, set_else s.views id b.1.0 w apart ∙ b.1.2, b.1.3)))
    home

pub draws : (slots id : ℕ) (v : View) → v.stage ≡ 0 → 0 < v.room → Allows IsLocked slots id (v, []) 1 (λ n. (n + 1) % 2 ^ 64) (DrewTicket still (v, []))
draws slots id v idle live s h len at small =
    let f = h.each id v at in
    let w = with_ticket v h.next in
    let n : slice_index s.words 1 ≡ h.next % 2 ^ 64 = ap (λ (ws : List ℕ). slice_index ws 1) h.words in
    let count = total_set tickets_of s.views id v w at in
    let none_had : tickets_of v ≡ 0 = grind (arith, idle) in
    let one_has : tickets_of w ≡ 1 = refl in
    let rooms = total_set room_of s.views id v w at in
    let was = h.out in
    let all = h.rooms in
    let ws = set s.words 1 ((slice_index s.words 1 + 1) % 2 ^ 64) in (
      w,
      keeps,
      tt,
      record {
        log = h.log;
        next = h.next + 1;
        serving = h.serving;
        words = ap (λ (ws : List ℕ). set ws 1 ((slice_index ws 1 + 1) % 2 ^ 64)) h.words ∙ ap (λ (k : ℕ). entries_of h.log ∷ k ∷ h.serving % 2 ^ 64 ∷ []) (sym (add-mod h.next 1 (2 ^ 64)));
        legal = h.legal;
        limit = h.limit;
        fits = h.fits;
        out = omega arith;
        rooms = omega arith;
        home = home_same h.log s ws id v w at (λ e. omega arith) (λ e. omega arith) h.home;
        each = each_set (FitsLog h.limit h.log (h.next + 1) h.serving) s.views id w record {
          begins = f.begins;
          limit_is = f.limit_is;
          own = f.own;
          unused = f.unused;
          out = λ _. (live, omega arith, omega arith);
          turn = λ e. absurd (omega arith);
          told = f.told;
        } (λ j u _ e. fits_next h.limit h.log h.next h.serving u (h.each j u e));
        apart = apart_set s.views id w h.apart (λ j u ne e.
            let g = h.each j u e in
            let a = h.apart id j v u (λ q. ne (sym q)) at e in
            let b = h.apart j id u v ne e at in (
              record { numbers = a.numbers; tickets = λ _ p q. let o = g.out p in omega arith; told = a.told },
              record { numbers = b.numbers; tickets = λ p _ q. let o = g.out p in omega arith; told = b.told },
            ));
        numbers = h.numbers;
        made = numbers_set h.numbers s.views id v w h.made at (λ p. (live, refl));
        strangers = h.strangers;
      },
      (h.next, sym n, refl),
    )

-- what a look at the ticket served owes, where it is this seat's or not
abbrev LookOwes : (s : State (Option History) View) (id : ℕ) (v : View) → Bool → Type 0
LookOwes s id v b = (w : View) × (a : Act (Option History)) × Valid s.homes [] a × IsLocked (stepped s 2 (slice_index s.words 2) id [] w a)
    × LookedIfServed b v (w, carried_after [] a)

pub looks : (slots id : ℕ) (v : View) → v.stage ≡ 1 → Allows IsLocked slots id (v, []) 2 (λ n. n) (LookedAtServing still (v, []))
looks slots id v waits s h len at small = go (slice_index s.words 2 == v.ticket % 2 ^ 64) refl
  where
    f : FitsLog h.limit h.log h.next h.serving v
    f = h.each id v at

    found : slice_index s.words 2 ≡ h.serving % 2 ^ 64
    found = ap (λ (ws : List ℕ). slice_index ws 2) h.words

    words : set s.words 2 (slice_index s.words 2) ≡ entries_of h.log ∷ h.next % 2 ^ 64 ∷ h.serving % 2 ^ 64 ∷ []
    words = set-get_or s.words 2 0 ∙ h.words

    mine : (slice_index s.words 2 == v.ticket % 2 ^ 64) ≡ true → h.serving ≡ v.ticket
    mine e =
        let n = few s h in
        let o = f.out (omega arith) in
        let c = h.out in
        let at_once : slice_index s.words 2 ≡ v.ticket % 2 ^ 64 = grind (arith, nat_tests, e) in
        one_turn h.serving v.ticket (2 ^ 64) o.1 (omega arith) (sym found ∙ at_once)

    -- no other has the turn
    at_home : h.serving ≡ v.ticket → (s.homes ≡ some (Some h.log) ∷ []) × ((i : ℕ) (u : View) → get_elem? s.views i ≡ some u → u.stage ≢ 2)
    at_home same = ⊎_elim
        (λ (a : (s.homes ≡ some (Some h.log) ∷ []) × ((i : ℕ) (u : View) → get_elem? s.views i ≡ some u → u.stage ≢ 2)). a)
        (λ (b : (s.homes ≡ none ∷ []) × ((i : ℕ) × (u : View) × (get_elem? s.views i ≡ some u) × (u.stage ≡ 2))).
        let apart : b.1.0 ≢ id = λ e. (let q : u_stage b.1.1 ≡ v.stage = ap u_stage (some-injective b.1.1 v (sym b.1.2 ∙ ap (get_elem? s.views) e ∙ at)) in omega (arith, q, b.1.3, waits)) in
        absurd ((h.apart b.1.0 id b.1.1 v apart b.1.2 at).tickets (omega (arith, b.1.3)) (omega arith) (((h.each b.1.0 b.1.1 b.1.2).turn b.1.3).0 ∙ same)))
        h.home
      where
        u_stage : View → ℕ
        u_stage u = u.stage

    kept : IsLocked record { words = set s.words 2 (slice_index s.words 2); homes = s.homes; views = s.views }
    kept = record {
      log = h.log;
      next = h.next;
      serving = h.serving;
      words = words;
      legal = h.legal;
      limit = h.limit;
      fits = h.fits;
      out = h.out;
      rooms = h.rooms;
      home = h.home;
      each = h.each;
      apart = h.apart;
      numbers = h.numbers;
      made = h.made;
      strangers = h.strangers;
    }

    go : (b : Bool) → (slice_index s.words 2 == v.ticket % 2 ^ 64) ≡ b → LookOwes s id v b
    go true e =
        let same = mine e in
        let home = at_home same in
        let w = at_turn v h.log in
        let count = total_set tickets_of s.views id v w at in
        let had : tickets_of v ≡ 1 = ap (λ (k : ℕ). min k 1) waits in
        let has : tickets_of w ≡ 1 = refl in
        let rooms = total_set room_of s.views id v w at in
        let was = h.out in
        let all = h.rooms in
        let o = f.out (omega arith) in (
          w,
          takes 0 (Some h.log),
          ap (λ (hs : List (maybe.Option (Option History))). get_elem? hs 0) home.0,
          record {
            log = h.log;
            next = h.next;
            serving = h.serving;
            words = words;
            legal = h.legal;
            limit = h.limit;
            fits = h.fits;
            out = omega arith;
            rooms = omega arith;
            home = inr (ap (λ (hs : List (maybe.Option (Option History))). set hs 0 none) home.0, (id, w, set_at s.views id v w at, refl));
            each = each_set (FitsLog h.limit h.log h.next h.serving) s.views id w record {
              begins = λ _. begins_self h.log;
              limit_is = f.limit_is;
              own = λ _. refl;
              unused = f.unused;
              out = λ _. o;
              turn = λ _. (sym same, refl);
              told = f.told;
            } (λ j u _ e. h.each j u e);
            apart = apart_set s.views id w h.apart (λ j u ne e.
                let a = h.apart id j v u (λ q. ne (sym q)) at e in
                let b = h.apart j id u v ne e at in (
                  record { numbers = a.numbers; tickets = λ _ p. a.tickets (omega arith) p; told = a.told },
                  record { numbers = b.numbers; tickets = λ p _. b.tickets p (omega arith); told = b.told },
                ));
            numbers = h.numbers;
            made = numbers_set h.numbers s.views id v w h.made at (λ p. (o.0, refl));
            strangers = h.strangers;
          },
          (h.log, (f.begins o.0, f.own o.0, h.legal, f.unused, (let l = f.limit_is o.0 in let m = h.fits in omega arith)), refl),
        )
    go false e = (v, keeps, tt, subst (λ (vs : List View). IsLocked record { words = set s.words 2 (slice_index s.words 2); homes = s.homes; views = vs }) (sym (set_again s.views id v at)) kept, refl)

-- a seat at its turn knows where the book is
away : (s : State (Option History) View) (h : IsLocked s) (id : ℕ) (v : View) → get_elem? s.views id ≡ some v → v.stage ≡ 2 → s.homes ≡ none ∷ []
away s h id v at turn = ⊎_elim
    (λ (a : (s.homes ≡ some (Some h.log) ∷ []) × ((i : ℕ) (u : View) → get_elem? s.views i ≡ some u → u.stage ≢ 2)). absurd (a.1 id v at turn))
    (λ (b : (s.homes ≡ none ∷ []) × ((i : ℕ) × (u : View) × (get_elem? s.views i ≡ some u) × (u.stage ≡ 2))). b.0)
    h.home

not_of : (k : ℕ) (v : View) → 0 < v.room → IsNotOf k v → k ≢ v.number
not_of k v live n e = ⊎_elim (λ (a : k < v.number). omega arith) (λ (b : v.number + v.room ≤ k). omega arith) n

other_number : (v u : View) (k : ℕ) → (v.number + v.room ≤ u.number) ⊎ (u.number + u.room ≤ v.number) → 0 < v.room → u.number ≤ k → k < u.number + u.room → k ≢ v.number
other_number v u k apart live le lt e = ⊎_elim (λ (a : v.number + v.room ≤ u.number). omega arith) (λ (b : u.number + u.room ≤ v.number). omega arith) apart

abbrev book_in : History → List (ℕ × Option History) → History
book_in other [] = other
book_in other ((k, None) ∷ xs) = other
book_in other ((k, Some log) ∷ xs) = log

carried_book : {a b : History} → ◌≡◌ {A = List (ℕ × Option History)} ((0, Some a) ∷ []) ((0, Some b) ∷ []) → a ≡ b
carried_book {a} {b} e = ap (book_in a) e

pub writes : (slots id : ℕ) (v : View) (book : History) → v.stage ≡ 2 → GoesOnBySeat v book
    → Allows IsLocked slots id (v, (0, Some book) ∷ []) 0 (λ _. entries_of book) (λ _. WroteLength still (v, (0, Some book) ∷ []) (entries_of book))
writes slots id v book turn next s h len at small =
    let f = h.each id v at in
    let w = at_turn v book in
    let o = f.out (omega arith) in
    let t = f.turn turn in
    let count = total_set tickets_of s.views id v w at in
    let had : tickets_of v ≡ 1 = ap (λ (k : ℕ). min k 1) turn in
    let has : tickets_of w ≡ 1 = refl in
    let rooms = total_set room_of s.views id v w at in
    let was = h.out in
    let all = h.rooms in
    let longer : Begins h.log book = subst (λ (l : History). Begins l book) t.1 next.longer in
    let others : (k : ℕ) → k ≢ v.number → calls_by k book ≡ calls_by k h.log = λ k ne. next.others k ne ∙ ap (calls_by k) t.1 in (
      w,
      keeps,
      tt,
      record {
        log = book;
        next = h.next;
        serving = h.serving;
        words = ap (λ (ws : List ℕ). set ws 0 (entries_of book)) h.words;
        legal = next.legal;
        limit = h.limit;
        fits = let l = f.limit_is o.0 in let m = next.fits in omega arith;
        out = omega arith;
        rooms = omega arith;
        home = inr (away s h id v at turn, (id, w, set_at s.views id v w at, refl));
        each = each_set (FitsLog h.limit book h.next h.serving) s.views id w record {
          begins = λ _. begins_self book;
          limit_is = f.limit_is;
          own = λ _. refl;
          unused = λ k lo hi. others k (λ e. omega arith) ∙ f.unused k lo hi;
          out = λ _. o;
          turn = λ _. (t.0, refl);
          told = λ x e. let g = f.told x e in (begins_trans x.seen h.log book g.0 longer, others x.number (not_of x.number v o.0 g.2) ∙ g.1, g.2);
        } (λ j u ne e.
            let g = h.each j u e in
            let a = h.apart id j v u (λ q. ne (sym q)) at e in
            let b = h.apart j id u v ne e at in
            record {
              begins = λ p. begins_trans u.seen h.log book (g.begins p) longer;
              limit_is = g.limit_is;
              own = λ p. others u.number (other_number v u u.number a.numbers o.0 (omega arith) (omega arith)) ∙ g.own p;
              unused = λ k lo hi. others k (other_number v u k a.numbers o.0 (omega arith) hi) ∙ g.unused k lo hi;
              out = g.out;
              turn = λ q. absurd (a.tickets (omega arith) (omega arith) (t.0 ∙ sym (g.turn q).0));
              told = λ x q. let r = g.told x q in (begins_trans x.seen h.log book r.0 longer, others x.number (not_of x.number v o.0 (b.told x q)) ∙ r.1, r.2);
            });
        apart = apart_set s.views id w h.apart (λ j u ne e.
            let a = h.apart id j v u (λ q. ne (sym q)) at e in
            let b = h.apart j id u v ne e at in (
              record { numbers = a.numbers; tickets = λ _ p. a.tickets (omega arith) p; told = a.told },
              record { numbers = b.numbers; tickets = λ p _. b.tickets p (omega arith); told = b.told },
            ));
        numbers = h.numbers;
        made = numbers_set h.numbers s.views id v w h.made at (λ p. (o.0, refl));
        strangers = λ k ne. others k (λ e. ne id (h.made.own id v at o.0 ∙ ap some (sym e))) ∙ h.strangers k ne;
      },
      λ log e. ap (λ (l : History). (at_turn v l, (0, Some book) ∷ [])) (carried_book e),
    )

pub raises : (slots id : ℕ) (v : View) → v.stage ≡ 2 → Allows IsLocked slots id (v, (0, Some v.seen) ∷ []) 2 (λ n. (n + 1) % 2 ^ 64) (RaisedServing still (v, (0, Some v.seen) ∷ []))
raises slots id v turn s h len at small =
    let f = h.each id v at in
    let w = after_turn v in
    let o = f.out (omega arith) in
    let t = f.turn turn in
    let count = total_set tickets_of s.views id v w at in
    let had : tickets_of v ≡ 1 = ap (λ (k : ℕ). min k 1) turn in
    let has : tickets_of w ≡ 0 = refl in
    let rooms = total_set room_of s.views id v w at in
    let was = h.out in
    let all = h.rooms in (
      w,
      gives,
      tt,
      record {
        log = h.log;
        next = h.next;
        serving = h.serving + 1;
        words = ap (λ (ws : List ℕ). set ws 2 ((slice_index ws 2 + 1) % 2 ^ 64)) h.words ∙ ap (λ (k : ℕ). entries_of h.log ∷ h.next % 2 ^ 64 ∷ k ∷ []) (sym (add-mod h.serving 1 (2 ^ 64)));
        legal = h.legal;
        limit = h.limit;
        fits = h.fits;
        out = omega arith;
        rooms = omega arith;
        home = inl (
          ap (λ (hs : List (maybe.Option (Option History))). set hs 0 (some (Some v.seen))) (away s h id v at turn) ∙ ap (λ (l : History). some (Some l) ∷ []) t.1,
          each_set (λ u. u.stage ≢ 2) s.views id w (λ e. omega arith) (λ j u ne e q.
              let a = h.apart id j v u (λ p. ne (sym p)) at e in
              a.tickets (omega arith) (omega arith) (t.0 ∙ sym ((h.each j u e).turn q).0)),
        );
        each = each_set (FitsLog h.limit h.log h.next (h.serving + 1)) s.views id w record {
          begins = f.begins;
          limit_is = f.limit_is;
          own = f.own;
          unused = f.unused;
          out = λ p. absurd (omega arith);
          turn = λ p. absurd (omega arith);
          told = f.told;
        } (λ j u ne e.
            let g = h.each j u e in
            let a = h.apart id j v u (λ q. ne (sym q)) at e in
            record {
              begins = g.begins;
              limit_is = g.limit_is;
              own = g.own;
              unused = g.unused;
              out = λ p. let r = g.out p in let d = a.tickets (omega arith) p in (r.0, suc_le h.serving u.ticket r.1 (λ q. d (t.0 ∙ q)), r.2);
              turn = λ q. absurd (a.tickets (omega arith) (omega arith) (t.0 ∙ sym (g.turn q).0));
              told = g.told;
            });
        apart = apart_set s.views id w h.apart (λ j u ne e.
            let a = h.apart id j v u (λ q. ne (sym q)) at e in
            let b = h.apart j id u v ne e at in (
              record { numbers = a.numbers; tickets = λ p. absurd (omega arith); told = a.told },
              record { numbers = b.numbers; tickets = λ _ p. absurd (omega arith); told = b.told },
            ));
        numbers = h.numbers;
        made = numbers_set h.numbers s.views id v w h.made at (λ p. (o.0, refl));
        strangers = h.strangers;
      },
      refl,
    )
  where
    suc_le : (a b : ℕ) → a ≤ b → a ≢ b → a + 1 ≤ b
    suc_le a b le ne = grind (arith, le, ne)

-- the moves, at what a seat is known to be
pub draws_at : (slots id : ℕ) (m : Me (Option History) View) → m.0.stage ≡ 0 → 0 < m.0.room → m.1 ≡ [] → Allows IsLocked slots id m 1 (λ n. (n + 1) % 2 ^ 64) (DrewTicket still m)
draws_at slots id m idle live e = subst (λ (xs : List (ℕ × Option History)). Allows IsLocked slots id (m.0, xs) 1 (λ n. (n + 1) % 2 ^ 64) (DrewTicket still (m.0, xs))) (sym e) (draws slots id m.0 idle live)

pub looks_at : (slots id : ℕ) (m : Me (Option History) View) → m.0.stage ≡ 1 → m.1 ≡ [] → Allows IsLocked slots id m 2 (λ n. n) (LookedAtServing still m)
looks_at slots id m waits e = subst (λ (xs : List (ℕ × Option History)). Allows IsLocked slots id (m.0, xs) 2 (λ n. n) (LookedAtServing still (m.0, xs))) (sym e) (looks slots id m.0 waits)

pub writes_at : (slots id : ℕ) (m : Me (Option History) View) (v : View) (book : History) (n : ℕ) → m ≡ (v, (0, Some book) ∷ []) → n ≡ entries_of book → v.stage ≡ 2 → GoesOnBySeat v book
    → Allows IsLocked slots id m 0 (λ _. n) (λ _. WroteLength still m n)
writes_at slots id m v book n e f turn next = subst (λ (x : Me (Option History) View × ℕ). Allows IsLocked slots id x.0 0 (λ _. x.1) (λ _. WroteLength still x.0 x.1)) (λ i. (sym e i, sym f i)) (writes slots id v book turn next)

pub raises_at : (slots id : ℕ) (m : Me (Option History) View) (v : View) → m ≡ (v, (0, Some v.seen) ∷ []) → v.stage ≡ 2 → Allows IsLocked slots id m 2 (λ n. (n + 1) % 2 ^ 64) (RaisedServing still m)
raises_at slots id m v e turn = subst (λ (x : Me (Option History) View). Allows IsLocked slots id x 2 (λ n. (n + 1) % 2 ^ 64) (RaisedServing still x)) (sym e) (raises slots id v turn)
