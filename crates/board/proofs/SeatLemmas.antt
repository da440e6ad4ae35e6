-- A look at the length, a new seat, and a seat that ends.
use Rattle.std.proofs.Common.{◌≡◌, ◌≢◌, ◌⊎◌, ℕ, zero, suc, ◌+◌, ◌-◌, ◌<◌, ◌≤◌, min, List, [], ◌∷◌, ◌++◌, length, set, Option, Some, refl, sym, ap, ◌∙◌, subst, inl, inr, ⊎_elim, arith}
use Rattle.std.specs.Prelude.{slice_index}
use Rattle.std.proofs.Math.Logic.{⊎_swap}
use Rattle.std.proofs.lemmas.Option.{none-some}
use mathlib.Core.Option.{some, none, some-injective, some-ne-none}
use lib.ListN.{get_elem?}
use lib.Seq.{set-get_or}
use Rattle.atomic_table.specs.Table.{State, Me, keeps, Allows, Splits, Joins, opening}
use Rattle.atomic_table.proofs.Lists.{set_else, at_longer}
use Rattle.board.specs.View.{View, EndedSeat, spent_view}
use Rattle.ball_model.specs.History.{History, Begins, entries_of, events_by, calls_by, IsLegal}
use Rattle.board.specs.Rule.{room_of, tickets_of, IsNotOf, FitsLog, AreApart, IsKeptSafe, IsLocked, at_look, LookedAtLength, share, keeper, newcomer, with_news, first_view}
use Rattle.board.specs.declared.seat.TheConstants.{SHARE}
use Rattle.ball_model.proofs.HistoryLemmas.{begins_self, calls_by-none}
use Rattle.board.proofs.ViewLemmas.{total_set, total_push, each_set, each_push, apart_set, apart_set_on, apart_push, numbers_push, numbers_set}
use Rattle.board.proofs.MoveLemmas.{still, home_same}

pub counts : (slots id : ℕ) (v : View) → v.stage ≡ 0 → 0 < v.room → Allows IsLocked slots id (v, []) 0 (λ n. n) (LookedAtLength still (v, []))
counts slots id v idle live s h len at small =
    let f = h.each id v at in
    let w = at_look v h.log in
    let count = total_set tickets_of s.views id v w at in
    let had : tickets_of v ≡ 0 = ap (λ (k : ℕ). min k 1) idle in
    let has : tickets_of w ≡ 0 = refl in
    let rooms = total_set room_of s.views id v w at in
    let was = h.out in
    let all = h.rooms in
    let ws = set s.words 0 (slice_index s.words 0) in (
      w,
      keeps,
      tt,
      record {
        log = h.log;
        next = h.next;
        serving = h.serving;
        words = set-get_or s.words 0 0 ∙ h.words;
        legal = h.legal;
        limit = h.limit;
        fits = h.fits;
        out = omega arith;
        rooms = omega arith;
        home = home_same h.log s ws id v w at (λ e. omega arith) (λ e. omega arith) h.home;
        each = each_set (FitsLog h.limit h.log h.next h.serving) s.views id w record {
          begins = λ _. begins_self h.log;
          limit_is = f.limit_is;
          own = λ _. refl;
          unused = f.unused;
          out = λ p. absurd (omega arith);
          turn = λ e. absurd (omega arith);
          told = λ t e. absurd (none-some t e);
        } (λ j u _ e. h.each j u e);
        apart = apart_set s.views id w h.apart (λ j u ne e.
            let a = h.apart id j v u (λ q. ne (sym q)) at e in
            let b = h.apart j id u v ne e at in (
              record { numbers = a.numbers; tickets = λ p. absurd (omega arith); told = λ t q. absurd (none-some t q) },
              record { numbers = b.numbers; tickets = λ _ p. absurd (omega arith); told = b.told },
            ));
        numbers = h.numbers;
        made = numbers_set h.numbers s.views id v w h.made at (λ p. (live, refl));
        strangers = h.strangers;
      },
      (h.log, (f.begins live, f.own live, h.legal, f.unused, (let l = f.limit_is live in let m = h.fits in omega arith)), sym (ap (λ (ws : List ℕ). slice_index ws 0) h.words), (λ t e. let g = f.told t e in (g.0, g.1)), refl),
    )

pub counts_at : (slots id : ℕ) (m : Me (Option History) View) → m.0.stage ≡ 0 → 0 < m.0.room → m.1 ≡ [] → Allows IsLocked slots id m 0 (λ n. n) (LookedAtLength still m)
counts_at slots id m idle live e = subst (λ (xs : List (ℕ × Option History)). Allows IsLocked slots id (m.0, xs) 0 (λ n. n) (LookedAtLength still (m.0, xs))) (sym e) (counts slots id m.0 idle live)

share_is : (room : ℕ) → SHARE ≤ room → (0 < share room) × (share room < room)
share_is room h = (omega arith, omega arith)

part_of : (v w : View) → v.number ≤ w.number → w.number + w.room ≤ v.number + v.room → (k : ℕ) → IsNotOf k v → IsNotOf k w
part_of v w lo hi k n = ⊎_elim (λ (a : k < v.number). inl (omega arith)) (λ (a : v.number + v.room ≤ k). inr (omega arith)) n

-- what is apart from a seat is apart from a part of it
apart_part : (v w u : View) → v.number ≤ w.number → w.number + w.room ≤ v.number + v.room → (v.number + v.room ≤ u.number) ⊎ (u.number + u.room ≤ v.number) → (w.number + w.room ≤ u.number) ⊎ (u.number + u.room ≤ w.number)
apart_part v w u lo hi n = ⊎_elim (λ (a : v.number + v.room ≤ u.number). inl (omega arith)) (λ (a : u.number + u.room ≤ v.number). inr (omega arith)) n

home_push : (log : History) (s : State (Option History) View) (w : View) → w.stage ≢ 2 → IsKeptSafe log s → IsKeptSafe log record { words = s.words; homes = s.homes; views = s.views ++ w ∷ [] }
home_push log s w nw home =
    ⊎_elim
    (λ (a : (s.homes ≡ some (Some log) ∷ []) × ((i : ℕ) (u : View) → get_elem? s.views i ≡ some u → u.stage ≢ 2)). inl (a.0, each_push (λ u. u.stage ≢ 2) s.views w nw a.1))
    (λ (b : (s.homes ≡ none ∷ []) × ((i : ℕ) × (u : View) × (get_elem? s.views i ≡ some u) × (u.stage ≡ 2))). inr (b.0, (b.1.0, b.1.1, at_longer s.views (w ∷ []) b.1.0 b.1.1 b.1.2, b.1.3)))
    home

pub shares : (id : ℕ) (v : View) → v.stage ≡ 0 → SHARE ≤ v.room → Splits IsLocked id v (keeper v) (newcomer v)
shares id v idle enough s h at =
    let f = h.each id v at in
    let k = keeper v in
    let n = newcomer v in
    let sh = share_is v.room enough in
    let d : ℕ = share v.room in
    let r : ℕ = v.room in
    let tickets_kept = total_set tickets_of s.views id v k at in
    let tickets_all = total_push tickets_of (set s.views id k) n in
    let had : tickets_of v ≡ 0 = ap (λ (j : ℕ). min j 1) idle in
    let has : tickets_of k ≡ 0 = ap (λ (j : ℕ). min j 1) idle in
    let has' : tickets_of n ≡ 0 = refl in
    let rooms_kept = total_set room_of s.views id v k at in
    let rooms_all = total_push room_of (set s.views id k) n in
    let r0 : room_of v ≡ r = refl in
    let r1 : room_of k ≡ r - d = refl in
    let r2 : room_of n ≡ d = refl in
    let was = h.out in
    let all = h.rooms in
    let part : v.number + (v.room - share v.room) + share v.room ≤ v.number + v.room = omega arith in
    record {
      log = h.log;
      next = h.next;
      serving = h.serving;
      words = h.words;
      legal = h.legal;
      limit = h.limit;
      fits = h.fits;
      out = omega arith;
      rooms = omega arith;
      home = home_push h.log record { words = s.words; homes = s.homes; views = set s.views id k } n (λ e. omega arith) (home_same h.log s s.words id v k at (λ e. omega arith) (λ e. omega arith) h.home);
      each = each_push (FitsLog h.limit h.log h.next h.serving) (set s.views id k) n record {
        begins = λ _. f.begins (omega arith);
        limit_is = λ _. f.limit_is (omega arith);
        own = λ _. f.unused n.number (omega arith) (omega arith) ∙ sym (calls_by-none n.number v.seen h.log (f.begins (omega arith)) (f.unused n.number (omega arith) (omega arith)));
        unused = λ j lo hi. f.unused j (omega arith) (omega arith);
        out = λ p. absurd (omega arith);
        turn = λ e. absurd (omega arith);
        told = λ t e. absurd (none-some t e);
      } (each_set (FitsLog h.limit h.log h.next h.serving) s.views id k record {
        begins = λ _. f.begins (omega arith);
        limit_is = λ _. f.limit_is (omega arith);
        own = λ _. f.own (omega arith);
        unused = λ j lo hi. f.unused j lo (omega arith);
        out = λ p. absurd (omega arith);
        turn = λ e. absurd (omega arith);
        told = λ t e. let g = f.told t e in (g.0, g.1, part_of v k (omega arith) (omega arith) t.number g.2);
      } (λ j u _ e. h.each j u e));
      apart = apart_push (set s.views id k) n (apart_set s.views id k h.apart (λ j u ne e.
          let a = h.apart id j v u (λ q. ne (sym q)) at e in
          let b = h.apart j id u v ne e at in (
            record { numbers = apart_part v k u (omega arith) (omega arith) a.numbers; tickets = a.tickets; told = a.told },
            record { numbers = ⊎_swap (apart_part v k u (omega arith) (omega arith) a.numbers); tickets = b.tickets; told = λ t q. part_of v k (omega arith) (omega arith) t.number (b.told t q) },
          )))
          (each_set (λ u. AreApart n u × AreApart u n) s.views id k (
            record { numbers = inr (omega arith); tickets = λ p. absurd (omega arith); told = λ t q. absurd (none-some t q) },
            record { numbers = inl (omega arith); tickets = λ _ p. absurd (omega arith); told = λ t q. part_of v n (omega arith) (omega arith) t.number (f.told t q).2 },
          ) (λ j u ne e.
          let a = h.apart id j v u (λ q. ne (sym q)) at e in
          let b = h.apart j id u v ne e at in (
            record { numbers = apart_part v n u (omega arith) (omega arith) a.numbers; tickets = λ p. absurd (omega arith); told = λ t q. absurd (none-some t q) },
            record { numbers = ⊎_swap (apart_part v n u (omega arith) (omega arith) a.numbers); tickets = λ _ p. absurd (omega arith); told = λ t q. part_of v n (omega arith) (omega arith) t.number (b.told t q) },
          )));
      numbers = h.numbers ++ n.number ∷ [];
      made = numbers_push h.numbers (set s.views id k) n (numbers_set h.numbers s.views id v k h.made at (λ p. (omega arith, refl)));
      strangers = λ j ne. h.strangers j (λ i e. ne i (at_longer h.numbers (n.number ∷ []) i j e));
    }

pub tells : (id : ℕ) (v : View) (other : ℕ) (w : View) → v.stage ≡ 0 → w.stage ≡ 0 → 0 < v.room → 0 < w.room → Joins IsLocked id v other w (with_news v w) spent_view
tells id v other w idle idle' live live' s h at ne at' =
    let f = h.each id v at in
    let at_w : get_elem? s.views other ≡ some w = sym (set_else s.views id other (with_news v w) ne) ∙ at' in
    let g = h.each other w at_w in
    let vw = h.apart id other v w (λ q. ne (sym q)) at at_w in
    let wv = h.apart other id w v ne at_w at in
    let u = with_news v w in
    let views = set s.views id u in
    let c1 = total_set tickets_of s.views id v u at in
    let c2 = total_set tickets_of views other w spent_view at' in
    let t1 : tickets_of v ≡ 0 = ap (λ (j : ℕ). min j 1) idle in
    let t2 : tickets_of u ≡ 0 = ap (λ (j : ℕ). min j 1) idle in
    let t3 : tickets_of w ≡ 0 = ap (λ (j : ℕ). min j 1) idle' in
    let t4 : tickets_of spent_view ≡ 0 = refl in
    let r1 = total_set room_of s.views id v u at in
    let r2 = total_set room_of views other w spent_view at' in
    let r3 : room_of u ≡ room_of v = refl in
    let r4 : room_of spent_view ≡ 0 = refl in
    let was = h.out in
    let all = h.rooms in
    let not_v : IsNotOf w.number v = ⊎_elim (λ (a : v.number + v.room ≤ w.number). inr (omega arith)) (λ (a : w.number + w.room ≤ v.number). inl (omega arith)) vw.numbers in
    record {
      log = h.log;
      next = h.next;
      serving = h.serving;
      words = h.words;
      legal = h.legal;
      limit = h.limit;
      fits = h.fits;
      out = omega arith;
      rooms = omega arith;
      home = home_same h.log record { words = s.words; homes = s.homes; views = views } s.words other w spent_view at' (λ e. omega arith) (λ e. omega arith) (home_same h.log s s.words id v u at (λ e. omega arith) (λ e. omega arith) h.home);
      each = each_set (FitsLog h.limit h.log h.next h.serving) views other spent_view record {
        begins = λ p. absurd (omega arith);
        limit_is = λ p. absurd (omega arith);
        own = λ p. absurd (omega arith);
        unused = λ k lo hi. absurd (omega arith);
        out = λ p. absurd (omega arith);
        turn = λ e. absurd (omega arith);
        told = λ t e. absurd (none-some t e);
      } (λ j x _ e. each_set (FitsLog h.limit h.log h.next h.serving) s.views id u record {
        begins = f.begins;
        limit_is = λ _. f.limit_is (omega arith);
        own = f.own;
        unused = f.unused;
        out = f.out;
        turn = λ e. absurd (omega arith);
        told = λ t e. let q : record { number = w.number; seen = w.seen } ≡ t = cc e in subst (λ (t : EndedSeat). Begins t.seen h.log × (calls_by t.number h.log ≡ calls_by t.number t.seen) × IsNotOf t.number v) q (g.begins live', g.own live', not_v);
      } (λ j x _ e. h.each j x e) j x e);
      apart = λ j k x y n e e'. apart_set_on (λ _. Unit {0}) views other spent_view
          (λ j k x y _ _ nj nk n e e'. apart_set_on (λ i. i ≢ other) s.views id u (λ j k x y _ _ _ _ n e e'. h.apart j k x y n e e') (λ j x q n e.
          let a = h.apart id j v x (λ q. n (sym q)) at e in
          let b = h.apart j id x v n e at in
          let c = h.apart other j w x (λ r. q (sym r)) at_w e in (
            record { numbers = a.numbers; tickets = λ p. absurd (omega arith); told = λ t e. let q : record { number = w.number; seen = w.seen } ≡ t = cc e in subst (λ (t : EndedSeat). IsNotOf t.number x) q (⊎_elim (λ (a : w.number + w.room ≤ x.number). inl (omega arith)) (λ (a : x.number + x.room ≤ w.number). inr (omega arith)) c.numbers) },
            record { numbers = b.numbers; tickets = λ _ p. absurd (omega arith); told = b.told },
          )) j k x y nj nk n e e')
          (λ j x _ q e. (
            record { numbers = inl (omega arith); tickets = λ p. absurd (omega arith); told = λ t p. absurd (none-some t p) },
            record { numbers = inr (omega arith); tickets = λ _ p. absurd (omega arith); told = λ t p. inr (omega arith) },
          )) j k x y tt tt n e e';
      numbers = h.numbers;
      made = numbers_set h.numbers views other w spent_view (numbers_set h.numbers s.views id v u h.made at (λ p. (live, refl))) at' (λ p. absurd (omega arith));
      strangers = h.strangers;
    }

pub opens : (log : History) (limit : ℕ) → log.calls ≡ [] → IsLegal log → 1 ≤ limit → IsLocked (opening (1 ∷ 0 ∷ 0 ∷ []) (Some log ∷ []) (first_view log limit))
opens log limit first legal le =
    let one : entries_of log ≡ 1 = (let e = ap length first in omega arith) in
    record {
      log = log;
      next = 0;
      serving = 0;
      words = ap (λ (n : ℕ). n ∷ 0 ∷ 0 ∷ []) (sym one);
      legal = legal;
      limit = limit;
      fits = omega arith;
      out = refl;
      rooms = omega arith;
      home = inl (refl, λ i v e. only (λ u. u.stage ≢ 2) (λ q. omega arith) i v e);
      each = only (FitsLog limit log 0 0) record {
        begins = λ _. begins_self log;
        limit_is = λ _. refl;
        own = λ _. refl;
        unused = λ k lo hi. ap (events_by k) first;
        out = λ p. absurd (omega arith);
        turn = λ e. absurd (omega arith);
        told = λ t e. absurd (none-some t e);
      };
      apart = λ i j v w ne e f. absurd (ne (zero_at i v e ∙ sym (zero_at j w f)));
      numbers = 0 ∷ [];
      made = record { one_each = refl; own = λ i v e live. start i v e };
      strangers = λ k ne. ap (events_by k) first;
    }
  where
    only : (K : View → Type 0) → K (first_view log limit) → (i : ℕ) (v : View) → get_elem? (first_view log limit ∷ []) i ≡ some v → K v
    only K k zero v e = subst K (some-injective _ _ e) k
    only K k (suc i) v e = absurd (some-ne-none v (sym e))

    zero_at : (i : ℕ) (v : View) → get_elem? (first_view log limit ∷ []) i ≡ some v → i ≡ 0
    zero_at zero v e = refl
    zero_at (suc i) v e = absurd (some-ne-none v (sym e))

    start : (i : ℕ) (v : View) → get_elem? (first_view log limit ∷ []) i ≡ some v → get_elem? (0 ∷ []) i ≡ some v.number
    start zero v e = ap (λ (u : View). some u.number) (some-injective (first_view log limit) v e)
    start (suc i) v e = absurd (some-ne-none v (sym e))
