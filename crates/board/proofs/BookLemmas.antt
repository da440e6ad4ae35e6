-- A book with one entry more.
use Rattle.std.proofs.Common.{◌≡◌, ℕ, ◌+◌, ◌<◌, ◌≤◌, Bool, true, false, cond, ◌&&◌, ◌||◌, ◌==◌, not, nat_lt, if◌then◌else◌, Option, Some, None, is_some, option_map, MatchOption, IfSome, List, [], ◌∷◌, ◌++◌, length, length-append, refl, sym, ap, ◌∙◌, subst, ⊎_elim, inr, arith}
use Rattle.std.specs.Prelude.{slice_index_or, slice_set}
use Rattle.std.proofs.lemmas.Bool.{eq-eqb, ne_eqb, cases_eq}
use Rattle.std.proofs.lemmas.List.{get_or-set_same, get_or-set_other, length-set}
use Rattle.ball_model.specs.declared.names.BatchName.{BatchName}
use Rattle.ball_model.specs.declared.history.Posted.{Posted}
use Rattle.ball_model.specs.declared.history.Posted.TheVariants as posted
use Rattle.ball_model.specs.declared.history.Kept.{Kept}
use Rattle.ball_model.specs.declared.history.Kept.TheVariants as replies
use Rattle.ball_model.specs.Job.{Job}
use Rattle.ball_model.specs.Join.{Holding}
use Rattle.ball_model.specs.Batches.{BatchValue, true_batch}
use Rattle.ball_model.specs.State.{State, StandsFor}
use Rattle.ball_model.specs.History.{HistoryEvent, Post, Fetch, Keep, Recall, Drop, Entry, History, entry, with_entry, same_name, Object, after, board_of, entries_of, IsAnswer, IsLegal, holding_in, post_reply, keep_reply, is_further, is_new_post, is_new_keep}
use Rattle.ball_model.proofs.HistoryLemmas.{legal-push, board_of-push, same_name-true}
use Rattle.board.specs.Noted.{IsNext}
use Rattle.board.specs.Book.{BookHas, HasStanding, HasContents, HasSnapshots}

-- the history after room was made and a call was noted
pub noted : (h : History) (room next : List Entry) (e : Entry) → room ≡ h.calls → next ≡ room ++ e ∷ [] → record { job = h.job; calls = next } ≡ with_entry h e
noted h room next e same put = ap (λ (l : List Entry). record { job = h.job; calls = l }) (put ∙ ap (λ (l : List Entry). l ++ e ∷ []) same)

-- and it is the next one, where there were fewer entries than the limit
pub noted_next : (limit by entries : ℕ) (h old : History) (room next : List Entry) (e : HistoryEvent) → room ≡ h.calls → next ≡ room ++ entry by e ∷ [] →
    IsLegal (record { job = h.job; calls = next }) → h ≡ old → entries ≡ entries_of h → entries < limit → IsNext limit by old (record { job = h.job; calls = next })
noted_next limit by entries h old room next e same put legal view count few =
    (legal, inr (e, rw (← view) (noted h room next (entry by e) same put, subst (λ n. n < limit) count few)))

-- ---- what stands, and what is kept
module _ {A C : Type 0} (value : A → BatchValue) (state : C → State) where
  pub stands-found : (j : Job) (o : Object) (find : BatchName → Option A) (name : BatchName) (a : A) → HasStanding value j o find → find name ≡ Some a → (o.stands name ≡ true) × (value a ≡ true_batch j name)
  stands-found j o find name a h e = subst (λ (x : Option A). MatchOption x (o.stands name ≡ false) (λ b. (o.stands name ≡ true) × (value b ≡ true_batch j name))) e (h name)

  pub stands-none : (j : Job) (o : Object) (find : BatchName → Option A) (name : BatchName) → HasStanding value j o find → find name ≡ None → o.stands name ≡ false
  stands-none j o find name h e = subst (λ (x : Option A). MatchOption x (o.stands name ≡ false) (λ b. (o.stands name ≡ true) × (value b ≡ true_batch j name))) e (h name)

  stands-is : (j : Job) (o : Object) (find : BatchName → Option A) (name : BatchName) → HasStanding value j o find → is_some (find name) ≡ o.stands name
  stands-is j o find name h = go (find name) (h name)
    where
      go : (x : Option A) → MatchOption x (o.stands name ≡ false) (λ b. (o.stands name ≡ true) × (value b ≡ true_batch j name)) → is_some x ≡ o.stands name
      go None e = sym e
      go (Some a) e = sym e.0

  -- the reply that the map gives is the board's
  pub post_reply-is : (j : Job) (o : Object) (find : BatchName → Option A) (floor : ℕ) (name : BatchName) (r : Posted) → HasStanding value j o find → floor ≡ o.floor
      → r ≡ (if nat_lt name.superstep floor then posted.Old else (if is_some (find name) then posted.Known else posted.New)) → r ≡ post_reply o name
  post_reply-is j o find floor name r h f e =
      e ∙ ap (λ (k : ℕ × Bool). if nat_lt name.superstep k.0 then posted.Old else (if k.1 then posted.Known else posted.New)) (λ i. (f i, stands-is j o find name h i))

  pub stands-put : (j : Job) (o : Object) (find next : BatchName → Option A) (name : BatchName) (a : A) (r : Posted) → HasStanding value j o find → value a ≡ true_batch j name
      → ((n : BatchName) → next n ≡ cond (is_new_post r && same_name n name) (Some a) (find n)) → HasStanding value j (after o (Post name r)) next
  stands-put j o find next name a r h t put n =
      subst (λ (x : Option A). MatchOption x ((after o (Post name r)).stands n ≡ false) (λ b. ((after o (Post name r)).stands n ≡ true) × (value b ≡ true_batch j n))) (sym (put n)) (go (is_new_post r) (same_name n name) refl)
    where
      go : (new here : Bool) → same_name n name ≡ here → MatchOption (cond (new && here) (Some a) (find n)) (((new && here) || o.stands n) ≡ false) (λ b. (((new && here) || o.stands n) ≡ true) × (value b ≡ true_batch j n))
      go true true e = (refl, subst (λ (m : BatchName). value a ≡ true_batch j m) (sym (same_name-true n name e)) t)
      go true false e = h n
      go false here e = h n

  pub stands-dropped : (j : Job) (o : Object) (find next : BatchName → Option A) (s : ℕ) → HasStanding value j o find
      → ((n : BatchName) → next n ≡ cond (nat_lt n.superstep s) None (find n)) → HasStanding value j (after o (Drop s)) next
  stands-dropped j o find next s h put n =
      subst (λ (x : Option A). MatchOption x ((after o (Drop s)).stands n ≡ false) (λ b. ((after o (Drop s)).stands n ≡ true) × (value b ≡ true_batch j n))) (sym (put n)) (go (nat_lt n.superstep s) (o.stands n) (find n) (h n))
    where
      go : (below st : Bool) (x : Option A) → MatchOption x (st ≡ false) (λ b. (st ≡ true) × (value b ≡ true_batch j n))
          → MatchOption (cond below None x) ((st && not below) ≡ false) (λ b. ((st && not below) ≡ true) × (value b ≡ true_batch j n))
      go true true x k = refl
      go true false x k = refl
      go false true x k = k
      go false false x k = k

  -- what one more place would have
  kept-is : (o : Object) (kept : List (Option C)) (p : ℕ) (x : Option C) → HasContents state o kept → slice_index_or kept p None ≡ x → o.kept p ≡ option_map (λ c. holding_in (state c)) x
  kept-is o kept p x h e = sym (h p) ∙ ap (option_map (λ c. holding_in (state c))) e

  pub kept-found : (o : Object) (kept : List (Option C)) (p : ℕ) (c : C) → HasContents state o kept → slice_index_or kept p None ≡ Some c → o.kept p ≡ Some (holding_in (state c))
  kept-found o kept p c h e = kept-is o kept p (Some c) h e

  pub snapshot-found : (j : Job) (kept : List (Option C)) (p : ℕ) (c : C) → HasSnapshots state j kept → slice_index_or kept p None ≡ Some c → StandsFor j p (state c).superstep (state c)
  snapshot-found j kept p c h e = subst (λ (x : Option C). IfSome x (λ c. StandsFor j p (state c).superstep (state c))) e (h p)

  pub keep_reply-is : (o : Object) (kept : List (Option C)) (c : C) (r : Kept) → HasContents state o kept
      → r ≡ (if is_further (option_map (λ c. holding_in (state c)) (slice_index_or kept (state c).part.number None)) (holding_in (state c)) then replies.New else replies.Behind)
      → r ≡ keep_reply o (holding_in (state c))
  keep_reply-is o kept c r h e = e ∙ ap (λ (x : Option Holding). if is_further x (holding_in (state c)) then replies.New else replies.Behind) (h (state c).part.number)

  -- the places after one was put, where it was
  abbrev Put : Bool → List (Option C) → C → List (Option C)
  Put new kept c = if new then slice_set kept (state c).part.number (Some c) else kept

  pub contents-put : (o : Object) (kept next : List (Option C)) (c : C) (r : Kept) → HasContents state o kept → (state c).part.number < length kept
      → next ≡ Put (is_new_keep r) kept c → HasContents state (after o (Keep (holding_in (state c)) r)) next
  contents-put o kept next c r h fits put p = subst (λ (l : List (Option C)). option_map (λ c. holding_in (state c)) (slice_index_or l p None) ≡ (after o (Keep (holding_in (state c)) r)).kept p) (sym put) (go (is_new_keep r))
    where
      at : ℕ
      at = (state c).part.number

      go : (new : Bool) → option_map (λ c. holding_in (state c)) (slice_index_or (Put new kept c) p None) ≡ (if new && (p == at) then Some (holding_in (state c)) else o.kept p)
      go false = h p
      go true = ⊎_elim
          (λ (e : p ≡ at).
          let here : slice_index_or (slice_set kept at (Some c)) p None ≡ Some c = ap (λ (k : ℕ). slice_index_or (slice_set kept at (Some c)) k None) e ∙ get_or-set_same kept at (Some c) None fits in
          ap (option_map (λ c. holding_in (state c))) here ∙ sym (ap (λ (b : Bool). if b then Some (holding_in (state c)) else o.kept p) (eq-eqb p at e)))
          (λ (ne : p ≡ at → ⊥).
          ap (option_map (λ c. holding_in (state c))) (get_or-set_other kept at p (Some c) None ne) ∙ (h p ∙ sym (ap (λ (b : Bool). if b then Some (holding_in (state c)) else o.kept p) (ne_eqb p at ne))))
          (cases_eq p at)

  pub snapshots-put : (j : Job) (kept next : List (Option C)) (c : C) (new : Bool) → HasSnapshots state j kept → (state c).part.number < length kept
      → StandsFor j (state c).part.number (state c).superstep (state c) → next ≡ Put new kept c → HasSnapshots state j next
  snapshots-put j kept next c new h fits stands put p = subst (λ (l : List (Option C)). IfSome (slice_index_or l p None) (λ c. StandsFor j p (state c).superstep (state c))) (sym put) (go new)
    where
      at : ℕ
      at = (state c).part.number

      go : (new : Bool) → IfSome (slice_index_or (Put new kept c) p None) (λ c. StandsFor j p (state c).superstep (state c))
      go false = h p
      go true = ⊎_elim
          (λ (e : p ≡ at). subst (λ (k : ℕ). IfSome (slice_index_or (slice_set kept at (Some c)) k None) (λ c. StandsFor j k (state c).superstep (state c))) (sym e)
          (subst (λ (x : Option C). IfSome x (λ c. StandsFor j at (state c).superstep (state c))) (sym (get_or-set_same kept at (Some c) None fits)) stands))
          (λ (ne : p ≡ at → ⊥). subst (λ (x : Option C). IfSome x (λ c. StandsFor j p (state c).superstep (state c))) (sym (get_or-set_other kept at p (Some c) None ne)) (h p))
          (cases_eq p at)

  -- ---- one entry more
  keeps-entry : (h n : History) (by : ℕ) (e : HistoryEvent) (entries entries' floor floor' : ℕ) (find find' : BatchName → Option A) (kept kept' : List (Option C))
      → BookHas value state h entries floor find kept → n ≡ with_entry h (entry by e) → entries' ≡ entries + 1 → IsAnswer (board_of h) e
      → floor' ≡ (after (board_of h) e).floor → HasStanding value h.job (after (board_of h) e) find' → length kept' ≡ length kept → HasContents state (after (board_of h) e) kept' → HasSnapshots state h.job kept'
      → BookHas value state n entries' floor' find' kept'
  keeps-entry h n by e entries entries' floor floor' find find' kept kept' k same more may f st len c sn =
      let p = board_of-push h (entry by e) in
      let count = k.entries_are in
      let longer = length-append h.calls (entry by e ∷ []) in
      subst (λ (x : History). BookHas value state x entries' floor' find' kept') (sym same) record {
        legal = legal-push h (entry by e) k.legal may;
        entries_are = omega arith;
        floor_is = f ∙ sym (ap (λ (o : Object). o.floor) p);
        standing = subst (λ (o : Object). HasStanding value h.job o find') (sym p) st;
        places = len ∙ k.places;
        contents = subst (λ (o : Object). HasContents state o kept') (sym p) c;
        snapshots = sn;
      }

  pub keeps-fetch : (h n : History) (by : ℕ) (name : BatchName) (entries entries' floor : ℕ) (find : BatchName → Option A) (kept : List (Option C))
      → BookHas value state h entries floor find kept → n ≡ with_entry h (entry by (Fetch name)) → entries' ≡ entries + 1 → (board_of h).stands name ≡ true → BookHas value state n entries' floor find kept
  keeps-fetch h n by name entries entries' floor find kept k same more stands = keeps-entry h n by (Fetch name) entries entries' floor floor find find kept kept k same more stands k.floor_is k.standing refl k.contents k.snapshots

  pub keeps-recall : (h n : History) (by p least : ℕ) (c : C) (entries entries' floor : ℕ) (find : BatchName → Option A) (kept : List (Option C))
      → BookHas value state h entries floor find kept → n ≡ with_entry h (entry by (Recall p least (holding_in (state c)))) → entries' ≡ entries + 1 → slice_index_or kept p None ≡ Some c → least ≤ (state c).superstep
      → BookHas value state n entries' floor find kept
  keeps-recall h n by p least c entries entries' floor find kept k same more found far =
      keeps-entry h n by (Recall p least (holding_in (state c))) entries entries' floor floor find find kept kept k same more (kept-found (board_of h) kept p c k.contents found, far) k.floor_is k.standing refl k.contents k.snapshots

  pub keeps-post : (h n : History) (by : ℕ) (name : BatchName) (r : Posted) (a : A) (entries entries' floor : ℕ) (find find' : BatchName → Option A) (kept : List (Option C))
      → BookHas value state h entries floor find kept → n ≡ with_entry h (entry by (Post name r)) → entries' ≡ entries + 1 → value a ≡ true_batch h.job name
      → r ≡ (if nat_lt name.superstep floor then posted.Old else (if is_some (find name) then posted.Known else posted.New))
      → ((n : BatchName) → find' n ≡ cond (is_new_post r && same_name n name) (Some a) (find n))
      → BookHas value state n entries' floor find' kept
  keeps-post h n by name r a entries entries' floor find find' kept k same more t reply put =
      keeps-entry h n by (Post name r) entries entries' floor floor find find' kept kept k same more (post_reply-is h.job (board_of h) find floor name r k.standing k.floor_is reply) k.floor_is
      (stands-put h.job (board_of h) find find' name a r k.standing t put) refl k.contents k.snapshots

  pub keeps-drop : (h n : History) (by s : ℕ) (entries entries' floor floor' : ℕ) (find find' : BatchName → Option A) (kept : List (Option C))
      → BookHas value state h entries floor find kept → n ≡ with_entry h (entry by (Drop s)) → entries' ≡ entries + 1 → floor' ≡ (after (board_of h) (Drop s)).floor
      → ((n : BatchName) → find' n ≡ cond (nat_lt n.superstep s) None (find n))
      → BookHas value state n entries' floor' find' kept
  keeps-drop h n by s entries entries' floor floor' find find' kept k same more f put =
      keeps-entry h n by (Drop s) entries entries' floor floor' find find' kept kept k same more tt f (stands-dropped h.job (board_of h) find find' s k.standing put) refl k.contents k.snapshots

  length-put : (new : Bool) (kept : List (Option C)) (c : C) → length (Put new kept c) ≡ length kept
  length-put true kept c = length-set kept (state c).part.number (Some c)
  length-put false kept c = refl

  pub keeps-keep : (h n : History) (by : ℕ) (r : Kept) (c : C) (entries entries' floor : ℕ) (find : BatchName → Option A) (kept kept' : List (Option C))
      → BookHas value state h entries floor find kept → n ≡ with_entry h (entry by (Keep (holding_in (state c)) r)) → entries' ≡ entries + 1 → (state c).part.number < length kept
      → StandsFor h.job (state c).part.number (state c).superstep (state c)
      → r ≡ (if is_further (option_map (λ c. holding_in (state c)) (slice_index_or kept (state c).part.number None)) (holding_in (state c)) then replies.New else replies.Behind)
      → kept' ≡ Put (is_new_keep r) kept c
      → BookHas value state n entries' floor find kept'
  keeps-keep h n by r c entries entries' floor find kept kept' k same more fits stands reply put =
      keeps-entry h n by (Keep (holding_in (state c)) r) entries entries' floor floor find find kept kept' k same more (keep_reply-is (board_of h) kept c r k.contents reply) k.floor_is k.standing
      (ap length put ∙ length-put (is_new_keep r) kept c) (contents-put (board_of h) kept kept' c r k.contents fits put) (snapshots-put h.job kept kept' c (is_new_keep r) k.snapshots fits stands put)
