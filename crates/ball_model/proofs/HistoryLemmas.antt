-- Histories of a board that go on.
use Rattle.std.proofs.Common.{◌≡◌, ◌⊎◌, ℕ, ◌≤◌, Bool, true, false, not, ◌==◌, ◌&&◌, nat_lt, List, [], ◌∷◌, ◌++◌, Option, None, Some, refl, ap, sym, ◌∙◌, subst, inl, inr, ⊎_elim, arith, append_assoc, append-nil, if◌then◌else◌}
use Rattle.std.specs.List.{AllByRecursion}
use Rattle.std.proofs.lemmas.Bool.{leb-true, le-leb, ltb-true, ltb-false, le-ltb, and_parts, and_from, eqb-true, eq-eqb, ne_eqb, or_cases, or_left, or_right, not-true, not_from_false}
use Rattle.ball_model.specs.declared.names.BatchName.{BatchName}
use Rattle.ball_model.specs.declared.history.Posted.{Posted}
use Rattle.ball_model.specs.declared.history.Posted.TheVariants as posted
use Rattle.ball_model.specs.declared.history.Kept.{Kept}
use Rattle.ball_model.specs.declared.history.Kept.TheVariants as kept
use Rattle.ball_model.specs.Join.{Holding}
use Rattle.ball_model.specs.History.{HistoryEvent, Post, Fetch, Keep, Recall, Drop, Entry, History, with_entry, Begins, events_by, calls_by, same_name, Object, empty, is_further, keep_reply, is_kept_from, is_new_post, is_new_keep, after, after_all, board_of, IsAnswer, AreAnswers, IsLegal, SparesName, entry, StandingIsPosted, PostedStands, KeptNeverGoesBack, FloorNeverGoesDown, NothingBelowFloor, BeginningIsLegal, LastIsAnswer}

-- ---- names
pub same_name-true : (a b : BatchName) → same_name a b ≡ true → a ≡ b
same_name-true a b e =
    let two = and_parts ((a.superstep == b.superstep) && (a.source == b.source)) (a.target == b.target) e in
    let one = and_parts (a.superstep == b.superstep) (a.source == b.source) two.0 in
    let s = eqb-true a.superstep b.superstep one.0 in
    let q = eqb-true a.source b.source one.1 in
    let p = eqb-true a.target b.target two.1 in
    λ i. record { superstep = s i; source = q i; target = p i }

pub same_name-self : (a : BatchName) → same_name a a ≡ true
same_name-self a =
    and_from ((a.superstep == a.superstep) && (a.source == a.source)) (a.target == a.target)
    (and_from (a.superstep == a.superstep) (a.source == a.source) (eq-eqb a.superstep a.superstep refl) (eq-eqb a.source a.source refl))
    (eq-eqb a.target a.target refl)

-- ---- one history behind another
pub after_all-append : (o : Object) (xs ys : List Entry) → after_all o (xs ++ ys) ≡ after_all (after_all o xs) ys
after_all-append o [] ys = refl
after_all-append o (x ∷ xs) ys = after_all-append (after o x.event) xs ys

pub answers-front : (o : Object) (xs ys : List Entry) → AreAnswers o (xs ++ ys) → AreAnswers o xs
answers-front o [] ys h = tt
answers-front o (x ∷ xs) ys h = (h.0, answers-front (after o x.event) xs ys h.1)

pub answers-rest : (o : Object) (xs ys : List Entry) → AreAnswers o (xs ++ ys) → AreAnswers (after_all o xs) ys
answers-rest o [] ys h = h
answers-rest o (x ∷ xs) ys h = answers-rest (after o x.event) xs ys h.1

answers-push : (o : Object) (xs : List Entry) (e : Entry) → AreAnswers o xs → IsAnswer (after_all o xs) e.event → AreAnswers o (xs ++ e ∷ [])
answers-push o [] e h may = (may, tt)
answers-push o (x ∷ xs) e h may = (h.0, answers-push (after o x.event) xs e h.1 may)

-- a legal history with one entry more, whose reply is the board's, is legal
pub legal-push : (h : History) (e : Entry) → IsLegal h → IsAnswer (board_of h) e.event → IsLegal (with_entry h e)
legal-push h e legal may = answers-push empty h.calls e legal may

pub board_of-push : (h : History) (e : Entry) → board_of (with_entry h e) ≡ after (board_of h) e.event
board_of-push h e = after_all-append empty h.calls (e ∷ [])

pub beginning_is_legal : BeginningIsLegal
beginning_is_legal h k b legal = answers-front empty h.calls b.calls.0 (subst (AreAnswers empty) (sym b.calls.1) legal)

pub last_is_answer : LastIsAnswer
last_is_answer h e legal = (answers-rest empty h.calls (e ∷ []) legal).0

later_board : (h k : History) (b : Begins h k) → board_of k ≡ after_all (board_of h) b.calls.0
later_board h k b = ap (after_all empty) (sym b.calls.1) ∙ after_all-append empty h.calls b.calls.0

-- ---- the floor
floor_after : (o : Object) (e : HistoryEvent) → o.floor ≤ (after o e).floor
floor_after o (Post n r) = omega arith
floor_after o (Fetch n) = omega arith
floor_after o (Keep c r) = omega arith
floor_after o (Recall p s c) = omega arith
floor_after o (Drop s) = omega arith

floor_from : (o : Object) (es : List Entry) → o.floor ≤ (after_all o es).floor
floor_from o [] = omega arith
floor_from o (e ∷ es) = let a = floor_after o e.event in let b = floor_from (after o e.event) es in omega arith

pub floor_never_goes_down : FloorNeverGoesDown
floor_never_goes_down h k b = subst (λ (o : Object). (board_of h).floor ≤ o.floor) (sym (later_board h k b)) (floor_from (board_of h) b.calls.0)

-- ---- what is kept
further_from : (old : Option Holding) (c : Holding) (s : ℕ) → is_further old c ≡ true → is_kept_from old s ≡ true → is_kept_from (Some c) s ≡ true
further_from None c s f k = absurd cc
further_from (Some d) c s f k =
    let a = ltb-true d.superstep c.superstep f in
    let b = leb-true s d.superstep k in
    le-leb s c.superstep (omega arith)

-- what was answered New is further
new_is_further : (b : Bool) (r : Kept) → r ≡ (if b then kept.New else kept.Behind) → is_new_keep r ≡ true → b ≡ true
new_is_further true r e n = refl
new_is_further false r e n = n' n e
  where
    n' : is_new_keep r ≡ true → r ≡ kept.Behind → false ≡ true
    n' n e = sym (ap is_new_keep e) ∙ n

kept_put : (o : Object) (c : Holding) (r : Kept) (p s : ℕ) → r ≡ keep_reply o c → is_kept_from (o.kept p) s ≡ true → is_kept_from ((after o (Keep c r)).kept p) s ≡ true
kept_put o c r p s e k = go (is_new_keep r && (p == c.partition)) refl
  where
    go : (b : Bool) → (is_new_keep r && (p == c.partition)) ≡ b → is_kept_from (if b then Some c else o.kept p) s ≡ true
    go false q = k
    go true q =
        let both = and_parts (is_new_keep r) (p == c.partition) q in
        let here : p ≡ c.partition = eqb-true p c.partition both.1 in
        further_from (o.kept c.partition) c s (new_is_further (is_further (o.kept c.partition) c) r e both.0) (subst (λ (n : ℕ). is_kept_from (o.kept n) s ≡ true) here k)

kept_after : (o : Object) (e : HistoryEvent) (p s : ℕ) → IsAnswer o e → is_kept_from (o.kept p) s ≡ true → is_kept_from ((after o e).kept p) s ≡ true
kept_after o (Post n r) p s a k = k
kept_after o (Fetch n) p s a k = k
kept_after o (Keep c r) p s a k = kept_put o c r p s a k
kept_after o (Recall q t c) p s a k = k
kept_after o (Drop t) p s a k = k

kept_from : (o : Object) (es : List Entry) (p s : ℕ) → AreAnswers o es → is_kept_from (o.kept p) s ≡ true → is_kept_from ((after_all o es).kept p) s ≡ true
kept_from o [] p s a k = k
kept_from o (e ∷ es) p s a k = kept_from (after o e.event) es p s a.1 (kept_after o e.event p s a.0 k)

pub kept_never_goes_back : KeptNeverGoesBack
kept_never_goes_back h k p s legal b kept =
    let rest = answers-rest empty h.calls b.calls.0 (subst (AreAnswers empty) (sym b.calls.1) legal) in
    subst (λ (o : Object). is_kept_from (o.kept p) s ≡ true) (sym (later_board h k b)) (kept_from (board_of h) b.calls.0 p s rest kept)

-- ---- names that stand
-- a post that was answered New, of that name
abbrev NewPost : BatchName → HistoryEvent → Type 0
NewPost name e = e ≡ Post name posted.New

new_post : (r : Posted) → is_new_post r ≡ true → r ≡ posted.New
new_post posted.Old e = absurd cc
new_post posted.Known e = absurd cc
new_post posted.New e = refl

stood : (o : Object) (e : HistoryEvent) (name : BatchName) → (after o e).stands name ≡ true → ((o.stands name ≡ true) × SparesName name e) ⊎ NewPost name e
stood o (Post n r) name h =
    ⊎_elim
    (λ (a : (is_new_post r && same_name name n) ≡ true).
    let both = and_parts (is_new_post r) (same_name name n) a in
    let here = same_name-true name n both.1 in
    let new = new_post r both.0 in
    inr (λ i. Post (sym here i) (new i)))
    (λ (a : o.stands name ≡ true). inl (a, tt))
    (or_cases (is_new_post r && same_name name n) (o.stands name) h)
stood o (Fetch n) name h = inl (h, tt)
stood o (Keep c r) name h = inl (h, tt)
stood o (Recall p s c) name h = inl (h, tt)
stood o (Drop s) name h =
    let both = and_parts (o.stands name) (not (nat_lt name.superstep s)) h in
    inl (both.0, ltb-false name.superstep s (not-true (nat_lt name.superstep s) both.1))

-- among these entries the name was posted, and not dropped since
record PostedAmong (name : BatchName) (es : List Entry) : Type 0 where
  before : List Entry
  by : ℕ
  later : List Entry
  calls : es ≡ before ++ record { by = by; event = Post name posted.New } ∷ later
  spared : AllByRecursion (λ e. SparesName name e.event) later

posted_among : (o : Object) (es : List Entry) (name : BatchName) → (after_all o es).stands name ≡ true
    → ((o.stands name ≡ true) × AllByRecursion (λ e. SparesName name e.event) es) ⊎ PostedAmong name es
posted_among o [] name h = inl (h, tt)
posted_among o (e ∷ es) name h =
    ⊎_elim
    (λ (a : ((after o e.event).stands name ≡ true) × AllByRecursion (λ e. SparesName name e.event) es).
    ⊎_elim
    (λ (b : (o.stands name ≡ true) × SparesName name e.event). inl (b.0, (b.1, a.1)))
    (λ (b : NewPost name e.event). inr (record {
      before = [];
      by = e.by;
      later = es;
      calls = λ i. record { by = e.by; event = b i } ∷ es;
      spared = a.1;
    }))
    (stood o e.event name a.0))
    (λ (a : PostedAmong name es). inr (record {
      before = e ∷ a.before;
      by = a.by;
      later = a.later;
      calls = ap (λ (l : List Entry). e ∷ l) a.calls;
      spared = a.spared;
    }))
    (posted_among (after o e.event) es name h)

pub standing_is_posted : StandingIsPosted
standing_is_posted h name stands =
    ⊎_elim
    (λ (a : (false ≡ true) × AllByRecursion (λ e. SparesName name e.event) h.calls). absurd cc)
    (λ (a : PostedAmong name h.calls). record { before = a.before; by = a.by; later = a.later; calls = a.calls; spared = a.spared })
    (posted_among empty h.calls name stands)

stands_after : (o : Object) (e : HistoryEvent) (name : BatchName) → SparesName name e → o.stands name ≡ true → (after o e).stands name ≡ true
stands_after o (Post n r) name spared h = or_right (is_new_post r && same_name name n) (o.stands name) h
stands_after o (Fetch n) name spared h = h
stands_after o (Keep c r) name spared h = h
stands_after o (Recall p s c) name spared h = h
stands_after o (Drop s) name spared h = and_from (o.stands name) (not (nat_lt name.superstep s)) h (not_from_false (nat_lt name.superstep s) (le-ltb name.superstep s spared))

stands_from : (o : Object) (es : List Entry) (name : BatchName) → AllByRecursion (λ e. SparesName name e.event) es → o.stands name ≡ true → (after_all o es).stands name ≡ true
stands_from o [] name spared h = h
stands_from o (e ∷ es) name spared h = stands_from (after o e.event) es name spared.1 (stands_after o e.event name spared.0 h)

pub posted_stands : PostedStands
posted_stands h name p =
    let o = after_all empty p.before in
    let now : board_of h ≡ after_all (after o (Post name posted.New)) p.later =
    ap (after_all empty) p.calls ∙ after_all-append empty p.before (record { by = p.by; event = Post name posted.New } ∷ p.later) in
    subst (λ (b : Object). b.stands name ≡ true) (sym now)
    (stands_from (after o (Post name posted.New)) p.later name p.spared (or_left (same_name name name) (o.stands name) (same_name-self name)))

-- ---- names and the floor
abbrev Above : Object → Type 0
Above o = (name : BatchName) → o.stands name ≡ true → o.floor ≤ name.superstep

-- a post below the floor is not answered New
new_is_above : (old known : Bool) (r : Posted) → r ≡ (if old then posted.Old else (if known then posted.Known else posted.New)) → is_new_post r ≡ true → old ≡ false
new_is_above false known r e n = refl
new_is_above true known r e n = n' n e
  where
    n' : is_new_post r ≡ true → r ≡ posted.Old → true ≡ false
    n' n e = sym n ∙ ap is_new_post e

above_after : (o : Object) (e : HistoryEvent) → IsAnswer o e → Above o → Above (after o e)
above_after o (Post n r) a above name h =
    ⊎_elim
    (λ (b : (is_new_post r && same_name name n) ≡ true).
    let both = and_parts (is_new_post r) (same_name name n) b in
    let here = same_name-true name n both.1 in
    subst (λ (m : BatchName). o.floor ≤ m.superstep) (sym here) (ltb-false n.superstep o.floor (new_is_above (nat_lt n.superstep o.floor) (o.stands n) r a both.0)))
    (λ (b : o.stands name ≡ true). above name b)
    (or_cases (is_new_post r && same_name name n) (o.stands name) h)
above_after o (Fetch n) a above name h = above name h
above_after o (Keep c r) a above name h = above name h
above_after o (Recall p s c) a above name h = above name h
above_after o (Drop s) a above name h =
    let both = and_parts (o.stands name) (not (nat_lt name.superstep s)) h in
    let x = above name both.0 in
    let y = ltb-false name.superstep s (not-true (nat_lt name.superstep s) both.1) in
    omega arith

above_from : (o : Object) (es : List Entry) → AreAnswers o es → Above o → Above (after_all o es)
above_from o [] a above = above
above_from o (e ∷ es) a above = above_from (after o e.event) es a.1 (above_after o e.event a.0 above)

pub nothing_below_floor : NothingBelowFloor
nothing_below_floor h name legal = above_from empty h.calls legal (λ name e. absurd cc) name

-- ---- beginnings, and what one caller did
pub begins_self : (h : History) → Begins h h
begins_self h = record { job = refl; calls = ([], append-nil h.calls) }

pub begins_trans : (h k l : History) → Begins h k → Begins k l → Begins h l
begins_trans h k l p q = record {
  job = q.job ∙ p.job;
  calls = (p.calls.0 ++ q.calls.0, sym (append_assoc h.calls p.calls.0 q.calls.0) ∙ (ap (λ (xs : List Entry). xs ++ q.calls.0) p.calls.1 ∙ q.calls.1));
}

pub begins_entry : (h : History) (e : Entry) → Begins h (with_entry h e)
begins_entry h e = record { job = refl; calls = (e ∷ [], refl) }

pub events_by-append : (n : ℕ) (xs ys : List Entry) → events_by n (xs ++ ys) ≡ events_by n xs ++ events_by n ys
events_by-append n [] ys = refl
events_by-append n (x ∷ xs) ys = go (x.by == n) (events_by-append n xs ys)
  where
    go : (b : Bool) → events_by n (xs ++ ys) ≡ events_by n xs ++ events_by n ys
        → (if b then x.event ∷ events_by n (xs ++ ys) else events_by n (xs ++ ys)) ≡ (if b then x.event ∷ events_by n xs else events_by n xs) ++ events_by n ys
    go true rest = ap (λ (l : List HistoryEvent). x.event ∷ l) rest
    go false rest = rest

-- an entry of another caller
pub calls_by-other : (n : ℕ) (h : History) (e : Entry) → (e.by ≡ n → ⊥) → calls_by n (with_entry h e) ≡ calls_by n h
calls_by-other n h e ne =
    events_by-append n h.calls (e ∷ []) ∙ (ap (λ (b : Bool). events_by n h.calls ++ (if b then e.event ∷ [] else [])) (ne_eqb e.by n ne) ∙ append-nil (events_by n h.calls))

-- an entry of that caller
pub calls_by-own : (n : ℕ) (h : History) (v : HistoryEvent) → calls_by n (with_entry h (entry n v)) ≡ calls_by n h ++ v ∷ []
calls_by-own n h v = events_by-append n h.calls (entry n v ∷ []) ∙ ap (λ (b : Bool). events_by n h.calls ++ (if b then v ∷ [] else [])) (eq-eqb n n refl)

nothing_before : (xs ys : List HistoryEvent) → xs ++ ys ≡ [] → xs ≡ []
nothing_before [] ys e = refl
nothing_before (x ∷ xs) ys e = absurd cc

-- a beginning of a history in which a caller did nothing
pub calls_by-none : (n : ℕ) (h k : History) → Begins h k → calls_by n k ≡ [] → calls_by n h ≡ []
calls_by-none n h k b none = nothing_before (calls_by n h) (events_by n b.calls.0) (sym (events_by-append n h.calls b.calls.0) ∙ (ap (events_by n) b.calls.1 ∙ none))
