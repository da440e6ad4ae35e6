-- What a call makes of a content is a content again.
use Rattle.std.proofs.Common.{◌≡◌, ◌≢◌, ℕ, ◌+◌, ◌<◌, ◌≤◌, max, Bool, true, false, not, ◌==◌, ◌&&◌, ◌||◌, nat_lt, if◌then◌else◌, refl, ap, sym, ◌∙◌, subst, inl, inr, arith}
use Rattle.std.specs.Prelude.{Option, None, Some, Result, Ok, Err}
use Rattle.std.proofs.Math.Numerals.{lt_of_le_of_ne}
use Rattle.std.proofs.lemmas.Bool.{eqb-false, lt-ltb, ltb-true, ltb-false, and_from, and_parts, cases_Bool, eqb-true, eq-eqb, or_cases, or_left, or_right, not_from_false}
use Rattle.ball_model.specs.declared.names.BatchName.{BatchName}
use Rattle.ball_model.specs.declared.names.Taken.{Taken}
use Rattle.ball_model.specs.declared.names.Taken.TheVariants as taken
use Rattle.ball_model.specs.declared.names.TakeError.{TakeError}
use Rattle.ball_model.specs.declared.names.TakeError.TheVariants as refusal
use Rattle.ball_model.specs.declared.names.CloseError.{CloseError}
use Rattle.ball_model.specs.declared.names.Verdict.TheVariants as verdict
use Rattle.ball_model.specs.PlanValue.{PlanValue}
use Rattle.ball_model.specs.Job.{Job}
use Rattle.ball_model.specs.Content.{Content, IsContent, same_plan, take_of, is_new, close_of, close_unless, verdict_at, after_close}
use Rattle.ball_model.specs.Join.{Holding, AreAlike, has_name, content_in, holding_of, union_of, join_of}
use Rattle.ball_model.specs.Steps.{Take, Close, start_content, content_after, content_after_take, content_after_close}
use Rattle.ball_model.specs.Held.{start_holding, held_take_answer, held_after, IsHeldBy, IsName}
use Rattle.ball_model.proofs.JoinLemmas.{window_parts, window_made, joined_included, content_back, holding_is_one, join_stays_alike, join_commutes, join_associates, join_repeats, join_is_union}

-- the answer to a batch, from its checks
abbrev answer_by : Bool → Bool → Bool → Bool → Bool → Bool → TakeError → Result Taken TakeError
answer_by a b c d e f late =
    if a then Err refusal.OtherJob else (if b then Err refusal.NotMine else (if c then Err refusal.OwnPartition else (if d then Ok taken.Old else (if e then Ok taken.Known else (if f then Err late else Ok taken.New)))))

new_by : (a b c d e f : Bool) (late : TakeError) → is_new (answer_by a b c d e f late) ≡ true → (c ≡ false) × (d ≡ false) × (f ≡ false)
new_by true b c d e f late h = absurd (cc)
new_by false true c d e f late h = absurd (cc)
new_by false false true d e f late h = absurd (cc)
new_by false false false true e f late h = absurd (cc)
new_by false false false false true f late h = absurd (cc)
new_by false false false false false true late h = absurd (cc)
new_by false false false false false false late h = (refl, refl, refl)

-- ---- contents
taken_content : (j : Job) (p : ℕ) (c : Content) (name : BatchName) → IsContent j.plan p c → IsName j.plan name → IsContent j.plan p (content_after_take j p c name)
taken_content j p c name cs ok = record {
  superstep = cs.superstep;
  names = λ s q e. elim (or_cases (is_new (take_of j.plan p c j.plan name) && ((s == name.superstep) && (q == name.source))) (c.holds s q) e) [
    | inl here ↦
        let new = and_parts (is_new (take_of j.plan p c j.plan name)) ((s == name.superstep) && (q == name.source)) here in
        let both = and_parts (s == name.superstep) (q == name.source) new.1 in
        let at : s ≡ name.superstep = eqb-true s name.superstep both.0 in
        let by : q ≡ name.source = eqb-true q name.source both.1 in
        let f = new_by (not (same_plan j.plan j.plan)) (not (name.target == p)) (name.source == p) (nat_lt name.superstep c.superstep) (c.holds name.superstep name.source) (nat_lt (c.superstep + 3) name.superstep) (refusal.TooEarly (c.superstep + 3)) new.0 in
        let low : c.superstep ≤ name.superstep = ltb-false name.superstep c.superstep f.1 in
        let high : name.superstep ≤ c.superstep + 3 = ltb-false (c.superstep + 3) name.superstep f.2 in
        window_made j.plan p c.superstep s q (record {
          from = omega arith;
          to = omega arith;
          limit = omega (arith, ok.superstep);
          part = omega (arith, ok.source);
          other = subst (λ (n : ℕ). not (n == p) ≡ true) (sym by) (not_from_false (name.source == p) f.0);
        })
    | inr held ↦ cs.names s q held
  ];
}

goes_by : (o : Option ℕ) (quiet last : Bool) (t u : ℕ) → close_unless o (if quiet then verdict.Stable else (if last then verdict.Limit else verdict.GoOn)) t ≡ Ok u → last ≡ false
goes_by (Some q) quiet last t u e = absurd (cc)
goes_by None true last t u e = absurd (cc)
goes_by None false true t u e = absurd (cc)
goes_by None false false t u e = refl

shut_content : (plan : PlanValue) (p : ℕ) (c : Content) → c.superstep < plan.limit → IsContent plan p c → IsContent plan p (after_close c)
shut_content plan p c lt cs = record {
  superstep = omega (arith, lt);
  names = λ s q e.
      let both = and_parts (nat_lt c.superstep s) (c.holds s q) e in
      let later : c.superstep < s = ltb-true c.superstep s both.0 in
      let w = window_parts plan p c.superstep s q (cs.names s q both.1) in
      window_made plan p (c.superstep + 1) s q (record { from = omega arith; to = omega (arith, w.to); limit = w.limit; part = w.part; other = w.other });
}

closed_by : (j : Job) (p : ℕ) (c : Content) (r : Result ℕ CloseError) → close_of j p c ≡ r → IsContent j.plan p c → IsContent j.plan p (content_after_close r c)
unfolding close_of verdict_at
closed_by j p c (Err e) is cs = cs
closed_by j p c (Ok t) is cs =
    let last : (c.superstep == j.plan.limit) ≡ false = goes_by _ _ (c.superstep == j.plan.limit) c.superstep t is in
    shut_content j.plan p c (below c.superstep j.plan.limit cs.superstep last) cs
  where
    below : (t n : ℕ) → t ≤ n → (t == n) ≡ false → t < n
    below t n le ne = lt_of_le_of_ne le (eqb-false t n ne)

closed_content : (j : Job) (p : ℕ) (c : Content) → IsContent j.plan p c → IsContent j.plan p (content_after_close (close_of j p c) c)
closed_content j p c cs = closed_by j p c (close_of j p c) refl cs

start_is_content : (plan : PlanValue) (p : ℕ) → IsContent plan p start_content
start_is_content plan p = record { superstep = omega arith; names = λ s q e. absurd (cc) }

-- ---- holdings
pub start_held : (j : Job) (p : ℕ) → p < j.plan.parts → IsHeldBy j p (start_holding j.plan p)
start_held j p lt = record { plan = refl; partition = refl; below = lt; holding = holding_is_one j.plan p start_content (start_is_content j.plan p) }

held_content : (j : Job) (p : ℕ) (h : Holding) → IsHeldBy j p h → IsContent j.plan h.partition (content_in h)
held_content j p h hb = subst (λ plan. IsContent plan h.partition (content_in h)) hb.plan hb.holding.content

pub taken_is_content : (j : Job) (p : ℕ) (h : Holding) (name : BatchName) → IsHeldBy j p h → IsName j.plan name → IsContent h.plan h.partition (content_after_take j h.partition (content_in h) name)
taken_is_content j p h name hb ok =
    subst (λ plan. IsContent plan h.partition (content_after_take j h.partition (content_in h) name)) (sym hb.plan)
    (taken_content j h.partition (content_in h) name (held_content j p h hb) ok)

pub taken_held : (j : Job) (p : ℕ) (h : Holding) (name : BatchName) → IsHeldBy j p h → IsName j.plan name → IsHeldBy j p (held_after j h (Take name))
taken_held j p h name hb ok = record {
  plan = hb.plan;
  partition = hb.partition;
  below = hb.below;
  holding = holding_is_one h.plan h.partition (content_after_take j h.partition (content_in h) name) (taken_is_content j p h name hb ok);
}

pub closed_is_content : (j : Job) (p : ℕ) (h : Holding) → IsHeldBy j p h → IsContent h.plan h.partition (content_after_close (close_of j h.partition (content_in h)) (content_in h))
closed_is_content j p h hb =
    let c = content_after_close (close_of j h.partition (content_in h)) (content_in h) in
    subst (λ plan. IsContent plan h.partition c) (sym hb.plan) (closed_content j h.partition (content_in h) (held_content j p h hb))

pub closed_held : (j : Job) (p : ℕ) (h : Holding) → IsHeldBy j p h → IsHeldBy j p (held_after j h Close)
closed_held j p h hb = record {
  plan = hb.plan;
  partition = hb.partition;
  below = hb.below;
  holding = holding_is_one h.plan h.partition (content_after_close (close_of j h.partition (content_in h)) (content_in h)) (closed_is_content j p h hb);
}

-- the content of the holding after a step
pub taken_back : (j : Job) (p : ℕ) (h : Holding) (name : BatchName) → IsHeldBy j p h → IsName j.plan name → content_in (held_after j h (Take name)) ≡ content_after j h.partition (content_in h) (Take name)
taken_back j p h name hb ok = content_back h.plan h.partition (content_after_take j h.partition (content_in h) name) (taken_is_content j p h name hb ok)

pub closed_back : (j : Job) (p : ℕ) (h : Holding) → IsHeldBy j p h → content_in (held_after j h Close) ≡ content_after j h.partition (content_in h) Close
closed_back j p h hb = content_back h.plan h.partition (content_after_close (close_of j h.partition (content_in h)) (content_in h)) (closed_is_content j p h hb)

pub held_alike : (j : Job) (p : ℕ) (h d : Holding) → IsHeldBy j p h → IsHeldBy j p d → AreAlike h d
held_alike j p h d hb db = record {
  plan = hb.plan ∙ sym db.plan;
  partition = hb.partition ∙ sym db.partition;
  left = hb.holding;
  right = db.holding;
}

pub joined_held : (j : Job) (p : ℕ) (h d : Holding) → IsHeldBy j p h → IsHeldBy j p d → IsHeldBy j p (join_of h d)
joined_held j p h d hb db = record {
  plan = hb.plan;
  partition = hb.partition;
  below = hb.below;
  holding = (join_stays_alike h d (held_alike j p h d hb db)).left;
}

-- ---- a batch that was heard
-- the answer to it is no refusal, and it is held or of an earlier superstep
pub record IsHeard (j : Job) (name : BatchName) (h : Holding) : Type 0 where
  pub plan : not (same_plan j.plan j.plan) ≡ false
  pub target : not (name.target == h.partition) ≡ false
  pub source : (name.source == h.partition) ≡ false
  pub heard : (nat_lt name.superstep h.superstep || has_name h.names name.superstep name.source) ≡ true

record IsAnswered (a b c d e f : Bool) (late : TakeError) : Type 0 where
  plan : a ≡ false
  target : b ≡ false
  source : c ≡ false
  heard : (d || ((is_new (answer_by a b c d e f late) && true) || e)) ≡ true

answered_by : (a b c d e f : Bool) (late : TakeError) (first : Taken) → answer_by a b c d e f late ≡ Ok first → IsAnswered a b c d e f late
answered_by true b c d e f late first h = absurd (cc)
answered_by false true c d e f late first h = absurd (cc)
answered_by false false true d e f late first h = absurd (cc)
answered_by false false false true e f late first h = record { plan = refl; target = refl; source = refl; heard = refl }
answered_by false false false false true f late first h = record { plan = refl; target = refl; source = refl; heard = refl }
answered_by false false false false false true late first h = absurd (cc)
answered_by false false false false false false late first h = record { plan = refl; target = refl; source = refl; heard = refl }

-- a batch that was taken, known or old is one
pub taken_is_heard : (j : Job) (p : ℕ) (h : Holding) (name : BatchName) (first : Taken) → IsHeldBy j p h → IsName j.plan name → held_take_answer j h name ≡ Ok first → IsHeard j name (held_after j h (Take name))
taken_is_heard j p h name first hb ok is =
    let c = content_in h in
    let new = is_new (take_of j.plan h.partition c j.plan name) in
    let was = answered_by (not (same_plan j.plan j.plan)) (not (name.target == h.partition)) (name.source == h.partition) (nat_lt name.superstep c.superstep) (c.holds name.superstep name.source) (nat_lt (c.superstep + 3) name.superstep) (refusal.TooEarly (c.superstep + 3)) first is in
    let back : content_in (held_after j h (Take name)) ≡ content_after_take j h.partition c name = taken_back j p h name hb ok in
    let one : ((name.superstep == name.superstep) && (name.source == name.source)) ≡ true = rw (eq-eqb name.superstep name.superstep refl, eq-eqb name.source name.source refl) refl in
    record {
      plan = was.plan;
      target = was.target;
      source = was.source;
      heard = ap (λ (d : Content). nat_lt name.superstep d.superstep || d.holds name.superstep name.source) back
          ∙ ap (λ (b : Bool). nat_lt name.superstep c.superstep || ((new && b) || c.holds name.superstep name.source)) one
          ∙ was.heard;
    }

told_by : (d e f : Bool) (late : TakeError) → (d || e) ≡ true → (second : Taken) × (answer_by false false false d e f late ≡ Ok second) × (second ≢ taken.New)
told_by true e f late h = (taken.Old, refl, λ k. absurd (cc))
told_by false true f late h = (taken.Known, refl, λ k. absurd (cc))
told_by false false f late h = absurd (cc)

-- when it comes again it is known or old
pub heard_again : (j : Job) (h : Holding) (name : BatchName) → IsHeard j name h → (second : Taken) × (held_take_answer j h name ≡ Ok second) × (second ≢ taken.New)
heard_again j h name was =
    let c = content_in h in
    let told = told_by (nat_lt name.superstep c.superstep) (c.holds name.superstep name.source) (nat_lt (c.superstep + 3) name.superstep) (refusal.TooEarly (c.superstep + 3)) was.heard in
    let d = nat_lt name.superstep c.superstep in
    let e = c.holds name.superstep name.source in
    let f = nat_lt (c.superstep + 3) name.superstep in
    let late = refusal.TooEarly (c.superstep + 3) in (
      told.0,
      ap (λ (a : Bool). answer_by a (not (name.target == h.partition)) (name.source == h.partition) d e f late) was.plan
          ∙ ap (λ (b : Bool). answer_by false b (name.source == h.partition) d e f late) was.target
          ∙ ap (λ (b : Bool). answer_by false false b d e f late) was.source
          ∙ told.1,
      told.2,
    )

-- ---- what grows: the other has nothing that is missing and still counts
included : (h : Holding) (c : Content) → IsContent h.plan h.partition c → h.superstep ≤ c.superstep → ((s q : ℕ) → c.superstep ≤ s → has_name h.names s q ≡ true → c.holds s q ≡ true) → join_of (holding_of h.plan h.partition c) h ≡ holding_of h.plan h.partition c
included h c cs le more =
    ap (λ (x : Content). holding_of h.plan h.partition (union_of x (content_in h))) (content_back h.plan h.partition c cs)
    ∙ ap (holding_of h.plan h.partition) (joined_included h.plan h.partition c (content_in h) cs le more)

pub taken_grows : (j : Job) (p : ℕ) (h : Holding) (name : BatchName) → IsHeldBy j p h → IsName j.plan name → join_of (held_after j h (Take name)) h ≡ held_after j h (Take name)
taken_grows j p h name hb ok =
    let c = content_in h in
    let new = is_new (take_of j.plan h.partition c j.plan name) in
    let le : h.superstep ≤ h.superstep = omega arith in
    included h (content_after_take j h.partition c name) (taken_is_content j p h name hb ok) le
    (λ s q from held. or_right (new && ((s == name.superstep) && (q == name.source))) (c.holds s q) held)

closed_grows_by : (h : Holding) (r : Result ℕ CloseError) → IsContent h.plan h.partition (content_after_close r (content_in h)) → join_of (holding_of h.plan h.partition (content_after_close r (content_in h))) h ≡ holding_of h.plan h.partition (content_after_close r (content_in h))
closed_grows_by h (Err e) cs =
    let le : h.superstep ≤ h.superstep = omega arith in
    included h (content_in h) cs le (λ s q from held. held)
closed_grows_by h (Ok t) cs =
    let le : h.superstep ≤ h.superstep + 1 = omega arith in
    included h (after_close (content_in h)) cs le
    (λ s q from held.
    let later : h.superstep < s = omega (arith, from) in
    and_from (nat_lt h.superstep s) (has_name h.names s q) (lt-ltb h.superstep s later) held)

pub closed_grows : (j : Job) (p : ℕ) (h : Holding) → IsHeldBy j p h → join_of (held_after j h Close) h ≡ held_after j h Close
closed_grows j p h hb = closed_grows_by h (close_of j h.partition (content_in h)) (closed_is_content j p h hb)

pub held_repeats : (j : Job) (p : ℕ) (h : Holding) → IsHeldBy j p h → join_of h h ≡ h
held_repeats j p h hb = join_repeats h (held_alike j p h h hb hb)

pub joined_grows : (j : Job) (p : ℕ) (h c : Holding) → IsHeldBy j p h → IsHeldBy j p c → join_of (join_of h c) h ≡ join_of h c
joined_grows j p h c hb cb =
    join_associates h c h (held_alike j p h c hb cb) (held_alike j p c h cb hb)
    ∙ ap (join_of h) (join_commutes c h (held_alike j p c h cb hb))
    ∙ sym (join_associates h h c (held_alike j p h h hb hb) (held_alike j p h c hb cb))
    ∙ ap (λ (x : Holding). join_of x c) (held_repeats j p h hb)

pub grows_through : (j : Job) (p : ℕ) (a b c : Holding) → IsHeldBy j p a → IsHeldBy j p b → IsHeldBy j p c → join_of b a ≡ b → join_of c b ≡ c → join_of c a ≡ c
grows_through j p a b c ah bh ch first second =
    ap (λ (x : Holding). join_of x a) (sym second)
    ∙ join_associates c b a (held_alike j p c b ch bh) (held_alike j p b a bh ah)
    ∙ ap (join_of c) first
    ∙ second

-- a batch that was heard stays so
pub heard_grows : (j : Job) (p : ℕ) (g h : Holding) (name : BatchName) → IsHeldBy j p g → IsHeldBy j p h → join_of h g ≡ h → IsHeard j name g → IsHeard j name h
heard_grows j p g h name gb hb grown was =
    let part : g.partition ≡ h.partition = gb.partition ∙ sym hb.partition in
    let top : max h.superstep g.superstep ≡ h.superstep = ap (λ (x : Holding). x.superstep) grown in
    let s = name.superstep in
    let q = name.source in
    let past : s < h.superstep → (nat_lt s h.superstep || has_name h.names s q) ≡ true = λ lt. or_left (nat_lt s h.superstep) (has_name h.names s q) (lt-ltb s h.superstep lt) in
    record {
      plan = was.plan;
      target = subst (λ (n : ℕ). not (name.target == n) ≡ false) part was.target;
      source = subst (λ (n : ℕ). (name.source == n) ≡ false) part was.source;
      heard = elim (cases_Bool (nat_lt s h.superstep)) [
        | inl gone ↦ or_left (nat_lt s h.superstep) (has_name h.names s q) gone
        | inr here ↦
            let from : h.superstep ≤ s = ltb-false s h.superstep here in
            elim (or_cases (nat_lt s g.superstep) (has_name g.names s q) was.heard) [
              | inl old ↦ let lt : s < g.superstep = ltb-true s g.superstep old in past (omega (arith, lt, top))
              | inr named ↦
                  let low : g.superstep ≤ s = omega (arith, from, top) in
                  or_right (nat_lt s h.superstep) (has_name h.names s q)
                  (subst (λ (x : Holding). has_name x.names s q ≡ true) grown ((join_is_union h g s q (held_alike j p h g hb gb)).1 (inr named, from, low)))
            ]
      ];
    }
