-- What a caller has seen goes on, and so does what is said of it.
use Rattle.std.proofs.Common.{◌≡◌, ◌≢◌, ℕ, ◌<◌, ◌+◌, inl, inr, arith, true, List, [], ◌∷◌, ◌++◌, refl, sym, ap, ◌∙◌, subst, append_assoc}
use Rattle.ball_model.specs.declared.names.BatchName.{BatchName}
use Rattle.ball_model.specs.declared.history.Posted.{Posted}
use Rattle.ball_model.specs.Job.{Job}
use Rattle.ball_model.specs.History.{HistoryEvent, Post, Keep, History, Begins, events_by, calls_by}
use Rattle.ball_model.specs.Join.{Holding}
use Rattle.ball_model.specs.Caller.{Caller, IsCaller, Extends, Called}
use Rattle.ball_model.proofs.HistoryLemmas.{begins_self, begins_trans, events_by-append}
use Rattle.std.proofs.lemmas.Bool.{cases_eq}
use Rattle.replica.specs.Sent.{batch_name}
use Rattle.workers.specs.Node.{WasMissing, HasPosted, HasToldAll, is_kept_at}
use Rattle.workers.specs.Superstep.{HasKept, WasWaiting, HasStarved}
use Rattle.workers.specs.Tie.{IsKeptAmong, HasKeptAt, HasKeptFirst, KeptFirstIfTold, KeptIfTold}

pub extends_self : (v : Caller) → IsCaller v → Extends v v
extends_self v h = record { number = refl; limit = refl; begins = begins_self v.seen; legal = h.legal; fits = h.fits }

pub extends_trans : (u v w : Caller) → Extends u v → Extends v w → Extends u w
extends_trans u v w a b = record {
  number = b.number ∙ a.number;
  limit = b.limit ∙ a.limit;
  begins = begins_trans u.seen v.seen w.seen a.begins b.begins;
  legal = b.legal;
  fits = b.fits;
}

pub caller_of : (v w : Caller) → Extends v w → IsCaller w
caller_of v w e = record { legal = e.legal; fits = e.fits }

-- ---- what a caller did since
own_since : (n : ℕ) (h k : History) (b : Begins h k) → calls_by n k ≡ calls_by n h ++ events_by n b.calls.0
own_since n h k b = sym (ap (events_by n) b.calls.1) ∙ events_by-append n h.calls b.calls.0

pub posted_by_call : (v w : Caller) (name : BatchName) (r : Posted) → Called v (Post name r) w → HasPosted v name w
posted_by_call v w name r h = record { before = []; reply = r; later = []; made = h.own }

-- a post since a later moment
pub posted_before : (u v w : Caller) (name : BatchName) → Extends u v → HasPosted v name w → HasPosted u name w
posted_before u v w name e h =
    let es : List HistoryEvent = events_by u.number e.begins.calls.0 in
    let post : List HistoryEvent = Post name h.reply ∷ h.later in
    let made : calls_by u.number w.seen ≡ calls_by u.number v.seen ++ (h.before ++ post) =
    subst (λ (n : ℕ). calls_by n w.seen ≡ calls_by n v.seen ++ (h.before ++ post)) e.number h.made in
    record {
      before = es ++ h.before;
      reply = h.reply;
      later = h.later;
      made = made
          ∙ (ap (λ (l : List HistoryEvent). l ++ (h.before ++ post)) (own_since u.number u.seen v.seen e.begins)
          ∙ (append_assoc (calls_by u.number u.seen) es (h.before ++ post) ∙ ap (λ (l : List HistoryEvent). calls_by u.number u.seen ++ l) (sym (append_assoc es h.before post))));
    }

-- a post that was seen is seen later
pub posted_later : (u v w : Caller) (name : BatchName) → HasPosted u name v → Extends v w → HasPosted u name w
posted_later u v w name h e =
    let es : List HistoryEvent = events_by u.number e.begins.calls.0 in
    let post : List HistoryEvent = Post name h.reply ∷ h.later in
    record {
      before = h.before;
      reply = h.reply;
      later = h.later ++ es;
      made = own_since u.number v.seen w.seen e.begins
          ∙ (ap (λ (l : List HistoryEvent). l ++ es) h.made
          ∙ (append_assoc (calls_by u.number u.seen) (h.before ++ post) es ∙ ap (λ (l : List HistoryEvent). calls_by u.number u.seen ++ l) (append_assoc h.before post es)));
    }

pub told_later : (u v w : Caller) (s p : ℕ) → HasToldAll u s p v → Extends v w → HasToldAll u s p w
told_later u v w s p h e = λ r lt other. posted_later u v w _ (h r lt other) e

pub told_before : (u v w : Caller) (s p : ℕ) → Extends u v → HasToldAll v s p w → HasToldAll u s p w
told_before u v w s p e h = λ r lt other. posted_before u v w _ e (h r (subst (λ (j : Job). r < j.plan.parts) (sym e.begins.job) lt) other)

-- ---- a keep
pub kept_by_call : (keep : ℕ) (v w : Caller) (c : Holding) → (is_kept_at keep c.superstep ≡ true → HasKept v c w) → KeptIfTold keep v c.superstep w
kept_by_call keep v w c kept due =
    let h : HasKept v c w = kept due in
    record {
      made = Keep c h.reply ∷ [];
      calls = h.called.own;
      kept = record { before = []; content = c; reply = h.reply; later = []; is = refl; superstep = refl };
    }

pub first_by_call : (keep : ℕ) (v w : Caller) (c : Holding) → (is_kept_at keep c.superstep ≡ true → HasKept v c w) → KeptFirstIfTold keep v c.superstep w
first_by_call keep v w c kept due = let h : HasKept v c w = kept due in record { content = c; reply = h.reply; later = []; calls = h.called.own; superstep = refl }

pub first_later : (keep s : ℕ) (u v w : Caller) → KeptFirstIfTold keep u s v → Extends v w → KeptFirstIfTold keep u s w
first_later keep s u v w k e due =
    let h : HasKeptFirst u s v = k due in
    let es : List HistoryEvent = events_by u.number e.begins.calls.0 in
    let made : List HistoryEvent = Keep h.content h.reply ∷ h.later in
    record {
      content = h.content;
      reply = h.reply;
      later = h.later ++ es;
      calls = own_since u.number v.seen w.seen e.begins ∙ (ap (λ (l : List HistoryEvent). l ++ es) h.calls ∙ append_assoc (calls_by u.number u.seen) made es);
      superstep = h.superstep;
    }

kept_among_later : (s : ℕ) (made more : List HistoryEvent) → IsKeptAmong s made → IsKeptAmong s (made ++ more)
kept_among_later s made more h =
    let keep : List HistoryEvent = Keep h.content h.reply ∷ h.later in
    record {
      before = h.before;
      content = h.content;
      reply = h.reply;
      later = h.later ++ more;
      is = ap (λ (l : List HistoryEvent). l ++ more) h.is ∙ append_assoc h.before keep more;
      superstep = h.superstep;
    }

pub kept_among_before : (s : ℕ) (made more : List HistoryEvent) → IsKeptAmong s made → IsKeptAmong s (more ++ made)
kept_among_before s made more h =
    let keep : List HistoryEvent = Keep h.content h.reply ∷ h.later in
    record {
      before = more ++ h.before;
      content = h.content;
      reply = h.reply;
      later = h.later;
      is = ap (λ (l : List HistoryEvent). more ++ l) h.is ∙ sym (append_assoc more h.before keep);
      superstep = h.superstep;
    }

pub kept_later : (keep s : ℕ) (u v w : Caller) → KeptIfTold keep u s v → Extends v w → KeptIfTold keep u s w
kept_later keep s u v w k e due =
    let h : HasKeptAt u s v = k due in
    let es : List HistoryEvent = events_by u.number e.begins.calls.0 in
    record {
      made = h.made ++ es;
      calls = own_since u.number v.seen w.seen e.begins ∙ (ap (λ (l : List HistoryEvent). l ++ es) h.calls ∙ append_assoc (calls_by u.number u.seen) h.made es);
      kept = kept_among_later s h.made es h.kept;
    }

pub kept_before : (keep s : ℕ) (u v w : Caller) → Extends u v → KeptIfTold keep v s w → KeptIfTold keep u s w
kept_before keep s u v w e k due =
    let h : HasKeptAt v s w = k due in
    let es : List HistoryEvent = events_by u.number e.begins.calls.0 in
    let made : calls_by u.number w.seen ≡ calls_by u.number v.seen ++ h.made = subst (λ (n : ℕ). calls_by n w.seen ≡ calls_by n v.seen ++ h.made) e.number h.calls in
    record {
      made = es ++ h.made;
      calls = made ∙ (ap (λ (l : List HistoryEvent). l ++ h.made) (own_since u.number u.seen v.seen e.begins) ∙ append_assoc (calls_by u.number u.seen) es h.made);
      kept = kept_among_before s h.made es h.kept;
    }

-- ---- a name that did not stand
pub missing_later : (u v w : Caller) (name : BatchName) → WasMissing u name v → Extends v w → WasMissing u name w
missing_later u v w name h e = record { moment = h.moment; since = h.since; until = begins_trans h.moment v.seen w.seen h.until e.begins; missing = h.missing }

pub missing_before : (u v w : Caller) (name : BatchName) → Extends u v → WasMissing v name w → WasMissing u name w
missing_before u v w name e h = record { moment = h.moment; since = begins_trans u.seen v.seen h.moment e.begins h.since; until = h.until; missing = h.missing }

pub waiting_before : (u v w : Caller) (s q p : ℕ) → Extends u v → WasWaiting v s q p w → WasWaiting u s q p w
waiting_before u v w s q p e h = record {
  missing = missing_before u v w _ e h.missing;
  below = subst (λ (j : Job). q < j.plan.parts) e.begins.job h.below;
  other = h.other;
}

pub starved_before : (u v w : Caller) (s q p : ℕ) → Extends u v → HasStarved v s q p w → HasStarved u s q p w
starved_before u v w s q p e h = (told_before u v w s p e h.0, waiting_before u v w s q p e h.1)

-- one partition more was told
pub told_more : (u v w : Caller) (s p n : ℕ) → Extends u v → ((r : ℕ) → r < n → r ≢ p → HasPosted u (batch_name s p r) v) → Extends v w → HasPosted v (batch_name s p n) w →
    (r : ℕ) → r < n + 1 → r ≢ p → HasPosted u (batch_name s p r) w
told_more u v w s p n a told b one r lt other = elim (cases_eq r n) [
  | inl same ↦ subst (λ (k : ℕ). HasPosted u (batch_name s p k) w) (sym same) (posted_before u v w _ a one)
  | inr apart ↦ posted_later u v w _ (told r (omega (arith, lt, apart)) other) b
]

-- what was told between two moments
pub told_between : (u k t d w : Caller) (s p : ℕ) → Extends u k → HasToldAll k s p t → Extends t d → Extends d w → HasToldAll u s p w
told_between u k t d w s p a told b c = told_before u k w s p a (told_later k t w s p told (extends_trans t d w b c))
