-- The job that is read of an input.
use Rattle.std.proofs.Common.{◌≡◌, ◌≢◌, ◌∙◌, ℕ, ◌+◌, ◌≤◌, ◌==◌, ◌||◌, Bool, true, false, nat_lt, if◌then◌else◌, List, [], ◌∷◌, ◌++◌, length, length-append, arith, refl, ap, sym, subst}
use Rattle.std.specs.Prelude.{Option, None, Some, IfSome, Result, Ok, Err, IsOk, is_ok}
use Rattle.std.specs.Io.KnownBytes.{IsAtEnd, prepend_known}
use Rattle.ball_model.specs.declared.plan.PlanError.TheVariants as fault
use Rattle.ball_model.specs.Input.{IsPlain, Limits, Network, Refusal}
use Rattle.ball_model.specs.Counting.{counted_of}
use Rattle.ball_model.specs.PlanValue.{PlanValue, greatest_limit, greatest_log2m, least_log2m, most_parts, plan_within}
use Rattle.ball_model.specs.RunText.{Numbers, Settings, plan_asked, plan_over, run_limits}
use Rattle.edgelist.specs.Reading.{Refuses}
use Rattle.edgelist.specs.declared.limits.EdgeError.{EdgeError}
use Rattle.edgelist.specs.declared.limits.EdgeError.TheVariants as unread
use Rattle.edgelist.specs.Given.{IsGivenUnder}
use Rattle.edgelist.specs.declared.pieces.EdgeReader.{EdgeReader}
use Rattle.graph.specs.declared.delimiter.Delimiter.{Delimiter}
use Rattle.job.specs.declared.error.InputError.{InputError}
use Rattle.job.specs.declared.error.InputError.TheVariants as nojob
use Rattle.job.specs.Input.{CountsSome, GivesAll, GivesEdges, GivesSection, IsPlanned, SaysNetwork}
use Rattle.job.specs.NoJob.{GoesBeyond, IsNoJob, IsNoNetwork, IsRefused, IsUnplanned, LacksListMark, LacksMark}
use Rattle.job.specs.declared.limits.TheConstants.{MOST_BYTES}
use Rattle.job.specs.Section.{EndsAtMark, Gives, ReadsSection, before_mark, first_or}
use Rattle.job.proofs.SectionLemmas.{FrontGoesOn, Passed, passed_end, passed_more, passed_next, passed_over, passed_start, passed_whole, section_before}

-- ---- the edge list
-- the front of a section was given
pub record GivesSoFar (limits : Limits) (delimiter : Delimiter) (count : ℕ) (begins : Bool) (left left' : Option (List ℕ)) (edges : EdgeReader) : Type 0 where
  pub front : List ℕ
  pub long : length front ≡ count
  pub given : IsGivenUnder limits delimiter front edges
  pub passed : Passed front begins left left'

pub gives_start : (limits : Limits) (delimiter : Delimiter) (begins : Bool) (xs : List ℕ) (left : Option (List ℕ)) (edges : EdgeReader) → begins ≡ true → xs ≡ [] →
    IsGivenUnder limits delimiter [] edges → GivesSoFar limits delimiter 0 begins left (prepend_known xs left) edges
gives_start limits delimiter begins xs left edges line none given = record {
  front = [];
  long = refl;
  given = given;
  passed = passed_start begins xs left line none;
}

pub gives_more : (limits : Limits) (delimiter : Delimiter) (n m : ℕ) (begins next : Bool) (c : ℕ) (x y z : Option (List ℕ)) (old new : EdgeReader) → next ≡ (c == 10) → m ≡ n + 1 →
    GivesSoFar limits delimiter n begins x y old → Gives begins c y z → ((text : List ℕ) → IsGivenUnder limits delimiter text old → IsGivenUnder limits delimiter (text ++ c ∷ []) new) →
    GivesSoFar limits delimiter m next x z new
gives_more limits delimiter n m begins next c x y z old new same more so one add = record {
  front = so.front ++ c ∷ [];
  long = length-append so.front (c ∷ []) ∙ ap (λ (k : ℕ). k + 1) so.long ∙ sym more;
  given = add so.front so.given;
  passed = passed_more so.front (so.front ++ c ∷ []) begins next c x y z same refl so.passed one;
}

pub gives_end : (limits : Limits) (delimiter : Delimiter) (n : ℕ) (begins : Bool) (x y z : Option (List ℕ)) (edges : EdgeReader) → GivesSoFar limits delimiter n begins x y edges → EndsAtMark begins y z →
    GivesSection limits delimiter x z edges
gives_end limits delimiter n begins x y z edges so ends = record {
  front = so.front;
  given = so.given;
  section = passed_end so.front begins x y z so.passed ends;
}

-- ---- the list
pub counts_all : (s : Settings) (left : Option (List ℕ)) (network : Network) → CountsSome s false left left network network
counts_all s left network = record { list = None; given = refl; section = refl; few = tt; says = λ plain. refl }

pub counts_listed : (s : Settings) (left left' : Option (List ℕ)) (all network : Network) (list : List ℕ) → ReadsSection list left left' → length list ≤ MOST_BYTES → (IsPlain list → counted_of s.delimiter all list ≡ Ok network) →
    CountsSome s true left left' all network
counts_listed s left left' all network list section few says = record { list = Some list; given = refl; section = section; few = few; says = says }

-- the plan
plan_test : (p q : PlanValue) (a b c d : Bool) → (if a then Err fault.Log2m else (if b then Err fault.Parts else (if c then Err fault.Limit else (if d then Err fault.Vertices else Ok p)))) ≡ Ok q → q ≡ p
plan_test p q true b c d is = absurd (cc)
plan_test p q false true c d is = absurd (cc)
plan_test p q false false true d is = absurd (cc)
plan_test p q false false false true is = absurd (cc)
plan_test p q false false false false is = cc

plan_same : (most : ℕ) (p q : PlanValue) → plan_within most p ≡ Ok q → q ≡ p
plan_same most p q is =
    plan_test p q (nat_lt p.log2m least_log2m || nat_lt greatest_log2m p.log2m) (nat_lt p.parts 1 || nat_lt most_parts p.parts)
    (nat_lt p.limit 1 || nat_lt greatest_limit p.limit) (nat_lt most p.vertices) is

pub planned : (n : Numbers) (network : Network) (plan : PlanValue) → Ok plan ≡ plan_asked n network.graph → IsPlanned n network plan
planned n network plan is = record { plan_is = plan_same (run_limits n.large).vertices (plan_over n network.graph) plan (sym is); planned = sym is }

-- ---- why there is no job
-- the front of what stands before the mark is refused, whatever follows
refused_front : (says : List ℕ → Result Network Refusal) (front : List ℕ) (c : ℕ) (x : Option (List ℕ)) (e : EdgeError) → e ≢ unread.Read → IfSome x (FrontGoesOn front c) →
    ((more : List ℕ) → IsPlain (front ++ c ∷ more) → Refuses (says (front ++ c ∷ more)) e) → IsRefused says x e
refused_front says front c None e some goes tells = record { read = some; refuses = tt }
refused_front says front c (Some text) e some goes tells = record {
  read = some;
  refuses = subst (λ (l : List ℕ). IsPlain l → Refuses (says l) e) (sym goes.before_is) (tells goes.more);
}

pub refused_in : (says : List ℕ → Result Network Refusal) (limits : Limits) (delimiter : Delimiter) (n : ℕ) (begins : Bool) (c : ℕ) (x y z : Option (List ℕ)) (old : EdgeReader) (e : EdgeError) → e ≢ unread.Read →
    GivesSoFar limits delimiter n begins x y old → Gives begins c y z →
    ((text more : List ℕ) → IsGivenUnder limits delimiter text old → IsPlain (text ++ c ∷ more) → Refuses (says (text ++ c ∷ more)) e) → IsNoNetwork says x (nojob.Edges e)
refused_in says limits delimiter n begins c x y z old e some so one tells =
    refused_front says so.front c x e some (passed_next so.front begins c x y z so.passed one) (λ more. tells so.front more so.given)

-- the whole is refused
refused_whole : (says : List ℕ → Result Network Refusal) (front : List ℕ) (x z : Option (List ℕ)) (e : EdgeError) → e ≢ unread.Read → ReadsSection front x z →
    (IsPlain front → Refuses (says front) e) → IsNoNetwork says x (nojob.Edges e)
refused_whole says front None z e some section tells = record { read = some; refuses = tt }
refused_whole says front (Some text) z e some section tells = record {
  read = some;
  refuses = subst (λ (l : List ℕ). IsPlain l → Refuses (says l) e) (sym (section_before front (Some text) z section)) tells;
}

-- all was given, where there is no mark
pub gives_all : (limits : Limits) (delimiter : Delimiter) (n : ℕ) (begins : Bool) (x y : Option (List ℕ)) (edges : EdgeReader) → GivesSoFar limits delimiter n begins x y edges → IsAtEnd y → GivesAll limits delimiter x edges
gives_all limits delimiter n begins x y edges so end = record {
  front = so.front;
  given = so.given;
  none = passed_over so.front begins x y so.passed end;
  whole = passed_whole so.front begins x y so.passed end;
}

-- and it is refused
refused_all : (says : List ℕ → Result Network Refusal) (limits : Limits) (delimiter : Delimiter) (x : Option (List ℕ)) (edges : EdgeReader) (e : EdgeError) → e ≢ unread.Read → (s : GivesAll limits delimiter x edges) →
    (IsPlain s.front → Refuses (says s.front) e) → IsNoNetwork says x (nojob.Edges e)
refused_all says limits delimiter None edges e some s tells = record { read = some; refuses = tt }
refused_all says limits delimiter (Some text) edges e some s tells = record {
  read = some;
  refuses = subst (λ (l : List ℕ). IsPlain l → Refuses (says l) e) (sym (ap (first_or text) s.none ∙ s.whole)) tells;
}

pub refused_edges : (says : List ℕ → Result Network Refusal) (limits : Limits) (delimiter : Delimiter) (x z : Option (List ℕ)) (edges : EdgeReader) (marked : Bool) (e : EdgeError) → e ≢ unread.Read →
    GivesEdges limits delimiter x z edges marked → ((text : List ℕ) → IsGivenUnder limits delimiter text edges → IsPlain text → Refuses (says text) e) → IsNoNetwork says x (nojob.Edges e)
refused_edges says limits delimiter x z edges true e some s tells = refused_whole says s.front x z e some s.section (tells s.front s.given)
refused_edges says limits delimiter x z edges false e some s tells = refused_all says limits delimiter x edges e some s (tells s.front s.given)

-- or it says a network, and only the mark is missing
pub lacks_mark : (says : List ℕ → Result Network Refusal) (limits : Limits) (delimiter : Delimiter) (x : Option (List ℕ)) (edges : EdgeReader) (n : Network) → (s : GivesAll limits delimiter x edges) →
    (IsPlain s.front → says s.front ≡ Ok n) → LacksMark says x
lacks_mark says limits delimiter None edges n s tells = record { none = tt; fine = tt }
lacks_mark says limits delimiter (Some text) edges n s tells = record {
  none = s.none;
  fine = subst (λ (l : List ℕ). IsPlain l → IsOk (says l)) (sym s.whole) (λ plain. ap is_ok (tells plain));
}

pub too_many : (limits : Limits) (delimiter : Delimiter) (n : ℕ) (begins : Bool) (x y : Option (List ℕ)) (edges : EdgeReader) → GivesSoFar limits delimiter n begins x y edges → IfSome x (λ text. n ≤ length text)
too_many limits delimiter n begins None y edges so = tt
too_many limits delimiter n begins (Some text) y edges so =
    let p = so.passed in
    let is = ap length p.text_is ∙ length-append so.front p.rest in
    let long = so.long in
    omega (arith, is, long)

-- all was read, where there is no mark
pub lacks_list_mark : (list : List ℕ) (begins : Bool) (x y : Option (List ℕ)) → Passed list begins x y → IsAtEnd y → length list ≤ MOST_BYTES → LacksListMark x
lacks_list_mark list begins x y p end few = record { none = passed_over list begins x y p end; few = few_read x (passed_whole list begins x y p end) }
  where
    few_read : (o : Option (List ℕ)) → IfSome o (λ text. text ≡ list) → IfSome o (λ text. length text ≤ MOST_BYTES)
    few_read None is = tt
    few_read (Some text) is = subst (λ (l : List ℕ). length l ≤ MOST_BYTES) (sym is) few

-- more of the list follows
pub goes_beyond : (list : List ℕ) (begins : Bool) (c : ℕ) (x y z : Option (List ℕ)) → Passed list begins x y → Gives begins c y z → GoesBeyond (length list) x
goes_beyond list begins c None y z p one = tt
goes_beyond list begins c (Some text) y z p one =
    let goes = passed_next list begins c (Some text) y z p one in
    let is : length (before_mark text) ≡ length (list ++ c ∷ goes.more) = ap length goes.before_is in
    omega (arith, is, length-append list (c ∷ goes.more))

-- ---- the plan is refused
pub unplanned : (s : Settings) (counted : Bool) (x y z : Option (List ℕ)) (all network : Network) (e : InputError) → SaysNetwork s x y all → CountsSome s counted y z all network → IsUnplanned (plan_asked s.numbers network.graph) e →
    IsNoJob s counted x z e
unplanned s counted x y z all network (nojob.Plan e) edges list due = record { all = all; network = network; mid = y; edges = edges; list = list; refused = due }
unplanned s counted x y z all network e edges list due = absurd due
