-- Texts that were written, whole or in part.
use Rattle.std.proofs.Common.{◌≡◌, ◌≢◌, ◌-◌, ◌≤◌, ◌<◌, ◌++◌, ℕ, List, Option, length, refl, ap, arith, subst, ◌∙◌}
use Rattle.std.specs.Prelude.{Result, Ok, Err, OnErr, OnOk}
use Rattle.figures.specs.declared.ends.Figures.{Figures}
use Rattle.ball_model.specs.Input.{Network}
use Rattle.ball_model.specs.Job.{Job}
use Rattle.ball_model.specs.State.{State}
use Rattle.ball_model.proofs.StreamLemmas.{written_both, written_none}
use Rattle.ball_model.specs.Streams.{PutsFront, RisesByOne, TextWritten}
use Rattle.std.specs.Io.KnownBytes.{Appends}
use Rattle.report.specs.declared.write.ReportError.{ReportError}
use Rattle.report.specs.declared.write.ReportError.TheVariants as fault
use Rattle.report.specs.Parts.{vertices_text}
use Rattle.report.specs.Ready.{AddsFront, AddsReportOfAll, AllStand, job_report}
use Rattle.report.specs.Written.{WritesText, WrittenInPart}
use Rattle.report.proofs.FrontLemmas.{front_first, front_none, front_then, split_at}

-- nothing was written of a text that is not empty, where memory was refused
pub nothing_of : {W : Type 0} (contents : W → Option (List ℕ)) (failed : W → ℕ) (a : W) (text : List ℕ) → 0 < length text → WrittenInPart contents failed a a text fault.Memory
nothing_of contents failed a text some = record {
  front = front_none text (contents a) some;
  failed_one = λ is. absurd (cc is);
  counted = λ other. refl;
}

-- a part of the first of two texts
pub part_first : {W : Type 0} {contents : W → Option (List ℕ)} {failed : W → ℕ} {a b : W} (xs ys : List ℕ) (e : ReportError) →
    WrittenInPart contents failed a b xs e → WrittenInPart contents failed a b (xs ++ ys) e
part_first xs ys e h = record { front = front_first xs ys _ _ h.front; failed_one = h.failed_one; counted = h.counted }

-- the first of two texts, and a part of the other
part_then : {W : Type 0} {contents : W → Option (List ℕ)} {failed : W → ℕ} {a b c : W} (xs ys : List ℕ) (e : ReportError) →
    TextWritten contents failed a b xs → WrittenInPart contents failed b c ys e → WrittenInPart contents failed a c (xs ++ ys) e
part_then xs ys e one two = record {
  front = front_then xs ys _ _ _ one.appended two.front;
  failed_one = λ is. omega (arith, one.counted, two.failed_one is);
  counted = λ other. two.counted other ∙ one.counted;
}

-- the first of two texts, and what came of the other
pub writes_then : {W : Type 0} (contents : W → Option (List ℕ)) (failed : W → ℕ) (a b c : W) (xs ys : List ℕ) (r : Result (Unit {0}) ReportError) →
    TextWritten contents failed a b xs → WritesText contents failed b c ys r → WritesText contents failed a c (xs ++ ys) r
writes_then contents failed a b c xs ys (Ok u) one two = written_both contents failed a b c xs ys one two
writes_then contents failed a b c xs ys (Err e) one two = part_then xs ys e one two

-- ---- lines of vertices, piece by piece

pub no_piece : {W : Type 0} (contents : W → Option (List ℕ)) (failed : W → ℕ) (a : W) (labels : List (List ℕ)) (first : ℕ) (parts : List (List Figures)) (from : ℕ) →
    TextWritten contents failed a a (vertices_text labels first parts from (from - from))
unfolding vertices_text
no_piece contents failed a labels first parts from =
    let none : from - from ≡ 0 = omega arith in
    rw none (written_none contents failed a)

pub piece_more : {W : Type 0} {contents : W → Option (List ℕ)} {failed : W → ℕ} {a b c : W} (labels : List (List ℕ)) (first : ℕ) (parts : List (List Figures)) (from at to : ℕ) → from ≤ at → at ≤ to →
    TextWritten contents failed a b (vertices_text labels first parts from (at - from)) → TextWritten contents failed b c (vertices_text labels first parts at (to - at)) →
    TextWritten contents failed a c (vertices_text labels first parts from (to - from))
piece_more {contents} {failed} {a} {b} {c} labels first parts from at to low up before here =
    rw (split_at labels first parts from at to low up) (written_both contents failed a b c (vertices_text labels first parts from (at - from)) (vertices_text labels first parts at (to - at)) before here)

-- the lines before a piece, and a part of the piece
pub piece_part : {W : Type 0} {contents : W → Option (List ℕ)} {failed : W → ℕ} {a b c : W} (labels : List (List ℕ)) (first : ℕ) (parts : List (List Figures)) (from at end to : ℕ) (e : ReportError) → from ≤ at → at ≤ end → end ≤ to →
    TextWritten contents failed a b (vertices_text labels first parts from (at - from)) → WrittenInPart contents failed b c (vertices_text labels first parts at (end - at)) e →
    WrittenInPart contents failed a c (vertices_text labels first parts from (to - from)) e
piece_part labels first parts from at end to e low up high before here =
    let vt : ℕ → ℕ → List ℕ = λ x n. vertices_text labels first parts x n in
    rw (split_at labels first parts from at to low (omega (arith, up, high)), split_at labels first parts at end to up high)
    (part_then (vt from (at - from)) (vt at (end - at) ++ vt end (to - end)) e before (part_first (vt at (end - at)) (vt end (to - end)) e here))

-- ---- the report

pub adds_report : {W : Type 0} (contents : W → Option (List ℕ)) (failed : W → ℕ) (a b : W) (text : List ℕ) (r : Result (Unit {0}) ReportError) (network : Network) (vs : List State) →
    ((j : Job) → j.graph ≡ network.graph → AllStand j vs → text ≡ job_report j network.labels) → WritesText contents failed a b text r → OnOk r (AddsReportOfAll contents a b network vs)
adds_report contents failed a b text (Ok u) network vs is h = λ j same stands. subst (λ (l : List ℕ). Appends (contents a) (contents b) l) (is j same stands) h.appended
adds_report contents failed a b text (Err e) network vs is h = tt

pub adds_front : {W : Type 0} (contents : W → Option (List ℕ)) (failed : W → ℕ) (a b : W) (text : List ℕ) (r : Result (Unit {0}) ReportError) (network : Network) (vs : List State) →
    ((j : Job) → j.graph ≡ network.graph → AllStand j vs → text ≡ job_report j network.labels) → WritesText contents failed a b text r → OnErr r (AddsFront contents a b network vs)
adds_front contents failed a b text (Ok u) network vs is h = tt
adds_front contents failed a b text (Err e) network vs is h = λ j same stands. subst (λ (l : List ℕ). PutsFront (contents a) (contents b) l) (is j same stands) h.front

-- the calls that failed
pub none_failed : {W : Type 0} (contents : W → Option (List ℕ)) (failed : W → ℕ) (a b : W) (text : List ℕ) (r : Result (Unit {0}) ReportError) → WritesText contents failed a b text r →
    r ≢ Err fault.Write → failed b ≡ failed a
none_failed contents failed a b text (Ok u) h other = h.counted
none_failed contents failed a b text (Err e) h other = h.counted (λ is. other (ap Err is))

pub one_failed : {W : Type 0} (contents : W → Option (List ℕ)) (failed : W → ℕ) (a b : W) (text : List ℕ) (r : Result (Unit {0}) ReportError) → WritesText contents failed a b text r →
    r ≡ Err fault.Write → RisesByOne (failed a) (failed b)
one_failed contents failed a b text (Ok u) h is = absurd (cc is)
one_failed contents failed a b text (Err e) h is = h.failed_one (cc is)
