-- What a run reports of an input, and what a fault of it says.
use Rattle.std.proofs.Common.{◌≡◌, ◌≢◌, ℕ, Bool, List, inl, inr, false, true, ap, refl, sym, subst}
use Rattle.std.specs.Prelude.{Err, IfSome, None, Ok, Option, Result, Some}
use Rattle.std.specs.Io.KnownBytes.{Keeps}
use Rattle.ball_model.specs.Streams.{Rises, RisesByOne}
use Rattle.job.specs.Job.{settings_of}
use Rattle.edgelist.specs.Reading.{CountsOne}
use Rattle.graph.specs.Records.{ForPlain}
use Rattle.edgelist.specs.declared.limits.EdgeError.TheVariants as edge_fault
use Rattle.ball_model.specs.Input.{IsPlain}
use Rattle.ball_model.specs.RunText.{AppendsReport, ArePlain, Settings}
use Rattle.ball_model.specs.Sections.{sections_of}
use Rattle.workers.specs.Options.{job_asked}
use Rattle.workers.specs.Run.{BeginsReport, IsFaultIn, IsRunRefusal, RefusesEdges}
use Rattle.workers.specs.declared.runs.RunError.{RunError}
use Rattle.workers.specs.declared.runs.RunError.TheVariants as run_fault
use Rattle.workers.specs.declared.options.RunOptions.{RunOptions}
use Rattle.hyperball.specs.Refusals.{BeginsToReport, DoesJob, FailsJob, RefusesInput, Reports}
use Rattle.hyperball.specs.Streams.{KeptOrFailed, Reads, Writes}
use Rattle.hyperball.specs.Whole.{Parts, ReadsWhole, at_mark, parts_in}
use Rattle.hyperball.specs.declared.fault.Fault.TheVariants as fault
use Rattle.hyperball.specs.declared.whole.Lack.{Lack}
use Rattle.hyperball.specs.declared.whole.Lack.TheVariants as lack
use Rattle.hyperball.specs.declared.whole.WholeError.{WholeError}
use Rattle.hyperball.proofs.WholeLemmas.{IsRead, always, not_long, of_input, retold, untold}

same_input : (f e : WholeError) → fault.Input f ≡ fault.Input e → f ≡ e
same_input f e is = cc

pub same_error : (x y : RunError) → ◌≡◌ {A = Result (Unit {0}) RunError} (Err x) (Err y) → x ≡ y
same_error x y is = cc

same_run : (x y : RunError) → fault.Run x ≡ fault.Run y → x ≡ y
same_run x y is = cc

-- what was written is kept, or a write failed
pub kept_or : (e : RunError) (w : Writes) → (e ≢ run_fault.Write → Keeps w.contents.old w.contents.new) → (e ≡ run_fault.Write → RisesByOne w.failed.old w.failed.new) → KeptOrFailed w
kept_or run_fault.Options w kept wrote = inl (kept (λ is. absurd (cc)))
kept_or (run_fault.Edges x) w kept wrote = inl (kept (λ is. absurd (cc)))
kept_or (run_fault.Counted x) w kept wrote = inl (kept (λ is. absurd (cc)))
kept_or (run_fault.Plan x) w kept wrote = inl (kept (λ is. absurd (cc)))
kept_or (run_fault.PartitionLost part) w kept wrote = inl (kept (λ is. absurd (cc)))
kept_or run_fault.BookFull w kept wrote = inl (kept (λ is. absurd (cc)))
kept_or run_fault.Memory w kept wrote = inl (kept (λ is. absurd (cc)))
kept_or (run_fault.Starved node superstep source) w kept wrote = inl (kept (λ is. absurd (cc)))
kept_or run_fault.Write w kept wrote = inr (wrote refl)

-- ---- a run with a list of counted vertices
-- the report of these parts was appended
pub reports_listed : (o : RunOptions) (r : Reads) (w : Writes) (bytes first : List ℕ) (p : Parts) → IsRead r bytes → parts_in true false bytes ≡ Ok p → first ≡ p.edges →
    (ArePlain first p.list → AppendsReport (settings_of (job_asked o)) first p.list w.contents.old w.contents.new) → w.failed.new ≡ w.failed.old → DoesJob o true r w
reports_listed o r w bytes first p read found is appended written =
    let s : Settings = settings_of (job_asked o) in
    record {
      reported = of_input r.bytes.old bytes (λ input. Reports s true input w.contents.old w.contents.new) read.whole (record {
        parts = p;
        found = found;
        appended = subst (λ l. ArePlain l p.list → AppendsReport s l p.list w.contents.old w.contents.new) is appended;
        within = λ _. read.within;
      });
      unfailed = λ one. read.unfailed one.1;
      listed = λ yes rises. read.unfailed rises;
      written = written;
    }

-- the input was not read whole
pub unread : (o : RunOptions) (r : Reads) (w : Writes) (f : WholeError) → ReadsWhole r (λ e. f ≡ e) → Keeps w.contents.old w.contents.new → w.failed.new ≡ w.failed.old → FailsJob o true r w (fault.Input f)
unread o r w f whole keeps unfailed = record {
  due = refl;
  listed = λ _. record {
    whole = retold r (λ e. f ≡ e) (λ e. fault.Input f ≡ fault.Input e) (λ e is. same_input f e is) (λ e is. ap fault.Input is) whole;
    long = always r.bytes.old (λ input long. tt);
    edges = λ is. absurd (cc);
  };
  unlisted = λ none. absurd (cc);
  kept = inl keeps;
  write = λ is. absurd (cc);
  written = λ other. unfailed;
  begun = λ is. absurd (cc);
}

-- an input that is to have a list and no script lacks none but the list
lacks_list : (missing : Lack) (found : Option (List ℕ × List ℕ)) → at_mark lack.List found (λ edges list. Ok (record { edges = edges; list = Some list; script = None })) ≡ Err missing → missing ≡ lack.List
lacks_list missing None is = cc
lacks_list missing (Some s) is = absurd (cc)

-- it lacks a part
pub lacking : (o : RunOptions) (r : Reads) (w : Writes) (bytes : List ℕ) (missing : Lack) → IsRead r bytes → parts_in true false bytes ≡ Err missing → Keeps w.contents.old w.contents.new → w.failed.new ≡ w.failed.old →
    FailsJob o true r w (fault.Lacks missing)
lacking o r w bytes missing read found keeps unfailed = record {
  due = (refl, (lacks_list missing (sections_of bytes) found, of_input r.bytes.old bytes (λ input. parts_in true false input ≡ Err missing) read.whole found));
  listed = λ _. record {
    whole = untold r bytes _ read (λ e is. absurd (cc));
    long = not_long r bytes _ read;
    edges = λ is. absurd (cc);
  };
  unlisted = λ none. absurd (cc);
  kept = inl keeps;
  write = λ is. absurd (cc);
  written = λ other. unfailed;
  begun = λ is. absurd (cc);
}

-- the run over its parts fails
pub listed_fails : (o : RunOptions) (r : Reads) (w : Writes) (bytes first : List ℕ) (p : Parts) (e : RunError) → IsRead r bytes → parts_in true false bytes ≡ Ok p → first ≡ p.edges → IsFaultIn o e →
    (IsPlain first → RefusesEdges (settings_of (job_asked o)) first e) → (ArePlain first p.list → IsRunRefusal (settings_of (job_asked o)) first p.list e) → (e ≡ run_fault.Edges edge_fault.Read → ⊥) →
    (e ≢ run_fault.Write → Keeps w.contents.old w.contents.new) → (e ≡ run_fault.Write → RisesByOne w.failed.old w.failed.new) → (e ≢ run_fault.Write → w.failed.new ≡ w.failed.old) →
    (e ≡ run_fault.Write → ArePlain first p.list → BeginsReport (settings_of (job_asked o)) first p.list w.contents.old w.contents.new) → FailsJob o true r w (fault.Run e)
listed_fails o r w bytes first p e read found is due of_edges refused other kept wrote written begun =
    let s : Settings = settings_of (job_asked o) in
    record {
      due = (
        due,
        of_input r.bytes.old bytes (λ input. RefusesInput s true input e) read.whole (record {
          parts = p;
          found = found;
          of_edges = subst (λ l. IsPlain l → RefusesEdges s l e) is of_edges;
          refused = subst (λ l. ArePlain l p.list → IsRunRefusal s l p.list e) is refused;
        }),
      );
      listed = λ _. record {
        whole = untold r bytes _ read (λ x bad. absurd (cc));
        long = not_long r bytes _ read;
        edges = λ bad. other (same_run e _ bad);
      };
      unlisted = λ none. absurd (cc);
      kept = kept_or e w kept wrote;
      write = λ bad. wrote (same_run e _ bad);
      written = λ none. written (λ bad. none (ap fault.Run bad));
      begun = λ bad. of_input r.bytes.old bytes (λ input. BeginsToReport s true input w.contents.old w.contents.new) read.whole (record {
        parts = p;
        found = found;
        begun = subst (λ l. ArePlain l p.list → BeginsReport s l p.list w.contents.old w.contents.new) is (begun (same_run e _ bad));
      });
    }

-- ---- a run without one
reports_input : (s : Settings) (o : Option (List ℕ)) (old new : Option (List ℕ)) → IfSome o (λ input. ArePlain input None → AppendsReport s input None old new) → IfSome o (λ input. Reports s false input old new)
reports_input s None old new done = tt
reports_input s (Some input) old new done = record {
  parts = record { edges = input; list = None; script = None };
  found = refl;
  appended = done;
  within = λ listed. absurd (cc);
}

pub reports_unlisted : (o : RunOptions) (counted : Bool) (r : Reads) (w : Writes) → counted ≡ false → IfSome r.bytes.old (λ input. ArePlain input None → AppendsReport (settings_of (job_asked o)) input None w.contents.old w.contents.new) →
    (CountsOne r.failed.old r.failed.new → ⊥) → w.failed.new ≡ w.failed.old → DoesJob o counted r w
reports_unlisted o counted r w none done unfailed written = subst (λ (b : Bool). DoesJob o b r w) (sym none) (record {
  reported = reports_input (settings_of (job_asked o)) r.bytes.old w.contents.old w.contents.new done;
  unfailed = unfailed;
  listed = λ yes rises. absurd (cc);
  written = written;
})

refuses_input : (s : Settings) (o : Option (List ℕ)) (e : RunError) → ForPlain o (λ input. RefusesEdges s input e) → IfSome o (λ input. ArePlain input None → IsRunRefusal s input None e) →
    IfSome o (λ input. RefusesInput s false input e)
refuses_input s None e of_edges refused = tt
refuses_input s (Some input) e of_edges refused = record {
  parts = record { edges = input; list = None; script = None };
  found = refl;
  of_edges = of_edges input refl;
  refused = refused;
}

begins_input : (s : Settings) (o : Option (List ℕ)) (old new : Option (List ℕ)) → IfSome o (λ input. ArePlain input None → BeginsReport s input None old new) → IfSome o (λ input. BeginsToReport s false input old new)
begins_input s None old new begun = tt
begins_input s (Some input) old new begun = record { parts = record { edges = input; list = None; script = None }; found = refl; begun = begun }

pub unlisted_fails : (o : RunOptions) (counted : Bool) (r : Reads) (w : Writes) (e : RunError) → counted ≡ false → IsFaultIn o e →
    ForPlain r.bytes.old (λ input. RefusesEdges (settings_of (job_asked o)) input e) → IfSome r.bytes.old (λ input. ArePlain input None → IsRunRefusal (settings_of (job_asked o)) input None e) →
    (e ≡ run_fault.Edges edge_fault.Read → Rises r.failed.old r.failed.new) → (CountsOne r.failed.old r.failed.new → e ≡ run_fault.Edges edge_fault.Read) →
    (e ≢ run_fault.Write → Keeps w.contents.old w.contents.new) → (e ≡ run_fault.Write → RisesByOne w.failed.old w.failed.new) → (e ≢ run_fault.Write → w.failed.new ≡ w.failed.old) →
    (e ≡ run_fault.Write → IfSome r.bytes.old (λ input. ArePlain input None → BeginsReport (settings_of (job_asked o)) input None w.contents.old w.contents.new)) → FailsJob o counted r w (fault.Run e)
unlisted_fails o counted r w e none due of_edges refused read failed kept wrote written begun = subst (λ (b : Bool). FailsJob o b r w (fault.Run e)) (sym none) (record {
  due = (due, refuses_input (settings_of (job_asked o)) r.bytes.old e of_edges refused);
  listed = λ yes_listed. absurd (cc);
  unlisted = λ _. record { read = λ is. read (same_run e _ is); failed = λ one. ap fault.Run (failed one) };
  kept = kept_or e w kept wrote;
  write = λ bad. wrote (same_run e _ bad);
  written = λ fine. written (λ bad. fine (ap fault.Run bad));
  begun = λ bad. begins_input (settings_of (job_asked o)) r.bytes.old w.contents.old w.contents.new (begun (same_run e _ bad));
})
