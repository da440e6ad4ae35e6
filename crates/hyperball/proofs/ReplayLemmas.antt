-- What a replay that fails leaves, and why it fails.
use Rattle.std.proofs.Common.{◌≡◌, ◌≢◌, ◌⊎◌, ℕ, Bool, List, ap, false, inl, inr, refl, subst, true}
use Rattle.std.specs.Prelude.{Err, None, Ok, Option, Result, Some, is_some}
use Rattle.std.specs.Borrow.{Bor}
use Rattle.std.specs.Io.KnownBytes.{Keeps}
use Rattle.ball_model.specs.RunText.{list_in}
use Rattle.world.specs.declared.replay.ReplayError.{ReplayError}
use Rattle.world.specs.declared.replay.ReplayError.TheVariants as fault
use Rattle.hyperball.specs.Replaying.{Answers, BeginsAnswers, BeginsToServe, DoesReplay, FailsOver, FailsReplay, HasParts}
use Rattle.hyperball.specs.Streams.{Reads, Writes}
use Rattle.ball_model.specs.Sections.{sections_of}
use Rattle.hyperball.specs.Whole.{Parts, ReadsWhole, at_mark, parts_in}
use Rattle.hyperball.specs.declared.cli.replay.ReplayArgs.{ReplayArgs}
use Rattle.hyperball.specs.declared.fault.Fault.TheVariants as unserved
use Rattle.hyperball.specs.declared.whole.Lack.{Lack}
use Rattle.hyperball.specs.declared.whole.Lack.TheVariants as lack
use Rattle.hyperball.specs.declared.whole.WholeError.{WholeError}
use Rattle.hyperball.proofs.WholeLemmas.{IsRead, always, lacks_none, not_long, of_input, one_lack, retold, untold}

-- a fault that says that memory was refused or that a write failed, or neither
which : (e : ReplayError) → (e ≡ fault.Memory) ⊎ ((e ≡ fault.Write) ⊎ ((e ≢ fault.Memory) × (e ≢ fault.Write)))
which fault.Options = inr (inr (λ is. absurd (cc), λ is. absurd (cc)))
which (fault.Script n) = inr (inr (λ is. absurd (cc), λ is. absurd (cc)))
which (fault.Edges x) = inr (inr (λ is. absurd (cc), λ is. absurd (cc)))
which (fault.Counted x) = inr (inr (λ is. absurd (cc), λ is. absurd (cc)))
which (fault.Plan x) = inr (inr (λ is. absurd (cc), λ is. absurd (cc)))
which fault.Memory = inl refl
which fault.Write = inr (inl refl)

same_input : (f e : WholeError) → unserved.Input f ≡ unserved.Input e → f ≡ e
same_input f e is = cc

-- the input was not read whole
pub unread : (v : ReplayArgs) (r : Reads) (w : Writes) (f : WholeError) → ReadsWhole r (λ e. f ≡ e) → Keeps w.contents.old w.contents.new → FailsReplay v r w (unserved.Input f)
unread v r w f whole keeps = record {
  due = always r.bytes.old (λ input. tt);
  left = keeps;
  begun = inl keeps;
  whole = retold r (λ e. f ≡ e) (λ e. unserved.Input f ≡ unserved.Input e) (λ e is. same_input f e is) (λ e is. ap unserved.Input is) whole;
  long = always r.bytes.old (λ input long. tt);
  lacks = always r.bytes.old (λ input missing is. inl tt);
}

-- it lacks a part
pub lacking : (v : ReplayArgs) (r : Reads) (w : Writes) (bytes : List ℕ) (missing : Lack) → IsRead r bytes → parts_in v.counted true bytes ≡ Err missing → Keeps w.contents.old w.contents.new →
    FailsReplay v r w (unserved.Lacks missing)
lacking v r w bytes missing read found keeps = record {
  due = of_input r.bytes.old bytes (λ input. parts_in v.counted true input ≡ Err missing) read.whole found;
  left = keeps;
  begun = inl keeps;
  whole = untold r bytes (λ e. unserved.Lacks missing ≡ unserved.Input e) read (λ e is. absurd (cc));
  long = not_long r bytes _ read;
  lacks = of_input r.bytes.old bytes (λ input. (m : Lack) → parts_in v.counted true input ≡ Err m → ⊥ ⊎ (unserved.Lacks missing ≡ unserved.Lacks m)) read.whole
      (λ m is. inr (ap unserved.Lacks (one_lack missing m (parts_in v.counted true bytes) found is)));
}

-- what is left of the answers
left_of : (v : ReplayArgs) (r : Reads) (w : Writes) (bytes : List ℕ) (e : ReplayError) → IsRead r bytes → FailsOver v bytes w e → BeginsToServe v r w
left_of v r w bytes e read over = elim (which e) [
  | inl memory ↦ inr (of_input r.bytes.old bytes (λ input. BeginsAnswers v input w.contents.old w.contents.new) read.whole (record {
    edges = over.edges;
    list = over.list;
    script = over.script;
    found = over.found;
    some = over.fails.some_memory memory;
    begun = λ plain. over.fails.memory plain memory;
  }))
  | inr other ↦ elim other [
    | inl write ↦ inr (of_input r.bytes.old bytes (λ input. BeginsAnswers v input w.contents.old w.contents.new) read.whole (record {
      edges = over.edges;
      list = over.list;
      script = over.script;
      found = over.found;
      some = inr (over.fails.some_begun write);
      begun = λ plain. inr (over.fails.begun plain write);
    }))
    | inr neither ↦ inl (over.fails.untouched neither.0 neither.1)
  ]
]

-- the replay over it fails
pub failing : (v : ReplayArgs) (r : Reads) (w : Writes) (bytes : List ℕ) (e : ReplayError) → IsRead r bytes → FailsOver v bytes w e → FailsReplay v r w (unserved.Replay e)
failing v r w bytes e read over = record {
  due = of_input r.bytes.old bytes (λ input. FailsOver v input w e) read.whole over;
  left = (over.fails.untouched, over.fails.write);
  begun = left_of v r w bytes e read over;
  whole = untold r bytes (λ x. unserved.Replay e ≡ unserved.Input x) read (λ x is. absurd (cc));
  long = not_long r bytes _ read;
  lacks = of_input r.bytes.old bytes (λ input. (m : Lack) → parts_in v.counted true input ≡ Err m → ⊥ ⊎ (unserved.Replay e ≡ unserved.Lacks m)) read.whole
      (λ m is. absurd (lacks_none m _ (parts_in v.counted true bytes) over.found is));
}

-- the answers to it were appended
pub answered : (v : ReplayArgs) (r : Reads) (w : Writes) (bytes : List ℕ) → IsRead r bytes → Answers v bytes w.contents.old w.contents.new → w.failed.new ≡ w.failed.old → DoesReplay v r w
answered v r w bytes read done written = record {
  answered = of_input r.bytes.old bytes (λ input. Answers v input w.contents.old w.contents.new) read.whole done;
  unfailed = read.unfailed;
  written = written;
}

-- the parts of an input that has this script
pub has_parts : (v : ReplayArgs) (input edges : List ℕ) (list script : Option (List ℕ)) (x : List ℕ) → parts_in v.counted true input ≡ Ok (record { edges = edges; list = list; script = script }) → script ≡ Some x → HasParts v input edges list x
has_parts v input edges list script x found is = subst (λ (s : Option (List ℕ)). parts_in v.counted true input ≡ Ok (record { edges = edges; list = list; script = s })) is found

-- a script that is told is there
pub is_given : (o : Option (Bor (List ℕ))) → is_some (list_in o) ≡ true → is_some o ≡ true
is_given None is = is
is_given (Some x) is = refl

same_parts : (p q : Parts) → ◌≡◌ {A = Result Parts Lack} (Ok p) (Ok q) → p ≡ q
same_parts p q is = cc

-- an input that is to have a script has one
pub scripted : (counted : Bool) (input : List ℕ) (p : Parts) → parts_in counted true input ≡ Ok p → is_some p.script ≡ true
scripted false input p found = one_script (sections_of input) p found
  where
    one_script : (found : Option (List ℕ × List ℕ)) (q : Parts) → at_mark lack.Script found (λ edges script. Ok (record { edges = edges; list = None; script = Some script })) ≡ Ok q → is_some q.script ≡ true
    one_script None q is = absurd (cc)
    one_script (Some s) q is = subst (λ (o : Parts). is_some o.script ≡ true) (same_parts _ _ is) refl
scripted true input p found = two_scripts (sections_of input) p found
  where
    last : (edges : List ℕ) (found : Option (List ℕ × List ℕ)) (q : Parts) → at_mark lack.Script found (λ list script. Ok (record { edges = edges; list = Some list; script = Some script })) ≡ Ok q → is_some q.script ≡ true
    last edges None q is = absurd (cc)
    last edges (Some s) q is = subst (λ (o : Parts). is_some o.script ≡ true) (same_parts _ _ is) refl

    two_scripts : (found : Option (List ℕ × List ℕ)) (q : Parts) → at_mark lack.List found (λ edges rest. at_mark lack.Script (sections_of rest) (λ list script. Ok (record { edges = edges; list = Some list; script = Some script }))) ≡ Ok q → is_some q.script ≡ true
    two_scripts None q is = absurd (cc)
    two_scripts (Some s) q is = last s.0 (sections_of s.1) q is
