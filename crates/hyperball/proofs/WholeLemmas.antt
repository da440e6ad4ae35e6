-- Inputs that are read whole, and their sections.
use Rattle.std.proofs.Common.{◌≡◌, ◌∙◌, ℕ, suc, ◌+◌, ◌-◌, ◌<◌, ◌≤◌, Bool, true, false, ◌==◌, if◌then◌else◌, subst, List, [], ◌∷◌, ◌++◌, length, take, drop, slice_index, refl, ap, arith, sym, append-nil, length-append}
use Rattle.std.specs.Prelude.{Err, IfSome, None, Ok, Option, Result, Some}
use Rattle.std.specs.Io.KnownBytes.{Consumes}
use Rattle.std.proofs.Math.Seq.{drop-cons, take-suc}
use Rattle.std.proofs.lemmas.List.{drop_all, length-take}
use Rattle.std.proofs.KnownBytes.{Consumes-trans}
use Rattle.ball_model.specs.Sections.{after_mark, sections_from}
use Rattle.ball_model.specs.Streams.{Rises, TakesAtMost}
use Rattle.job.proofs.SectionLemmas.{behind, behind-longer}
use Rattle.world.proofs.ScriptLemmas.{whole_rest}
use Rattle.job.specs.declared.limits.TheConstants.{MOST_BYTES}
use Rattle.hyperball.specs.Streams.{Reads}
use Rattle.hyperball.specs.Whole.{IsWholeInput, Parts, ReadsFew, ReadsWhole}
use Rattle.hyperball.specs.declared.whole.Lack.{Lack}
use Rattle.hyperball.specs.declared.whole.WholeError.{WholeError}
use Rattle.hyperball.specs.declared.whole.WholeError.TheVariants as fault

-- what was read so far
pub record HasRead (old new : Option (List ℕ)) (bytes : List ℕ) : Type 0 where
  pub consumed : Consumes old new bytes
  pub few : length bytes ≤ MOST_BYTES

-- a piece that was not kept
pub read_lost : (a b c : Option (List ℕ)) (before : List ℕ) (room most : ℕ) → HasRead a b before → TakesAtMost room b c → length before + room ≤ most → TakesAtMost most a c
read_lost a b c before room most h lost fits = record {
  bytes = before ++ lost.bytes;
  consumed = Consumes-trans a b c before lost.bytes h.consumed lost.consumed;
  few = omega (arith, length-append before lost.bytes, lost.few, fits);
}

-- where the line that begins here is no mark, its first byte is one more of the first section
pub one_more : (xs rest : List ℕ) (c : ℕ) (begins : Bool) → (begins ≡ true → after_mark (c ∷ rest) ≡ None) → behind xs (sections_from begins (c ∷ rest)) ≡ behind (xs ++ c ∷ []) (sections_from (c == 10) rest)
unfolding sections_from
one_more xs rest c true none = rw (none refl) (behind-longer xs c (sections_from (c == 10) rest))
one_more xs rest c false none = behind-longer xs c (sections_from (c == 10) rest)

-- a mark that begins here
pub marked_here : (xs text rest : List ℕ) → after_mark text ≡ Some rest → behind xs (sections_from true text) ≡ Some (xs, rest)
unfolding sections_from
marked_here xs [] rest is = absurd (cc)
marked_here xs (c ∷ text) rest is = rw is (ap (λ l. Some (l, rest)) (append-nil xs))

pub behind_none : (xs : List ℕ) (begins : Bool) → behind xs (sections_from begins []) ≡ None
unfolding sections_from
behind_none xs begins = refl

no_mark : (text : List ℕ) (begins : Bool) → (if begins then after_mark text else None) ≡ None → begins ≡ true → after_mark text ≡ None
no_mark text true none is = none
no_mark text false none is = none_of (sym is)
  where
    none_of : true ≡ false → after_mark text ≡ None
    none_of bad = absurd (cc)

-- one byte further
pub further : (xs : List ℕ) (i : ℕ) (begins : Bool) → i < length xs → None ≡ (if begins then after_mark (take (length xs - i) (drop i xs)) else None) →
    behind (take i xs) (sections_from begins (drop i xs)) ≡ behind (take (i + 1) xs) (sections_from (slice_index xs i == 10) (drop (i + 1) xs))
further xs i begins lt none =
    let cut : drop i xs ≡ slice_index xs i ∷ drop (suc i) xs = drop-cons xs i 0 lt in
    let more : take (suc i) xs ≡ take i xs ++ slice_index xs i ∷ [] = take-suc xs i 0 lt in
    let next : i + 1 ≡ suc i = omega arith in
    let here : (if begins then after_mark (drop i xs) else None) ≡ None = sym (none ∙ ap (λ l. if begins then after_mark l else None) (whole_rest xs i (omega (arith, lt)))) in
    rw (next, more, cut) (one_more (take i xs) (drop (suc i) xs) (slice_index xs i) begins (λ is. ap after_mark (sym cut) ∙ no_mark (drop i xs) begins here is))

found_by : (xs text rest : List ℕ) (begins : Bool) → Some rest ≡ (if begins then after_mark text else None) → behind xs (sections_from begins text) ≡ Some (xs, rest)
found_by xs text rest true is = marked_here xs text rest (sym is)
found_by xs text rest false is = absurd (cc)

-- the first mark
pub found_here : (xs rest : List ℕ) (i : ℕ) (begins : Bool) → i < length xs → Some rest ≡ (if begins then after_mark (take (length xs - i) (drop i xs)) else None) →
    behind (take i xs) (sections_from begins (drop i xs)) ≡ Some (take i xs, rest)
found_here xs rest i begins lt is = found_by (take i xs) (drop i xs) rest begins (is ∙ ap (λ l. if begins then after_mark l else None) (whole_rest xs i (omega (arith, lt))))

-- at the end
pub ended : (xs : List ℕ) (i : ℕ) (begins : Bool) → length xs ≤ i → behind (take i xs) (sections_from begins (drop i xs)) ≡ None
ended xs i begins le = ap (λ l. behind (take i xs) (sections_from begins l)) (drop_all i xs le) ∙ behind_none (take i xs) begins

pub taken_within : (n : ℕ) (xs : List ℕ) → length (take n xs) ≤ n
taken_within n xs = let long = length-take n xs in omega (arith, long)

-- ---- inputs that were read whole
pub record IsRead (r : Reads) (bytes : List ℕ) : Type 0 where
  pub whole : IsWholeInput r.bytes.old bytes
  pub within : length bytes ≤ MOST_BYTES
  pub unfailed : Rises r.failed.old r.failed.new → ⊥
  pub few : ReadsFew r.bytes.old r.bytes.new

-- of such a one no fault is told
pub untold : (r : Reads) (bytes : List ℕ) (told : WholeError → Type 0) → IsRead r bytes → ((e : WholeError) → told e → ⊥) → ReadsWhole r told
untold r bytes told read none = record {
  size = λ is. absurd (none fault.Size is);
  memory = λ is. absurd (none fault.Memory is);
  read = λ is. absurd (none fault.Read is);
  failed = λ rises. absurd (read.unfailed rises);
  sure = λ _ is. none fault.Read is;
  few = read.few;
}

-- what is told of one fault is told of each that goes with it
pub retold : (r : Reads) (told other : WholeError → Type 0) → ((e : WholeError) → other e → told e) → ((e : WholeError) → told e → other e) → ReadsWhole r told → ReadsWhole r other
retold r told other back to reads = record {
  size = λ is. reads.size (back fault.Size is);
  memory = λ is. reads.memory (back fault.Memory is);
  read = λ is. reads.read (back fault.Read is);
  failed = λ rises. to fault.Read (reads.failed rises);
  sure = λ sure is. reads.sure sure (back fault.Read is);
  few = reads.few;
}

-- what is so of the bytes is so of the input
pub of_input : (o : Option (List ℕ)) (bytes : List ℕ) (P : List ℕ → Type 0) → IsWholeInput o bytes → P bytes → IfSome o P
of_input None bytes P whole is = tt
of_input (Some input) bytes P whole is = subst P whole is

-- it is not too long
pub not_long : (r : Reads) (bytes : List ℕ) (A : Type 0) → IsRead r bytes → IfSome r.bytes.old (λ input. MOST_BYTES < length input → A)
not_long r bytes A read = of_input r.bytes.old bytes (λ input. MOST_BYTES < length input → A) read.whole (λ long. absurd (omega (arith, long, read.within)))

-- what is always so is so of the input
pub always : {P : List ℕ → Type 0} → (o : Option (List ℕ)) → ((input : List ℕ) → P input) → IfSome o P
always None all = tt
always (Some input) all = all input

-- ---- the parts of an input
-- the input lacks one part, and has not all
pub one_lack : (x y : Lack) (found : Result Parts Lack) → found ≡ Err x → found ≡ Err y → x ≡ y
one_lack x y found is other = let e = sym is ∙ other in cc

pub lacks_none : (x : Lack) (p : Parts) (found : Result Parts Lack) → found ≡ Ok p → found ≡ Err x → ⊥
lacks_none x p found is other = let e = sym is ∙ other in absurd (cc)

-- of which nothing is read few bytes are read
pub none_read : (most : ℕ) (o : Option (List ℕ)) → TakesAtMost most o o
none_read most None = record { bytes = []; consumed = tt; few = omega arith }
none_read most (Some input) = record { bytes = []; consumed = refl; few = omega arith }

-- what is so of the bytes that were kept is so of those that are seen
pub seen : (r : Reads) (items bytes : List ℕ) → IsRead r items → bytes ≡ items → IsRead r bytes
seen r items bytes read same = subst (IsRead r) (sym same) read

pub same_whole_error : (x y : WholeError) (A : Type 0) → ◌≡◌ {A = Result A WholeError} (Err x) (Err y) → x ≡ y
same_whole_error x y A is = cc

-- what an error tells of the input is told of the fault
pub told_of : (r : Reads) (f : WholeError) (A : Type 0) → ReadsWhole r (λ e. ◌≡◌ {A = Result A WholeError} (Err f) (Err e)) → ReadsWhole r (λ e. f ≡ e)
told_of r f A reads =
    retold r (λ e. ◌≡◌ {A = Result A WholeError} (Err f) (Err e)) (λ e. f ≡ e) (λ e is. ap Err is) (λ e is. same_whole_error f e A is) reads

-- an input of which no error is told was read
pub read_well : (r : Reads) (bytes : List ℕ) (A : Type 0) (x : A) → IsWholeInput r.bytes.old bytes → length bytes ≤ MOST_BYTES → ReadsWhole r (λ e. ◌≡◌ {A = Result A WholeError} (Ok x) (Err e)) → IsRead r bytes
read_well r bytes A x whole within reads = record {
  whole = whole;
  within = within;
  unfailed = λ rises. let bad = reads.failed rises in absurd (cc);
  few = reads.few;
}
