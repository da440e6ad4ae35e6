-- What reading one record more leaves.
use Rattle.std.proofs.Common.{◌≡◌, ◌∙◌, ◌≤◌, ℕ, zero, suc, List, [], ◌∷◌, ◌++◌, Bool, true, false, length, drop, arith, ap, refl, sym, inl, inr, Some, None, Option}
use Rattle.std.proofs.lemmas.Bool.{cases_Bool}
use Rattle.std.specs.Prelude.{if◌then◌else◌}
use Rattle.std.specs.List.{filter}
use Rattle.std.proofs.lemmas.List.{append-nil, append_assoc, length-append}
use Rattle.csv.specs.Machine.{next_record}
use Rattle.csv.specs.Reading.{Reached, Ready, ReadRecord, ReadsOn, is_flexible, source_of, strip_bom}
use Rattle.csv.specs.declared.reader.Reader.{Reader}
use Rattle.csv.specs.declared.parser.State.TheVariants as st
use Rattle.csv.specs.declared.reader.Trim.TheVariants as trim
use Rattle.csv.proofs.ReadFacts.{rows-end, rows-more}
use Rattle.ball_model.specs.Input.{HasLfs, has_mark, records, without_mark}
use Rattle.graph.specs.Records.{config, rows, is_blank, is_row, FindsNone, IsLeft, ReadsNone, ReadsOne, byte_of}
use Rattle.graph.specs.declared.delimiter.Delimiter.{Delimiter}
use Rattle.graph.specs.declared.delimiter.Delimiter.TheVariants as delimiter
use Rattle.graph.proofs.LineLemmas.{IsDelimiter, rows-ends, rows-next, rows-reached, rows-records}

pub is_delimiter : (d : Delimiter) → IsDelimiter (byte_of d)
is_delimiter delimiter.Tab = (refl, refl, refl)
is_delimiter delimiter.Comma = (refl, refl, refl)
is_delimiter delimiter.Space = (refl, refl, refl)

-- what `csv` skips at the front of a text is the mark
skips_if : (a b c : ℕ) (rest : List ℕ) (t : Bool) → (if t then rest else a ∷ b ∷ c ∷ rest) ≡ (if t then drop 3 (a ∷ b ∷ c ∷ rest) else a ∷ b ∷ c ∷ rest)
skips_if a b c rest true = refl
skips_if a b c rest false = refl

pub skips-mark : (text : List ℕ) → strip_bom text ≡ without_mark text
unfolding strip_bom
skips-mark [] = refl
skips-mark (a ∷ []) = refl
skips-mark (a ∷ b ∷ []) = refl
skips-mark (a ∷ b ∷ c ∷ rest) = skips_if a b c rest _

-- what follows a mark is plain
lfs-drop : (n : ℕ) (text : List ℕ) → HasLfs text → HasLfs (drop n text)
lfs-drop zero text h = h
lfs-drop (suc n) [] h = h
lfs-drop (suc n) (c ∷ rest) h = lfs-drop n rest h.1

lfs-unmarked : (text : List ℕ) → HasLfs text → HasLfs (without_mark text)
lfs-unmarked text h = elim (cases_Bool (has_mark text)) [
  | inl e ↦ rw e (lfs-drop 3 text h)
  | inr e ↦ rw e h
]

-- nothing was read yet
pub left-start : {R : Type 0} (rem : R → Option (List ℕ)) (d : ℕ) (text : List ℕ) (rdr : Reader R) → IsDelimiter d → HasLfs text
    → rdr.trim ≡ trim.None → Ready rdr → rdr.config ≡ config d → is_flexible rdr ≡ true → rdr.state ≡ st.StartRecord → source_of rem rdr ≡ Some (strip_bom text) → IsLeft rem d text [] rdr
left-start rem d text rdr del plain trims ready configured flexible start source =
    let lfs = lfs-unmarked text plain in
    record {
      trims = trims;
      ready = ready;
      configured = configured;
      flexible = flexible;
      left = without_mark text;
      source = rw (skips-mark text) at source;
      ends = rw start (rows-ends d del (without_mark text) lfs);
      all = rw start (sym (rows-records d del (without_mark text) lfs));
    }

-- no row more: the records so far are all
left-end : {R : Type 0} (rem : R → Option (List ℕ)) (d : ℕ) (text : List ℕ) (past : List (List (List ℕ))) (a b : Reader R) (f : List (List ℕ)) →
    IsLeft rem d text past a → ReadRecord rem a b false f → FindsNone rem d text past a b
left-end rem d text past a b f at r =
    let none : next_record (config d) a.state [] [] at.left ≡ None = rows-end rem a b f (config d) at.left at.configured at.source r in
    let nothing : rows (config d) a.state [] [] at.left ≡ [] = rows-next (config d) a.state [] [] at.left ∙ rw none refl in
    record {
      all = at.all ∙ rw nothing (append-nil past);
      last = record { found = false; fields = f; read = r; none = λ found. cc };
    }

-- the records so far are among all
pub past-within : {R : Type 0} (rem : R → Option (List ℕ)) (d : ℕ) (text : List ℕ) (past : List (List (List ℕ))) (a : Reader R) →
    IsLeft rem d text past a → length past ≤ length (records d text)
past-within rem d text past a at =
    let left = filter is_row (rows (config d) a.state [] [] at.left) in
    omega (arith, ap (length {A = List (List ℕ)}) at.all, length-append past left)

-- one more row
row-read : {R : Type 0} (rem : R → Option (List ℕ)) (d : ℕ) (a b : Reader R) (y : List ℕ) (f : List (List ℕ)) → a.config ≡ config d → source_of rem a ≡ Some y
    → ReadRecord rem a b true f → (z : List ℕ) × (source_of rem b ≡ Some z) × (rows (config d) a.state [] [] y ≡ f ∷ rows (config d) b.state [] [] z)
unfolding Reached
row-read rem d a b y f cfg source r =
    let (z, from, reached) = rows-more rem a b f (config d) a.state y y [] cfg source (refl, refl) r in
    (z, from, rows-reached (config d) a.state y (f ∷ []) b.state z reached)

-- a blank row: the records so far are all
left-blank : {R : Type 0} (rem : R → Option (List ℕ)) (d : ℕ) (text : List ℕ) (past : List (List (List ℕ))) (a b : Reader R) (f : List (List ℕ)) →
    IsLeft rem d text past a → ReadRecord rem a b true f → is_blank f ≡ true → FindsNone rem d text past a b
left-blank rem d text past a b f at r blank =
    let (z, source, row) = row-read rem d a b at.left f at.configured at.source r in
    let last = (rw row at at.ends).0 blank in
    record {
      all = at.all ∙ rw (row, last, blank) (append-nil past);
      last = record { found = true; fields = f; read = r; none = λ found. blank };
    }

-- a record more
left-more : {R : Type 0} (rem : R → Option (List ℕ)) (d : ℕ) (text : List ℕ) (past : List (List (List ℕ))) (a b : Reader R) (f : List (List ℕ)) →
    IsLeft rem d text past a → ReadRecord rem a b true f → Ready b → b.flexible ≡ a.flexible → is_blank f ≡ false → IsLeft rem d text (past ++ f ∷ []) b
left-more rem d text past a b f at r ready flexible row_is =
    let (z, source, row) = row-read rem d a b at.left f at.configured at.source r in
    record {
      trims = r.3 ∙ at.trims;
      ready = ready;
      configured = r.2 ∙ at.configured;
      flexible = flexible ∙ at.flexible;
      left = z;
      source = source;
      ends = (rw row at at.ends).1;
      all = at.all ∙ rw (row, row_is) (sym (append_assoc past (f ∷ []) (filter is_row (rows (config d) b.state [] [] z))));
    }

-- a read that gives a row gives a record, if the row is not blank
pub reads-one : {R : Type 0} (rem : R → Option (List ℕ)) (a b : Reader R) (f : List (List ℕ)) →
    (a.trim ≡ trim.None → Ready a → ReadRecord rem a b true f) → ReadsOn a b → is_blank f ≡ false → ReadsOne rem a b f
reads-one rem a b f read on row_is = λ d text past at.
    left-more rem d text past a b f at (read at.trims at.ready) (on.4 at.ready).0 on.2 row_is

-- a read that gives no row, or a blank one, gives no record
pub reads-none : {R : Type 0} (rem : R → Option (List ℕ)) (a b : Reader R) (found : Bool) (f : List (List ℕ)) →
    (a.trim ≡ trim.None → Ready a → ReadRecord rem a b found f) → (found ≡ true → is_blank f ≡ true) → ReadsNone rem a b
reads-none rem a b true f read blank = λ d text past at. left-blank rem d text past a b f at (read at.trims at.ready) (blank refl)
reads-none rem a b false f read blank = λ d text past at. left-end rem d text past a b f at (read at.trims at.ready)
