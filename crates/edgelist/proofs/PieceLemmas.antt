-- What of an edge list is read some lines at a time.
use Rattle.std.proofs.Common.{◌≡◌, ◌≢◌, ◌∙◌, ◌+◌, ◌<◌, ◌&&◌, ℕ, Bool, List, [], ◌∷◌, ◌++◌, false, ◌==◌, arith, ap, refl, sym, subst, append_assoc, inl, inr, length, Ok, true}
use Rattle.std.specs.Prelude.{Option, Result, Err}
use Rattle.std.specs.List.{filter}
use Rattle.std.proofs.lemmas.Bool.{cases_Bool}
use Rattle.std.proofs.lemmas.List.{append-nil, length-append, map-append}
use Rattle.std.proofs.lemmas.List.Elements.{filter-append}
use Rattle.csv.specs.declared.reader.Reader.{Reader}
use Rattle.ball_model.specs.Input.{HasLfs, IsPlain, Limits, Network, Refusal, StartsWithLf, fields, has_mark, is_record, lines, network_from, records, without_mark}
use Rattle.edgelist.specs.Pieces.{AddsRecords, EndsLine, IsLeftOf, IsPartRead, IsThrough, ReadsOn}
use Rattle.graph.specs.Records.{FindsNone, IsLeft, ReadsOne, config, is_row, rows}
use Rattle.edgelist.specs.Records.{ReadsRecords, StopsAtEnd}
use Rattle.edgelist.specs.Reading.{AddsRecord, EndsAt, Refuses, Stops, network_by}
use Rattle.graph.specs.declared.edge.Edge.{Edge}
use Rattle.edgelist.specs.declared.limits.EdgeError.{EdgeError}
use Rattle.edgelist.proofs.FaultLemmas.{clean-more, clean-none, refuses-none, says-network, says-refusal}
use Rattle.graph.proofs.LineLemmas.{line_records, lines-some}
use Rattle.edgelist.proofs.NetworkLemmas.{read-none}

abbrev Records : Type 0
Records = List (List (List ℕ))

-- ---- records of more than one piece

pub through-none : (limits : Limits) → IsThrough limits 0 [] [] []
through-none limits = record { count = refl; so = read-none; clean = clean-none limits }

-- a record more that was added
through-more : (limits : Limits) (n : ℕ) (rs : Records) (f : List (List ℕ)) (labels labels' : List (List ℕ)) (edges edges' : List Edge) →
    IsThrough limits n rs labels edges → AddsRecord limits n f labels edges labels' edges' → IsThrough limits (n + 1) (rs ++ f ∷ []) labels' edges'
through-more limits n rs f labels labels' edges edges' t adds = record {
  count = omega (arith, length-append rs (f ∷ []), t.count);
  so = adds.reads rs t.so;
  clean = clean-more limits rs f t.clean (rw t.count (adds.passes rs t.count t.so));
}

-- ---- some records of a text that were read after others

pub part-read-start : {R : Type 0} (remaining : R → Option (List ℕ)) (d : ℕ) (limits : Limits) (n : ℕ) (before : Records) (text : List ℕ) (reader : Reader R) (labels : List (List ℕ)) (edges : List Edge) →
    IsLeft remaining d text [] reader → IsThrough limits n before labels edges → IsPartRead remaining d limits n before text reader labels edges
part-read-start remaining d limits n before text reader labels edges at t = record {
  past = [];
  at = at;
  through = subst (λ (rs : Records). IsThrough limits n rs labels edges) (sym (append-nil before)) t;
}

pub part-read-more : {R : Type 0} (remaining : R → Option (List ℕ)) (d : ℕ) (limits : Limits) (n : ℕ) (before : Records) (text : List ℕ) (a b : Reader R) (labels labels' : List (List ℕ)) (edges edges' : List Edge) (f : List (List ℕ)) (part : IsPartRead remaining d limits n before text a labels edges) →
    IsLeft remaining d text (part.past ++ f ∷ []) b → AddsRecord limits n f labels edges labels' edges' → IsPartRead remaining d limits (n + 1) before text b labels' edges'
part-read-more remaining d limits n before text a b labels labels' edges edges' f part at adds = record {
  past = part.past ++ f ∷ [];
  at = at;
  through = subst (λ (rs : Records). IsThrough limits (n + 1) rs labels' edges') (append_assoc before part.past (f ∷ []))
      (through-more limits n (before ++ part.past) f labels labels' edges edges' part.through adds);
}

part-read-end : {R : Type 0} (remaining : R → Option (List ℕ)) (d : ℕ) (limits : Limits) (n : ℕ) (before : Records) (text : List ℕ) (a : Reader R) (labels : List (List ℕ)) (edges : List Edge) (part : IsPartRead remaining d limits n before text a labels edges) →
    records d text ≡ part.past → IsThrough limits n (before ++ records d text) labels edges
part-read-end remaining d limits n before text a labels edges part whole =
    subst (λ (rs : Records). IsThrough limits n (before ++ rs) labels edges) (sym whole) part.through

-- and no other was asked for
part-read-stops : {R : Type 0} (remaining : R → Option (List ℕ)) (d : ℕ) (limits : Limits) (n : ℕ) (before : Records) (text : List ℕ) (a b : Reader R) (labels : List (List ℕ)) (edges : List Edge) (part : IsPartRead remaining d limits n before text a labels edges) →
    FindsNone remaining d text part.past a b → StopsAtEnd remaining d text b
part-read-stops remaining d limits n before text a b labels edges part found = record {
  before = a;
  at = subst (λ (past : Records). IsLeft remaining d text past a) (sym found.all) part.at;
  last = found.last;
}

-- three lists behind one another
four : (a b c d e : Records) → a ++ (((b ++ c) ++ d) ++ e) ≡ (a ++ b) ++ (c ++ (d ++ e))
four a b c d e = rw (append_assoc (b ++ c) d e, append_assoc b c (d ++ e), append_assoc a b (c ++ (d ++ e))) refl

-- a record more that was refused, whatever follows
part-read-stop : {R : Type 0} (remaining : R → Option (List ℕ)) (d : ℕ) (limits : Limits) (n : ℕ) (before more : Records) (text : List ℕ) (a b : Reader R) (labels : List (List ℕ)) (edges : List Edge) (f : List (List ℕ)) (e : EdgeError) (part : IsPartRead remaining d limits n before text a labels edges) →
    IsLeft remaining d text (part.past ++ f ∷ []) b → Stops limits n f labels edges e → Refuses (network_from limits (before ++ (records d text ++ more))) e
part-read-stop remaining d limits n before more text a b labels edges f e part at stops =
    let left = filter is_row (rows (config d) b.state [] [] at.left) in
    let whole : before ++ (records d text ++ more) ≡ (before ++ part.past) ++ f ∷ (left ++ more) =
    ap (λ (rs : Records). before ++ (rs ++ more)) at.all ∙ four before part.past (f ∷ []) left more in
    let t = part.through in
    rw whole (says-refusal limits (before ++ part.past) f (left ++ more) e t.clean (rw t.count (stops.at (before ++ part.past) (left ++ more) t.count t.so)))

-- and nothing was read after it
part-read-ends : {R : Type 0} (remaining : R → Option (List ℕ)) (d : ℕ) (limits : Limits) (n : ℕ) (before : Records) (text : List ℕ) (a b : Reader R) (labels : List (List ℕ)) (edges : List Edge) (f : List (List ℕ)) (e : EdgeError) (part : IsPartRead remaining d limits n before text a labels edges) →
    before ≡ [] → IsLeft remaining d text (part.past ++ f ∷ []) b → Stops limits n f labels edges e → EndsAt remaining d text limits b e
part-read-ends remaining d limits n before text a b labels edges f e part none at stops =
    let t : IsThrough limits n part.past labels edges = subst (λ (rs : Records). IsThrough limits n (rs ++ part.past) labels edges) none part.through in
    record {
      before = part.past;
      last = f;
      at = at;
      clean = t.clean;
      fault = rw t.count (stops.at part.past [] t.count t.so);
    }

-- ---- a text that is read some records at a time

-- there may be others left
pub reads-part : {R : Type 0} (remaining : R → Option (List ℕ)) (d : ℕ) (limits : Limits) (n : ℕ) (before : Records) (text : List ℕ) (a : Reader R) (labels : List (List ℕ)) (edges : List Edge) →
    IsPartRead remaining d limits n before text a labels edges → ReadsOn remaining d limits before text (Ok (n, true)) a labels edges
reads-part remaining d limits n before text a labels edges part = record {
  goes = λ _. part;
  end = λ bad. absurd (let no : true ≡ false = bad in cc);
  last = λ bad. absurd (let no : true ≡ false = bad in cc);
  refused = λ more. tt;
  ends = λ none. tt;
}

-- all were read
pub reads-whole : {R : Type 0} (remaining : R → Option (List ℕ)) (d : ℕ) (limits : Limits) (n : ℕ) (before : Records) (text : List ℕ) (a b : Reader R) (labels : List (List ℕ)) (edges : List Edge) (part : IsPartRead remaining d limits n before text a labels edges) →
    FindsNone remaining d text part.past a b → ReadsOn remaining d limits before text (Ok (n, false)) b labels edges
reads-whole remaining d limits n before text a b labels edges part found = record {
  goes = λ bad. absurd (let no : false ≡ true = bad in cc);
  end = λ _. part-read-end remaining d limits n before text a labels edges part found.all;
  last = λ _. part-read-stops remaining d limits n before text a b labels edges part found;
  refused = λ more. tt;
  ends = λ none. tt;
}

-- one was refused
pub reads-refused : {R : Type 0} (remaining : R → Option (List ℕ)) (d : ℕ) (limits : Limits) (n : ℕ) (before : Records) (text : List ℕ) (a b : Reader R) (labels labels' : List (List ℕ)) (edges edges' : List Edge) (f : List (List ℕ)) (e : EdgeError) (part : IsPartRead remaining d limits n before text a labels edges) →
    IsLeft remaining d text (part.past ++ f ∷ []) b → Stops limits n f labels edges e → ReadsOn remaining d limits before text (Err e) b labels' edges'
reads-refused remaining d limits n before text a b labels labels' edges edges' f e part at stops = record {
  goes = tt;
  end = tt;
  last = tt;
  refused = λ more. part-read-stop remaining d limits n before more text a b labels edges f e part at stops;
  ends = λ none is. part-read-ends remaining d limits n before text a b labels edges f e part none at stops;
}

-- an error says nothing of the records
pub reads-failed : {R : Type 0} (remaining : R → Option (List ℕ)) (d : ℕ) (limits : Limits) (before : Records) (text : List ℕ) (a : Reader R) (labels : List (List ℕ)) (edges : List Edge) (e : EdgeError) →
    ((says : Result Network Refusal) → Refuses says e) → ReadsOn remaining d limits before text (Err e) a labels edges
reads-failed remaining d limits before text a labels edges e silent = record {
  goes = tt;
  end = tt;
  last = tt;
  refused = λ more. silent (network_from limits (before ++ (records d text ++ more)));
  ends = λ none is. absurd (refuses-none e silent is);
}

-- the network of all records
pub through-network : (limits : Limits) (n : ℕ) (rs : Records) (labels : List (List ℕ)) (edges : List Edge) → IsThrough limits n rs labels edges → network_from limits rs ≡ Ok (network_by labels edges)
through-network limits n rs labels edges t = says-network limits rs labels edges t.clean t.so

-- ---- records that are added one after another

pub adds-more : (limits : Limits) (n : ℕ) (rs : Records) (f : List (List ℕ)) (a b c : List (List ℕ)) (x y z : List Edge) →
    AddsRecords limits n rs a x b y → AddsRecord limits (n + length rs) f b y c z → AddsRecords limits n (rs ++ f ∷ []) a x c z
adds-more limits n rs f a b c x y z adds one =
    let long : n + length (rs ++ f ∷ []) ≡ n + length rs + 1 = omega (arith, length-append rs (f ∷ [])) in
    record {
      through = λ before t. rw long (subst (λ (all : Records). IsThrough limits (n + length rs + 1) all c z) (append_assoc before rs (f ∷ []))
          (through-more limits (n + length rs) (before ++ rs) f b c y z (adds.through before t) one));
      within = λ w. rw long (one.within (adds.within w));
    }

-- records that were read and added
pub part-read-all : {R : Type 0} (remaining : R → Option (List ℕ)) (d : ℕ) (limits : Limits) (n : ℕ) (before : Records) (text : List ℕ) (a b : Reader R) (labels labels' : List (List ℕ)) (edges edges' : List Edge) (rs : Records) →
    IsPartRead remaining d limits n before text a labels edges → ReadsRecords remaining a b rs → AddsRecords limits n rs labels edges labels' edges' → IsPartRead remaining d limits (n + length rs) before text b labels' edges'
part-read-all remaining d limits n before text a b labels labels' edges edges' rs part reads adds = record {
  past = part.past ++ rs;
  at = reads d text part.past part.at;
  through = subst (λ (all : Records). IsThrough limits (n + length rs) all labels' edges') (append_assoc before part.past rs) (adds.through (before ++ part.past) part.through);
}

-- one more record that was read
pub reads-more : {R : Type 0} (remaining : R → Option (List ℕ)) (a b c : Reader R) (rs : Records) (f : List (List ℕ)) → ReadsRecords remaining a b rs → ReadsOne remaining b c f → ReadsRecords remaining a c (rs ++ f ∷ [])
reads-more remaining a b c rs f all one = λ d text past at.
    subst (λ (ps : Records). IsLeft remaining d text ps c) (append_assoc past rs (f ∷ [])) (one d text (past ++ rs) (all d text past at))

-- ---- lines of more than one piece

lines-joined : (a b : List ℕ) → lines (a ++ 10 ∷ b) ≡ lines a ++ lines b
unfolding lines
lines-joined [] b = refl
lines-joined (c ∷ a) b =
    let ih = lines-joined a b in
    elim (cases_Bool (c == 10)) [
      | inl e ↦ rw e (ap (λ (ls : List (List ℕ)). [] ∷ ls) ih)
      | inr e ↦ elim (cases_Bool (c == 13)) [
        | inl r ↦ rw (e, r) ih
        | inr r ↦
            let (h, t, at) = lines-some a in
            rw (e, r, ih, at) refl
      ]
    ]

line-records-joined : (d : ℕ) (a b : List ℕ) → line_records d (a ++ 10 ∷ b) ≡ line_records d a ++ line_records d b
line-records-joined d a b =
    rw (lines-joined a b, filter-append is_record (lines a) (lines b), map-append (fields d) (filter is_record (lines a)) (filter is_record (lines b))) refl

-- a mark ends before the first LF
mark-first : (b : List ℕ) → has_mark (10 ∷ b) ≡ false
mark-first [] = refl
mark-first (x ∷ []) = refl
mark-first (x ∷ y ∷ b) = refl

and-false : (t u : Bool) → (t && false && u) ≡ false
and-false true u = refl
and-false false u = refl

and-last : (t : Bool) → (t && false) ≡ false
and-last true = refl
and-last false = refl

mark-second : (x : ℕ) (b : List ℕ) → has_mark (x ∷ 10 ∷ b) ≡ false
mark-second x [] = refl
mark-second x (y ∷ b) = and-false (x == 239) (y == 191)

mark-third : (x y : ℕ) (b : List ℕ) → has_mark (x ∷ y ∷ 10 ∷ b) ≡ false
mark-third x y b = and-last ((x == 239) && (y == 187))

-- so it is skipped in the first line alone
mark-joined : (f : List ℕ) → (g : List ℕ) × ((b : List ℕ) → without_mark (f ++ 10 ∷ b) ≡ g ++ 10 ∷ b)
mark-joined [] = ([], λ b. rw (mark-first b) refl)
mark-joined (x ∷ []) = (x ∷ [], λ b. rw (mark-second x b) refl)
mark-joined (x ∷ y ∷ []) = (x ∷ y ∷ [], λ b. rw (mark-third x y b) refl)
mark-joined (x ∷ y ∷ z ∷ f) = elim (cases_Bool ((x == 239) && (y == 187) && (z == 191))) [
  | inl e ↦ (f, λ b. rw e refl)
  | inr e ↦ (x ∷ y ∷ z ∷ f, λ b. rw e refl)
]

-- what follows a line has no mark to be skipped
records-behind : (d : ℕ) (f b : List ℕ) → records d (f ++ 10 ∷ b) ≡ records d (f ++ 10 ∷ []) ++ line_records d b
unfolding lines
records-behind d f b =
    let (g, at) = mark-joined f in
    let none : line_records d g ++ line_records d [] ≡ line_records d g = append-nil (line_records d g) in
    rw (at b, at [], line-records-joined d g b, line-records-joined d g [], none) refl

-- an empty line is no record
records-held-behind : (d : ℕ) (b : List ℕ) → records d (10 ∷ b) ≡ line_records d b
unfolding lines
records-held-behind d b = rw (mark-first b) refl

-- behind whole lines there are records more
pub records-joined : (d : ℕ) (a b : List ℕ) → EndsLine a → (rest : Records) × (records d (a ++ b) ≡ records d a ++ rest)
unfolding lines
records-joined d a b (inl e) = (records d b, rw e refl)
records-joined d a b (inr (f, e)) = (line_records d b, rw (e, append_assoc f (10 ∷ []) b) (records-behind d f b))

-- ---- plain pieces

lfs-behind : (a b : List ℕ) → HasLfs (a ++ b) → HasLfs b
lfs-behind [] b h = h
lfs-behind (c ∷ a) b h = lfs-behind a b h.1

starts-front : (a b : List ℕ) → StartsWithLf (a ++ 10 ∷ b) → StartsWithLf (a ++ 10 ∷ [])
starts-front [] b h = refl
starts-front (c ∷ a) b h = h

lfs-front : (a b : List ℕ) → HasLfs (a ++ 10 ∷ b) → HasLfs (a ++ 10 ∷ [])
lfs-front [] b h = ((λ e. absurd (cc)), tt)
lfs-front (c ∷ a) b h = ((λ e. starts-front a b (h.0 e)), lfs-front a b h.1)

-- whole lines at the front of a plain text are plain
pub plain-front : (a b : List ℕ) → EndsLine a → IsPlain (a ++ b) → IsPlain a
plain-front a b (inl e) p = rw e (record { ends = tt })
plain-front a b (inr (f, e)) p = record { ends = rw e (lfs-front f b (rw (e, append_assoc f (10 ∷ []) b) at p.ends)) }

-- what is held of a plain text is plain
pub plain-held : (done left lines : List ℕ) → IsLeftOf done left lines → IsPlain (done ++ left) → IsPlain lines
plain-held done left lines (inl h) p = rw (h.1) (rw h.0 at p)
plain-held done left lines (inr h) p = rw (h.1) (record { ends = ((λ e. absurd (cc)), lfs-behind done left p.ends) })

-- and its records are the others
pub records-held : (d : ℕ) (done left lines : List ℕ) → EndsLine done → IsLeftOf done left lines → records d (done ++ left) ≡ records d done ++ records d lines
unfolding lines
records-held d done left lines ends (inl h) = rw (h.0, h.1) refl
records-held d done left lines (inl e) (inr h) = absurd (h.0 e)
records-held d done left lines (inr (f, e)) (inr h) = rw (h.1, records-held-behind d left, e, append_assoc f (10 ∷ []) left) (records-behind d f left)

-- where something is held, something was given
pub given-some : (done left lines : List ℕ) → IsLeftOf done left lines → 0 < length lines → (done ++ left) ≢ []
given-some [] left lines (inl h) some = λ none. absurd (omega (arith, some, ap (length {A = ℕ}) h.1, ap (length {A = ℕ}) none))
given-some [] left lines (inr h) some = λ none. h.0 refl
given-some (c ∷ done) left lines held some = λ none. cc
