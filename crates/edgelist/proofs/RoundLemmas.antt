-- An edge list whose lines are read piece by piece.
use Rattle.std.proofs.Common.{◌≡◌, ◌≢◌, ◌∙◌, ℕ, zero, suc, ◌+◌, ◌-◌, ◌<◌, ◌≤◌, List, [], ◌∷◌, ◌++◌, length, take, drop, get_or, set, refl, ap, arith, sym, subst, inl, inr, Some, None}
use Rattle.std.specs.Prelude.{Option, Result, Ok, Err, IfErr, IfOk, IsOk, OnErr, OnOk, slice_range}
use Rattle.std.specs.List.{All, flat_map}
use Rattle.std.specs.Io.KnownBytes.{Consumes, IsAtEnd}
use Rattle.std.proofs.lemmas.List.{append-nil, append_assoc, drop-take, length-append, length-take-le, take-append-drop, take_all, take_more, take_more_set}
use Rattle.std.proofs.lemmas.List.Elements.{All-head, All-tail}
use Rattle.std.proofs.lemmas.Grind.{flat_map-append}
use Rattle.std.proofs.Math.Seq.{drop-append_seam, take-append-add}
use Rattle.ball_model.specs.Input.{IsPlain, Limits, network_from, records}
use Rattle.edgelist.specs.Pieces.{EndsLine, Fills, IsDone, IsLeftOf, IsOn, IsThrough, piece_of}
use Rattle.edgelist.specs.Reading.{Refuses}
use Rattle.edgelist.specs.Rounds.{AreBegun, AreOn, AreSameTexts, IsBegun, IsSameText, has_no_lines, has_plain_lines, records_of}
use Rattle.graph.specs.declared.edge.Edge.{Edge}
use Rattle.edgelist.specs.declared.piece.Gives.{Gives}
use Rattle.edgelist.specs.declared.piece.Gives.TheVariants as gave
use Rattle.edgelist.specs.declared.piece.Piece.{Piece}
use Rattle.edgelist.specs.declared.limits.EdgeError.{EdgeError}
use Rattle.edgelist.proofs.GivenLemmas.{records-none}
use Rattle.edgelist.proofs.PieceLemmas.{plain-front, plain-held, records-held, through-none}

abbrev Records : Type 0
Records = List (List (List ℕ))

abbrev Filled : Type 0
Filled = Result Gives EdgeError

-- ---- whole lines at the front, and what stands behind them

-- the front of a list up to the later of two places
front-more : (xs : List ℕ) (a b : ℕ) → a ≤ b → b ≤ length xs → take b xs ≡ take a xs ++ slice_range xs a b
front-more xs a b le within =
    let short : length (take a xs) ≡ a = length-take-le a xs (omega (arith, le, within)) in
    let sum : length (take a xs) + (b - a) ≡ b = omega (arith, short, le) in
    ap (λ (l : List ℕ). take b l) (sym (take-append-drop a xs))
    ∙ subst (λ (n : ℕ). take n (take a xs ++ drop a xs) ≡ take a xs ++ take (b - a) (drop a xs)) sum (take-append-add (take a xs) (drop a xs) (b - a))

-- what stands between two places is the end of the front
range-front : (xs : List ℕ) (a b : ℕ) → a ≤ b → slice_range xs a b ≡ drop a (take b xs)
range-front xs a b le =
    let sum : a + (b - a) ≡ b = omega (arith, le) in
    sym (subst (λ (n : ℕ). drop a (take n xs) ≡ take (b - a) (drop a xs)) sum (drop-take a (b - a) xs))

held-by : (xs : List ℕ) (a b : ℕ) → a ≤ b → b ≤ length xs → EndsLine (take a xs) → IsLeftOf (take a xs) (slice_range xs a b) (piece_of xs a b)
held-by xs zero b le within ends = inl (refl, refl)
held-by xs (suc a) b le within (inl e) =
    absurd (let long : length (take (suc a) xs) ≡ suc a = length-take-le (suc a) xs (omega (arith, le, within)) in omega (arith, long, ap length e))
held-by xs (suc a) b le within (inr (f, e)) =
    let long : length (take (suc a) xs) ≡ suc a = length-take-le (suc a) xs (omega (arith, le, within)) in
    let short : a ≡ length f = omega (arith, long, ap length e, length-append f (10 ∷ [])) in
    let back : suc a - 1 ≡ length f = omega (arith, short) in
    let whole : take b xs ≡ f ++ 10 ∷ slice_range xs (suc a) b =
    front-more xs (suc a) b le within ∙ ap (λ (l : List ℕ). l ++ slice_range xs (suc a) b) e ∙ append_assoc f (10 ∷ []) (slice_range xs (suc a) b) in
    inr (
      (λ none. absurd (omega (arith, long, ap (length {A = ℕ}) none))),
      range-front xs (suc a - 1) b (omega (arith, le))
          ∙ ap (λ (l : List ℕ). drop (suc a - 1) l) whole
          ∙ ap (λ (n : ℕ). drop n (f ++ 10 ∷ slice_range xs (suc a) b)) back
          ∙ drop-append_seam f (10 ∷ slice_range xs (suc a) b),
    )

held-longer : (done left lines more : List ℕ) → IsLeftOf done left lines → IsLeftOf done (left ++ more) (lines ++ more)
held-longer done left lines more (inl h) = inl (h.0, ap (λ (l : List ℕ). l ++ more) h.1)
held-longer done left lines more (inr h) = inr (h.0, ap (λ (l : List ℕ). l ++ more) h.1)

split : (lines rest : List ℕ) (end : ℕ) → end ≤ length lines → lines ++ rest ≡ take end lines ++ (slice_range lines end (length lines) ++ rest)
split lines rest end le =
    ap (λ (l : List ℕ). l ++ rest) (sym (take_all (length lines) lines (omega arith)) ∙ front-more lines end (length lines) le (omega arith))
    ∙ append_assoc (take end lines) (slice_range lines end (length lines)) rest

records-split : (d : ℕ) (lines rest : List ℕ) (end : ℕ) → end ≤ length lines → EndsLine (take end lines) →
    records d (lines ++ rest) ≡ records d (take end lines) ++ records d (piece_of lines end (length lines) ++ rest)
records-split d lines rest end le ends =
    let held = held-by lines end (length lines) le (omega arith) ends in
    ap (records d) (split lines rest end le)
    ∙ records-held d (take end lines) (slice_range lines end (length lines) ++ rest) (piece_of lines end (length lines) ++ rest) ends
    (held-longer (take end lines) (slice_range lines end (length lines)) (piece_of lines end (length lines)) rest held)

pub on-plain : (d : ℕ) (text : List ℕ) (done : Records) (lines : List ℕ) (left : Option (List ℕ)) (end : ℕ) (on : IsOn d text done lines left) →
    end ≤ length lines → EndsLine (take end lines) → IsPlain (take end lines)
on-plain d text done lines left end on le ends =
    plain-front (take end lines) (slice_range lines end (length lines) ++ on.rest) ends (subst IsPlain (split lines on.rest end le) on.plain)

-- the lines at the front become a piece
pub on-front : (d : ℕ) (text : List ℕ) (done : Records) (lines : List ℕ) (left : Option (List ℕ)) (end : ℕ) (on : IsOn d text done lines left) →
    end ≤ length lines → EndsLine (take end lines) → IsOn d text (done ++ records d (take end lines)) (piece_of lines end (length lines)) left
on-front d text done lines left end on le ends =
    let held = held-by lines end (length lines) le (omega arith) ends in
    record {
      rest = on.rest;
      left_is = on.left_is;
      all = on.all ∙ ap (λ (rs : Records). done ++ rs) (records-split d lines on.rest end le ends) ∙ sym (append_assoc done (records d (take end lines)) (records d (piece_of lines end (length lines) ++ on.rest)));
      plain = plain-held (take end lines) (slice_range lines end (length lines) ++ on.rest) (piece_of lines end (length lines) ++ on.rest)
          (held-longer (take end lines) (slice_range lines end (length lines)) (piece_of lines end (length lines)) on.rest held)
          (subst IsPlain (split lines on.rest end le) on.plain);
    }

-- ---- more is held, or nothing is left

consumed-known : (old new : Option (List ℕ)) (rest taken : List ℕ) → old ≡ Some rest → Consumes old new taken → (more : List ℕ) × (new ≡ Some more) × (rest ≡ taken ++ more)
consumed-known None new rest taken e c = absurd (cc)
consumed-known (Some xs) None rest taken e c = absurd c
consumed-known (Some xs) (Some ys) rest taken e c = let same : xs ≡ rest = cc in (ys, refl, sym same ∙ c)

pub on-filled : (d : ℕ) (text : List ℕ) (done : Records) (lines lines' : List ℕ) (old new : Option (List ℕ)) → Fills old new lines lines' → IsOn d text done lines old → IsOn d text done lines' new
on-filled d text done lines lines' old new f on =
    let (more, is, rest) = consumed-known old new on.rest f.taken on.left_is f.consumed in
    let same : lines ++ on.rest ≡ lines' ++ more =
    ap (λ (l : List ℕ). lines ++ l) rest ∙ sym (append_assoc lines f.taken more) ∙ ap (λ (l : List ℕ). l ++ more) (sym f.held) in
    record {
      rest = more;
      left_is = is;
      all = on.all ∙ ap (λ (l : List ℕ). done ++ records d l) same;
      plain = subst IsPlain same on.plain;
    }

end-known : (left : Option (List ℕ)) (rest : List ℕ) → left ≡ Some rest → IsAtEnd left → rest ≡ []
end-known None rest e at = absurd (cc)
end-known (Some xs) rest e at = let same : xs ≡ rest = cc in sym same ∙ at

plain-none : IsPlain []
plain-none = record { ends = tt }

records-of-none : (piece : Piece) → has_no_lines piece → records_of piece ≡ []
records-of-none piece none = rw none (records-none _)

records-of-all : (pieces : List Piece) → All has_no_lines pieces → flat_map records_of pieces ≡ []
records-of-all [] all = refl
records-of-all (p ∷ ps) all = rw (records-of-none p (All-head has_no_lines p ps all), records-of-all ps (All-tail has_no_lines p ps all)) refl

plain-cons : (y : Piece) (ys : List Piece) → has_plain_lines y → All has_plain_lines ys → All has_plain_lines (y ∷ ys)
plain-cons y ys one all zero d lt = one
plain-cons y ys one all (suc k) d lt = all k d (omega (arith, lt))

-- all that is held becomes a piece
pub on-last : (d : ℕ) (text : List ℕ) (done : Records) (lines : List ℕ) (left : Option (List ℕ)) (on : IsOn d text done lines left) → IsAtEnd left → IsOn d text (done ++ records d lines) [] left × IsPlain lines
on-last d text done lines left on at =
    let none = end-known left on.rest on.left_is at in
    let same : lines ++ on.rest ≡ lines = ap (λ (l : List ℕ). lines ++ l) none ∙ append-nil lines in
    let empty : records d on.rest ≡ [] = ap (records d) none ∙ records-none d in (
      record {
        rest = on.rest;
        left_is = on.left_is;
        all = on.all ∙ ap (λ (l : List ℕ). done ++ records d l) same ∙ sym (append-nil (done ++ records d lines)) ∙ ap (λ (rs : Records). (done ++ records d lines) ++ rs) (sym empty);
        plain = subst IsPlain (sym none) plain-none;
      },
      subst IsPlain same on.plain,
    )

-- a piece with no lines
on-none : (d : ℕ) (text : List ℕ) (done : Records) (lines : List ℕ) (left : Option (List ℕ)) (piece : Piece) → has_no_lines piece → IsOn d text done lines left → IsOn d text (done ++ records_of piece) lines left
on-none d text done lines left piece none on =
    subst (λ (rs : Records). IsOn d text rs lines left)
    (sym (append-nil done) ∙ ap (λ (rs : Records). done ++ rs) (sym (records-of-none piece none))) on

plain-of-none : (piece : Piece) → has_no_lines piece → has_plain_lines piece
plain-of-none piece none = subst IsPlain (sym none) plain-none

-- ---- a piece more that was filled, or not

pub begun-none : (d : ℕ) (text : List ℕ) (done : Records) (piece : Piece) → has_no_lines piece → IsBegun d text done → IsBegun d text (done ++ records_of piece)
begun-none d text done piece none begun =
    subst (λ (rs : Records). IsBegun d text rs)
    (sym (append-nil done) ∙ ap (λ (rs : Records). done ++ rs) (sym (records-of-none piece none))) begun

pub begun-on : (d : ℕ) (text : List ℕ) (done : Records) (lines : List ℕ) (left : Option (List ℕ)) → IsOn d text done lines left → IsBegun d text done
begun-on d text done lines left on = record { more = records d (lines ++ on.rest); all = on.all }

pub begun-filled : (r : Filled) (d : ℕ) (text : List ℕ) (done : Records) (piece : Piece) (lines : List ℕ) (left : Option (List ℕ)) → OnOk r (IsOn d text (done ++ records_of piece) lines left) → OnErr r (has_no_lines piece) →
    IsBegun d text done → IsBegun d text (done ++ records_of piece)
begun-filled (Ok gives) d text done piece lines left on none begun = begun-on d text (done ++ records_of piece) lines left on
begun-filled (Err e) d text done piece lines left on none begun = begun-none d text done piece none begun

plain-filled : (r : Filled) (piece : Piece) → OnOk r (has_plain_lines piece) → OnErr r (has_no_lines piece) → has_plain_lines piece
plain-filled (Ok gives) piece plain none = plain
plain-filled (Err e) piece plain none = plain-of-none piece none

pub on-cleared : (r : Filled) (d : ℕ) (text : List ℕ) (done : Records) (lines : List ℕ) (left : Option (List ℕ)) (piece : Piece) → has_no_lines piece → OnOk r (IsOn d text done lines left) → OnOk r (IsOn d text (done ++ records_of piece) lines left)
on-cleared (Ok gives) d text done lines left piece none on = on-none d text done lines left piece none on
on-cleared (Err e) d text done lines left piece none on = tt

-- ---- rounds that are the last, and others

pub on-going : (r : Filled) (P : Type 0) → OnOk r P → IsOk r → P
on-going (Ok gives) P p ok = p
on-going (Err e) P p ok = absurd (cc)

pub on-ended : (r : Filled) (P D : Type 0) → OnOk r P → IfOk r (λ gives. gives ≡ gave.Nothing → D) → IfOk r (λ gives. gives ≡ gave.Nothing) → IsOk r → P × D
on-ended (Ok gives) P D p end last ok = (p, end last)
on-ended (Err e) P D p end last ok = absurd (cc)

pub on-weaker : (r : Filled) (P Q : Type 0) → OnOk r P → (P → Q) → OnOk r Q
on-weaker (Ok gives) P Q p f = f p
on-weaker (Err e) P Q p f = tt

-- ---- the last pieces, and why no more could be filled

-- the refusal of a record is answered, then why no more could be filled, and else what was added
pub record IsToldLast (added result : Result ℕ EdgeError) (filled : Filled) : Type 0 where
  pub adds : IfErr added (λ e. result ≡ Err e)
  pub fills : IfOk added (λ _. IfErr filled (λ e. result ≡ Err e))
  pub goes : IfOk added (λ n. IfOk filled (λ _. result ≡ Ok n))

pub last-if : (added result : Result ℕ EdgeError) (filled : Filled) (P : ℕ → Type 0) → IsToldLast added result filled → IfOk added P → IfOk result P
last-if (Ok n) result (Ok gives) P told p = rw told.goes p
last-if (Ok n) result (Err e) P told p = rw told.fills tt
last-if (Err e) result filled P told p = rw told.adds tt

pub last-filled : (added result : Result ℕ EdgeError) (filled : Filled) → IsToldLast added result filled → OnOk result (IsOk filled)
last-filled (Ok n) result (Ok gives) told = rw told.goes refl
last-filled (Ok n) result (Err e) told = rw told.fills tt
last-filled (Err e) result filled told = rw told.adds tt

pub last-err : (added result : Result ℕ EdgeError) (filled : Filled) (P : EdgeError → Type 0) → IsToldLast added result filled → IfErr added P → IfErr filled P → IfErr result P
last-err (Ok n) result (Ok gives) P told p q = rw told.goes tt
last-err (Ok n) result (Err e) P told p q = rw told.fills q
last-err (Err e) result filled P told p q = rw told.adds p

-- a fault that adding never gives comes only once all was added
pub last-added : (added result : Result ℕ EdgeError) (filled : Filled) (e : EdgeError) (P : ℕ → Type 0) (Q : Type 0) → IsToldLast added result filled → added ≢ Err e → result ≡ Err e → IfOk added P → ((n : ℕ) → P n → Q) → Q
last-added (Ok n) result filled e P Q told never is p f = f n p
last-added (Err x) result filled e P Q told never is p f = absurd (never (sym told.adds ∙ is))

-- ---- pieces one after another

pub pieces-more : (xs : List Piece) (i : ℕ) (x : Piece) (done : Records) → i < length xs → x ≡ get_or xs i x →
    (done ++ flat_map records_of (take i xs)) ++ records_of x ≡ done ++ flat_map records_of (take (i + 1) xs)
pieces-more xs i x done lt here =
    append_assoc done (flat_map records_of (take i xs)) (records_of x)
    ∙ ap (λ (rs : Records). done ++ rs) (ap (λ (rs : Records). flat_map records_of (take i xs) ++ rs) (sym (append-nil (records_of x))) ∙ sym (flat_map-append records_of (take i xs) (x ∷ []))
    ∙ ap (flat_map records_of) (sym (take_more xs i x lt ∙ ap (λ (r : Piece). take i xs ++ r ∷ []) (sym here))))

-- a piece that takes the place of another
pub pieces-put : (xs : List Piece) (i : ℕ) (x : Piece) (done : Records) → i < length xs →
    (done ++ flat_map records_of (take i xs)) ++ records_of x ≡ done ++ flat_map records_of (take (i + 1) (set xs i x))
pieces-put xs i x done lt =
    append_assoc done (flat_map records_of (take i xs)) (records_of x)
    ∙ ap (λ (rs : Records). done ++ rs) (ap (λ (rs : Records). flat_map records_of (take i xs) ++ rs) (sym (append-nil (records_of x))) ∙ sym (flat_map-append records_of (take i xs) (x ∷ []))
    ∙ ap (flat_map records_of) (sym (take_more_set xs i x lt)))

pub pieces-rest : (xs : List Piece) (i : ℕ) (x : Piece) (before more : Records) → i < length xs → x ≡ get_or xs i x →
    before ++ (flat_map records_of xs ++ more) ≡ (before ++ flat_map records_of (take i xs)) ++ (records_of x ++ (flat_map records_of (drop (i + 1) xs) ++ more))
pieces-rest xs i x before more lt here =
    let whole : flat_map records_of xs ≡ flat_map records_of (take (i + 1) xs) ++ flat_map records_of (drop (i + 1) xs) =
    ap (flat_map records_of) (sym (take-append-drop (i + 1) xs)) ∙ flat_map-append records_of (take (i + 1) xs) (drop (i + 1) xs) in
    let rest = flat_map records_of (drop (i + 1) xs) in
    let front = flat_map records_of (take (i + 1) xs) in
    ap (λ (rs : Records). before ++ (rs ++ more)) whole
    ∙ ap (λ (rs : Records). before ++ rs) (append_assoc front rest more)
    ∙ sym (append_assoc before front (rest ++ more))
    ∙ ap (λ (rs : Records). rs ++ (rest ++ more)) (sym (pieces-more xs i x before lt here))
    ∙ append_assoc (before ++ flat_map records_of (take i xs)) (records_of x) (rest ++ more)

-- the same lines, piece by piece
pub same-texts : (xs ys : List Piece) → length ys ≡ length xs → ((i : ℕ) (d : Piece) → i < length xs → IsSameText (get_or xs i d) (get_or ys i d)) → AreSameTexts xs ys
same-texts [] [] long each = record { records_are = refl; plain = λ all. all }
same-texts [] (y ∷ ys) long each = absurd (omega (arith, long))
same-texts (x ∷ xs) [] long each = absurd (omega (arith, long))
same-texts (x ∷ xs) (y ∷ ys) long each =
    let one : IsSameText x y = each 0 x (omega arith) in
    let rest = same-texts xs ys (omega (arith, long)) (λ i d lt. each (suc i) d (omega (arith, lt))) in
    record {
      records_are = rw (one.lines_are, one.delimiter_is, rest.records_are) refl;
      plain = λ all. plain-cons y ys (subst IsPlain (sym one.lines_are) (All-head has_plain_lines x xs all)) (rest.plain (All-tail has_plain_lines x xs all));
    }

-- ---- rounds

pub on-turn : (limits : Limits) (d : ℕ) (text : List ℕ) (n m : ℕ) (labels labels' : List (List ℕ)) (edges edges' : List Edge) (pieces coming coming' : List Piece) (held held' : List ℕ) (left left' : Option (List ℕ)) (on : AreOn limits d text n labels edges pieces held left) →
    IsOn d text ((on.before ++ flat_map records_of pieces) ++ flat_map records_of coming) held' left' → All has_plain_lines coming → AreSameTexts coming coming' → IsThrough limits m (on.before ++ flat_map records_of pieces) labels' edges' →
    AreOn limits d text m labels' edges' coming' held' left'
on-turn limits d text n m labels labels' edges edges' pieces coming coming' held held' left left' on next plain same through = record {
  before = on.before ++ flat_map records_of pieces;
  through = through;
  plain = same.plain plain;
  on = subst (λ (rs : Records). IsOn d text ((on.before ++ flat_map records_of pieces) ++ rs) held' left') (sym same.records_are) next;
}

-- what is said of the pieces, whatever follows, is said of the text
pub begun-refused : (limits : Limits) (d : ℕ) (text : List ℕ) (before : Records) (pieces : List Piece) (more : Records) (e : EdgeError) (begun : IsBegun d text ((before ++ flat_map records_of pieces) ++ more)) →
    ((rest : Records) → Refuses (network_from limits (before ++ (flat_map records_of pieces ++ rest))) e) → Refuses (network_from limits (records d text)) e
begun-refused limits d text before pieces more e begun told =
    subst (λ (rs : Records). Refuses (network_from limits rs) e)
    (sym (begun.all ∙ append_assoc (before ++ flat_map records_of pieces) more begun.more ∙ append_assoc before (flat_map records_of pieces) (more ++ begun.more)))
    (told (more ++ begun.more))

pub begun-turn : (limits : Limits) (d : ℕ) (text : List ℕ) (m : ℕ) (labels : List (List ℕ)) (edges : List Edge) (before : Records) (pieces coming coming' : List Piece) →
    IsBegun d text ((before ++ flat_map records_of pieces) ++ flat_map records_of coming) → All has_plain_lines coming → AreSameTexts coming coming' → IsThrough limits m (before ++ flat_map records_of pieces) labels edges →
    AreBegun limits d text m labels edges coming'
begun-turn limits d text m labels edges before pieces coming coming' begun plain same through = record {
  before = before ++ flat_map records_of pieces;
  through = through;
  plain = same.plain plain;
  begun = subst (λ (rs : Records). IsBegun d text ((before ++ flat_map records_of pieces) ++ rs)) (sym same.records_are) begun;
}

pub on-done : (limits : Limits) (d : ℕ) (text : List ℕ) (n : ℕ) (labels : List (List ℕ)) (edges : List Edge) (pieces : List Piece) (held : List ℕ) (left : Option (List ℕ)) (on : AreOn limits d text n labels edges pieces held left) → IsDone held left →
    records d text ≡ on.before ++ flat_map records_of pieces
on-done limits d text n labels edges pieces held left on done =
    let none = end-known left on.on.rest on.on.left_is done.1 in
    let empty : records d (held ++ on.on.rest) ≡ [] = rw (done.0, none) (records-none d) in
    on.on.all ∙ ap (λ (rs : Records). (on.before ++ flat_map records_of pieces) ++ rs) empty ∙ append-nil (on.before ++ flat_map records_of pieces)

pub on-start : (limits : Limits) (d : ℕ) (text : List ℕ) (labels : List (List ℕ)) (edges : List Edge) (pieces : List Piece) (held : List ℕ) (left : Option (List ℕ)) → labels ≡ [] → edges ≡ [] → held ≡ [] → All has_no_lines pieces → left ≡ Some text → IsPlain text →
    AreOn limits d text 0 labels edges pieces held left
on-start limits d text labels edges pieces held left no_labels no_edges none all known plain = rw (no_labels, no_edges, none) (record {
  before = [];
  through = through-none limits;
  plain = λ i p lt. plain-of-none (get_or pieces i p) (all i p lt);
  on = record {
    rest = text;
    left_is = known;
    all = ap (λ (rs : Records). rs ++ records d text) (sym (records-of-all pieces all));
    plain = plain;
  };
})
