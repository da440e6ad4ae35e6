-- Lists by the places where they begin.
use Rattle.std.proofs.Common.{◌≡◌, ℕ, zero, suc, ◌+◌, ◌-◌, ◌*◌, ◌^◌, ◌<◌, ◌≤◌, Bool, false, List, [], ◌∷◌, ◌++◌, length, get_or, take, drop, Ok, refl, sym, ap, subst, ◌∙◌, append_assoc, arith, length-append}
use Rattle.std.specs.Prelude.{replicate}
use Rattle.std.specs.List.{flat_map}
use Rattle.std.proofs.lemmas.List.{append-nil, drop_at, drop_more, drop_all, length-drop, length-map, get_or-map, get_or-append-add}
use Rattle.std.proofs.lemmas.List.Concat.{flat_map-append}
use Rattle.gapcode.specs.Bits.{gamma, bits_of}
use Rattle.gapcode.specs.Lists.{beyond, list_bits, list_at, lists_at, read_list, values, IsAscending, AreAscending, AscendsFrom, IsSpelling, AreSpelled, IsPlaced, ◌>>=◌, bits_after}
use Rattle.gapcode.specs.Index.{lists_of, starts_from, IsIndex, IsStored}
use Rattle.gapcode.proofs.SpelledLemmas.{coded, coded-none, coded-cons, list_bits-coded, bind_ok, list_again, list_takes, lists_again}
use Rattle.gapcode.proofs.GammaLemmas.{ok_is}
use Rattle.gapcode.proofs.WordsLemmas.{length-bits_of}

-- ---- what begins at a place

pub fits : beyond ≤ 2 ^ 32
fits = omega arith

pub begins : (n : ℕ) (bits front more : List Bool) (xs : List ℕ) (lists : List (List ℕ)) → bits ≡ front ++ (flat_map list_bits (xs ∷ lists) ++ more) → length front ≡ n → drop n bits ≡ list_bits xs ++ (flat_map list_bits lists ++ more)
begins n bits front more xs lists e len =
    ap (drop n) e ∙ drop_at front (flat_map list_bits (xs ∷ lists) ++ more) n len ∙ append_assoc (list_bits xs) (flat_map list_bits lists) more

pub begins_later : (bits front more : List Bool) (xs : List ℕ) (lists : List (List ℕ)) → bits ≡ front ++ (flat_map list_bits (xs ∷ lists) ++ more) → bits ≡ (front ++ list_bits xs) ++ (flat_map list_bits lists ++ more)
begins_later bits front more xs lists e =
    e ∙ ap (λ (t : List Bool). front ++ t) (append_assoc (list_bits xs) (flat_map list_bits lists) more) ∙ sym (append_assoc front (list_bits xs) (flat_map list_bits lists ++ more))

all_listed : (n : ℕ) (bits front more : List Bool) (lists : List (List ℕ)) → bits ≡ front ++ (flat_map list_bits lists ++ more) → length front ≡ n → AreAscending beyond lists → lists_of bits (starts_from n lists) ≡ lists
unfolding lists_of starts_from
all_listed n bits front more [] e len up = refl
all_listed n bits front more (xs ∷ lists) e len up =
    let one : read_list (drop n bits) ≡ xs = ap read_list (begins n bits front more xs lists e len) ∙ ap values (list_again beyond xs (flat_map list_bits lists ++ more) fits up.0) in
    let others = all_listed (n + length (list_bits xs)) bits (front ++ list_bits xs) more lists (begins_later bits front more xs lists e) (length-append front (list_bits xs) ∙ omega (arith, len)) up.1 in
    rw (one, others) refl

pub record Listed (bits : List Bool) (place : ℕ) (list : List ℕ) : Type 0 where
  pub inside : place ≤ length bits
  pub coded : (rest : List Bool) × (list_at beyond (drop place bits) ≡ Ok (list, rest))

listed : (i n : ℕ) (bits front more : List Bool) (lists : List (List ℕ)) → i < length lists → bits ≡ front ++ (flat_map list_bits lists ++ more) → length front ≡ n → AreAscending beyond lists
    → Listed bits (get_or (starts_from n lists) i 0) (get_or lists i [])
unfolding starts_from
listed i n bits front more [] lt e len up = absurd (omega arith)
listed zero n bits front more (xs ∷ lists) lt e len up = record {
  inside = omega (arith, ap length e, length-append front (flat_map list_bits (xs ∷ lists) ++ more), len);
  coded = (flat_map list_bits lists ++ more, ap (list_at beyond) (begins n bits front more xs lists e len) ∙ list_again beyond xs (flat_map list_bits lists ++ more) fits up.0);
}
listed (suc i) n bits front more (xs ∷ lists) lt e len up =
    listed i (n + length (list_bits xs)) bits (front ++ list_bits xs) more lists (omega arith) (begins_later bits front more xs lists e) (length-append front (list_bits xs) ∙ omega (arith, len)) up.1

-- ---- an index

pub record Shows (bits more : List Bool) (places : List ℕ) (lists : List (List ℕ)) : Type 0 where
  pub shows : lists_of bits places ≡ lists
  pub index : IsIndex bits more places

pub index_of : (bits more : List Bool) (places : List ℕ) (lists : List (List ℕ)) → bits ≡ flat_map list_bits lists ++ more → places ≡ starts_from 0 lists → AreAscending beyond lists → Shows bits more places lists
index_of bits more places lists whole placed up =
    let e : lists_of bits places ≡ lists = ap (lists_of bits) placed ∙ all_listed 0 bits [] more lists whole refl up in
    record { shows = e; index = record { whole = rw e whole; placed = rw e placed; ascend = rw e up } }

pub length-lists_of : (bits : List Bool) (places : List ℕ) → length (lists_of bits places) ≡ length places
unfolding lists_of
length-lists_of bits places = length-map places (λ place. read_list (drop place bits))

pub list_of-at : (bits : List Bool) (places : List ℕ) (i : ℕ) → i < length places → get_or (lists_of bits places) i [] ≡ read_list (drop (get_or places i 0) bits)
unfolding lists_of
list_of-at bits places i lt = get_or-map (λ place. read_list (drop place bits)) places i 0 [] lt

pub index_at : (bits more : List Bool) (places : List ℕ) (i : ℕ) → IsIndex bits more places → i < length places → Listed bits (get_or places i 0) (get_or (lists_of bits places) i [])
index_at bits more places i is lt =
    let found = listed i 0 bits [] more (lists_of bits places) (omega (arith, length-lists_of bits places)) is.whole refl is.ascend in
    subst (λ (ps : List ℕ). Listed bits (get_or ps i 0) (get_or (lists_of bits places) i [])) (sym is.placed) found

pub placed_at : (bytes places : List ℕ) (i : ℕ) → IsStored bytes places → i < length places → IsPlaced bytes (get_or places i 0)
placed_at bytes places i is lt =
    let found = index_at (bits_of bytes) (replicate is.pad false) places i is.index lt in
    record { inside = omega (arith, found.inside, length-bits_of bytes); coded = ((get_or (lists_of (bits_of bytes) places) i [], found.coded.0), found.coded.1) }

pub last_place : (bits more : List Bool) (places : List ℕ) → IsIndex bits more places → get_or places (length places - 1) 0 ≤ length bits
last_place bits more [] is = omega arith
last_place bits more (p ∷ places) is = (index_at bits more (p ∷ places) (length (p ∷ places) - 1) is (omega arith)).inside

-- ---- one list more

starts-append : (n : ℕ) (lists : List (List ℕ)) (xs : List ℕ) → starts_from n (lists ++ xs ∷ []) ≡ starts_from n lists ++ (n + length (flat_map list_bits lists)) ∷ []
unfolding starts_from
starts-append n [] xs = let e : n + 0 ≡ n = omega arith in rw e refl
starts-append n (ys ∷ lists) xs =
    let e : n + length (flat_map list_bits (ys ∷ lists)) ≡ n + length (list_bits ys) + length (flat_map list_bits lists) = omega (arith, length-append (list_bits ys) (flat_map list_bits lists)) in
    rw (e, starts-append (n + length (list_bits ys)) lists xs) refl

ascending-append : (lists : List (List ℕ)) (xs : List ℕ) → AreAscending beyond lists → IsAscending beyond 0 xs → AreAscending beyond (lists ++ xs ∷ [])
ascending-append [] xs up one = (one, tt)
ascending-append (ys ∷ lists) xs up one = (up.0, ascending-append lists xs up.1 one)

pub ascends_below : (least : ℕ) (xs : List ℕ) → ((i : ℕ) → get_or xs i 0 < beyond) → AscendsFrom least xs → IsAscending beyond least xs
ascends_below least [] small up = tt
ascends_below least (x ∷ xs) small up = (up.0, small 0, ascends_below (x + 1) xs (λ i. small (suc i)) up.1)

pub pushed : (bits : List Bool) (places list : List ℕ) → IsIndex bits [] places → IsAscending beyond 0 list → Shows (bits ++ list_bits list) [] (places ++ length bits ∷ []) (lists_of bits places ++ list ∷ [])
pushed bits places list is up =
    let lists = lists_of bits places in
    let whole : bits ≡ flat_map list_bits lists = is.whole ∙ append-nil (flat_map list_bits lists) in
    let one : flat_map list_bits (list ∷ []) ≡ list_bits list = append-nil (list_bits list) in
    let all : flat_map list_bits (lists ++ list ∷ []) ≡ bits ++ list_bits list = flat_map-append list_bits lists (list ∷ []) ∙ ap (λ (t : List Bool). flat_map list_bits lists ++ t) one ∙ ap (λ (t : List Bool). t ++ list_bits list) (sym whole) in
    let long : 0 + length (flat_map list_bits lists) ≡ length bits = omega (arith, ap length whole) in
    let starts : places ++ length bits ∷ [] ≡ starts_from 0 (lists ++ list ∷ []) =
    ap (λ (ps : List ℕ). ps ++ length bits ∷ []) is.placed ∙ ap (λ (n : ℕ). starts_from 0 lists ++ n ∷ []) (sym long) ∙ sym (starts-append 0 lists list) in
    index_of (bits ++ list_bits list) [] (places ++ length bits ∷ []) (lists ++ list ∷ []) (sym all ∙ sym (append-nil (flat_map list_bits (lists ++ list ∷ [])))) starts (ascending-append lists list is.ascend up)

-- where a list begins, that many bits are before it
starts-at : (n : ℕ) (lists : List (List ℕ)) (i : ℕ) → i < length lists → get_or (starts_from n lists) i 0 ≡ n + length (flat_map list_bits (take i lists))
unfolding starts_from
starts-at n [] i lt = absurd (omega (arith, lt))
starts-at n (xs ∷ lists) zero lt = omega arith
starts-at n (xs ∷ lists) (suc i) lt = omega (arith, starts-at (n + length (list_bits xs)) lists i (omega (arith, lt)), length-append (list_bits xs) (flat_map list_bits (take i lists)))

pub first_bits : (bytes places : List ℕ) (i : ℕ) → IsStored bytes places → i < length places → get_or places i 0 ≡ length (flat_map list_bits (take i (lists_of (bits_of bytes) places)))
first_bits bytes places i is lt =
    let lists = lists_of (bits_of bytes) places in
    omega (arith, ap (λ (ps : List ℕ). get_or ps i 0) is.index.placed, starts-at 0 lists i (omega (arith, lt, length-lists_of (bits_of bytes) places)))

-- ---- the bytes

pub stored : (bytes : List ℕ) (places : List ℕ) (lists : List (List ℕ)) → IsSpelling bytes lists → places ≡ starts_from 0 lists → AreAscending beyond lists → IsStored bytes places × (lists_of (bits_of bytes) places ≡ lists)
stored bytes places lists spelled placed up =
    let s = index_of (bits_of bytes) (replicate spelled.0 false) places lists spelled.2 placed up in
    (record { pad = spelled.0; short = spelled.1; index = s.index }, s.shows)

pub stored_spelling : (bytes : List ℕ) (places : List ℕ) → IsStored bytes places → IsSpelling bytes (lists_of (bits_of bytes) places)
stored_spelling bytes places is = (is.pad, is.short, is.index.whole)

-- the bits of a builder, with padding behind them
pub finished : (bits : List Bool) (bytes places : List ℕ) (pad : ℕ) → IsIndex bits [] places → pad < 8 → bits_of bytes ≡ bits ++ replicate pad false → IsStored bytes places × (lists_of (bits_of bytes) places ≡ lists_of bits places)
finished bits bytes places pad is short e =
    let lists = lists_of bits places in
    let whole : bits ≡ flat_map list_bits lists = is.whole ∙ append-nil (flat_map list_bits lists) in
    stored bytes places lists (pad, short, e ∙ ap (λ (t : List Bool). t ++ replicate pad false) whole) is.placed is.ascend

-- ---- the places of lists that are read

-- a list that is there, and the place after it
pub list_ends : (bytes : List ℕ) (place end : ℕ) (x : List ℕ × List Bool) → place ≤ 8 * length bytes → end ≤ 8 * length bytes → Ok (drop end (bits_of bytes)) ≡ bits_after (list_at beyond (drop place (bits_of bytes)))
    → list_at beyond (drop place (bits_of bytes)) ≡ Ok x → end ≡ place + length (list_bits x.0)
list_ends bytes place end x inside later passed read =
    let bits = bits_of bytes in
    let rest : drop end bits ≡ x.1 = ok_is (drop end bits) x.1 (passed ∙ ap bits_after read) in
    let taken = (list_takes beyond (drop place bits) x read).0 in
    omega (arith, ap length taken, length-append (list_bits x.0) x.1, length-drop place bits, length-drop end bits, ap length rest, length-bits_of bytes)

-- the places so far, and the lists still to come
pub record Goes (bits : List Bool) (places : List ℕ) (place left : ℕ) (lists : List (List ℕ)) : Type 0 where
  pub order : get_or places (length places - 1) 0 ≤ place
  pub others : (x : List (List ℕ) × List Bool) × (lists_at beyond left (drop place bits) ≡ Ok x) × (places ++ starts_from place x.0 ≡ starts_from 0 lists)

pub goes : (bits : List Bool) (count : ℕ) (x : List (List ℕ) × List Bool) → lists_at beyond count bits ≡ Ok x → Goes bits [] 0 (count - 0) x.0
goes bits count x read =
    let e : count - 0 ≡ count = omega arith in
    record { order = omega arith; others = (x, rw e read, refl) }

pub last_pushed : (places : List ℕ) (place : ℕ) → get_or (places ++ place ∷ []) (length (places ++ place ∷ []) - 1) 0 ≡ place
last_pushed places place =
    let long : length (places ++ place ∷ []) - 1 ≡ length places + 0 = omega (arith, length-append places (place ∷ [])) in
    ap (λ (i : ℕ). get_or (places ++ place ∷ []) i 0) long ∙ get_or-append-add places (place ∷ []) 0 0

pub goes_on : (bits : List Bool) (places : List ℕ) (place end i count : ℕ) (lists : List (List ℕ)) → i < count → Goes bits places place (count - i) lists
    → ((x : List ℕ × List Bool) → list_at beyond (drop place bits) ≡ Ok x → end ≡ place + length (list_bits x.0))
    → ((x : List ℕ × List Bool) → list_at beyond (drop place bits) ≡ Ok x → drop end bits ≡ x.1)
    → Goes bits (places ++ place ∷ []) end (count - (i + 1)) lists
unfolding lists_at starts_from
goes_on bits places place end i count lists lt g ends rests =
    let n = count - (i + 1) in
    let k : count - i ≡ suc n = omega arith in
    let x = g.others.0 in
    let read = rw k at g.others.1 in
    let a = bind_ok (list_at beyond (drop place bits)) (λ first. lists_at beyond n first.1 >>= λ others. Ok (first.0 ∷ others.0, others.1)) x read in
    let b = bind_ok (lists_at beyond n a.0.1) (λ others. Ok (a.0.0 ∷ others.0, others.1)) x a.2 in
    let made : List (List ℕ) × List Bool = (a.0.0 ∷ b.0.0, b.0.1) in
    let same : a.0.0 ∷ b.0.0 ≡ x.0 = ap (λ (y : List (List ℕ) × List Bool). y.0) (ok_is made x b.2) in
    let at : end ≡ place + length (list_bits a.0.0) = ends a.0 a.1 in
    let more : (places ++ place ∷ []) ++ starts_from end b.0.0 ≡ starts_from 0 lists =
    append_assoc places (place ∷ []) (starts_from end b.0.0)
    ∙ ap (λ (m : ℕ). places ++ (place ∷ starts_from m b.0.0)) at
    ∙ ap (λ (ls : List (List ℕ)). places ++ starts_from place ls) same ∙ g.others.2 in
    record {
      order = omega (arith, last_pushed places place, at);
      others = (b.0, ap (lists_at beyond n) (rests a.0 a.1) ∙ b.1, more);
    }

pub goes_done : (bits : List Bool) (places : List ℕ) (place i count : ℕ) (lists : List (List ℕ)) → count ≤ i → Goes bits places place (count - i) lists → places ≡ starts_from 0 lists
unfolding lists_at starts_from
goes_done bits places place i count lists le g =
    let k : count - i ≡ 0 = omega arith in
    let x = g.others.0 in
    let read = rw k at g.others.1 in
    let made : List (List ℕ) × List Bool = ([], drop place bits) in
    let none : [] ≡ x.0 = ap (λ (y : List (List ℕ) × List Bool). y.0) (ok_is made x read) in
    sym (append-nil places) ∙ ap (λ (ls : List (List ℕ)). places ++ starts_from place ls) none ∙ g.others.2

pub readable : (bytes : List ℕ) (count : ℕ) (lists : List (List ℕ)) (is : AreSpelled beyond count bytes lists) → lists_at beyond count (bits_of bytes) ≡ Ok (lists, replicate is.spelled.0 false)
readable bytes count lists is = rw (← is.count, is.spelled.2) (lists_again beyond lists (replicate is.spelled.0 false) fits is.ascend)

pub none_indexed : (bits : List Bool) (places : List ℕ) → bits ≡ [] → places ≡ [] → IsIndex bits [] places × (lists_of bits places ≡ [])
unfolding lists_of starts_from
none_indexed bits places b p = rw (b, p) (record { whole = refl; placed = refl; ascend = tt }, refl)

-- ---- a list, element by element

pub put_next : (writer new total : List Bool) (list : List ℕ) (i least x : ℕ) → i < length list → x ≡ get_or list i 0 → writer ++ coded least (drop i list) ≡ total → new ≡ writer ++ gamma (x + 1 - least) → new ++ coded (x + 1) (drop (i + 1) list) ≡ total
put_next writer new total list i least x lt at so_far put =
    let split : drop i list ≡ x ∷ drop (i + 1) list = drop_more list i 0 lt ∙ ap (λ (y : ℕ). y ∷ drop (i + 1) list) (sym at) in
    let code : coded least (drop i list) ≡ gamma (x + 1 - least) ++ coded (x + 1) (drop (i + 1) list) = ap (coded least) split ∙ coded-cons least x (drop (i + 1) list) in
    ap (λ (t : List Bool). t ++ coded (x + 1) (drop (i + 1) list)) put ∙ append_assoc writer (gamma (x + 1 - least)) (coded (x + 1) (drop (i + 1) list))
    ∙ ap (λ (t : List Bool). writer ++ t) (sym code) ∙ so_far

pub put_first : (writer new : List Bool) (list : List ℕ) (n : ℕ) → n ≡ length list → new ≡ writer ++ gamma (n + 1) → new ++ coded 0 (drop 0 list) ≡ writer ++ list_bits list
put_first writer new list n long put =
    rw (put, long) (append_assoc writer (gamma (length list + 1)) (coded 0 list) ∙ ap (λ (t : List Bool). writer ++ t) (sym (list_bits-coded list)))

pub put_whole : (writer total : List Bool) (list : List ℕ) (i least : ℕ) → length list ≤ i → writer ++ coded least (drop i list) ≡ total → writer ≡ total
put_whole writer total list i least le so_far =
    sym (append-nil writer) ∙ ap (λ (t : List Bool). writer ++ t) (sym (ap (coded least) (drop_all i list le) ∙ coded-none least)) ∙ so_far

pub ascends_at : (list : List ℕ) (i least : ℕ) → i < length list → AscendsFrom least (drop i list) → (least ≤ get_or list i 0) × AscendsFrom (get_or list i 0 + 1) (drop (i + 1) list)
ascends_at list i least lt up = let both = rw (drop_more list i 0 lt) at up in (both.0, both.1)
