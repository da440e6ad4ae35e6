-- Bits, places and lists put after others.
use Rattle.std.proofs.Common.{◌≡◌, ℕ, zero, suc, ◌+◌, ◌-◌, ◌*◌, ◌/◌, ◌%◌, ◌^◌, ◌<◌, ◌≤◌, Bool, false, List, [], ◌∷◌, ◌++◌, length, get_or, take, drop, Ok, refl, sym, ap, subst, ◌∙◌, append_assoc, arith, length-append}
use Rattle.std.specs.Prelude.{map, replicate}
use Rattle.std.specs.Int.{w64, to_be_bytes}
use Rattle.std.specs.List.{flat_map}
use Rattle.std.proofs.Math.Seq.{take-add}
use Rattle.std.proofs.lemmas.Nat.{shr_below}
use Rattle.std.proofs.lemmas.List.{append-nil, take_at, take-append-le, take-take, drop_more, drop_all, length-drop}
use Rattle.std.proofs.lemmas.List.Concat.{flat_map-append}
use Rattle.gapcode.specs.Bits.{digits, bits_of, gamma, log2, window_of}
use Rattle.gapcode.specs.Lists.{beyond, list_bits, list_at, IsAscending, AreAscending}
use Rattle.gapcode.specs.Index.{lists_of, starts_from, IsIndex, IsStored}
use Rattle.gapcode.proofs.AppendingLemmas.{put_bits}
use Rattle.gapcode.proofs.DigitsLemmas.{take-digits, length-digits}
use Rattle.gapcode.proofs.IndexLemmas.{Shows, index_of, fits, begins, begins_later, last_place, last_pushed, length-lists_of}
use Rattle.gapcode.proofs.SpelledLemmas.{list_again, list_takes, list_bits-coded, coded}
use Rattle.gapcode.proofs.WordsLemmas.{bits_of-drop, length-bits_of}

-- ---- bits

pub word_put : (old new bytes : List ℕ) (last used whole left word : ℕ) → used < 8 → word < 2 ^ 64 → new ≡ old ++ bytes → bytes ≡ to_be_bytes w64 whole → whole ≡ (last * 2 ^ 64 + word) / 2 ^ used → left ≡ (last * 2 ^ 64 + word) % 2 ^ used
    → bits_of new ++ digits used left ≡ (bits_of old ++ digits used last) ++ digits 64 word
word_put old new bytes last used whole left word hu hw e b f g =
    let k : (used + 64) / 8 ≡ 8 = omega arith in
    let r : (used + 64) % 8 ≡ used = omega arith in
    let put = put_bits old last used word 64 hu (omega arith) hw in
    let same = rw (k, r) at put in
    rw (e, b, f, g) same

-- the bits after whole words
after_words : (bytes : List ℕ) (i : ℕ) → drop (64 * i) (bits_of bytes) ≡ bits_of (drop (8 * i) bytes)
after_words bytes i =
    let e : 64 * i ≡ 8 * (8 * i) = omega arith in
    ap (λ (n : ℕ). drop n (bits_of bytes)) e ∙ bits_of-drop (8 * i) bytes

words_more : (bytes : List ℕ) (i word : ℕ) → 8 * i + 8 ≤ length bytes → digits 64 word ≡ window_of (bits_of (drop (8 * i) bytes)) → take (64 * (i + 1)) (bits_of bytes) ≡ take (64 * i) (bits_of bytes) ++ digits 64 word
words_more bytes i word le read =
    let bits = bits_of bytes in
    let rest = bits_of (drop (8 * i) bytes) in
    let e : 64 * (i + 1) ≡ 64 * i + 64 = omega arith in
    let window : window_of rest ≡ take 64 rest = take-append-le 64 rest (replicate 64 false) (omega (arith, le, length-bits_of (drop (8 * i) bytes), length-drop (8 * i) bytes)) in
    ap (λ (n : ℕ). take n bits) e ∙ take-add (64 * i) 64 bits ∙ ap (λ (t : List Bool). take (64 * i) bits ++ t) (ap (take 64) (after_words bytes i) ∙ sym window ∙ sym read)

pub words_put : (start before new : List Bool) (bytes : List ℕ) (i word : ℕ) → 8 * i + 8 ≤ length bytes → digits 64 word ≡ window_of (bits_of (drop (8 * i) bytes)) → before ≡ start ++ take (64 * i) (bits_of bytes) → new ≡ before ++ digits 64 word
    → new ≡ start ++ take (64 * (i + 1)) (bits_of bytes)
words_put start before new bytes i word le read so_far put =
    put ∙ ap (λ (t : List Bool). t ++ digits 64 word) so_far ∙ append_assoc start (take (64 * i) (bits_of bytes)) (digits 64 word) ∙ ap (λ (t : List Bool). start ++ t) (sym (words_more bytes i word le read))

pub first_small : (n word : ℕ) → n < 64 → word < 2 ^ 64 → word / 2 ^ (64 - n) < 2 ^ n
first_small n word lt small =
    let e : 64 ≡ n + (64 - n) = omega arith in
    shr_below word n (64 - n) (subst (λ (k : ℕ). word < 2 ^ k) e small)

pub first_read : (bytes : List ℕ) (n word : ℕ) → n < 64 → n ≤ 8 * length bytes → digits 64 word ≡ window_of (bits_of bytes) → digits n (word / 2 ^ (64 - n)) ≡ take n (bits_of bytes)
first_read bytes n word lt le read =
    let bits = bits_of bytes in
    let e : n + (64 - n) ≡ 64 = omega arith in
    sym (take-digits n (64 - n) word) ∙ ap (λ (k : ℕ). take n (digits k word)) e ∙ ap (take n) read ∙ take-take n 64 (bits ++ replicate 64 false) (omega arith) ∙ take-append-le n bits (replicate 64 false) (omega (arith, le, length-bits_of bytes))

-- whole words and the bits after them
pub bits_cut : (bytes : List ℕ) (count : ℕ) → take (64 * (count / 64)) (bits_of bytes) ++ take (count % 64) (bits_of (drop (8 * (count / 64)) bytes)) ≡ take count (bits_of bytes)
bits_cut bytes count =
    let q = count / 64 in
    let bits = bits_of bytes in
    let whole : 64 * q + count % 64 ≡ count = omega arith in
    ap (λ (t : List Bool). take (64 * q) bits ++ take (count % 64) t) (sym (after_words bytes q)) ∙ sym (take-add (64 * q) (count % 64) bits) ∙ ap (λ (n : ℕ). take n bits) whole

-- ---- places

pub record Moving (places others joined : List ℕ) (by i : ℕ) : Type 0 where
  pub so_far : joined ++ map (λ place. place + by) (drop i others) ≡ places ++ map (λ place. place + by) others
  pub least : ℕ
  pub order : get_or joined (length joined - 1) 0 ≤ least + by
  pub ascend : IsAscending (2 ^ 95) least (drop i others)

pub moving : (places others : List ℕ) (by : ℕ) → get_or places (length places - 1) 0 ≤ by → IsAscending (2 ^ 95) 0 others → Moving places others places by 0
moving places others by last up = record { so_far = refl; least = 0; order = omega (arith, last); ascend = up }

pub next_moved : (places others joined : List ℕ) (by i : ℕ) → i < length others → Moving places others joined by i → (get_or joined (length joined - 1) 0 ≤ get_or others i 0 + by) × (get_or others i 0 < 2 ^ 95)
next_moved places others joined by i lt m =
    let up = rw (drop_more others i 0 lt) at m.ascend in
    (omega (arith, m.order, up.0), up.1)

pub moves_on : (places others joined new : List ℕ) (by i : ℕ) → i < length others → Moving places others joined by i → new ≡ joined ++ (get_or others i 0 + by) ∷ [] → Moving places others new by (i + 1)
moves_on places others joined new by i lt m pushed =
    let x = get_or others i 0 in
    let rest = map (λ place. place + by) (drop (i + 1) others) in
    let split = drop_more others i 0 lt in
    let up = rw split at m.ascend in
    rw pushed record {
      so_far = append_assoc joined ((x + by) ∷ []) rest ∙ ap (λ (xs : List ℕ). joined ++ map (λ place. place + by) xs) (sym split) ∙ m.so_far;
      least = x + 1;
      order = omega (arith, last_pushed joined (x + by));
      ascend = up.2;
    }

pub all_moved : (places others joined : List ℕ) (by i : ℕ) → length others ≤ i → Moving places others joined by i → joined ≡ places ++ map (λ place. place + by) others
all_moved places others joined by i le m =
    sym (append-nil joined) ∙ ap (λ (xs : List ℕ). joined ++ map (λ place. place + by) xs) (sym (drop_all i others le)) ∙ m.so_far

-- ---- where lists end

last_listed : (n : ℕ) (bits front more : List Bool) (xs : List ℕ) (lists : List (List ℕ)) → bits ≡ front ++ (flat_map list_bits (xs ∷ lists) ++ more) → length front ≡ n → AreAscending beyond (xs ∷ lists)
    → (x : List ℕ) × (list_at beyond (drop (get_or (starts_from n (xs ∷ lists)) (length lists) 0) bits) ≡ Ok (x, more))
unfolding starts_from
last_listed n bits front more xs [] e len up = (xs, ap (list_at beyond) (begins n bits front more xs [] e len) ∙ list_again beyond xs more fits up.0)
last_listed n bits front more xs (ys ∷ lists) e len up =
    last_listed (n + length (list_bits xs)) bits (front ++ list_bits xs) more ys lists (begins_later bits front more xs (ys ∷ lists) e) (length-append front (list_bits xs) ∙ omega (arith, len)) up.1

end_of_lists : (bits more : List Bool) (lists : List (List ℕ)) (place end : ℕ) → bits ≡ flat_map list_bits lists ++ more → AreAscending beyond lists → 0 < length lists → place ≡ get_or (starts_from 0 lists) (length lists - 1) 0 → place ≤ length bits
    → ((x : List ℕ × List Bool) → list_at beyond (drop place bits) ≡ Ok x → end ≡ place + length (list_bits x.0)) → end ≡ length (flat_map list_bits lists)
end_of_lists bits more [] place end whole up some at inside ends = absurd (omega (arith, some))
end_of_lists bits more (xs ∷ lists) place end whole up some at inside ends =
    let last : length (xs ∷ lists) - 1 ≡ length lists = omega arith in
    let found = last_listed 0 bits [] more xs lists whole refl up in
    let here : place ≡ get_or (starts_from 0 (xs ∷ lists)) (length lists) 0 = at ∙ ap (λ (i : ℕ). get_or (starts_from 0 (xs ∷ lists)) i 0) last in
    let read : list_at beyond (drop place bits) ≡ Ok (found.0, more) = ap (λ (i : ℕ). list_at beyond (drop i bits)) here ∙ found.1 in
    let taken = (list_takes beyond (drop place bits) (found.0, more) read).0 in
    omega (arith, ends (found.0, more) read, ap length taken, length-append (list_bits found.0) more, length-drop place bits, ap length whole, length-append (flat_map list_bits (xs ∷ lists)) more, inside)

pub stored_end : (bytes places : List ℕ) (place end : ℕ) → IsStored bytes places → 0 < length places → place ≡ get_or places (length places - 1) 0
    → ((x : List ℕ × List Bool) → list_at beyond (drop place (bits_of bytes)) ≡ Ok x → end ≡ place + length (list_bits x.0)) → end ≡ length (flat_map list_bits (lists_of (bits_of bytes) places))
stored_end bytes places place end is some at ends =
    let bits = bits_of bytes in
    let more = replicate is.pad false in
    let lists = lists_of bits places in
    let long = length-lists_of bits places in
    let k : length places - 1 ≡ length lists - 1 = omega (arith, long) in
    let here : place ≡ get_or (starts_from 0 lists) (length lists - 1) 0 = at ∙ ap (λ (i : ℕ). get_or places i 0) k ∙ ap (λ (ps : List ℕ). get_or ps (length lists - 1) 0) is.index.placed in
    end_of_lists bits more lists place end is.index.whole is.index.ascend (omega (arith, some, long)) here (omega (arith, at, last_place bits more places is.index)) ends

-- ---- lists after lists

starts-appended : (n : ℕ) (lists others : List (List ℕ)) → starts_from n (lists ++ others) ≡ starts_from n lists ++ starts_from (n + length (flat_map list_bits lists)) others
unfolding starts_from
starts-appended n [] others = let e : n + 0 ≡ n = omega arith in rw e refl
starts-appended n (xs ∷ lists) others =
    let e : n + length (flat_map list_bits (xs ∷ lists)) ≡ n + length (list_bits xs) + length (flat_map list_bits lists) = omega (arith, length-append (list_bits xs) (flat_map list_bits lists)) in
    rw (e, starts-appended (n + length (list_bits xs)) lists others) refl

starts-moved : (n by : ℕ) (lists : List (List ℕ)) → starts_from (n + by) lists ≡ map (λ place. place + by) (starts_from n lists)
unfolding starts_from
starts-moved n by [] = refl
starts-moved n by (xs ∷ lists) =
    let e : n + by + length (list_bits xs) ≡ n + length (list_bits xs) + by = omega arith in
    rw (e, starts-moved (n + length (list_bits xs)) by lists) refl

ascending-joined : (lists others : List (List ℕ)) → AreAscending beyond lists → AreAscending beyond others → AreAscending beyond (lists ++ others)
ascending-joined [] others up more = more
ascending-joined (xs ∷ lists) others up more = (up.0, ascending-joined lists others up.1 more)

gamma_long : (x : ℕ) → 0 < length (gamma x)
unfolding gamma
gamma_long x = omega (arith, length-append (replicate (log2 x) false) (digits (log2 x + 1) x), length-digits (log2 x + 1) x)

-- a list takes a bit or more
list_long : (xs : List ℕ) → 0 < length (list_bits xs)
list_long xs =
    let n = length xs + 1 in
    omega (arith, ap length (list_bits-coded xs), length-append (gamma n) (coded 0 xs), gamma_long n)

starts_ascend : (limit least n : ℕ) (lists : List (List ℕ)) → least ≤ n → n + length (flat_map list_bits lists) ≤ limit → IsAscending limit least (starts_from n lists)
unfolding starts_from
starts_ascend limit least n [] le short = tt
starts_ascend limit least n (xs ∷ lists) le short =
    let long = list_long xs in
    let all = length-append (list_bits xs) (flat_map list_bits lists) in
    (le, omega (arith, long, all, short), starts_ascend limit (n + 1) (n + length (list_bits xs)) lists (omega (arith, long)) (omega (arith, all, short)))

-- the lists of bytes end among their bits
pub stored_inside : (bytes places : List ℕ) → IsStored bytes places → length (flat_map list_bits (lists_of (bits_of bytes) places)) ≤ 8 * length bytes
stored_inside bytes places is =
    let lists = lists_of (bits_of bytes) places in
    omega (arith, ap length is.index.whole, length-append (flat_map list_bits lists) (replicate is.pad false), length-bits_of bytes)

pub stored_ascend : (bytes places : List ℕ) → IsStored bytes places → length bytes < 2 ^ 64 → IsAscending (2 ^ 95) 0 places
stored_ascend bytes places is small =
    subst (λ (ps : List ℕ). IsAscending (2 ^ 95) 0 ps) (sym is.index.placed) (starts_ascend (2 ^ 95) 0 0 (lists_of (bits_of bytes) places) (omega arith) (omega (arith, stored_inside bytes places is, small)))

pub appended : (bits stored more : List Bool) (places others : List ℕ) → IsIndex bits [] places → IsIndex stored more others
    → Shows (bits ++ take (length (flat_map list_bits (lists_of stored others))) stored) [] (places ++ map (λ place. place + length bits) others) (lists_of bits places ++ lists_of stored others)
appended bits stored more places others is also =
    let lists = lists_of bits places in
    let second = lists_of stored others in
    let k = length (flat_map list_bits second) in
    let whole : bits ≡ flat_map list_bits lists = is.whole ∙ append-nil (flat_map list_bits lists) in
    let cut : take k stored ≡ flat_map list_bits second = ap (take k) also.whole ∙ take_at (flat_map list_bits second) more k refl in
    let all : flat_map list_bits (lists ++ second) ≡ bits ++ take k stored = flat_map-append list_bits lists second ∙ ap (λ (t : List Bool). flat_map list_bits lists ++ t) (sym cut) ∙ ap (λ (t : List Bool). t ++ take k stored) (sym whole) in
    let long : 0 + length (flat_map list_bits lists) ≡ 0 + length bits = omega (arith, ap length whole) in
    let starts : places ++ map (λ place. place + length bits) others ≡ starts_from 0 (lists ++ second) =
    ap (λ (ps : List ℕ). ps ++ map (λ place. place + length bits) others) is.placed
    ∙ ap (λ (ps : List ℕ). starts_from 0 lists ++ map (λ place. place + length bits) ps) also.placed
    ∙ ap (λ (ps : List ℕ). starts_from 0 lists ++ ps) (sym (starts-moved 0 (length bits) second))
    ∙ ap (λ (n : ℕ). starts_from 0 lists ++ starts_from n second) (sym long) ∙ sym (starts-appended 0 lists second) in
    index_of (bits ++ take k stored) [] (places ++ map (λ place. place + length bits) others) (lists ++ second) (sym all ∙ sym (append-nil (flat_map list_bits (lists ++ second)))) starts (ascending-joined lists second is.ascend also.ascend)
