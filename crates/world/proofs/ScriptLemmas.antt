-- Scripts as they are read.
use Rattle.std.proofs.Common.{◌≡◌, ◌≢◌, ◌∙◌, ℕ, suc, ◌+◌, ◌*◌, ◌-◌, ◌<◌, ◌≤◌, Bool, true, false, ◌==◌, if◌then◌else◌, cond, List, [], ◌∷◌, ◌++◌, length, take, drop, min, slice_index, refl, ap, arith, sym, subst, append_assoc, append-nil}
use Rattle.std.specs.Prelude.{Option, None, Some, IfSome, option_map, Result, Ok, Err, IsOk, decimal, ◌^◌}
use Rattle.std.specs.Option.{is_some}
use Rattle.std.specs.Str.{bytes_eq}
use Rattle.std.specs.List.{slice_split, onto_first}
use Rattle.std.specs.Str.Lines.{lines, lines_of_parts, strip_carriage_return}
use Rattle.std.proofs.Math.Dec.{eqb-suc-zero}
use Rattle.std.proofs.Math.Seq.{drop-cons, take-nil, take-suc}
use Rattle.std.proofs.lemmas.Bool.{eq-eqb, eqb-true, le-ltb, lt-ltb, ne_eqb}
use Rattle.std.proofs.lemmas.List.{drop_all, length-drop, take_all}
use Rattle.ball_model.specs.declared.world.Event.{Event}
use Rattle.ball_model.specs.Input.{fields, is_record, with_first_byte}
use Rattle.ball_model.specs.WorldText.{command_of, events_from, node_from, node_in, number_in, one_command, script_of, two_command, value_from, with_command}
use Rattle.ball_model.specs.Sections.{longer}
use Rattle.world.specs.Script.{added, cut_of, fault_line, is_command_or_skipped, number_below}
use Rattle.job.proofs.SectionLemmas.{behind, behind-longer}

-- ---- cutting

pub whole_rest : (xs : List ℕ) (i : ℕ) → i ≤ length xs → take (length xs - i) (drop i xs) ≡ drop i xs
whole_rest xs i lt = take_all (length xs - i) (drop i xs) (let long = length-drop i xs in omega (arith, long))

-- one byte further
pub cut-further : (xs : List ℕ) (i d : ℕ) → i < length xs → slice_index xs i ≢ d → behind (take i xs) (cut_of d (drop i xs)) ≡ behind (take (i + 1) xs) (cut_of d (drop (i + 1) xs))
unfolding cut_of
cut-further xs i d lt other =
    let from : drop i xs ≡ slice_index xs i ∷ drop (suc i) xs = drop-cons xs i 0 lt in
    let more : take (suc i) xs ≡ take i xs ++ slice_index xs i ∷ [] = take-suc xs i 0 lt in
    let next : i + 1 ≡ suc i = omega arith in
    rw (next, more, from, ne_eqb (slice_index xs i) d other) (behind-longer (take i xs) (slice_index xs i) (cut_of d (drop (suc i) xs)))

-- the byte is here
pub cut-here : (xs : List ℕ) (i d : ℕ) → i < length xs → slice_index xs i ≡ d → behind (take i xs) (cut_of d (drop i xs)) ≡ Some (take i xs, drop (i + 1) xs)
unfolding cut_of
cut-here xs i d lt same =
    let from : drop i xs ≡ slice_index xs i ∷ drop (suc i) xs = drop-cons xs i 0 lt in
    let next : i + 1 ≡ suc i = omega arith in
    rw (next, from, eq-eqb (slice_index xs i) d same) (ap (λ l. Some (l, drop (suc i) xs)) (append-nil (take i xs)))

-- there is none
pub cut-ended : (xs : List ℕ) (i d : ℕ) → length xs ≤ i → behind (take i xs) (cut_of d (drop i xs)) ≡ None
unfolding cut_of
cut-ended xs i d le = rw (drop_all i xs le) refl

-- ---- pieces

pub pair-of : (p q : List ℕ × List ℕ) → Some p ≡ Some q → p ≡ q
pair-of p q is = cc

fields-step : (d c : ℕ) (xs a b : List ℕ) (t : Bool) (o : Option (List ℕ × List ℕ)) → ((x y : List ℕ) → o ≡ Some (x, y) → fields d xs ≡ x ∷ fields d y) →
    (if t then Some ([], xs) else longer c o) ≡ Some (a, b) → (if t then [] ∷ fields d xs else with_first_byte c (fields d xs)) ≡ a ∷ fields d b
fields-step d c xs a b true o ih is = ap (λ p. p.0 ∷ fields d p.1) (pair-of ([], xs) (a, b) is)
fields-step d c xs a b false None ih is = absurd (cc)
fields-step d c xs a b false (Some s) ih is =
    let p = pair-of (c ∷ s.0, s.1) (a, b) is in
    rw (ih s.0 s.1 refl) (ap (λ p. p.0 ∷ fields d p.1) p)

-- what is cut off is the first field
pub fields-cut : (d : ℕ) (xs a b : List ℕ) → cut_of d xs ≡ Some (a, b) → fields d xs ≡ a ∷ fields d b
unfolding cut_of fields
fields-cut d [] a b is = absurd (cc)
fields-cut d (c ∷ xs) a b is = fields-step d c xs a b (c == d) (cut_of d xs) (fields-cut d xs) is

uncut-step : (d c : ℕ) (xs : List ℕ) (t : Bool) (o : Option (List ℕ × List ℕ)) → (o ≡ None → fields d xs ≡ xs ∷ []) →
    (if t then Some ([], xs) else longer c o) ≡ None → (if t then [] ∷ fields d xs else with_first_byte c (fields d xs)) ≡ (c ∷ xs) ∷ []
uncut-step d c xs true o ih is = absurd (cc)
uncut-step d c xs false None ih is = rw (ih refl) refl
uncut-step d c xs false (Some s) ih is = absurd (cc)

-- where nothing is cut off there is one field
pub fields-uncut : (d : ℕ) (xs : List ℕ) → cut_of d xs ≡ None → fields d xs ≡ xs ∷ []
unfolding cut_of fields
fields-uncut d [] is = refl
fields-uncut d (c ∷ xs) is = uncut-step d c xs (c == d) (cut_of d xs) (fields-uncut d xs) is

-- what is cut off is shorter
shorter-step : (c : ℕ) (xs a b : List ℕ) (t : Bool) (o : Option (List ℕ × List ℕ)) → ((x y : List ℕ) → o ≡ Some (x, y) → length y < length xs) →
    (if t then Some ([], xs) else longer c o) ≡ Some (a, b) → length b < suc (length xs)
shorter-step c xs a b true o ih is = let p = ap (λ p. length p.1) (pair-of ([], xs) (a, b) is) in omega (arith, p)
shorter-step c xs a b false None ih is = absurd (cc)
shorter-step c xs a b false (Some s) ih is =
    let p = ap (λ p. length p.1) (pair-of (c ∷ s.0, s.1) (a, b) is) in
    omega (arith, p, ih s.0 s.1 refl)

pub cut-shorter : (d : ℕ) (xs a b : List ℕ) → cut_of d xs ≡ Some (a, b) → length b < length xs
unfolding cut_of
cut-shorter d [] a b is = absurd (cc)
cut-shorter d (c ∷ xs) a b is = shorter-step c xs a b (c == d) (cut_of d xs) (cut-shorter d xs) is

pub fields-some : (d : ℕ) (xs : List ℕ) → fields d xs ≢ []
unfolding fields
fields-some d [] is = absurd (cc)
fields-some d (c ∷ xs) is = some (c == d) (fields d xs) is
  where
    some : (t : Bool) (pieces : List (List ℕ)) → (if t then [] ∷ pieces else with_first_byte c pieces) ≡ [] → ⊥
    some true pieces is = absurd (cc)
    some false [] is = absurd (cc)
    some false (x ∷ more) is = absurd (cc)

-- ---- words

-- a word that names no node, since it has no point
pub node-uncut : (word : List ℕ) → None ≡ cut_of 46 word → None ≡ node_in word
unfolding node_in
node-uncut word is = rw (fields-uncut 46 word (sym is)) refl

-- a word with one point
pub node-two : (word a b : List ℕ) → Some (a, b) ≡ cut_of 46 word → None ≡ cut_of 46 b → node_from (a ∷ b ∷ []) ≡ node_in word
unfolding node_in
node-two word a b is last = rw (fields-cut 46 word a b (sym is), fields-uncut 46 b (sym last)) refl

-- a word with more
pub node-many : (word a b x y : List ℕ) → Some (a, b) ≡ cut_of 46 word → Some (x, y) ≡ cut_of 46 b → None ≡ node_in word
unfolding node_in
node-many word a b x y is more = rw (fields-cut 46 word a b (sym is), fields-cut 46 b x y (sym more)) (none (fields 46 y) (fields-some 46 y))
  where
    none : (rest : List (List ℕ)) → rest ≢ [] → None ≡ node_from (a ∷ x ∷ rest)
    none [] some = absurd (some refl)
    none (z ∷ rest) some = refl

-- a line of one word
pub command-uncut : (line : List ℕ) → None ≡ cut_of 32 line → None ≡ command_of (fields 32 line)
unfolding command_of
command-uncut line is = rw (fields-uncut 32 line (sym is)) refl

-- a line of two words
pub command-one : (line a b : List ℕ) → Some (a, b) ≡ cut_of 32 line → None ≡ cut_of 32 b → one_command a (node_in b) ≡ command_of (fields 32 line)
unfolding command_of
command-one line a b is last = rw (fields-cut 32 line a b (sym is), fields-uncut 32 b (sym last)) refl

-- a line of three words
pub command-two : (line a b x y : List ℕ) → Some (a, b) ≡ cut_of 32 line → Some (x, y) ≡ cut_of 32 b → None ≡ cut_of 32 y → two_command a x y ≡ command_of (fields 32 line)
unfolding command_of
command-two line a b x y is more last = rw (fields-cut 32 line a b (sym is), fields-cut 32 b x y (sym more), fields-uncut 32 y (sym last)) refl

-- a line of more words
pub command-many : (line a b x y v w : List ℕ) → Some (a, b) ≡ cut_of 32 line → Some (x, y) ≡ cut_of 32 b → Some (v, w) ≡ cut_of 32 y → None ≡ command_of (fields 32 line)
unfolding command_of
command-many line a b x y v w is more most = rw (fields-cut 32 line a b (sym is), fields-cut 32 b x y (sym more), fields-cut 32 y v w (sym most)) (none (fields 32 w) (fields-some 32 w))
  where
    none : (rest : List (List ℕ)) → rest ≢ [] → None ≡ command_of (a ∷ x ∷ v ∷ rest)
    none [] some = absurd (some refl)
    none (z ∷ rest) some = refl

-- ---- lines

onto-step : (c : ℕ) (parts : List (List ℕ)) → onto_first c parts ≡ with_first_byte c parts
onto-step c [] = refl
onto-step c (x ∷ xs) = refl

split-step : (c : ℕ) (t : Bool) (parts pieces : List (List ℕ)) → parts ≡ pieces → cond t ([] ∷ parts) (onto_first c parts) ≡ (if t then [] ∷ pieces else with_first_byte c pieces)
split-step c true parts pieces same = ap (λ l. [] ∷ l) same
split-step c false parts pieces same = onto-step c parts ∙ ap (λ l. with_first_byte c l) same

-- the parts between newlines
parts-are : (xs : List ℕ) → slice_split (λ b. b == 10) xs ≡ fields 10 xs
unfolding fields
parts-are [] = refl
parts-are (c ∷ xs) = split-step c (c == 10) (slice_split (λ b. b == 10) xs) (fields 10 xs) (parts-are xs)

lines-step : (a : List ℕ) (pieces : List (List ℕ)) → pieces ≢ [] → lines_of_parts (a ∷ pieces) ≡ strip_carriage_return a ∷ lines_of_parts pieces
lines-step a [] some = absurd (some refl)
lines-step a (b ∷ more) some = refl

-- a line that has an end
pub lines-cut : (xs a b : List ℕ) → cut_of 10 xs ≡ Some (a, b) → lines xs ≡ strip_carriage_return a ∷ lines b
lines-cut xs a b is =
    ap lines_of_parts (parts-are xs ∙ fields-cut 10 xs a b is) ∙ lines-step a (fields 10 b) (fields-some 10 b) ∙ ap (λ l. strip_carriage_return a ∷ lines_of_parts l) (sym (parts-are b))

-- the last line, which has none
pub lines-uncut : (xs : List ℕ) → cut_of 10 xs ≡ None → 0 < length xs → lines xs ≡ xs ∷ []
lines-uncut xs is some = ap lines_of_parts (parts-are xs ∙ fields-uncut 10 xs is) ∙ last xs some
  where
    last : (xs : List ℕ) → 0 < length xs → lines_of_parts (xs ∷ []) ≡ xs ∷ []
    last [] some = absurd (omega arith)
    last (c ∷ xs) some = rw (eqb-suc-zero (length xs)) refl

-- behind it there is none
pub none-left : (xs : List ℕ) → xs ∷ [] ≡ xs ∷ lines (take (length xs - length xs) (drop (length xs) xs))
none-left xs = rw (drop_all (length xs) xs (omega arith), take-nil (length xs - length xs)) refl

-- ---- numbers

-- one digit more
pub value-more : (v : ℕ) (xs : List ℕ) (c : ℕ) → value_from v (xs ++ c ∷ []) ≡ value_from v xs * 10 + (c - 48)
unfolding value_from
value-more v [] c = refl
value-more v (x ∷ xs) c = value-more (v * 10 + (x - 48)) xs c

-- and so as far as the digits count
pub value-step : (bound : ℕ) (xs : List ℕ) (i v d r : ℕ) → i < length xs → v ≡ min (value_from 0 (take i xs)) bound → d ≡ slice_index xs i - 48 → r ≡ min (v * 10 + d) bound → r ≡ min (value_from 0 (take (i + 1) xs)) bound
value-step bound xs i v d r lt so_far digit is =
    let more : take (suc i) xs ≡ take i xs ++ slice_index xs i ∷ [] = take-suc xs i 0 lt in
    let next : i + 1 ≡ suc i = omega arith in
    let value = value-more 0 (take i xs) (slice_index xs i) in
    rw (next, more, value) (omega (arith, so_far, digit, is))

-- a word that a number below the bound is printed as
pub number-is : (bound : ℕ) (word text : List ℕ) (v : ℕ) → v ≡ min (value_from 0 word) bound → v < bound → bytes_eq word text ≡ true → text ≡ decimal v → Some v ≡ number_below bound word
unfolding number_below
number-is bound word text v is few same printed =
    let value : value_from 0 word ≡ v = omega (arith, is, few) in
    rw (value, lt-ltb v bound few, ← printed, same) refl

-- a word whose value is too great
pub number-great : (bound : ℕ) (word : List ℕ) (v : ℕ) → v ≡ min (value_from 0 word) bound → bound ≤ v → None ≡ number_below bound word
unfolding number_below
number-great bound word v is many =
    rw (le-ltb (value_from 0 word) bound (omega (arith, is, many))) refl

-- a word that is printed otherwise
pub number-other : (bound : ℕ) (word text : List ℕ) (v : ℕ) → v ≡ min (value_from 0 word) bound → v < bound → bytes_eq word text ≡ false → text ≡ decimal v → None ≡ number_below bound word
unfolding number_below
number-other bound word text v is few other printed =
    let value : value_from 0 word ≡ v = omega (arith, is, few) in
    rw (value, lt-ltb v bound few, ← printed, other) refl

-- the numbers of scripts
pub number-in : (word : List ℕ) → number_below (10 ^ 9) word ≡ number_in word
unfolding number_below number_in
number-in word = refl

-- ---- faults

-- the first fault of a script is the first of what is left of it, from the line of that number on
pub record HasNoFaultSoFar (script rest : List ℕ) (number : ℕ) : Type 0 where
  pub meaning : fault_line (script_of script) ≡ fault_line (events_from number (lines rest))
  pub within : number + length rest ≤ length script + 1

fault-behind : (e : Event) (more : Result (List Event) ℕ) (number : ℕ) → fault_line (with_command number (Some e) more) ≡ fault_line more
fault-behind e (Ok es) number = refl
fault-behind e (Err line) number = refl

fault-further : (number : ℕ) (more : Result (List Event) ℕ) (is_one : Bool) (o : Option Event) → (if is_one then is_some o else true) ≡ true →
    fault_line (if is_one then with_command number o more else more) ≡ fault_line more
fault-further number more true None is = absurd (cc)
fault-further number more true (Some e) is = fault-behind e more number
fault-further number more false o is = refl

-- a line that is none
pub pass-line : (script rest line after : List ℕ) (number : ℕ) → HasNoFaultSoFar script rest number → lines rest ≡ line ∷ lines after → length after < length rest → is_command_or_skipped line ≡ true →
    HasNoFaultSoFar script after (number + 1)
unfolding events_from
pass-line script rest line after number h is short fine = record {
  meaning = h.meaning ∙ ap (λ l. fault_line (events_from number l)) is ∙ fault-further number (events_from (number + 1) (lines after)) (is_record line) (command_of (fields 32 line)) fine;
  within = let so_far = h.within in omega arith;
}

fault-here : (number : ℕ) (more : Result (List Event) ℕ) (is_one : Bool) (o : Option Event) → (if is_one then is_some o else true) ≡ false →
    fault_line (if is_one then with_command number o more else more) ≡ Some number
fault-here number more true None is = refl
fault-here number more true (Some e) is = absurd (cc)
fault-here number more false o is = absurd (cc)

-- a line that is one
pub find-fault : (script rest line after : List ℕ) (number : ℕ) → HasNoFaultSoFar script rest number → lines rest ≡ line ∷ lines after → is_command_or_skipped line ≡ false → fault_line (script_of script) ≡ Some number
unfolding events_from
find-fault script rest line after number h is bad =
    h.meaning ∙ ap (λ l. fault_line (events_from number l)) is ∙ fault-here number (events_from (number + 1) (lines after)) (is_record line) (command_of (fields 32 line)) bad

-- the end of a script that has none
pub no-fault : (script rest : List ℕ) (number : ℕ) → HasNoFaultSoFar script rest number → (length rest == 0) ≡ true → fault_line (script_of script) ≡ None
unfolding events_from
no-fault script [] number h none = h.meaning
no-fault script (c ∷ rest) number h none = absurd (omega (arith, eqb-true (suc (length rest)) 0 none))

-- ---- events

-- these events, and those that follow
abbrev pub then_events : List Event → Result (List Event) ℕ → Result (List Event) ℕ
then_events es (Ok more) = Ok (es ++ more)
then_events es (Err line) = Err line

-- what was read of a script, and what is left of it, from the line of some number on
pub record ReadSoFar (script rest : List ℕ) (es : List Event) : Type 0 where
  pub number : ℕ
  pub meaning : script_of script ≡ then_events es (events_from number (lines rest))

then-none : (r : Result (List Event) ℕ) → r ≡ then_events [] r
then-none (Ok more) = refl
then-none (Err line) = refl

-- nothing was read
pub read-none : (script : List ℕ) → ReadSoFar script script []
read-none script = record { number = 1; meaning = then-none (script_of script) }

then-more : (es : List Event) (e : Event) (r : Result (List Event) ℕ) (n : ℕ) → then_events es (with_command n (Some e) r) ≡ then_events (es ++ e ∷ []) r
then-more es e (Ok more) n = ap Ok (sym (append_assoc es (e ∷ []) more))
then-more es e (Err line) n = refl

-- the events of one line more, in a script that has no fault
then-added : (es now : List Event) (number : ℕ) (more : Result (List Event) ℕ) (is_one : Bool) (o : Option Event) →
    IsOk (then_events es (if is_one then with_command number o more else more)) →
    IfSome (if is_one then option_map (λ e. es ++ e ∷ []) o else Some es) (λ all. all ≡ now) →
    then_events es (if is_one then with_command number o more else more) ≡ then_events now more
then-added es now number more true None fine is = absurd (cc)
then-added es now number more true (Some e) fine is = then-more es e more number ∙ ap (λ l. then_events l more) is
then-added es now number more false o fine is = ap (λ l. then_events l more) is

pub read-line : (script rest line after : List ℕ) (es now : List Event) → IsOk (script_of script) → ReadSoFar script rest es → lines rest ≡ line ∷ lines after →
    IfSome (added es line) (λ all. all ≡ now) → ReadSoFar script after now
unfolding events_from
read-line script rest line after es now fine h is more =
    let meaning = h.meaning ∙ ap (λ l. then_events es (events_from h.number l)) is in
    record {
      number = h.number + 1;
      meaning = meaning ∙ then-added es now h.number (events_from (h.number + 1) (lines after)) (is_record line) (command_of (fields 32 line)) (subst IsOk meaning fine) more;
    }

-- the end of a script
pub end-of : (script rest : List ℕ) (es : List Event) → ReadSoFar script rest es → (length rest == 0) ≡ true → script_of script ≡ Ok es
unfolding events_from
end-of script [] es h none = h.meaning ∙ ap Ok (append-nil es)
end-of script (c ∷ rest) es h none = absurd (omega (arith, eqb-true (suc (length rest)) 0 none))
