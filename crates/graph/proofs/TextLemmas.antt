-- The lines of a text of labels, as they are passed one after another.
use Rattle.std.proofs.Common.{◌≡◌, ◌∙◌, ℕ, ◌+◌, ◌-◌, ◌<◌, ◌≤◌, ◌==◌, true, false, List, [], ◌∷◌, ◌++◌, length, take, drop, get_or, refl, ap, sym, subst, arith}
use Rattle.std.specs.Prelude.{Option, None, Some, if◌then◌else◌, option_map, slice_range}
use Rattle.std.proofs.Math.Seq.{take-append_seam}
use Rattle.std.proofs.lemmas.Bool.{eqb-true, eq-eqb}
use Rattle.std.proofs.lemmas.List.{append_assoc, append-nil, drop_all, drop_more, get_or-drop, get_or-map, length-append, length-drop, length-map, length-take, map-append, take_all, take_more}
use Rattle.ball_model.specs.Input.{is_filled}
use Rattle.ball_model.proofs.BoolLemmas.{by_cases}
use Rattle.graph.specs.Lines.{if_count_is, lines_after, shortened}
use Rattle.graph.specs.Lists.{Ascend, lists_between}
use Rattle.graph.proofs.CutLemmas.{ascend-push, cut-none, cut-push, starts-none}

-- the bytes before a place were read: these lines, and then those of the line that begins there
pub record ReadsLines (text : List ℕ) (i begin : ℕ) (done : List (List ℕ)) : Type 0 where
  pub within : begin ≤ i
  pub split : lines_after [] text ≡ option_map (λ lines. done ++ lines) (lines_after (slice_range text begin i) (drop i text))

behind-none : (o : Option (List (List ℕ))) → option_map (λ lines. [] ++ lines) o ≡ o
behind-none None = refl
behind-none (Some lines) = refl

behind-two : (done : List (List ℕ)) (line : List ℕ) (o : Option (List (List ℕ))) → option_map (λ lines. done ++ lines) (option_map (λ lines. line ∷ lines) o) ≡ option_map (λ lines. (done ++ line ∷ []) ++ lines) o
behind-two done line None = refl
behind-two done line (Some lines) = ap Some (sym (append_assoc done (line ∷ []) lines))

range-empty : (text : List ℕ) (i : ℕ) → slice_range text i i ≡ []
range-empty text i = let none : i - i ≡ 0 = omega arith in rw none refl

range-next : (text : List ℕ) (begin i : ℕ) → begin ≤ i → i < length text → slice_range text begin (i + 1) ≡ slice_range text begin i ++ get_or text i 0 ∷ []
range-next text begin i le lt =
    let more : (i + 1) - begin ≡ (i - begin) + 1 = omega (arith, le) in
    let here : begin + (i - begin) ≡ i = omega (arith, le) in
    ap (λ n. take n (drop begin text)) more
    ∙ take_more (drop begin text) (i - begin) 0 (omega (arith, le, lt, length-drop begin text))
    ∙ ap (λ b. slice_range text begin i ++ b ∷ []) (get_or-drop begin text (i - begin) 0 ∙ ap (λ k. get_or text k 0) here)

length-range : (text : List ℕ) (begin i : ℕ) → begin ≤ i → i ≤ length text → length (slice_range text begin i) ≡ i - begin
length-range text begin i le lt = omega (arith, length-take (i - begin) (drop begin text), length-drop begin text, le, lt)

filled : (line : List ℕ) → 0 < length line → is_filled line ≡ true
filled [] some = absurd (omega (arith, some))
filled (c ∷ line) some = refl

pub lines-start : (text : List ℕ) → ReadsLines text 0 0 []
lines-start text = record { within = omega arith; split = sym (behind-none (lines_after [] text)) }

after-byte : (line : List ℕ) (c : ℕ) (text : List ℕ) → (c == 10) ≡ false → lines_after line (c ∷ text) ≡ lines_after (line ++ c ∷ []) text
unfolding lines_after
after-byte line c text other = rw other refl

not-lf : (c : ℕ) → (c ≡ 10 → ⊥) → (c == 10) ≡ false
not-lf c other = by_cases (c == 10) _ (λ t. absurd (other (eqb-true c 10 t))) (λ f. f)

-- a byte that is no LF
pub lines-byte : (text : List ℕ) (i begin : ℕ) (done : List (List ℕ)) → i < length text → (get_or text i 0 ≡ 10 → ⊥) → ReadsLines text i begin done → ReadsLines text (i + 1) begin done
lines-byte text i begin done lt other reads = record {
  within = omega (arith, reads.within);
  split = reads.split ∙ ap (option_map (λ lines. done ++ lines))
      (ap (lines_after (slice_range text begin i)) (drop_more text i 0 lt) ∙ after-byte (slice_range text begin i) (get_or text i 0) (drop (i + 1) text) (not-lf (get_or text i 0) other)
      ∙ ap (λ (line : List ℕ). lines_after line (drop (i + 1) text)) (sym (range-next text begin i reads.within lt)));
}

after-line : (line : List ℕ) (c : ℕ) (text : List ℕ) → c ≡ 10 → is_filled line ≡ true → lines_after line (c ∷ text) ≡ option_map (λ lines. line ∷ lines) (lines_after [] text)
unfolding lines_after
after-line line c text end some = rw (end, some) refl

after-empty : (c : ℕ) (text : List ℕ) → c ≡ 10 → lines_after [] (c ∷ text) ≡ None
unfolding lines_after
after-empty c text end = rw end refl

-- an LF behind a line
pub lines-end : (text : List ℕ) (i begin : ℕ) (done : List (List ℕ)) → i < length text → get_or text i 0 ≡ 10 → begin < i → ReadsLines text i begin done →
    ReadsLines text (i + 1) (i + 1) (done ++ slice_range text begin i ∷ [])
lines-end text i begin done lt end some reads =
    let line = slice_range text begin i in
    let long = length-range text begin i reads.within (omega (arith, lt)) in
    record {
      within = omega arith;
      split = reads.split ∙ ap (option_map (λ lines. done ++ lines))
          (ap (lines_after line) (drop_more text i 0 lt) ∙ after-line line (get_or text i 0) (drop (i + 1) text) end (filled line (omega (arith, long, some))))
          ∙ behind-two done line (lines_after [] (drop (i + 1) text))
          ∙ ap (λ (next : List ℕ). option_map (λ lines. (done ++ line ∷ []) ++ lines) (lines_after next (drop (i + 1) text))) (sym (range-empty text (i + 1)));
    }

-- an LF where a line begins
pub lines-empty : (text : List ℕ) (i begin : ℕ) (done : List (List ℕ)) → i < length text → get_or text i 0 ≡ 10 → i ≡ begin → ReadsLines text i begin done → lines_after [] text ≡ None
lines-empty text i begin done lt end at reads =
    let none : slice_range text begin i ≡ [] = ap (λ b. slice_range text b i) (sym at) ∙ range-empty text i in
    reads.split ∙ ap (option_map (λ lines. done ++ lines))
    (ap (λ (line : List ℕ). lines_after line (drop i text)) none ∙ ap (lines_after []) (drop_more text i 0 lt) ∙ after-empty (get_or text i 0) (drop (i + 1) text) end)

after-all : (line : List ℕ) → lines_after line [] ≡ (if is_filled line then None else Some [])
unfolding lines_after
after-all line = refl

after-filled : (line : List ℕ) → is_filled line ≡ true → lines_after line [] ≡ None
after-filled line some = after-all line ∙ rw some refl

-- the end of the text, where a line would begin
pub lines-whole : (text : List ℕ) (i begin : ℕ) (done : List (List ℕ)) → length text ≤ i → i ≡ begin → ReadsLines text i begin done → lines_after [] text ≡ Some done
lines-whole text i begin done le at reads =
    let none : slice_range text begin i ≡ [] = ap (λ b. slice_range text b i) (sym at) ∙ range-empty text i in
    reads.split ∙ ap (option_map (λ lines. done ++ lines))
    (ap (lines_after (slice_range text begin i)) (drop_all i text le) ∙ ap (λ (line : List ℕ). lines_after line []) none ∙ after-all [])
    ∙ ap Some (append-nil done)

-- the end of the text within a line
pub lines-cut : (text : List ℕ) (i begin : ℕ) (done : List (List ℕ)) → length text ≡ i → begin < i → ReadsLines text i begin done → lines_after [] text ≡ None
lines-cut text i begin done end some reads =
    let long = length-range text begin i reads.within (omega (arith, end)) in
    reads.split ∙ ap (option_map (λ lines. done ++ lines))
    (ap (lines_after (slice_range text begin i)) (drop_all i text (omega (arith, end))) ∙ after-filled (slice_range text begin i) (filled (slice_range text begin i) (omega (arith, long, some))))

-- ---- how many lines there are
pub record CountsLines (text : List ℕ) (i begin count : ℕ) : Type 0 where
  pub done : List (List ℕ)
  pub reads : ReadsLines text i begin done
  pub is : length done ≡ count
  pub few : count ≤ begin

pub count-start : (text : List ℕ) → CountsLines text 0 0 0
count-start text = record { done = []; reads = lines-start text; is = refl; few = omega arith }

pub count-byte : (text : List ℕ) (i begin count : ℕ) → i < length text → (get_or text i 0 ≡ 10 → ⊥) → CountsLines text i begin count → CountsLines text (i + 1) begin count
count-byte text i begin count lt other counts = record { done = counts.done; reads = lines-byte text i begin counts.done lt other counts.reads; is = counts.is; few = counts.few }

pub count-end : (text : List ℕ) (i begin count : ℕ) → i < length text → get_or text i 0 ≡ 10 → begin < i → CountsLines text i begin count → CountsLines text (i + 1) (i + 1) (count + 1)
count-end text i begin count lt end some counts = record {
  done = counts.done ++ slice_range text begin i ∷ [];
  reads = lines-end text i begin counts.done lt end some counts.reads;
  is = length-append counts.done (slice_range text begin i ∷ []) ∙ ap (λ n. n + 1) counts.is;
  few = omega (arith, counts.few, counts.reads.within);
}

-- ---- where they begin
pub record StartsLines (text : List ℕ) (i : ℕ) (starts : List ℕ) : Type 0 where
  pub begin : ℕ
  pub reads : ReadsLines text i begin (shortened 1 (lists_between text starts))
  pub up : Ascend begin starts

pub start-none : (text starts : List ℕ) → starts ≡ 0 ∷ [] → StartsLines text 0 starts
start-none text starts is = rw is (record { begin = 0; reads = rw (cut-none text) (lines-start text); up = starts-none })

pub start-byte : (text starts : List ℕ) (i : ℕ) → i < length text → (get_or text i 0 ≡ 10 → ⊥) → StartsLines text i starts → StartsLines text (i + 1) starts
start-byte text starts i lt other s = record { begin = s.begin; reads = lines-byte text i s.begin _ lt other s.reads; up = s.up }

without-last : (xs : List ℕ) (c : ℕ) → take (length (xs ++ c ∷ []) - 1) (xs ++ c ∷ []) ≡ xs
without-last xs c =
    let count : length (xs ++ c ∷ []) - 1 ≡ length xs = omega (arith, length-append xs (c ∷ [])) in
    ap (λ n. take n (xs ++ c ∷ [])) count ∙ take-append_seam xs (c ∷ [])

pub start-end : (text starts more : List ℕ) (i : ℕ) (s : StartsLines text i starts) → i < length text → get_or text i 0 ≡ 10 → s.begin < i → more ≡ starts ++ (i + 1) ∷ [] → StartsLines text (i + 1) more
start-end text starts more i s lt end some is =
    let last : shortened 1 (slice_range text s.begin (i + 1) ∷ []) ≡ slice_range text s.begin i ∷ [] =
    ap (λ (line : List ℕ). shortened 1 (line ∷ [])) (range-next text s.begin i s.reads.within lt)
    ∙ ap (λ (line : List ℕ). line ∷ []) (without-last (slice_range text s.begin i) (get_or text i 0)) in
    let lines : shortened 1 (lists_between text more) ≡ shortened 1 (lists_between text starts) ++ slice_range text s.begin i ∷ [] =
    ap (λ (l : List ℕ). shortened 1 (lists_between text l)) is
    ∙ ap (λ (ls : List (List ℕ)). shortened 1 ls) (cut-push text starts s.begin (i + 1) s.up)
    ∙ map-append (λ xs. take (length xs - 1) xs) (lists_between text starts) (slice_range text s.begin (i + 1) ∷ [])
    ∙ ap (λ (ls : List (List ℕ)). shortened 1 (lists_between text starts) ++ ls) last in
    record {
      begin = i + 1;
      reads = subst (λ (done : List (List ℕ)). ReadsLines text (i + 1) (i + 1) done) (sym lines) (lines-end text i s.begin _ lt end some s.reads);
      up = subst (λ (l : List ℕ). Ascend (i + 1) l) (sym is) (ascend-push s.begin (i + 1) starts s.up (omega (arith, s.reads.within)));
    }

-- a text that is lines has no line without a byte, and no bytes behind the last
none-some : (text : List ℕ) (n : ℕ) → option_map (length {A = List ℕ}) (lines_after [] text) ≡ Some n → lines_after [] text ≡ None → ⊥
none-some text n some none = let bad : None ≡ Some n = sym (ap (option_map (length {A = List ℕ})) none) ∙ some in cc

pub start-some : (text starts : List ℕ) (i n : ℕ) (s : StartsLines text i starts) → option_map (length {A = List ℕ}) (lines_after [] text) ≡ Some n → i < length text → get_or text i 0 ≡ 10 → s.begin < i
start-some text starts i n s some lt end =
    by_cases (i == s.begin) _
    (λ t. absurd (none-some text n some (lines-empty text i s.begin _ lt end (eqb-true i s.begin t) s.reads)))
    (λ f.
    let apart : i ≡ s.begin → ⊥ = λ same. (let bad : true ≡ false = sym (eq-eqb i i refl) ∙ ap (λ (j : ℕ). i == j) same ∙ f in cc) in
    omega (arith, s.reads.within, apart))

pub start-last : (text starts : List ℕ) (i n : ℕ) (s : StartsLines text i starts) → option_map (length {A = List ℕ}) (lines_after [] text) ≡ Some n → length text ≡ i → i ≡ s.begin
start-last text starts i n s some end =
    by_cases (i == s.begin) _
    (λ t. eqb-true i s.begin t)
    (λ f.
    let apart : i ≡ s.begin → ⊥ = λ same. (let bad : true ≡ false = sym (eq-eqb i i refl) ∙ ap (λ (j : ℕ). i == j) same ∙ f in cc) in
    absurd (none-some text n some (lines-cut text i s.begin _ end (omega (arith, s.reads.within, apart)) s.reads)))

-- ---- whether they are the number that is asked for
pub many-these : (o : Option (List (List ℕ))) (n : ℕ) → Some n ≡ option_map (length {A = List ℕ}) o → if_count_is n o ≡ o
many-these None n is = refl
many-these (Some lines) n is = let same : length lines ≡ n = cc in rw (same, eq-eqb n n refl) refl

pub some-lines : (o : Option (List (List ℕ))) (n : ℕ) → Some n ≡ option_map (length {A = List ℕ}) o → (lines : List (List ℕ)) × (o ≡ Some lines)
some-lines None n is = absurd (cc)
some-lines (Some lines) n is = (lines, refl)

-- ---- labels with a gap of n bytes after each
pub length-shortened : (n : ℕ) (lists : List (List ℕ)) → length (shortened n lists) ≡ length lists
length-shortened n lists = simp length-map

pub shortened-at : (n : ℕ) (lists : List (List ℕ)) (i : ℕ) → i < length lists → get_or (shortened n lists) i [] ≡ take (length (get_or lists i []) - n) (get_or lists i [])
shortened-at n lists i lt = get_or-map (λ xs. take (length xs - n) xs) lists i [] [] lt

pub shortened-none : (lists : List (List ℕ)) → shortened 0 lists ≡ lists
shortened-none [] = refl
shortened-none (xs ∷ lists) =
    let all : length xs - 0 ≡ length xs = omega arith in
    rw (all, take_all (length xs) xs (omega arith), shortened-none lists) refl
