-- The text of answers as it is put together.
use Rattle.std.proofs.Common.{◌≡◌, ◌∙◌, ℕ, suc, ◌+◌, ◌/◌, ◌%◌, ◌<◌, Bool, true, false, if◌then◌else◌, List, [], ◌∷◌, ◌++◌, length, take, map, slice_index, get_or, refl, ap, arith, sym, append_assoc, append-nil}
use Rattle.std.specs.Prelude.{Option, codes, decimal}
use Rattle.std.specs.List.{filter, flat_map, range_with_len}
use Rattle.std.proofs.Math.Seq.{take-suc}
use Rattle.std.proofs.lemmas.Grind.{flat_map-append}
use Rattle.std.proofs.lemmas.List.{map-append}
use Rattle.std.proofs.lemmas.List.Elements.{filter-append}
use Rattle.ball_model.specs.declared.names.BatchName.{BatchName}
use Rattle.ball_model.specs.declared.names.NodeId.{NodeId}
use Rattle.ball_model.specs.declared.names.Verdict.{Verdict}
use Rattle.ball_model.specs.Job.{Job}
use Rattle.ball_model.specs.Content.{names_of, verdict_of}
use Rattle.ball_model.specs.Join.{Holding, content_in}
use Rattle.ball_model.specs.Held.{HasHolding}
use Rattle.ball_model.specs.State.{State, content_of}
use Rattle.ball_model.specs.WorldText.{held_word, hex_digit, more_words, node_line, node_word, registers_word, verdict_word, words_line}
use Rattle.ball_model.proofs.JoinLemmas.{content_back}
use Rattle.ball_model.proofs.PartLemmas.{range_more, range_push}
use Rattle.replica.specs.Seen.{IsState}
use Rattle.replica.proofs.RunsLemmas.Same.{content_is_one}
use Rattle.world.specs.Answer.{names_at, names_in, spaced}

-- ---- words

-- bytes that were put behind others
pub put-is : (old now slice bytes : List ℕ) → now ≡ old ++ slice → slice ≡ bytes → now ≡ old ++ bytes
put-is old now slice bytes is same = is ∙ ap (λ l. old ++ l) same

-- one word more
pub spaced-more : (xs : List (List ℕ)) (word : List ℕ) → spaced (xs ++ word ∷ []) ≡ spaced xs ++ 32 ∷ word
unfolding spaced
spaced-more xs word = flat_map-append (λ word. 32 ∷ word) xs (word ∷ []) ∙ ap (λ l. flat_map (λ word. 32 ∷ word) xs ++ 32 ∷ l) (append-nil word)

-- and those behind them
pub spaced-append : (xs ys : List (List ℕ)) → spaced (xs ++ ys) ≡ spaced xs ++ spaced ys
unfolding spaced
spaced-append xs ys = flat_map-append (λ word. 32 ∷ word) xs ys

-- further words of a line
more-is : (words : List (List ℕ)) → more_words words ≡ spaced words ++ 10 ∷ []
unfolding spaced
more-is [] = refl
more-is (word ∷ words) =
    ap (λ l. 32 ∷ (word ++ l)) (more-is words) ∙ ap (λ l. 32 ∷ l) (sym (append_assoc word (spaced words) (10 ∷ [])))

-- a line that was put together: its first word, the others, its end
pub line-put : (old a b c first : List ℕ) (words : List (List ℕ)) → a ≡ old ++ first → b ≡ a ++ spaced words → c ≡ b ++ 10 ∷ [] → c ≡ old ++ words_line (first ∷ words)
line-put old a b c first words one two three =
    three
    ∙ ap (λ l. l ++ 10 ∷ []) (two ∙ ap (λ l. l ++ spaced words) one)
    ∙ append_assoc (old ++ first) (spaced words) (10 ∷ [])
    ∙ append_assoc old first (spaced words ++ 10 ∷ [])
    ∙ ap (λ l. old ++ (first ++ l)) (sym (more-is words))

-- the next of some words, behind a space
pub word-put : {X : Type 0} (f : X → List ℕ) (words : List X) (i : ℕ) (d : X) (old now a b : List ℕ) → i < length words → now ≡ old ++ spaced (map f (take i words)) →
    a ≡ now ++ 32 ∷ [] → b ≡ a ++ f (get_or words i d) → b ≡ old ++ spaced (map f (take (i + 1) words))
word-put f words i d old now a b lt so_far one two =
    let next : i + 1 ≡ suc i = omega arith in
    let texts = map f (take i words) in
    let word = f (get_or words i d) in
    two
    ∙ ap (λ l. l ++ word) (one ∙ ap (λ l. l ++ 32 ∷ []) so_far)
    ∙ append_assoc (old ++ spaced texts) (32 ∷ []) word
    ∙ append_assoc old (spaced texts) (32 ∷ word)
    ∙ ap (λ l. old ++ l) (sym (spaced-more texts word))
    ∙ ap (λ l. old ++ spaced l) (sym (map-append f (take i words) (get_or words i d ∷ [])))
    ∙ ap (λ l. old ++ spaced (map f l)) (sym (take-suc words i d lt))
    ∙ ap (λ n. old ++ spaced (map f (take n words))) (sym next)

-- two words, each behind a space
pub two-put : (now after a b x y : List ℕ) → after ≡ now ++ spaced (a ∷ b ∷ []) → a ≡ x → b ≡ y → after ≡ now ++ spaced (x ∷ y ∷ [])
two-put now after a b x y is first second = is ∙ ap (λ a. now ++ spaced (a ∷ b ∷ [])) first ∙ ap (λ b. now ++ spaced (x ∷ b ∷ [])) second

-- four of them
pub four-put : (now after a b c d x y z w : List ℕ) → after ≡ now ++ spaced (a ∷ b ∷ c ∷ d ∷ []) → a ≡ x → b ≡ y → c ≡ z → d ≡ w → after ≡ now ++ spaced (x ∷ y ∷ z ∷ w ∷ [])
four-put now after a b c d x y z w is one two three four =
    is
    ∙ ap (λ a. now ++ spaced (a ∷ b ∷ c ∷ d ∷ [])) one
    ∙ ap (λ b. now ++ spaced (x ∷ b ∷ c ∷ d ∷ [])) two
    ∙ ap (λ c. now ++ spaced (x ∷ y ∷ c ∷ d ∷ [])) three
    ∙ ap (λ d. now ++ spaced (x ∷ y ∷ z ∷ d ∷ [])) four

-- two numbers with a byte between them
pub pair-put : (now after : List ℕ) (between a b x y : ℕ) → after ≡ now ++ (decimal a ++ between ∷ decimal b) → a ≡ x → b ≡ y → after ≡ now ++ (decimal x ++ between ∷ decimal y)
pair-put now after between a b x y is first second = is ∙ ap (λ a. now ++ (decimal a ++ between ∷ decimal b)) first ∙ ap (λ b. now ++ (decimal x ++ between ∷ decimal b)) second

-- ---- names

abbrev pub name_at : State → ℕ → ℕ → BatchName
name_at v s q = record { superstep = s; source = q; target = v.part.number }

one-more : (v : State) (s n : ℕ) (b : Bool) (names : List BatchName) → (content_of v).holds s n ≡ b →
    map (name_at v s) (filter (λ q. (content_of v).holds s q) (n ∷ [])) ≡ (if b then name_at v s n ∷ [] else [])
one-more v s n b names is = rw is (both b)
  where
    both : (b : Bool) → map (name_at v s) (if b then n ∷ [] else []) ≡ (if b then name_at v s n ∷ [] else [])
    both true = refl
    both false = refl

-- the names from one source more
pub names-more : (v : State) (s n : ℕ) (b : Bool) → (content_of v).holds s n ≡ b → names_at v s (n + 1) ≡ names_at v s n ++ (if b then name_at v s n ∷ [] else [])
names-more v s n b is =
    let test : ℕ → Bool = λ q. (content_of v).holds s q in
    ap (λ l. map (name_at v s) (filter test l)) (range_more n)
    ∙ ap (map (name_at v s)) (filter-append test (range_with_len 0 n) (n ∷ []))
    ∙ map-append (name_at v s) (filter test (range_with_len 0 n)) (filter test (n ∷ []))
    ∙ ap (λ l. names_at v s n ++ l) (one-more v s n b [] is)

-- a name that is held
pub name-put : (v : State) (s n : ℕ) (old now a b : List ℕ) → now ≡ old ++ spaced (map held_word (names_at v s n)) → (content_of v).holds s n ≡ true →
    a ≡ now ++ 32 ∷ [] → b ≡ a ++ (decimal s ++ 58 ∷ decimal n) → b ≡ old ++ spaced (map held_word (names_at v s (n + 1)))
name-put v s n old now a b so_far is one two =
    let names = names_at v s n in
    let word = held_word (name_at v s n) in
    let texts = map held_word names in
    two
    ∙ ap (λ l. l ++ word) (one ∙ ap (λ l. l ++ 32 ∷ []) so_far)
    ∙ append_assoc (old ++ spaced texts) (32 ∷ []) word
    ∙ append_assoc old (spaced texts) (32 ∷ word)
    ∙ ap (λ l. old ++ l) (sym (spaced-more texts word))
    ∙ ap (λ l. old ++ spaced l) (sym (map-append held_word names (name_at v s n ∷ [])))
    ∙ ap (λ l. old ++ spaced (map held_word l)) (sym (names-more v s n true is))

-- one that is not
pub name-left : (v : State) (s n : ℕ) (old now : List ℕ) → now ≡ old ++ spaced (map held_word (names_at v s n)) → (content_of v).holds s n ≡ false →
    now ≡ old ++ spaced (map held_word (names_at v s (n + 1)))
name-left v s n old now so_far is = so_far ∙ ap (λ l. old ++ spaced (map held_word l)) (sym (names-more v s n false is ∙ append-nil (names_at v s n)))

-- the names of these supersteps
abbrev pub names_from : State → ℕ → ℕ → List BatchName
names_from v s n = flat_map (λ s. names_at v s v.part.plan.parts) (range_with_len s n)

-- those of one superstep more
pub names-put : (v : State) (s n : ℕ) (old now after : List ℕ) → now ≡ old ++ spaced (map held_word (names_from v s n)) →
    after ≡ now ++ spaced (map held_word (names_at v (s + n) v.part.plan.parts)) → after ≡ old ++ spaced (map held_word (names_from v s (n + 1)))
names-put v s n old now after so_far is =
    let f : ℕ → List BatchName = λ s. names_at v s v.part.plan.parts in
    let next : n + 1 ≡ suc n = omega arith in
    let one : names_from v s (n + 1) ≡ names_from v s n ++ f (s + n) =
    ap (flat_map f) (ap (range_with_len s) next ∙ range_push s n) ∙ flat_map-append f (range_with_len s n) ((s + n) ∷ []) ∙ ap (λ l. names_from v s n ++ l) (append-nil (f (s + n))) in
    let both : spaced (map held_word (names_from v s (n + 1))) ≡ spaced (map held_word (names_from v s n)) ++ spaced (map held_word (f (s + n))) =
    ap (λ l. spaced (map held_word l)) one
    ∙ ap spaced (map-append held_word (names_from v s n) (f (s + n)))
    ∙ spaced-append (map held_word (names_from v s n)) (map held_word (f (s + n))) in
    is ∙ ap (λ l. l ++ spaced (map held_word (f (s + n)))) so_far ∙ append_assoc old (spaced (map held_word (names_from v s n))) (spaced (map held_word (f (s + n)))) ∙ ap (λ l. old ++ l) (sym both)

-- those of four supersteps are all
pub names-all : (v : State) → names_from v v.superstep 4 ≡ names_in v
unfolding names_of
names-all v = refl

pub names-last : (v : State) (s n : ℕ) (old now : List ℕ) → now ≡ old ++ spaced (map held_word (names_from v s n)) → s ≡ v.superstep → n ≡ 4 → now ≡ old ++ spaced (map held_word (names_in v))
names-last v s n old now is at four =
    is
    ∙ ap (λ s. old ++ spaced (map held_word (names_from v s n))) at
    ∙ ap (λ n. old ++ spaced (map held_word (names_from v v.superstep n))) four
    ∙ ap (λ l. old ++ spaced (map held_word l)) (names-all v)

-- ---- the line of a node

-- what the line of a node says is what the replica has
pub node-put : (j : Job) (id : NodeId) (h : Holding) (v : State) (said : Option Verdict) (old a b c d e : List ℕ) → HasHolding j h v → IsState v →
    said ≡ verdict_of j h.partition (content_of v) →
    a ≡ old ++ codes "node " → b ≡ a ++ (decimal id.part ++ 46 ∷ decimal id.replica) →
    c ≡ b ++ spaced (decimal v.superstep ∷ verdict_word said ∷ []) → d ≡ c ++ spaced (map held_word (names_in v)) → e ≡ d ++ 10 ∷ [] →
    e ≡ old ++ node_line j id h
unfolding node_line node_word
node-put j id h v said old a b c d e has state told one two three four five =
    let at : h.superstep ≡ v.superstep = sym has.stands.superstep in
    let names : h.names ≡ names_in v = sym (ap (λ g. g.names) has.content) in
    let back : content_in h ≡ content_of v = ap content_in (sym has.content) ∙ content_back v.part.plan v.part.number (content_of v) (content_is_one v state) in
    let word : verdict_word (verdict_of j h.partition (content_in h)) ≡ verdict_word said = ap (λ c. verdict_word (verdict_of j h.partition c)) back ∙ ap verdict_word (sym told) in
    let tail : List ℕ = node_word id in
    let words : List (List ℕ) = decimal v.superstep ∷ verdict_word said ∷ [] in
    let texts : List (List ℕ) = map held_word (names_in v) in
    let all : d ≡ b ++ spaced (words ++ texts) = four ∙ ap (λ l. l ++ spaced texts) three ∙ append_assoc b (spaced words) (spaced texts) ∙ ap (λ l. b ++ l) (sym (spaced-append words texts)) in
    let front : b ≡ old ++ (codes "node " ++ node_word id) = two ∙ ap (λ l. l ++ node_word id) one ∙ append_assoc old (codes "node ") (node_word id) in
    let make : ℕ → List ℕ → List BatchName → List ℕ = λ s w ns. words_line (codes "node" ∷ node_word id ∷ decimal s ∷ w ∷ map held_word ns) in
    let line : node_line j id h ≡ make v.superstep (verdict_word said) (names_in v) =
    ap (λ s. make s (verdict_word (verdict_of j h.partition (content_in h))) h.names) at
    ∙ ap (λ w. make v.superstep w h.names) word
    ∙ ap (λ ns. make v.superstep (verdict_word said) ns) names in
    line-put old b d e (codes "node " ++ node_word id) (words ++ texts) front all five ∙ ap (λ l. old ++ l) (sym line)

-- ---- the line of a vertex

-- a line whose last word is put by itself
pub row-put : (old a b c d e first last : List ℕ) (words : List (List ℕ)) → a ≡ old ++ first → b ≡ a ++ spaced words → c ≡ b ++ 32 ∷ [] → d ≡ c ++ last → e ≡ d ++ 10 ∷ [] →
    e ≡ old ++ words_line (first ∷ (words ++ last ∷ []))
row-put old a b c d e first last words one two three four five =
    line-put old a d e first (words ++ last ∷ []) one
    (four ∙ ap (λ l. l ++ last) (three ∙ ap (λ l. l ++ 32 ∷ []) two) ∙ append_assoc (a ++ spaced words) (32 ∷ []) last ∙ append_assoc a (spaced words) (32 ∷ last) ∙ ap (λ l. a ++ l) (sym (spaced-more words last)))
    five

-- ---- registers

pub registers-more : (xs : List ℕ) (r : ℕ) → registers_word (xs ++ r ∷ []) ≡ registers_word xs ++ hex_digit (r / 16) ∷ hex_digit (r % 16) ∷ []
unfolding registers_word
registers-more xs r = flat_map-append (λ r. hex_digit (r / 16) ∷ hex_digit (r % 16) ∷ []) xs (r ∷ [])

-- the digits of the next register
pub register-put : (row : List ℕ) (i : ℕ) (old now after : List ℕ) (high low : ℕ) → i < length row → now ≡ old ++ registers_word (take i row) → after ≡ now ++ high ∷ low ∷ [] →
    high ≡ hex_digit (slice_index row i / 16) → low ≡ hex_digit (slice_index row i % 16) → after ≡ old ++ registers_word (take (i + 1) row)
register-put row i old now after high low lt so_far is first second =
    let next : i + 1 ≡ suc i = omega arith in
    let r = slice_index row i in
    is
    ∙ ap (λ d. now ++ d ∷ low ∷ []) first
    ∙ ap (λ d. now ++ hex_digit (r / 16) ∷ d ∷ []) second
    ∙ ap (λ l. l ++ hex_digit (r / 16) ∷ hex_digit (r % 16) ∷ []) so_far
    ∙ append_assoc old (registers_word (take i row)) (hex_digit (r / 16) ∷ hex_digit (r % 16) ∷ [])
    ∙ ap (λ l. old ++ l) (sym (registers-more (take i row) r))
    ∙ ap (λ l. old ++ registers_word l) (sym (take-suc row i 0 lt))
    ∙ ap (λ n. old ++ registers_word (take n row)) (sym next)
