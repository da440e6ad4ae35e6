-- Lines of progress.
use Rattle.std.proofs.Common.{◌≡◌, ◌≢◌, ◌∙◌, ℕ, zero, suc, ◌+◌, ◌/◌, ◌%◌, ◌==◌, Bool, true, false, List, [], ◌∷◌, ◌++◌, refl, arith, sym, codes, append-nil, append_assoc, rules}
use Rattle.std.specs.Prelude.{Option, None, Some, decimal, nat_lt, if◌then◌else◌}
use Rattle.std.specs.Fmt.{digit_glyph, digits, digits_onto}
use Rattle.std.specs.Io.KnownBytes.{Appends, Keeps}
use Rattle.std.proofs.lemmas.List.Elements.{All-append, All-cons, All-nil}
use Rattle.ball_model.specs.WorldText.{node_word}
use Rattle.node.specs.Stream.{HasNoEnd}
use Rattle.hyperball.specs.Hints.{hint_text, line_of_hint}
use Rattle.hyperball.specs.Progress.{TellsProgress, IsLineBehind, line_of, mark_of_program, progress_text, progress_line}
use Rattle.ball_model.specs.declared.names.NodeId.{NodeId}
use Rattle.hyperball.specs.declared.hints.Hint.{Hint}
use Rattle.hyperball.specs.declared.hints.Hint.TheVariants as hint
use Rattle.hyperball.specs.declared.lines.ProgressLine.{ProgressLine}
use Rattle.hyperball.specs.declared.lines.ProgressLine.TheVariants as line

-- what keeps what stood there tells no line
appends-none : (old new : Option (List ℕ)) → Keeps old new → Appends old new []
appends-none None new keeps = tt
appends-none (Some x) None keeps = absurd keeps
appends-none (Some x) (Some y) keeps = keeps ∙ sym (append-nil x)

pub tells_none : (old new : Option (List ℕ)) → Keeps old new → TellsProgress old new
tells_none old new keeps = record { lines = []; appended = appends-none old new keeps }

-- ---- lines as they are written, piece by piece

pub read_text : (records vertices : ℕ) →
    progress_line (line.Read records vertices) ≡
    codes "hyperball: " ++ (decimal records ++ (codes " records and " ++ (decimal vertices ++ codes " vertices are read")))
read_text records vertices = search (rules, append_assoc)

pub log2m_text : (log2m : ℕ) →
    progress_line (line.NoLog2m log2m) ≡ codes "hyperball: no plan has log2m " ++ (decimal log2m ++ codes " (4 to 10 are allowed): the job will be refused once the edge list is read")
log2m_text log2m = search (rules, append_assoc)

pub parts_text : (parts : ℕ) →
    progress_line (line.NoParts parts) ≡ codes "hyperball: no plan has parts " ++ (decimal parts ++ codes " (1 to 64 are allowed): the job will be refused once the edge list is read")
parts_text parts = search (rules, append_assoc)

pub limit_text : (limit : ℕ) →
    progress_line (line.NoLimit limit) ≡ codes "hyperball: no plan has limit " ++ (decimal limit ++ codes " (1 to 4096 are allowed): the job will be refused once the edge list is read")
limit_text limit = search (rules, append_assoc)

pub superstep_text : (superstep changed vertices : ℕ) →
    progress_line (line.Superstep superstep changed vertices) ≡
    codes "hyperball: superstep " ++ (decimal superstep ++ (codes ", " ++ (decimal changed ++ (codes " of " ++ (decimal vertices ++ codes " vertices changed")))))
superstep_text superstep changed vertices = search (rules, append_assoc)

pub close_text : (node : NodeId) (superstep changed vertices : ℕ) →
    progress_line (line.Close node superstep changed vertices) ≡
    codes "hyperball: node "
    ++ (decimal node.part ++ (codes "." ++ (decimal node.replica ++ (codes " at superstep " ++ (decimal superstep
    ++ (codes ", " ++ (decimal changed ++ (codes " of its " ++ (decimal vertices ++ codes " vertices changed")))))))))
unfolding node_word
close_text node superstep changed vertices = search (rules, append_assoc)

-- ---- no LF within a line

-- a digit ends no line
glyph-no_end : (d : ℕ) (small : Bool) → (if small then 48 + d else 87 + d) ≢ 10
glyph-no_end d true is = omega (arith, is)
glyph-no_end d false is = omega (arith, is)

-- of two texts one
one-no_end : (t : Bool) (a b : List ℕ) → HasNoEnd a → HasNoEnd b → HasNoEnd (if t then a else b)
one-no_end true a b h k = h
one-no_end false a b h k = k

digits-no_end : (k n : ℕ) (acc : List ℕ) → HasNoEnd acc → HasNoEnd (digits_onto k 10 false n acc)
digits-no_end zero n acc h = h
digits-no_end (suc k) n acc h =
    let digit = digit_glyph false (n % 10) in
    let next : HasNoEnd (digit ∷ acc) = All-cons (λ b. b ≢ 10) digit acc (glyph-no_end (n % 10) (nat_lt (n % 10) 10)) h in
    one-no_end (n / 10 == 0) (digit ∷ acc) (digits_onto k 10 false (n / 10) (digit ∷ acc)) next (digits-no_end k (n / 10) (digit ∷ acc) next)

decimal-no_end : (n : ℕ) → HasNoEnd (decimal n)
unfolding digits
decimal-no_end n = digits-no_end 64 n [] (All-nil (λ b. b ≢ 10))

node-no_end : (id : NodeId) → HasNoEnd (node_word id)
unfolding node_word
node-no_end id =
    All-append (λ b. b ≢ 10) (decimal id.part) (46 ∷ decimal id.replica) (decimal-no_end id.part)
    (All-cons (λ b. b ≢ 10) 46 (decimal id.replica) (λ e. omega (arith, e)) (decimal-no_end id.replica))

-- a text that has no LF, as can be seen
abbrev seen_no_end : List ℕ → Bool
seen_no_end [] = true
seen_no_end (b ∷ bs) = if b == 10 then false else seen_no_end bs

seen-next : (b : ℕ) (bs : List ℕ) (lf : Bool) → (b == 10) ≡ lf → (if lf then false else seen_no_end bs) ≡ true → (seen_no_end bs ≡ true → HasNoEnd bs) → HasNoEnd (b ∷ bs)
seen-next b bs true test is more = absurd (cc)
seen-next b bs false test is more = All-cons (λ c. c ≢ 10) b bs (λ e. let same : (b == 10) ≡ true = rw e refl in absurd (cc)) (more is)

seen : (bs : List ℕ) → seen_no_end bs ≡ true → HasNoEnd bs
seen [] is = All-nil (λ b. b ≢ 10)
seen (b ∷ bs) is = seen-next b bs (b == 10) refl is (seen bs)

-- two texts, one behind the other
joined : (a b : List ℕ) → HasNoEnd a → HasNoEnd b → HasNoEnd (a ++ b)
joined a b h k = All-append (λ c. c ≢ 10) a b h k

-- a text that can be seen behind another, and a number behind that
numbered : (a b : List ℕ) (n : ℕ) → HasNoEnd a → seen_no_end b ≡ true → HasNoEnd (a ++ b ++ decimal n)
numbered a b n h is = joined (a ++ b) (decimal n) (joined a b h (seen b is)) (decimal-no_end n)

-- how many of how many vertices changed
changed-no_end : (a of_all : List ℕ) (changed vertices : ℕ) → HasNoEnd a → seen_no_end of_all ≡ true →
    HasNoEnd (a ++ codes ", " ++ decimal changed ++ of_all ++ decimal vertices ++ codes " vertices changed")
changed-no_end a of_all changed vertices h is =
    let first : List ℕ = a ++ codes ", " ++ decimal changed in
    let second : List ℕ = first ++ of_all ++ decimal vertices in
    joined second (codes " vertices changed")
    (numbered first of_all vertices (numbered a (codes ", ") changed h refl) is)
    (seen (codes " vertices changed") refl)

-- a number between two texts
foretold-no_end : (a : List ℕ) (n : ℕ) (b : List ℕ) → seen_no_end a ≡ true → seen_no_end b ≡ true → HasNoEnd (a ++ decimal n ++ b)
foretold-no_end a n b h k = joined (a ++ decimal n) b (joined a (decimal n) (seen a h) (decimal-no_end n)) (seen b k)

progress-no_end : (said : ProgressLine) → HasNoEnd (progress_text said)
progress-no_end (line.NoLog2m log2m) = foretold-no_end (codes "no plan has log2m ") log2m (codes " (4 to 10 are allowed): the job will be refused once the edge list is read") refl refl
progress-no_end (line.NoParts parts) = foretold-no_end (codes "no plan has parts ") parts (codes " (1 to 64 are allowed): the job will be refused once the edge list is read") refl refl
progress-no_end (line.NoLimit limit) = foretold-no_end (codes "no plan has limit ") limit (codes " (1 to 4096 are allowed): the job will be refused once the edge list is read") refl refl
progress-no_end (line.Reading records) = joined (decimal records) (codes " records are read so far") (decimal-no_end records) (seen (codes " records are read so far") refl)
progress-no_end (line.Read records vertices) =
    joined (decimal records ++ codes " records and " ++ decimal vertices) (codes " vertices are read")
    (numbered (decimal records) (codes " records and ") vertices (decimal-no_end records) refl)
    (seen (codes " vertices are read") refl)
progress-no_end line.Start = seen (codes "the supersteps begin") refl
progress-no_end (line.Superstep superstep changed vertices) =
    changed-no_end (codes "superstep " ++ decimal superstep) (codes " of ") changed vertices
    (numbered [] (codes "superstep ") superstep (All-nil (λ b. b ≢ 10)) refl) refl
progress-no_end (line.Close node superstep changed vertices) =
    let name : List ℕ = codes "node " ++ node_word node in
    changed-no_end (name ++ codes " at superstep " ++ decimal superstep) (codes " of its ") changed vertices
    (numbered name (codes " at superstep ") superstep (joined (codes "node ") (node_word node) (seen (codes "node ") refl) (node-no_end node)) refl) refl
progress-no_end line.Report = seen (codes "the report is written") refl
progress-no_end line.Answers = seen (codes "the answers are written") refl
progress-no_end line.Commands = seen (codes "the commands are answered") refl

-- each line of progress begins so, and has one LF, at its end
pub line_is : (said : ProgressLine) → IsLineBehind mark_of_program (line_of said)
line_is said = record {
  rest = progress_text said;
  is = refl;
  one_line = joined mark_of_program (progress_text said) (seen mark_of_program refl) (progress-no_end said);
}

hint-no_end : (said : Hint) → HasNoEnd (hint_text said)
hint-no_end hint.Gzip = seen (hint_text hint.Gzip) refl
hint-no_end hint.MatrixMarket = seen (hint_text hint.MatrixMarket) refl
hint-no_end hint.Tab = seen (hint_text hint.Tab) refl
hint-no_end hint.Comma = seen (hint_text hint.Comma) refl
hint-no_end hint.Space = seen (hint_text hint.Space) refl

-- and so does each hint
pub hint_is : (said : Hint) → IsLineBehind mark_of_program (line_of_hint said)
hint_is said = record {
  rest = hint_text said;
  is = refl;
  one_line = joined mark_of_program (hint_text said) (seen mark_of_program refl) (hint-no_end said);
}
