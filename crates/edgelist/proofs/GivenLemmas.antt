-- What a reader of bytes was given, from one call to the next.
use Rattle.std.proofs.Common.{◌≡◌, ◌∙◌, ◌<◌, ℕ, List, [], ◌∷◌, ◌++◌, length, take, arith, refl, ap, ap₂, sym, subst, append_assoc, inl, inr, Ok}
use Rattle.std.specs.Prelude.{None, slice_set}
use Rattle.std.proofs.lemmas.List.{append-nil}
use Rattle.ball_model.specs.Graph.{Graph}
use Rattle.ball_model.specs.Input.{IsPlain, Limits, Network, lines, network_from, records}
use Rattle.graph.specs.Edges.{graph_of_edges}
use Rattle.edgelist.specs.Given.{IsGivenUnder}
use Rattle.edgelist.specs.Pieces.{EndsLine, IsLeftOf, IsThrough}
use Rattle.graph.specs.Records.{byte_of}
use Rattle.edgelist.specs.Reading.{Refuses, limits_of, meaning_under, network_by}
use Rattle.graph.specs.declared.edge.Edge.{Edge}
use Rattle.edgelist.specs.declared.pieces.EdgeReader.{EdgeReader}
use Rattle.graph.specs.declared.delimiter.Delimiter.{Delimiter}
use Rattle.edgelist.specs.declared.limits.EdgeError.{EdgeError}
use Rattle.edgelist.proofs.PieceLemmas.{given-some, plain-front, plain-held, records-held, records-joined, through-network}

-- no text has no records
pub records-none : (d : ℕ) → records d [] ≡ []
unfolding lines
records-none d = refl

held-more : (done left lines : List ℕ) (b : ℕ) → IsLeftOf done left lines → IsLeftOf done (left ++ b ∷ []) (lines ++ b ∷ [])
held-more done left lines b (inl h) = inl (h.0, ap (λ (l : List ℕ). l ++ b ∷ []) h.1)
held-more done left lines b (inr h) = inr (h.0, ap (λ (l : List ℕ). l ++ b ∷ []) h.1)

-- one byte more is held
pub given-more : (limits : Limits) (delimiter : Delimiter) (text : List ℕ) (b : ℕ) (r s : EdgeReader) →
    s.failed ≡ r.failed → s.delimiter ≡ r.delimiter → s.limits ≡ r.limits → s.number ≡ r.number → s.reading ≡ r.reading → s.lines.items ≡ r.lines.items ++ b ∷ [] →
    IsGivenUnder limits delimiter text r → IsGivenUnder limits delimiter (text ++ b ∷ []) s
given-more limits delimiter text b r s failed delim within number reading held g = record {
  none = failed ∙ g.none;
  delimiter_is = delim ∙ g.delimiter_is;
  limits_are = ap limits_of within ∙ g.limits_are;
  done = g.done;
  left = g.left ++ b ∷ [];
  text_is = ap (λ (l : List ℕ). l ++ b ∷ []) g.text_is ∙ append_assoc g.done g.left (b ∷ []);
  ends = g.ends;
  held = subst (λ (l : List ℕ). IsLeftOf g.done (g.left ++ b ∷ []) l) (sym held) (held-more g.done g.left r.lines.items b g.held);
  through = λ plain. rw (within, number, reading) (g.through plain);
}

-- what reading the lines that a reader holds does, of records before them
abbrev pub ReadsHeld : EdgeReader → ℕ → List (List ℕ) → List Edge → Type 0
ReadsHeld r n labels edges = (before : List (List (List ℕ))) → IsPlain r.lines.items →
    IsThrough (limits_of r.limits) r.number before r.reading.labels r.reading.edges.items →
    IsThrough (limits_of r.limits) n (before ++ records (byte_of r.delimiter) r.lines.items) labels edges

abbrev pub RefusesHeld : EdgeReader → EdgeError → Type 0
RefusesHeld r e = (before more : List (List (List ℕ))) → IsPlain r.lines.items →
    IsThrough (limits_of r.limits) r.number before r.reading.labels r.reading.edges.items →
    Refuses (network_from (limits_of r.limits) (before ++ (records (byte_of r.delimiter) r.lines.items ++ more))) e

-- then all records of the text were read
pub given-through : (limits : Limits) (delimiter : Delimiter) (text : List ℕ) (r : EdgeReader) (n : ℕ) (labels : List (List ℕ)) (edges : List Edge) →
    IsGivenUnder limits delimiter text r → ReadsHeld r n labels edges → IsPlain text → IsThrough (limits_of r.limits) n (records (byte_of delimiter) text) labels edges
given-through limits delimiter text r n labels edges g reads plain =
    let d = byte_of delimiter in
    let whole : IsPlain (g.done ++ g.left) = rw g.text_is at plain in
    let all : records d text ≡ records d g.done ++ records d r.lines.items = ap (records d) g.text_is ∙ records-held d g.done g.left r.lines.items g.ends g.held in
    let read = reads (records d g.done) (plain-held g.done g.left r.lines.items g.held whole) (g.through (plain-front g.done g.left g.ends whole)) in
    subst (λ (rs : List (List (List ℕ))). IsThrough (limits_of r.limits) n rs labels edges) (sym all)
    (subst (λ (e : Delimiter). IsThrough (limits_of r.limits) n (records d g.done ++ records (byte_of e) r.lines.items) labels edges) g.delimiter_is read)

-- the lines that were held are read
pub given-read : (limits : Limits) (delimiter : Delimiter) (text : List ℕ) (r s : EdgeReader) →
    IsGivenUnder limits delimiter text r → EndsLine text → 0 < length r.lines.items → s.failed ≡ None → s.delimiter ≡ r.delimiter → s.limits ≡ r.limits → s.lines.items ≡ 10 ∷ [] →
    ReadsHeld r s.number s.reading.labels s.reading.edges.items → IsGivenUnder limits delimiter text s
given-read limits delimiter text r s g ends some failed delim within held reads = record {
  none = failed;
  delimiter_is = delim ∙ g.delimiter_is;
  limits_are = ap limits_of within ∙ g.limits_are;
  done = text;
  left = [];
  text_is = sym (append-nil text);
  ends = ends;
  held = inr (rw g.text_is (given-some g.done g.left r.lines.items g.held some), held);
  through = λ plain. rw within (given-through limits delimiter text r s.number s.reading.labels s.reading.edges.items g reads plain);
}

-- and what is left says the graph
pub given-network : (limits : Limits) (delimiter : Delimiter) (text : List ℕ) (r : EdgeReader) (n : ℕ) (labels : List (List ℕ)) (edges : List Edge) →
    IsGivenUnder limits delimiter text r → ReadsHeld r n labels edges → IsPlain text → meaning_under limits delimiter text ≡ Ok (network_by labels edges)
given-network limits delimiter text r n labels edges g reads plain =
    rw (← g.limits_are) (through-network (limits_of r.limits) n (records (byte_of delimiter) text) labels edges (given-through limits delimiter text r n labels edges g reads plain))

refused-by : (limits : Limits) (delimiter : Delimiter) (text : List ℕ) (r : EdgeReader) (rest : List (List (List ℕ))) (e : EdgeError) →
    IsGivenUnder limits delimiter text r → RefusesHeld r e → IsPlain text → Refuses (network_from limits (records (byte_of delimiter) text ++ rest)) e
refused-by limits delimiter text r rest e g refuses plain =
    let d = byte_of delimiter in
    let whole : IsPlain (g.done ++ g.left) = rw g.text_is at plain in
    let all : records d text ≡ records d g.done ++ records d r.lines.items = ap (records d) g.text_is ∙ records-held d g.done g.left r.lines.items g.ends g.held in
    let told = refuses (records d g.done) rest (plain-held g.done g.left r.lines.items g.held whole) (g.through (plain-front g.done g.left g.ends whole)) in
    rw (all, append_assoc (records d g.done) (records d r.lines.items) rest, ← g.limits_are)
    (subst (λ (x : Delimiter). Refuses (network_from (limits_of r.limits) (records d g.done ++ (records (byte_of x) r.lines.items ++ rest))) e) g.delimiter_is told)

-- a refusal is that of the text, whatever lines follow
pub given-refused : (limits : Limits) (delimiter : Delimiter) (text more : List ℕ) (r : EdgeReader) (e : EdgeError) →
    IsGivenUnder limits delimiter text r → EndsLine text → RefusesHeld r e → IsPlain (text ++ more) → Refuses (meaning_under limits delimiter (text ++ more)) e
given-refused limits delimiter text more r e g ends refuses plain =
    let (rest, joined) = records-joined (byte_of delimiter) text more ends in
    rw joined (refused-by limits delimiter text r rest e g refuses (plain-front text more ends plain))

pub given-refused-all : (limits : Limits) (delimiter : Delimiter) (text : List ℕ) (r : EdgeReader) (e : EdgeError) →
    IsGivenUnder limits delimiter text r → RefusesHeld r e → IsPlain text → Refuses (meaning_under limits delimiter text) e
given-refused-all limits delimiter text r e g refuses plain =
    subst (λ (rs : List (List (List ℕ))). Refuses (network_from limits rs) e) (append-nil (records (byte_of delimiter) text))
    (refused-by limits delimiter text r [] e g refuses plain)

-- of the lines that were read, one byte's room is kept, for an LF
pub one-line : (l : List ℕ) → 0 < length l → slice_set (take 1 l) 0 10 ≡ 10 ∷ []
one-line [] some = absurd (omega arith)
one-line (b ∷ l) some = refl

-- a network by its parts
pub network-same : (n : Network) (labels : List (List ℕ)) (edges : List Edge) → n.graph ≡ graph_of_edges (length labels) edges → n.labels ≡ labels → network_by labels edges ≡ n
network-same n labels edges graph is = sym (ap₂ (λ (g : Graph) (l : List (List ℕ)). record { graph = g; labels = l }) graph is)
