-- A stored graph that is read whole.
use Rattle.std.proofs.Common.{◌≡◌, ℕ, ◌+◌, List, ◌++◌, length, Result, Ok, Err, refl, ap, ◌∙◌, inl, inr, eq-eqb}
use Rattle.std.specs.Prelude.{◌≢◌, ◌⊎◌, Option, Some, IfOk, IfErr}
use Rattle.std.specs.List.{sum_by}
use Rattle.std.proofs.Math.Seq.{take-append_seam, drop-append_seam}
use Rattle.std.proofs.lemmas.Bool.{ne_eqb}
use Rattle.sha2.specs.declared.Sha256.{Sha256}
use Rattle.ball_model.specs.Checks.{◌>>=◌}
use Rattle.ball_model.specs.Input.{Network}
use Rattle.stored.specs.declared.error.StoredError.{StoredError}
use Rattle.stored.specs.declared.error.StoredError.TheVariants as errors
use Rattle.stored.specs.declared.header.StoredHeader.{StoredHeader}
use Rattle.stored.specs.Reading.{Reading, blocks_reading, check_edges, check_stored_head, content_reading, followed, head_reading, labels_reading, seal_reading, stored_head_at, stored_reading, told, Fails, HasHead, IsOfBytes, IsRead, OnOkOrMemory, Tells}
use Rattle.stored.specs.Stored.{StoredValue, stored_of}
use Rattle.stored.proofs.PartsLemmas.{passed}
use Rattle.stored.proofs.ReadLemmas.{checked_stops, fails_second, fails_then, left, tells_checked, tells_then}

-- ---- what comes after the header, and after the labels
abbrev pub after_labels : StoredHeader → List (List ℕ) → Reading StoredValue
after_labels h labels = followed (blocks_reading h.vertices h.vertices h.vertices) (λ preds. told (check_edges h.edges (record { labels = labels; preds = preds })))

abbrev pub after_header : StoredHeader → Reading StoredValue
after_header h = followed (labels_reading h) (after_labels h)

pub edges_pass : (edges : ℕ) (v : StoredValue) → sum_by length v.preds ≡ edges → check_edges edges v ≡ Ok v
unfolding check_edges
edges_pass edges v is = rw (eq-eqb (sum_by length v.preds) edges is) refl

pub edges_refused : (edges : ℕ) (v : StoredValue) → sum_by length v.preds ≢ edges → check_edges edges v ≡ Err errors.Edges
unfolding check_edges
edges_refused edges v other = rw (ne_eqb (sum_by length v.preds) edges other) refl

pub lists_fail : {R : Type 0} {remaining : R → Option (List ℕ)} {failed : R → ℕ} {sure : R → Option ℕ} {a b c d : R} {t u v : Sha256} {e : StoredError} (h : StoredHeader) (labels : List (List ℕ)) → Tells remaining failed sure head_reading a b t u h
    → Tells remaining failed sure (labels_reading h) b c u v labels → Fails remaining failed sure (after_labels h labels) c d e → Fails remaining failed sure content_reading a d e
lists_fail h labels p q r = fails_second after_header h p (fails_second (after_labels h) labels q r)

abbrev check_lists : StoredHeader → List (List ℕ) → List (List ℕ) → Result StoredValue StoredError
check_lists h labels preds = check_edges h.edges (record { labels = labels; preds = preds })

-- the graph that was made of labels and lists, or the refusal
pub content_ends : {R : Type 0} {remaining : R → Option (List ℕ)} {failed : R → ℕ} {sure : R → Option ℕ} {a b c d : R} {t u v w : Sha256} (h : StoredHeader) (labels lists : List (List ℕ)) (r : Result Network StoredError) → Tells remaining failed sure head_reading a b t u h
    → Tells remaining failed sure (labels_reading h) b c u v labels → Tells remaining failed sure (blocks_reading h.vertices h.vertices h.vertices) c d v w lists → IfOk r (λ g. check_edges h.edges (record { labels = labels; preds = lists }) ≡ Ok (stored_of g))
    → IfOk r (λ g. Tells remaining failed sure content_reading a d t w (stored_of g))
content_ends h labels lists (Ok g) p q s is =
    tells_then after_header h (stored_of g) p (tells_then (after_labels h) labels (stored_of g) q (tells_checked (check_lists h labels) lists (stored_of g) is s))
content_ends h labels lists (Err e) p q s is = tt

pub content_stops : {R : Type 0} {remaining : R → Option (List ℕ)} {failed : R → ℕ} {sure : R → Option ℕ} {a b c d : R} {t u v w : Sha256} (h : StoredHeader) (labels lists : List (List ℕ)) (r : Result Network StoredError) → Tells remaining failed sure head_reading a b t u h
    → Tells remaining failed sure (labels_reading h) b c u v labels → Tells remaining failed sure (blocks_reading h.vertices h.vertices h.vertices) c d v w lists → IfErr r (λ e. IsOfBytes e → check_edges h.edges (record { labels = labels; preds = lists }) ≡ Err e)
    → IfErr r (λ e. IsRead e → ⊥) → IfErr r (λ e. Fails remaining failed sure content_reading a d e)
content_stops h labels lists (Ok g) p q s is other = tt
content_stops h labels lists (Err e) p q s is other = lists_fail h labels p q (checked_stops (check_lists h labels) lists e is other s)

-- ---- a header that passes
abbrev checked_head : List ℕ → Result StoredHeader StoredError
checked_head bytes = check_stored_head (stored_head_at bytes)

head_long : (bytes : List ℕ) (h : StoredHeader) (k : ℕ) → head_reading bytes ≡ Ok (h, k) → k ≡ 25
head_long bytes h k is = (passed 25 checked_head bytes h k is).size

pub has_head : {R : Type 0} {remaining : R → Option (List ℕ)} {failed : R → ℕ} {sure : R → Option ℕ} {a b : R} {t u : Sha256} (h : StoredHeader) (bytes : List ℕ) → Tells remaining failed sure head_reading a b t u h → remaining a ≡ Some bytes → HasHead bytes
has_head {remaining} {a} {b} h bytes p known =
    let l = left (remaining a) (remaining b) p.piece bytes p.takes.consumed known in
    let is = p.is_told l.rest in
    let size = head_long (p.piece ++ l.rest) h (length p.piece) is in
    record { header = h; passes = rw l.split (is ∙ ap (λ (k : ℕ). Ok (h, k)) size) }

pub front_known : {A P : Type 0} (r : Result A StoredError) → P → OnOkOrMemory r P
front_known (Ok x) p = p
front_known (Err e) p = λ _. p

-- ---- the digest after the content
pub stored-at : (piece rest : List ℕ) (v : StoredValue) → content_reading (piece ++ rest) ≡ Ok (v, length piece) → stored_reading (piece ++ rest) ≡ (seal_reading piece rest >>= λ seal. Ok (v, length piece + seal.1))
unfolding stored_reading
stored-at piece rest v is = rw (is, take-append_seam piece rest, drop-append_seam piece rest) refl

pub stored-err : (bytes : List ℕ) (e : StoredError) → content_reading bytes ≡ Err e → stored_reading bytes ≡ Err e
unfolding stored_reading
stored-err bytes e is = rw is refl

pub seal_fails : {R : Type 0} {remaining : R → Option (List ℕ)} {failed : R → ℕ} {sure : R → Option ℕ} {a b c : R} {t u : Sha256} {v : StoredValue} {e : StoredError} (p : Tells remaining failed sure content_reading a b t u v)
    → Fails remaining failed sure (seal_reading p.piece) b c e → Fails remaining failed sure stored_reading a c e
seal_fails {v} p q = fails_then stored_reading p.takes (λ rest is. stored-at p.piece rest v (p.is_told rest) ∙ rw is refl) q

-- which errors are not of the bytes
pub is_want : (e : StoredError) → (IsOfBytes e → ⊥) → (e ≡ errors.Memory) ⊎ (e ≡ errors.Read)
is_want errors.Memory other = inl refl
is_want errors.Read other = inr refl
is_want e other = absurd (other tt)
