-- Rows that are read one after another, and then added.
use Rattle.std.proofs.Common.{◌≡◌, ◌∙◌, ◌+◌, ◌<◌, ◌≤◌, ℕ, List, [], ◌∷◌, ◌++◌, length, take, get_or, set, arith, ap, sym, subst}
use Rattle.std.specs.Prelude.{Option}
use Rattle.std.specs.List.{All}
use Rattle.std.proofs.lemmas.List.{get_or-set_same, length-take-le, take-set, take_more, take_more_set}
use Rattle.std.proofs.lemmas.List.Elements.{All-get_or, All-push}
use Rattle.csv.specs.declared.reader.Reader.{Reader}
use Rattle.ball_model.specs.Input.{Limits}
use Rattle.edgelist.specs.Pieces.{AddsRecords, IsPartRead}
use Rattle.graph.specs.Records.{ReadsNone, ReadsOne}
use Rattle.edgelist.specs.Records.{HasForm, ReadsNoneAfter, ReadsOneAfter, ReadsRecords}
use Rattle.edgelist.specs.Reading.{AddsRecord}
use Rattle.graph.specs.declared.edge.Edge.{Edge}
use Rattle.edgelist.proofs.PieceLemmas.{adds-more, reads-more, part-read-all}

abbrev Fields : Type 0
Fields = List (List ℕ)

pub one-after : {R : Type 0} (remaining : R → Option (List ℕ)) (a b c : Reader R) (xs : List Fields) (i : ℕ) (x : Fields) → i < length xs →
    ReadsRecords remaining a b (take i xs) → ReadsOne remaining b c x → ReadsOneAfter remaining a c (take i (set xs i x)) (get_or (set xs i x) i [])
one-after remaining a b c xs i x lt reads one =
    subst (λ (rs : List Fields). ReadsOneAfter remaining a c rs (get_or (set xs i x) i [])) (sym (take-set xs i x))
    (subst (λ (r : Fields). ReadsOneAfter remaining a c (take i xs) r) (sym (get_or-set_same xs i x [] lt)) (record { middle = b; reads = reads; one = one }))

pub none-after : {R : Type 0} (remaining : R → Option (List ℕ)) (a b c : Reader R) (xs : List Fields) (i : ℕ) (x : Fields) →
    ReadsRecords remaining a b (take i xs) → ReadsNone remaining b c → ReadsNoneAfter remaining a c (take i (set xs i x))
none-after remaining a b c xs i x reads none =
    subst (λ (rs : List Fields). ReadsNoneAfter remaining a c rs) (sym (take-set xs i x)) (record { middle = b; reads = reads; none = none })

pub all-more : {R : Type 0} (remaining : R → Option (List ℕ)) (a b c : Reader R) (xs : List Fields) (i : ℕ) (x : Fields) → i < length xs →
    ReadsRecords remaining a b (take i xs) → ReadsOne remaining b c x → ReadsRecords remaining a c (take (i + 1) (set xs i x))
all-more remaining a b c xs i x lt reads one =
    subst (λ (rs : List Fields). ReadsRecords remaining a c rs) (sym (take_more_set xs i x lt)) (reads-more remaining a b c (take i xs) x reads one)

pub form-more : (xs : List Fields) (i : ℕ) (x : Fields) → i < length xs → All HasForm (take i xs) → HasForm x → All HasForm (take (i + 1) (set xs i x))
form-more xs i x lt all one =
    subst (λ (rs : List Fields). All HasForm rs) (sym (take_more_set xs i x lt)) (All-push HasForm (take i xs) x all one)

-- one of the rows more that was added
pub adds-next : (limits : Limits) (n i : ℕ) (xs : List Fields) (row : Fields) (a b c : List (List ℕ)) (x y z : List Edge) → i < length xs → row ≡ get_or xs i row →
    AddsRecords limits n (take i xs) a x b y → AddsRecord limits (n + i) row b y c z → AddsRecords limits n (take (i + 1) xs) a x c z
adds-next limits n i xs row a b c x y z lt here adds one =
    let long : length (take i xs) ≡ i = length-take-le i xs (omega (arith, lt)) in
    let next : take (i + 1) xs ≡ take i xs ++ row ∷ [] =
    take_more xs i row lt ∙ ap (λ (r : Fields). take i xs ++ r ∷ []) (sym here) in
    subst (λ (rs : List Fields). AddsRecords limits n rs a x c z) (sym next)
    (adds-more limits n (take i xs) row a b c x y z adds
    (subst (λ (k : ℕ). AddsRecord limits (n + k) row b y c z) (sym long) one))

-- one of rows that have the form of a record
pub form-at : (xs : List Fields) (i : ℕ) (row : Fields) → i < length xs → row ≡ get_or xs i row → All HasForm xs → HasForm row
form-at xs i row lt here all = subst (λ (r : Fields). HasForm r) (sym here) (All-get_or HasForm xs i row lt all)

-- the first of some rows were read and added
pub part-read-rows : {R : Type 0} (remaining : R → Option (List ℕ)) (d : ℕ) (limits : Limits) (n : ℕ) (before : List Fields) (text : List ℕ) (a b : Reader R) (labels labels' : List (List ℕ)) (edges edges' : List Edge) (xs : List Fields) (k : ℕ) → k ≤ length xs →
    IsPartRead remaining d limits n before text a labels edges → ReadsRecords remaining a b (take k xs) → AddsRecords limits n (take k xs) labels edges labels' edges' → IsPartRead remaining d limits (n + k) before text b labels' edges'
part-read-rows remaining d limits n before text a b labels labels' edges edges' xs k le part reads adds =
    subst (λ (m : ℕ). IsPartRead remaining d limits (n + m) before text b labels' edges') (length-take-le k xs le) (part-read-all remaining d limits n before text a b labels labels' edges edges' (take k xs) part reads adds)
