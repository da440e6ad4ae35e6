use Rattle.std.proofs.Common.{◌≡◌, [], ℕ, List, arith, subst, sym}
use Rattle.std.proofs.lemmas.List.{append-nil}
use Rattle.std.specs.Prelude.{Result, Ok, Err, IsOkAnd, IfOk, IfErr, OnOk, MatchResult}
use Rattle.ball_model.specs.Input.{network_from, records}
use Rattle.edgelist.specs.Pieces.{IsThrough}
use Rattle.edgelist.specs.Reading.{Refuses, limits_of}
use Rattle.edgelist.proofs.PieceLemmas.{through-network, through-none}
use Rattle.edgelist.proofs.reading.Sequential.read_records.Goals as goal

map-if : {X Y E : Type 0} (r : Result X E) (s : Result Y E) (F : X → Y → Type 0) (P : X → Type 0) (Q : Y → Type 0) → MatchResult r (λ x. IsOkAnd s (F x)) (λ e. s ≡ Err e) → IfOk r P → ((x : X) (y : Y) → P x → F x y → Q y) → IfOk s Q
map-if (Ok x) (Ok y) F P Q m p f = f x y p m
map-if (Ok x) (Err e) F P Q m p f = tt
map-if (Err e) s F P Q m p f = rw m tt

map-err : {X Y E : Type 0} (r : Result X E) (s : Result Y E) (F : X → Y → Type 0) (P : E → Type 0) → MatchResult r (λ x. IsOkAnd s (F x)) (λ e. s ≡ Err e) → IfErr r P → IfErr s P
map-err (Ok x) (Ok y) F P m p = tt
map-err (Ok x) (Err e) F P m p = absurd m
map-err (Err e) s F P m p = rw m p

map-on : {X Y E : Type 0} (r : Result X E) (s : Result Y E) (F : X → Y → Type 0) (P : Type 0) → MatchResult r (λ x. IsOkAnd s (F x)) (λ e. s ≡ Err e) → OnOk r P → OnOk s P
map-on (Ok x) (Ok y) F P m p = p
map-on (Ok x) (Err e) F P m p = tt
map-on (Err e) s F P m p = rw m tt

two-if : {X E : Type 0} (r : Result X E) (P Q : X → Type 0) → IfOk r P → IfOk r Q → IfOk r (λ x. P x × Q x)
two-if (Ok x) P Q p q = (p, q)
two-if (Err e) P Q p q = tt

pub read_more-read-requires-clause-within : goal.read_more-read-requires-clause-within
read_more-read-requires-clause-within g c =
    rw (c.in_ok-reading.ensures.labels, c.in_ok-reading.ensures.edges) (record { below = tt; few_labels = omega arith; few_edges = omega arith })

pub returns-clause-within : goal.returns-clause-within
returns-clause-within g c =
    map-if c.read_more-read.result c.map.result _ _ _ c.map.ensures.cases (two-if c.read_more-read.result _ _ c.read_more-read.ensures.number c.read_more-read.ensures.within) (λ n y p post.
    let is : y ≡ (c.read_more-read.new.self, n) = search in
    let w = p.1 in
    rw is (record { below = w.below; few_labels = w.few_labels; few_edges = omega (arith, p.0, w.few_edges) }))

pub returns-clause-ok : goal.returns-clause-ok
returns-clause-ok g c = λ d text at.
    let t : IsThrough (limits_of c.args.self.now.limits) 0 [] c.in_ok-reading.reading.labels c.in_ok-reading.reading.edges.items = rw (c.in_ok-reading.ensures.labels, c.in_ok-reading.ensures.edges) (through-none _) in
    map-if c.read_more-read.result c.map.result _ _ _ c.map.ensures.cases (c.read_more-read.ensures.ok d text at [] t) (λ n y p post.
    let is : y ≡ (c.read_more-read.new.self, n) = search in
    rw is (through-network (limits_of c.args.self.now.limits) n (records d text) _ _ p))

pub returns-clause-count : goal.returns-clause-count
returns-clause-count g c = λ d text at.
    let t : IsThrough (limits_of c.args.self.now.limits) 0 [] c.in_ok-reading.reading.labels c.in_ok-reading.reading.edges.items = rw (c.in_ok-reading.ensures.labels, c.in_ok-reading.ensures.edges) (through-none _) in
    map-if c.read_more-read.result c.map.result _ _ _ c.map.ensures.cases (c.read_more-read.ensures.ok d text at [] t) (λ n y p post.
    let is : y ≡ (c.read_more-read.new.self, n) = search in
    rw is (sym p.count))

pub returns-clause-refused : goal.returns-clause-refused
returns-clause-refused g c = λ d text at.
    let t : IsThrough (limits_of c.args.self.now.limits) 0 [] c.in_ok-reading.reading.labels c.in_ok-reading.reading.edges.items = rw (c.in_ok-reading.ensures.labels, c.in_ok-reading.ensures.edges) (through-none _) in
    map-err c.read_more-read.result c.map.result _ _ c.map.ensures.cases
    (subst (λ (rs : List (List (List ℕ))). IfErr c.read_more-read.result (Refuses (network_from (limits_of c.args.self.now.limits) rs))) (append-nil (records d text))
    (c.read_more-read.ensures.refused d text at [] [] t))

pub returns-clause-last : goal.returns-clause-last
returns-clause-last g c = λ d text at.
    let t : IsThrough (limits_of c.args.self.now.limits) 0 [] c.in_ok-reading.reading.labels c.in_ok-reading.reading.edges.items = rw (c.in_ok-reading.ensures.labels, c.in_ok-reading.ensures.edges) (through-none _) in
    map-on c.read_more-read.result c.map.result _ _ c.map.ensures.cases (c.read_more-read.ensures.last [] t d text at)

pub returns-clause-ends : goal.returns-clause-ends
returns-clause-ends g c = λ d text at.
    let t : IsThrough (limits_of c.args.self.now.limits) 0 [] c.in_ok-reading.reading.labels c.in_ok-reading.reading.edges.items = rw (c.in_ok-reading.ensures.labels, c.in_ok-reading.ensures.edges) (through-none _) in
    map-err c.read_more-read.result c.map.result _ _ c.map.ensures.cases (c.read_more-read.ensures.ends t d text at)
