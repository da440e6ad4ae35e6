-- Which check fails first.
use Rattle.std.proofs.Common.{◌≡◌, ℕ, zero, suc, ◌+◌, ◌<◌, ◌≤◌, true, false, nat_lt, List, [], ◌∷◌, ◌++◌, length, map, refl, ap, arith, sym, subst, ◌∙◌, inl, inr, tests, Ok, Err, OnOk, IfErr}
use Rattle.std.specs.Prelude.{Option, Some, None, Result, nat_le}
use Rattle.std.specs.List.{range_with_len}
use Rattle.std.proofs.lemmas.Bool.{cases_lt}
use Rattle.std.proofs.lemmas.List.{get_or_append_left, length-append, take-append-le}
use Rattle.std.proofs.Math.Seq.{get_or-append_seam, take-append-add}
use Rattle.ball_model.specs.Input.{Limits, Network, Refusal, TooManyEdges, Fields, TooManyVertices, has_form, labels_of, fault_at, first_of, network_from}
use Rattle.graph.specs.Edges.{AllBelow, edge_of, graph_of_edges}
use Rattle.graph.specs.declared.edge.Edge.{Edge}
use Rattle.graph.specs.Labels.{with_label}
use Rattle.graph.specs.Making.{AddsEdge}
use Rattle.edgelist.specs.Reading.{IsReadAs, Exceeds, IsClean, AddsRecord, Stops, FaultIs, Refuses, IsRefusal}
use Rattle.edgelist.specs.declared.limits.EdgeError.{EdgeError}
use Rattle.edgelist.specs.declared.limits.EdgeError.TheVariants as refused
use Rattle.graph.proofs.LabelLemmas.{with_label-longer}
use Rattle.graph.proofs.MakingLemmas.{below_more, edge-below}
use Rattle.edgelist.proofs.NetworkLemmas.{labels_of-one, labels_of-two, read-one, read-two, network-is}
use Rattle.graph.proofs.RangeLemmas.{first-none, first-some}

abbrev Record : Type 0
Record = List (List ℕ)

-- what follows a record does not count at it
fault-prefix : (limits : Limits) (records more : List Record) (i : ℕ) → i < length records → fault_at limits (records ++ more) i ≡ fault_at limits records i
fault-prefix limits records more i lt =
    let le : i + 1 ≤ length records = omega arith in
    rw (get_or_append_left records more [] i lt, take-append-le (i + 1) records more) refl

-- the four outcomes at the record that follows some
fault-vertices : (limits : Limits) (records : List Record) (r : Record) (more : List Record) → length records < limits.edges → has_form r ≡ true → limits.vertices < length (labels_of (records ++ r ∷ [])) →
    fault_at limits (records ++ r ∷ more) (length records) ≡ Some TooManyVertices
fault-vertices limits records r more lt form many =
    let off : nat_le limits.edges (length records) ≡ false = search (tests, arith) in
    let over : nat_lt limits.vertices (length (labels_of (records ++ r ∷ []))) ≡ true = search (tests, arith) in
    rw (off, get_or-append_seam records r more [], form, take-append-add records (r ∷ more) 1, over) refl

fault-none : (limits : Limits) (records : List Record) (r : Record) (more : List Record) → length records < limits.edges → has_form r ≡ true → length (labels_of (records ++ r ∷ [])) ≤ limits.vertices →
    fault_at limits (records ++ r ∷ more) (length records) ≡ None
fault-none limits records r more lt form few =
    let off : nat_le limits.edges (length records) ≡ false = search (tests, arith) in
    let within : nat_lt limits.vertices (length (labels_of (records ++ r ∷ []))) ≡ false = search (tests, arith) in
    rw (off, get_or-append_seam records r more [], form, take-append-add records (r ∷ more) 1, within) refl

-- records with no fault are their network
pub says-network : (limits : Limits) (records : List Record) (labels : List (List ℕ)) (edges : List Edge) → IsClean limits records → IsReadAs records labels edges →
    network_from limits records ≡ Ok (record { graph = graph_of_edges (length labels) edges; labels = labels })
unfolding network_from
says-network limits records labels edges clean so =
    let none : first_of (map (fault_at limits records) (range_with_len 0 (length records))) ≡ None = first-none (fault_at limits records) 0 (length records) (λ k lt. clean.none k (omega arith)) in
    rw none (ap Ok (network-is records labels edges so))

says-fault : (limits : Limits) (records : List Record) (r : Record) (more : List Record) (x : Refusal) → IsClean limits records → fault_at limits (records ++ r ∷ more) (length records) ≡ Some x →
    network_from limits (records ++ r ∷ more) ≡ Err x
unfolding network_from
says-fault limits records r more x clean fault =
    let all = records ++ r ∷ more in
    let long : length records < length all = omega (arith, length-append records (r ∷ more)) in
    let at : 0 + length records ≡ length records = omega arith in
    let first : first_of (map (fault_at limits all) (range_with_len 0 (length all))) ≡ Some x =
    first-some (fault_at limits all) x 0 (length all) (length records) long
    (λ j lt. let less : j < length records = omega arith in fault-prefix limits records (r ∷ more) j less ∙ clean.none j less) (rw at fault) in
    rw first refl

-- the first fault is what the edge list says
pub says-refusal : (limits : Limits) (records : List Record) (r : Record) (more : List Record) (e : EdgeError) → IsClean limits records → FaultIs (fault_at limits (records ++ r ∷ more) (length records)) e →
    Refuses (network_from limits (records ++ r ∷ more)) e
says-refusal limits records r more refused.Read clean fault = absurd fault
says-refusal limits records r more refused.TooManyEdges clean fault = says-fault limits records r more TooManyEdges clean fault
says-refusal limits records r more (refused.Fields n) clean fault = says-fault limits records r more (Fields n) clean fault
says-refusal limits records r more refused.TooManyVertices clean fault = says-fault limits records r more TooManyVertices clean fault
says-refusal limits records r more refused.Memory clean fault = tt

-- what any text may say is no refusal of a record
pub refuses-none : (e : EdgeError) → ((says : Result Network Refusal) → Refuses says e) → IsRefusal e → ⊥
refuses-none refused.Read any is = is
refuses-none refused.TooManyEdges any is = let bad : Err TooManyVertices ≡ Err TooManyEdges = any (Err TooManyVertices) in cc
refuses-none (refused.Fields n) any is = let bad : Err TooManyEdges ≡ Err (Fields n) = any (Err TooManyEdges) in cc
refuses-none refused.TooManyVertices any is = let bad : Err TooManyEdges ≡ Err TooManyVertices = any (Err TooManyEdges) in cc
refuses-none refused.Memory any is = is

pub clean-none : (limits : Limits) → IsClean limits []
clean-none limits = record { none = λ i lt. absurd (omega arith) }

-- one more record with no fault
pub clean-more : (limits : Limits) (records : List Record) (r : Record) → IsClean limits records → fault_at limits (records ++ r ∷ []) (length records) ≡ None → IsClean limits (records ++ r ∷ [])
clean-more limits records r clean here = record {
  none = λ i lt. elim (cases_lt i (length records)) [
    | inl less ↦ fault-prefix limits records (r ∷ []) i less ∙ clean.none i less
    | inr more ↦
        let e : i ≡ length records = omega (arith, length-append records (r ∷ [])) in
        rw e here
  ];
}

-- what adding a record of one label gives
adds-one : (limits : Limits) (n : ℕ) (a : List ℕ) (old new : List (List ℕ)) (edges edges' : List Edge) → n < limits.edges → has_form (a ∷ []) ≡ true → new ≡ with_label old a → edges' ≡ edges → length new ≤ limits.vertices →
    AddsRecord limits n (a ∷ []) old edges new edges'
adds-one limits n a old new edges edges' lt form is same few = record {
  reads = λ records so. read-one records old new edges edges' a so is same;
  passes = λ records at so.
      let all : labels_of (records ++ (a ∷ []) ∷ []) ≡ new = labels_of-one records a ∙ ap (λ (ls : List (List ℕ)). with_label ls a) (sym so.labels_are) ∙ sym is in
      rw (← at) (fault-none limits records (a ∷ []) [] (omega arith) form (omega (arith, ap length all)));
  within = λ h. record {
    below = subst (λ (ps : List Edge). AllBelow (length new) ps) (sym same) (below_more (length old) (length new) edges (omega (arith, with_label-longer old a, ap length is)) h.below);
    few_labels = few;
    few_edges = omega (arith, h.few_edges, ap length same);
  };
}

adds-two : (limits : Limits) (n : ℕ) (a b : List ℕ) (old new : List (List ℕ)) (edges edges' : List Edge) → n < limits.edges → has_form (a ∷ b ∷ []) ≡ true → AddsEdge a b old edges new edges' → length new ≤ limits.vertices →
    AddsRecord limits n (a ∷ b ∷ []) old edges new edges'
adds-two limits n a b old new edges edges' lt form adds few = record {
  reads = λ records so. read-two records old new edges edges' a b so adds;
  passes = λ records at so.
      let all : labels_of (records ++ (a ∷ b ∷ []) ∷ []) ≡ new = labels_of-two records a b ∙ ap (λ (ls : List (List ℕ)). with_label (with_label ls a) b) (sym so.labels_are) ∙ sym adds.labels_are in
      rw (← at) (fault-none limits records (a ∷ b ∷ []) [] (omega arith) form (omega (arith, ap length all)));
  within = λ h. record {
    below = edge-below old new edges edges' a b adds h.below;
    few_labels = few;
    few_edges = omega (arith, h.few_edges, ap length adds.edges_are, length-append edges (edge_of adds.to adds.from ∷ []));
  };
}

-- a record is added if the answer is Ok
pub answer-one : {T : Type 0} (o : Result T EdgeError) (limits : Limits) (n : ℕ) (r : Record) (a : List ℕ) (old new : List (List ℕ)) (edges edges' : List Edge) → n < limits.edges → has_form r ≡ true → r ≡ a ∷ [] →
    OnOk o (new ≡ with_label old a) → OnOk o (edges' ≡ edges) → OnOk o (length new ≤ limits.vertices) → OnOk o (AddsRecord limits n r old edges new edges')
answer-one (Ok t) limits n r a old new edges edges' lt form row is same few = rw row (adds-one limits n a old new edges edges' lt (rw row at form) is same few)
answer-one (Err x) limits n r a old new edges edges' lt form row is same few = tt

pub answer-two : {T : Type 0} (o : Result T EdgeError) (limits : Limits) (n : ℕ) (r : Record) (a b : List ℕ) (old new : List (List ℕ)) (edges edges' : List Edge) → n < limits.edges → has_form r ≡ true → r ≡ a ∷ b ∷ [] →
    OnOk o (AddsEdge a b old edges new edges') → OnOk o (length new ≤ limits.vertices) → OnOk o (AddsRecord limits n r old edges new edges')
answer-two (Ok t) limits n r a b old new edges edges' lt form row adds few = rw row (adds-two limits n a b old new edges edges' lt (rw row at form) adds few)
answer-two (Err x) limits n r a b old new edges edges' lt form row adds few = tt

-- the refusals
exceeds-stops : (e : EdgeError) (limits : Limits) (n : ℕ) (r : Record) (old with_it : List (List ℕ)) (edges : List Edge) → n < limits.edges → has_form r ≡ true →
    ((records : List Record) → labels_of records ≡ old → labels_of (records ++ r ∷ []) ≡ with_it) → Exceeds limits.vertices with_it e → Stops limits n r old edges e
exceeds-stops refused.Read limits n r old with_it edges lt form labels many = absurd many
exceeds-stops refused.TooManyEdges limits n r old with_it edges lt form labels many = absurd many
exceeds-stops (refused.Fields k) limits n r old with_it edges lt form labels many = absurd many
exceeds-stops refused.TooManyVertices limits n r old with_it edges lt form labels many =
    record { at = λ records more is so. rw (← is) (fault-vertices limits records r more (omega arith) form (omega (arith, many, ap length (labels records (sym so.labels_are))))) }
exceeds-stops refused.Memory limits n r old with_it edges lt form labels many = record { at = λ records more is so. tt }

pub stop-one : {T : Type 0} (o : Result T EdgeError) (limits : Limits) (n : ℕ) (r : Record) (a : List ℕ) (old : List (List ℕ)) (edges : List Edge) → n < limits.edges → has_form r ≡ true → r ≡ a ∷ [] →
    IfErr o (Exceeds limits.vertices (with_label old a)) → IfErr o (Stops limits n r old edges)
stop-one (Ok t) limits n r a old edges lt form row many = tt
stop-one (Err e) limits n r a old edges lt form row many =
    exceeds-stops e limits n r old (with_label old a) edges lt form (λ records is. rw (row, labels_of-one records a, is) refl) many

pub stop-two : {T : Type 0} (o : Result T EdgeError) (limits : Limits) (n : ℕ) (r : Record) (a b : List ℕ) (old : List (List ℕ)) (edges : List Edge) → n < limits.edges → has_form r ≡ true → r ≡ a ∷ b ∷ [] →
    IfErr o (Exceeds limits.vertices (with_label (with_label old a) b)) → IfErr o (Stops limits n r old edges)
stop-two (Ok t) limits n r a b old edges lt form row many = tt
stop-two (Err e) limits n r a b old edges lt form row many =
    exceeds-stops e limits n r old (with_label (with_label old a) b) edges lt form (λ records is. rw (row, labels_of-two records a b, is) refl) many
