-- What is noted of the ends of nodes, one after the other, is what there is to note of all.
use Rattle.std.proofs.Common.{◌≡◌, ℕ, ◌+◌, Bool, true, false, ◌||◌, ◌&&◌, if◌then◌else◌, List, [], ◌∷◌, map, refl, sym, ap, ◌∙◌, subst}
use Rattle.std.specs.Prelude.{Option, None, Some, Result, Ok, Err, is_some}
use Rattle.std.specs.List.{list_all, list_any}
use Rattle.std.proofs.lemmas.Bool.{and_parts}
use Rattle.ball_model.specs.State.{State}
use Rattle.workers.specs.declared.ends.Faults.{Faults}
use Rattle.workers.specs.declared.runs.RunError.{RunError}
use Rattle.workers.specs.declared.worker.node_run.NodeEnd.{NodeEnd}
use Rattle.workers.specs.declared.worker.node_run.NodeEnd.TheVariants as ends
use Rattle.workers.specs.declared.worker.node_run.NodeError.{NodeError}
use Rattle.workers.specs.Ends.{all_lost, done_of, each_has_done, fault_in, fault_noted, fault_unless, faults_in, first_done, first_fault, first_some, first_waiting, found_full, is_done, is_lost, lacked_memory, least_lost, least_waiting, waited, with_end, with_part}

-- ---- tests and options, one behind another
or_three : (a b c : Bool) → (a || (b || c)) ≡ ((a || b) || c)
or_three true b c = refl
or_three false b c = refl

or_none : (a : Bool) → (a || false) ≡ a
or_none true = refl
or_none false = refl

or_swap : (a b : Bool) → (a || b) ≡ (b || a)
or_swap true true = refl
or_swap true false = refl
or_swap false true = refl
or_swap false false = refl

and_three : (a b c : Bool) → (a && (b && c)) ≡ ((b && a) && c)
and_three true true c = refl
and_three true false c = refl
and_three false true c = refl
and_three false false c = refl

first_three : {A : Type 0} (a b c : Option A) → first_some a (first_some b c) ≡ first_some (first_some a b) c
first_three None b c = refl
first_three (Some x) b c = refl

first_none : {A : Type 0} (a : Option A) → first_some a None ≡ a
first_none None = refl
first_none (Some x) = refl

-- ---- the nodes of one partition
-- what is noted, and then of the nodes from number k on
abbrev pub with_rest : ℕ → ℕ → List (Result NodeEnd NodeError) → Faults → Faults
with_rest p k rs f = record {
  lost = f.lost;
  full = f.full || list_any found_full rs;
  memory = f.memory || list_any lacked_memory rs;
  starved = first_some f.starved (first_waiting p k rs);
}

pub rest_none : (p k : ℕ) (f : Faults) → with_rest p k [] f ≡ f
unfolding first_waiting
rest_none p k f = λ i. record { lost = f.lost; full = or_none f.full i; memory = or_none f.memory i; starved = first_none f.starved i }

pub rest_more : (p k : ℕ) (r : Result NodeEnd NodeError) (rs : List (Result NodeEnd NodeError)) (f : Faults) →
    with_rest p k (r ∷ rs) f ≡ with_rest p (k + 1) rs (with_end (record { part = p; replica = k }) r f)
unfolding first_waiting
rest_more p k r rs f = λ i. record {
  lost = f.lost;
  full = or_three f.full (found_full r) (list_any found_full rs) i;
  memory = or_three f.memory (lacked_memory r) (list_any lacked_memory rs) i;
  starved = first_three f.starved (waited (record { part = p; replica = k }) r) (first_waiting p (k + 1) rs) i;
}

-- one node more: what is noted, and whether all were lost
pub noted_more : (p k : ℕ) (r : Result NodeEnd NodeError) (rs all : List (Result NodeEnd NodeError)) (old now next : Faults) → with_rest p k (r ∷ rs) now ≡ with_rest p 0 all old →
    next ≡ with_end (record { part = p; replica = k }) r now → with_rest p (k + 1) rs next ≡ with_rest p 0 all old
noted_more p k r rs all old now next h is = ap (with_rest p (k + 1) rs) is ∙ (sym (rest_more p k r rs now) ∙ h)

pub lost_more : (r : Result NodeEnd NodeError) (rs all : List (Result NodeEnd NodeError)) (was both : Bool) → (was && all_lost (r ∷ rs)) ≡ all_lost all → both ≡ (is_lost r && was) → (both && all_lost rs) ≡ all_lost all
lost_more r rs all was both h is = ap (λ (b : Bool). b && all_lost rs) is ∙ (sym (and_three was (is_lost r) (all_lost rs)) ∙ h)

-- whether one has reached the end
pub done_more : (r : Result NodeEnd NodeError) (rs all : List (Result NodeEnd NodeError)) (was now : Bool) → (was || list_any is_done (r ∷ rs)) ≡ list_any is_done all → now ≡ (is_done r || was) → (now || list_any is_done rs) ≡ list_any is_done all
done_more r rs all was now h is = ap (λ (b : Bool). b || list_any is_done rs) (is ∙ or_swap (is_done r) was) ∙ (sym (or_three was (is_done r) (list_any is_done rs)) ∙ h)

-- the replica of the first that has
pub first_more : (r : Result NodeEnd NodeError) (rs all : List (Result NodeEnd NodeError)) (was now : Option State) → first_some was (first_done (r ∷ rs)) ≡ first_done all → now ≡ first_some was (done_of r) →
    first_some now (first_done rs) ≡ first_done all
unfolding first_done
first_more r rs all was now h is = ap (λ (o : Option State). first_some o (first_done rs)) is ∙ (sym (first_three was (done_of r) (first_done rs)) ∙ h)

pub first_all : (rest all : List (Result NodeEnd NodeError)) (now : Option State) → rest ≡ [] → first_some now (first_done rest) ≡ first_done all → now ≡ first_done all
unfolding first_done
first_all rest all now none h = sym (first_none now) ∙ (ap (λ (r : List (Result NodeEnd NodeError)). first_some now (first_done r)) (sym none) ∙ h)

done_has : (r : Result NodeEnd NodeError) → is_some (done_of r) ≡ is_done r
done_has (Ok (ends.Done v)) = refl
done_has (Ok (ends.Lost s)) = refl
done_has (Ok (ends.Starved s q)) = refl
done_has (Err e) = refl

some_of_two : (a b : Option State) → is_some (first_some a b) ≡ (is_some a || is_some b)
some_of_two None b = refl
some_of_two (Some x) b = refl

pub first_has : (rs : List (Result NodeEnd NodeError)) → is_some (first_done rs) ≡ list_any is_done rs
unfolding first_done
first_has [] = refl
first_has (r ∷ rs) =
    some_of_two (done_of r) (first_done rs)
    ∙ (ap (λ (b : Bool). b || is_some (first_done rs)) (done_has r) ∙ ap (λ (b : Bool). is_done r || b) (first_has rs))

-- ---- partitions
-- what is noted, and then of the partitions from number p on
abbrev pub with_parts : {V : Type 0} → (V → List (Result NodeEnd NodeError)) → ℕ → List V → Faults → Faults
with_parts items p rest f = record {
  lost = first_some f.lost (least_lost items p rest);
  full = f.full || list_any (λ own. list_any found_full (items own)) rest;
  memory = f.memory || list_any (λ own. list_any lacked_memory (items own)) rest;
  starved = first_some f.starved (least_waiting items p rest);
}

pub parts_none : {V : Type 0} (items : V → List (Result NodeEnd NodeError)) (p : ℕ) (f : Faults) → with_parts items p [] f ≡ f
unfolding least_lost least_waiting
parts_none items p f = λ i. record { lost = first_none f.lost i; full = or_none f.full i; memory = or_none f.memory i; starved = first_none f.starved i }

lost_first : {V : Type 0} (items : V → List (Result NodeEnd NodeError)) (p : ℕ) (rest : List V) (b : Bool) →
    (if b then Some p else least_lost items (p + 1) rest) ≡ first_some (if b then Some p else None) (least_lost items (p + 1) rest)
lost_first items p rest true = refl
lost_first items p rest false = refl

pub parts_more : {V : Type 0} (items : V → List (Result NodeEnd NodeError)) (p : ℕ) (own : V) (rest : List V) (f : Faults) →
    with_parts items p (own ∷ rest) f ≡ with_parts items (p + 1) rest (with_part p (items own) f)
unfolding least_lost least_waiting
parts_more items p own rest f =
    let lost : first_some f.lost (if all_lost (items own) then Some p else least_lost items (p + 1) rest) ≡ first_some (first_some f.lost (if all_lost (items own) then Some p else None)) (least_lost items (p + 1) rest) =
    ap (first_some f.lost) (lost_first items p rest (all_lost (items own))) ∙ first_three f.lost (if all_lost (items own) then Some p else None) (least_lost items (p + 1) rest) in
    λ i. record {
      lost = lost i;
      full = or_three f.full (list_any found_full (items own)) (list_any (λ o. list_any found_full (items o)) rest) i;
      memory = or_three f.memory (list_any lacked_memory (items own)) (list_any (λ o. list_any lacked_memory (items o)) rest) i;
      starved = first_three f.starved (first_waiting p 0 (items own)) (least_waiting items (p + 1) rest) i;
    }

pub all_noted_more : {V : Type 0} (items : V → List (Result NodeEnd NodeError)) (p : ℕ) (own : V) (rest all : List V) (now next : Faults) → with_parts items p (own ∷ rest) now ≡ faults_in items all →
    next ≡ with_part p (items own) now → with_parts items (p + 1) rest next ≡ faults_in items all
all_noted_more items p own rest all now next h is = ap (with_parts items (p + 1) rest) is ∙ (sym (parts_more items p own rest now) ∙ h)

pub parts_end : {V : Type 0} (items : V → List (Result NodeEnd NodeError)) (p : ℕ) (rest all : List V) (f : Faults) → rest ≡ [] → with_parts items p rest f ≡ faults_in items all → f ≡ faults_in items all
parts_end items p rest all f none h = sym (parts_none items p f) ∙ (ap (λ r. with_parts items p r f) (sym none) ∙ h)

-- whether each has a node that has reached the end
pub complete_more : {V : Type 0} (items : V → List (Result NodeEnd NodeError)) (own : V) (rest all : List V) (was kept both : Bool) → (was && each_has_done items (own ∷ rest)) ≡ each_has_done items all →
    kept ≡ list_any is_done (items own) → both ≡ (kept && was) → (both && each_has_done items rest) ≡ each_has_done items all
complete_more items own rest all was kept both h has is =
    ap (λ (b : Bool). b && each_has_done items rest) (is ∙ ap (λ (b : Bool). b && was) has)
    ∙ (sym (and_three was (list_any is_done (items own)) (each_has_done items rest)) ∙ h)

pub complete_end : {V : Type 0} (items : V → List (Result NodeEnd NodeError)) (rest all : List V) (complete : Bool) → rest ≡ [] → (complete && each_has_done items rest) ≡ each_has_done items all → complete ≡ false → each_has_done items all ≡ false
complete_end items rest all complete none h is = sym h ∙ (ap (λ r. complete && each_has_done items r) none ∙ ap (λ (b : Bool). b && true) is)

-- where a partition has such a node, its first one is found
pub here_done : {V : Type 0} (items : V → List (Result NodeEnd NodeError)) (own : V) (rest all : List V) → all ≡ own ∷ rest → each_has_done items all ≡ true → (list_any is_done (items own) ≡ true) × (each_has_done items rest ≡ true)
here_done items own rest all next h = and_parts (list_any is_done (items own)) (each_has_done items rest) (subst (λ r. each_has_done items r ≡ true) next h)

pub none_has : (rs : List (Result NodeEnd NodeError)) → first_done rs ≡ None → list_any is_done rs ≡ true → ⊥
none_has rs none some = let same : false ≡ true = sym (ap (λ (o : Option State). is_some o) none) ∙ (first_has rs ∙ some) in absurd (cc)

pub fault_told : {V : Type 0} (items : V → List (Result NodeEnd NodeError)) (xs : List V) (e : RunError) → each_has_done items xs ≡ false → e ≡ first_fault items xs → Some e ≡ fault_in items xs
fault_told items xs e lacking is = ap (λ (x : RunError). Some x) is ∙ sym (ap (λ (b : Bool). fault_unless b (first_fault items xs)) lacking)

-- ---- a partition whose nodes are all noted
noted_all : (p k : ℕ) (rest own : List (Result NodeEnd NodeError)) (old now : Faults) → rest ≡ [] → with_rest p k rest now ≡ with_rest p 0 own old → now ≡ with_rest p 0 own old
noted_all p k rest own old now none h = sym (rest_none p k now) ∙ (ap (λ (r : List (Result NodeEnd NodeError)). with_rest p k r now) (sym none) ∙ h)

lost_all : (rest own : List (Result NodeEnd NodeError)) (lost b : Bool) → rest ≡ [] → (lost && all_lost rest) ≡ all_lost own → lost ≡ b → all_lost own ≡ (b && true)
lost_all rest own lost b none h is = sym h ∙ (ap (λ (r : List (Result NodeEnd NodeError)). lost && all_lost r) none ∙ ap (λ (x : Bool). x && true) is)

-- what is noted, and then of a partition, where it is told whether all its nodes were lost
abbrev with_lost : Bool → ℕ → List (Result NodeEnd NodeError) → Faults → Faults
with_lost b p own f = record {
  lost = first_some f.lost (if b then Some p else None);
  full = f.full || list_any found_full own;
  memory = f.memory || list_any lacked_memory own;
  starved = first_some f.starved (first_waiting p 0 own);
}

pub part_lost : (p k : ℕ) (rest own : List (Result NodeEnd NodeError)) (old now next : Faults) (lost : Bool) → rest ≡ [] → with_rest p k rest now ≡ with_rest p 0 own old → (lost && all_lost rest) ≡ all_lost own → lost ≡ true →
    next ≡ record now { lost = first_some now.lost (Some p) } → next ≡ with_part p own old
part_lost p k rest own old now next lost none h all is noted =
    noted
    ∙ (ap (λ (f : Faults). record f { lost = first_some f.lost (Some p) }) (noted_all p k rest own old now none h)
    ∙ ap (λ (b : Bool). with_lost b p own old) (sym (lost_all rest own lost true none all is)))

pub part_kept : (p k : ℕ) (rest own : List (Result NodeEnd NodeError)) (old now : Faults) (lost : Bool) → rest ≡ [] → with_rest p k rest now ≡ with_rest p 0 own old → (lost && all_lost rest) ≡ all_lost own → lost ≡ false → now ≡ with_part p own old
part_kept p k rest own old now lost none h all is =
    let kept : with_rest p 0 own old ≡ with_lost false p own old = λ i. record {
      lost = sym (first_none old.lost) i;
      full = old.full || list_any found_full own;
      memory = old.memory || list_any lacked_memory own;
      starved = first_some old.starved (first_waiting p 0 own);
    } in
    noted_all p k rest own old now none h ∙ (kept ∙ ap (λ (b : Bool). with_lost b p own old) (sym (lost_all rest own lost false none all is)))

-- ---- the ends of all nodes as plain lists
any_map : {A B : Type 0} (f : A → B) (has : B → Bool) (xs : List A) → list_any (λ x. has (f x)) xs ≡ list_any has (map f xs)
any_map f has [] = refl
any_map f has (x ∷ xs) = ap (λ (b : Bool). has (f x) || b) (any_map f has xs)

all_map : {A B : Type 0} (f : A → B) (has : B → Bool) (xs : List A) → list_all (λ x. has (f x)) xs ≡ list_all has (map f xs)
all_map f has [] = refl
all_map f has (x ∷ xs) = ap (λ (b : Bool). has (f x) && b) (all_map f has xs)

lost_map : {V : Type 0} (items : V → List (Result NodeEnd NodeError)) (p : ℕ) (xs : List V) → least_lost items p xs ≡ least_lost (λ own. own) p (map items xs)
unfolding least_lost
lost_map items p [] = refl
lost_map items p (x ∷ xs) = ap (λ (o : Option ℕ). if all_lost (items x) then Some p else o) (lost_map items (p + 1) xs)

waiting_map : {V : Type 0} (items : V → List (Result NodeEnd NodeError)) (p : ℕ) (xs : List V) → least_waiting items p xs ≡ least_waiting (λ own. own) p (map items xs)
unfolding least_waiting
waiting_map items p [] = refl
waiting_map items p (x ∷ xs) = ap (first_some (first_waiting p 0 (items x))) (waiting_map items (p + 1) xs)

pub done_map : {V : Type 0} (items : V → List (Result NodeEnd NodeError)) (xs : List V) → each_has_done items xs ≡ each_has_done (λ own. own) (map items xs)
done_map items xs = all_map items (λ own. list_any is_done own) xs

pub first_map : {V : Type 0} (items : V → List (Result NodeEnd NodeError)) (xs : List V) → first_fault items xs ≡ first_fault (λ own. own) (map items xs)
first_map items xs = λ i. fault_noted (record {
  lost = lost_map items 0 xs i;
  full = any_map items (λ own. list_any found_full own) xs i;
  memory = any_map items (λ own. list_any lacked_memory own) xs i;
  starved = waiting_map items 0 xs i;
})
