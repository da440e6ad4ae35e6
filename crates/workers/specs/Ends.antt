-- What the ends of all nodes say of the fault of a run: the least partition all of whose nodes were lost, and the least
-- node that waited in vain.
use Rattle.std.specs.Prelude.{ℕ, ◌+◌, Bool, true, false, not, ◌&&◌, ◌||◌, List, [], ◌∷◌, Option, None, Some, Result, Ok, Err, if◌then◌else◌}
use Rattle.std.specs.List.{list_all, list_any}
use Rattle.ball_model.specs.declared.names.NodeId.{NodeId}
use Rattle.ball_model.specs.State.{State}
use Rattle.workers.specs.declared.ends.Faults.{Faults}
use Rattle.workers.specs.declared.ends.Waiting.{Waiting}
use Rattle.workers.specs.declared.runs.RunError.{RunError}
use Rattle.workers.specs.declared.runs.RunError.TheVariants as run
use Rattle.workers.specs.declared.worker.node_run.NodeEnd.{NodeEnd}
use Rattle.workers.specs.declared.worker.node_run.NodeEnd.TheVariants as ends
use Rattle.workers.specs.declared.worker.node_run.NodeError.{NodeError}
use Rattle.workers.specs.declared.worker.node_run.NodeError.TheVariants as fault
use Rattle.workers.specs.Options.{is_named}

-- a node was lost
abbrev pub is_lost : Result NodeEnd NodeError → Bool
is_lost (Ok (ends.Done r)) = false
is_lost (Ok (ends.Lost s)) = true
is_lost (Ok (ends.Starved s q)) = false
is_lost (Err e) = false

-- it has reached the end of the run
abbrev pub is_done : Result NodeEnd NodeError → Bool
is_done (Ok (ends.Done r)) = true
is_done (Ok (ends.Lost s)) = false
is_done (Ok (ends.Starved s q)) = false
is_done (Err e) = false

-- it is a node of the run, of so many partitions and replicas, and ended so before the end of the run
abbrev pub is_early : ℕ → ℕ → NodeId → Result NodeEnd NodeError → Bool
is_early parts replicas node r = not (is_done r) && is_named parts replicas node

-- the replica of a node that has reached the end
abbrev pub done_of : Result NodeEnd NodeError → Option State
done_of (Ok (ends.Done r)) = Some r
done_of (Ok (ends.Lost s)) = None
done_of (Ok (ends.Starved s q)) = None
done_of (Err e) = None

-- the first of two, if there is one, else the second
abbrev pub first_some : {A : Type 0} → Option A → Option A → Option A
first_some None other = other
first_some (Some a) other = Some a

-- the replica of the first node of a partition that has reached the end
unfoldable pub first_done : List (Result NodeEnd NodeError) → Option State
first_done [] = None
first_done (r ∷ more) = first_some (done_of r) (first_done more)

-- each partition has a node that has reached the end of the run
abbrev pub each_has_done : {V : Type 0} → (V → List (Result NodeEnd NodeError)) → List V → Bool
each_has_done items all = list_all (λ own. list_any is_done (items own)) all

-- it found the book full
abbrev pub found_full : Result NodeEnd NodeError → Bool
found_full (Ok end) = false
found_full (Err fault.BookFull) = true
found_full (Err fault.Memory) = false

-- it was refused memory
abbrev pub lacked_memory : Result NodeEnd NodeError → Bool
lacked_memory (Ok end) = false
lacked_memory (Err fault.BookFull) = false
lacked_memory (Err fault.Memory) = true

-- what it waited for in vain, if it did
abbrev pub waited : NodeId → Result NodeEnd NodeError → Option Waiting
waited node (Ok (ends.Done r)) = None
waited node (Ok (ends.Lost s)) = None
waited node (Ok (ends.Starved s q)) = Some (record { node = node; superstep = s; source = q })
waited node (Err e) = None

-- all nodes of a partition were lost
abbrev pub all_lost : List (Result NodeEnd NodeError) → Bool
all_lost own = list_all is_lost own

-- the least partition all of whose nodes were lost, if the first one has number p
unfoldable pub least_lost : {V : Type 0} → (V → List (Result NodeEnd NodeError)) → ℕ → List V →
    Option ℕ
least_lost items p [] = None
least_lost items p (own ∷ more) =
    if all_lost (items own) then Some p else least_lost items (p + 1) more

-- the least node of partition p that waited in vain, if the first one has number k
unfoldable pub first_waiting : ℕ → ℕ → List (Result NodeEnd NodeError) → Option Waiting
first_waiting p k [] = None
first_waiting p k (r ∷ more) =
    first_some (waited (record { part = p; replica = k }) r) (first_waiting p (k + 1) more)

-- the least node that waited in vain, if the first partition has number p
unfoldable pub least_waiting : {V : Type 0} → (V → List (Result NodeEnd NodeError)) → ℕ → List V →
    Option Waiting
least_waiting items p [] = None
least_waiting items p (own ∷ more) =
    first_some (first_waiting p 0 (items own)) (least_waiting items (p + 1) more)

-- nothing is noted
abbrev pub no_faults : Faults
no_faults = record { lost = None; full = false; memory = false; starved = None }

-- what is noted, and then of one node more
abbrev pub with_end : NodeId → Result NodeEnd NodeError → Faults → Faults
with_end node r f = record {
  lost = f.lost;
  full = f.full || found_full r;
  memory = f.memory || lacked_memory r;
  starved = first_some f.starved (waited node r);
}

-- what is noted, and then of the nodes of partition p
abbrev pub with_part : ℕ → List (Result NodeEnd NodeError) → Faults → Faults
with_part p own f = record {
  lost = first_some f.lost (if all_lost own then Some p else None);
  full = f.full || list_any found_full own;
  memory = f.memory || list_any lacked_memory own;
  starved = first_some f.starved (first_waiting p 0 own);
}

-- what there is to note of all nodes
abbrev pub faults_in : {V : Type 0} → (V → List (Result NodeEnd NodeError)) → List V → Faults
faults_in items all = record {
  lost = least_lost items 0 all;
  full = list_any (λ own. list_any found_full (items own)) all;
  memory = list_any (λ own. list_any lacked_memory (items own)) all;
  starved = least_waiting items 0 all;
}

-- the first fault, in the order of the checks
abbrev pub fault_by : Option ℕ → Bool → Bool → Option Waiting → RunError
fault_by (Some p) full memory starved = run.PartitionLost p
fault_by None true memory starved = run.BookFull
fault_by None false true starved = run.Memory
fault_by None false false None = run.Memory
fault_by None false false (Some w) = run.Starved w.node w.superstep w.source

abbrev pub fault_noted : Faults → RunError
fault_noted f = fault_by f.lost f.full f.memory f.starved

-- the first fault of all nodes, by their ends
abbrev pub first_fault : {V : Type 0} → (V → List (Result NodeEnd NodeError)) → List V → RunError
first_fault items all = fault_noted (faults_in items all)

-- none if all is done, else that fault
abbrev pub fault_unless : Bool → RunError → Option RunError
fault_unless true e = None
fault_unless false e = Some e

-- the first fault of all nodes, if some partition has no node that has reached the end
abbrev pub fault_in : {V : Type 0} → (V → List (Result NodeEnd NodeError)) → List V →
    Option RunError
fault_in items all = fault_unless (each_has_done items all) (first_fault items all)
