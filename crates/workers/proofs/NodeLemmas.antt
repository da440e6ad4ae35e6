-- How a node ends, by the fate of its replica.
use Rattle.std.proofs.Common.{◌≡◌, ◌≢◌, ◌∙◌, ℕ, ◌<◌, [], arith, refl, sym}
use Rattle.std.specs.Prelude.{Result, Ok, Err, IfOk, IfErr, OnOk, OnErr}
use Rattle.ball_model.specs.Caller.{Caller, IsCaller, IsFull}
use Rattle.ball_model.specs.Held.{start_holding}
use Rattle.ball_model.specs.History.{holding_in, start_history}
use Rattle.ball_model.specs.Job.{Job}
use Rattle.ball_model.specs.State.{State}
use Rattle.workers.specs.declared.worker.node_run.Fate.{Fate}
use Rattle.workers.specs.declared.worker.node_run.Fate.TheVariants as fate
use Rattle.workers.specs.declared.worker.node_run.NodeEnd.{NodeEnd}
use Rattle.workers.specs.declared.worker.node_run.NodeError.{NodeError}
use Rattle.workers.specs.declared.worker.node_run.NodeError.TheVariants as fault
use Rattle.workers.specs.declared.worker.node_run.NodeOrders.{NodeOrders}
use Rattle.workers.specs.Job.{HasRun}
use Rattle.workers.specs.Tie.{HasPath, IsPath}
use Rattle.workers.specs.Superstep.{EndsAs, IsFate, end_with}
use Rattle.workers.proofs.PathLemmas.{gone_nowhere, left, left_by, path_is_of_part, wandered}
use Rattle.workers.proofs.SeenLemmas.{extends_self}

pub ended : (v : Caller) (p : ℕ) (orders : NodeOrders) (r : State) (f : Result Fate NodeError) (w : Caller) → p < v.seen.job.plan.parts →
    IfOk f (λ x. IsFate v p orders r x w) →
    OnOk f (IsPath orders.keep v p (start_holding v.seen.job.plan p) (holding_in r) w) →
    OnErr f (HasPath orders.keep v p (start_holding v.seen.job.plan p) w) →
    IfErr f (λ e. e ≡ fault.BookFull → IsFull w) →
    EndsAs v p orders (end_with f r) w
ended v p orders r (Ok fate.Done) w below is came went full = record {
  done = is.2;
  told = is.0;
  kept = is.1;
  lost = tt;
  reached = tt;
  spared = is.3;
  starved = tt;
  starved_told = tt;
  starved_kept = tt;
  source = tt;
  path = left orders.keep v w p _ _ came;
  came = came;
  full = tt;
  alone = λ one. tt;
}
ended v p orders r (Ok (fate.Lost s)) w below is came went full = record {
  done = tt;
  told = tt;
  kept = tt;
  lost = is.0;
  reached = record { held = holding_in r; come = came; superstep = sym is.1 };
  spared = tt;
  starved = tt;
  starved_told = tt;
  starved_kept = tt;
  source = tt;
  path = left orders.keep v w p _ _ came;
  came = tt;
  full = tt;
  alone = λ one. tt;
}
ended v p orders r (Ok (fate.Starved s q)) w below is came went full = record {
  done = tt;
  told = tt;
  kept = tt;
  lost = tt;
  reached = tt;
  spared = tt;
  starved = is.0.1.missing;
  starved_told = is.0.0;
  starved_kept = is.1;
  source = (is.0.1.below, is.0.1.other);
  path = left orders.keep v w p _ _ came;
  came = tt;
  full = tt;
  alone = λ one. let low = is.0.1.below in is.0.1.other (omega arith);
}
ended v p orders r (Err e) w below is came went full = record {
  done = tt;
  told = tt;
  kept = tt;
  lost = tt;
  reached = tt;
  spared = tt;
  starved = tt;
  starved_told = tt;
  starved_kept = tt;
  source = tt;
  path = went;
  came = tt;
  full = full;
  alone = λ one. tt;
}

-- an end is that the book is full only where that was the fault
pub end_fits : (f : Result Fate NodeError) (r : State) (e : Result NodeEnd NodeError) → e ≡ end_with f r → f ≢ Err fault.BookFull → e ≢ Err fault.BookFull
end_fits (Ok fate.Done) r e is fits full = let same = sym is ∙ full in absurd (cc)
end_fits (Ok (fate.Lost s)) r e is fits full = let same = sym is ∙ full in absurd (cc)
end_fits (Ok (fate.Starved s q)) r e is fits full = let same = sym is ∙ full in absurd (cc)
end_fits (Err x) r e is fits full = let same : Err x ≡ Err fault.BookFull = sym is ∙ full in fits (cc)

-- where memory was refused before the first call
pub out_of_memory : (v : Caller) (p : ℕ) (orders : NodeOrders) (e : NodeError) → e ≡ fault.Memory → EndsAs v p orders (Err e) v
out_of_memory v p orders e is = record {
  done = tt;
  told = tt;
  kept = tt;
  lost = tt;
  reached = tt;
  spared = tt;
  starved = tt;
  starved_told = tt;
  starved_kept = tt;
  source = tt;
  path = left_by orders.keep v v p (start_holding v.seen.job.plan p) (gone_nowhere v v p (start_holding v.seen.job.plan p) refl);
  came = tt;
  full = λ full. let same = sym is ∙ full in absurd (cc);
  alone = λ one. tt;
}

-- ---- a run of a node, by what it says at its end
-- a node without a thread made no call
pub never_ran : (j : Job) (entries p : ℕ) (orders : NodeOrders) → p < j.plan.parts → HasRun j entries p orders (Err fault.Memory)
never_ran j entries p orders below =
    let v : Caller = record { number = 0; limit = 1; seen = start_history j } in
    let legal : IsCaller v = record { legal = tt; fits = omega arith } in
    let ends : EndsAs v p orders (Err fault.Memory) v = out_of_memory v p orders fault.Memory refl in
    record {
      first = v;
      last = v;
      job = refl;
      start = refl;
      seen = extends_self v legal;
      ends = ends;
      made = path_is_of_part v v p ends.path.new [] below refl (wandered orders.keep v v p (start_holding v.seen.job.plan p) ends.path.new ends.path.come) ([], refl);
      full = λ same. absurd (cc);
    }
