-- A replica that has forgotten what it held stands for what it stood for.
use Rattle.std.proofs.Common.{◌≡◌, ℕ, ◌+◌, ◌-◌, ◌==◌, Bool, true, false, ◌&&◌, nat_lt, get_or, replicate, refl, ap, sym, ◌∙◌, subst, is_some, IfSome, if◌then◌else◌}
use Rattle.std.specs.Prelude.{Option}
use Rattle.ball_model.specs.Batches.{BatchValue, true_batch}
use Rattle.ball_model.specs.Checkpoint.{without_names}
use Rattle.ball_model.specs.Job.{Job}
use Rattle.ball_model.specs.State.{State, KeepsTrue, content_of, early_at}
use Rattle.replica.proofs.HearingLemmas.Hear.{none_heard}
use Rattle.graph.proofs.RangeLemmas.{copies-at}
use Rattle.checkpoint.specs.Laws.{WithoutNamesStands}
use Rattle.checkpoint.proofs.RefusalLemmas.{nothing_at}

none_too : (b : Bool) → (b && false) ≡ false
none_too true = refl
none_too false = refl

-- it holds nothing
holds_none : (v : State) (s q : ℕ) → (content_of (without_names v)).holds s q ≡ false
holds_none v s q = by_level (s == v.superstep)
  where
    kept : is_some (early_at (without_names v).early (s - (v.superstep + 1)) q) ≡ false
    kept = ap (λ (o : Option BatchValue). is_some o) (nothing_at v.part.plan.parts (s - (v.superstep + 1)) q)

    by_level : (level : Bool) → (if level then get_or (replicate 64 false) q false else (nat_lt v.superstep s && is_some (early_at (without_names v).early (s - (v.superstep + 1)) q))) ≡ false
    by_level true = copies-at 64 q false
    by_level false = ap (λ b. nat_lt v.superstep s && b) kept ∙ none_too (nat_lt v.superstep s)

-- and what it keeps is true, as it keeps nothing
keeps_none : (j : Job) (p t : ℕ) (v : State) → KeepsTrue j p t (without_names v).early
keeps_none j p t v = record {
  true_of = λ i q. subst (λ (o : Option BatchValue). IfSome o (λ b. b ≡ true_batch j (record { superstep = t + 1 + i; source = q; target = p }))) (sym (nothing_at v.part.plan.parts i q)) tt;
}

pub without_names_stands : WithoutNamesStands
without_names_stands j p t v s =
    let quiet = none_heard j p t 64 (replicate 64 false) false v.rows s.job refl refl s.rows in (
      record {
        job = s.job;
        partition = s.partition;
        part = s.part;
        superstep = s.superstep;
        in_time = s.in_time;
        rows = s.rows;
        marks = s.marks;
        tallies = s.tallies;
        sums = s.sums;
        heard_change = quiet.change;
        accumulated = quiet.accumulated;
        early = keeps_none j p t v;
      },
      holds_none v,
    )
