use Rattle.std.proofs.Common.{◌≡◌, ◌∙◌, ℕ, List, [], refl, sym, subst, arith}
use Rattle.std.specs.Io.KnownBytes.{Consumes}
use Rattle.std.proofs.lemmas.Result.{err_from_is_err_and, on_ok_weaker}
use Rattle.ball_model.specs.Job.{Job, job_of}
use Rattle.ball_model.specs.State.{State}
use Rattle.node.specs.Gathering.{ReadsAll}
use Rattle.node.proofs.GatherLemmas.{reads_kept, reads_none, start_lacks}
use Rattle.node.proofs.gather.Gathering.read_replicas.Goals as goal

pub loop-p-init : goal.loop-p-init
loop-p-init g c =
    let j : Job = job_of c.args.self.now.graph.now.graph c.args.self.now.plan.now in
    record {
      read =
          subst (λ (l : List State). ReadsAll j 0 (g.R.Read.remaining c.args.reader.now) (g.R.Read.remaining c.args.reader.now) l) (sym c.requires.none)
          (reads_none j (g.R.Read.remaining c.args.reader.now));
      counted = refl;
    }

pub loop-p-preserved : goal.loop-p-preserved
loop-p-preserved g c = record {
  read = c.in_ok-add_replica.ensures.read (g.R.Read.remaining c.args.reader.now) c.loop-p.invariant.read;
  counted = c.in_ok-add_replica.ensures.failed.none (λ e. absurd (cc)) ∙ c.loop-p.invariant.counted;
}

pub add_replica-requires-clause-below : goal.add_replica-requires-clause-below
add_replica-requires-clause-below g c = omega (arith, c.loop-p-test.true, c.loop-p.auto.p-end, c.parts-p-end.ensures.value)

pub returns-in_err-add_replica-clause-refused : goal.returns-in_err-add_replica-clause-refused
returns-in_err-add_replica-clause-refused g c =
    let p = err_from_is_err_and c.from_residual-in_err-add_replica.result c.from_residual-in_err-add_replica.ensures.1 in
    rw (p.1, p.2) (c.in_err-add_replica.ensures.refused (g.R.Read.remaining c.args.reader.now) c.loop-p.invariant.read)

pub returns-clause-read : goal.returns-clause-read
returns-clause-read g c =
    let j : Job = job_of c.args.self.now.graph.now.graph c.args.self.now.plan.now in
    let last : c.loop-p.p ≡ c.parts-p-end.result = omega (arith, c.loop-p.auto.p-end, c.loop-p-test.false) in
    on_ok_weaker c.read_end.result
    (λ (kept : Consumes (g.R.Read.remaining c.loop-p.reader) (g.R.Read.remaining c.read_end.new.reader) []).
    reads_kept j c.args.self.now.plan.now.parts (g.R.Read.remaining c.args.reader.now) (g.R.Read.remaining c.loop-p.reader) (g.R.Read.remaining c.read_end.new.reader) c.loop-p.replicas.items
    (subst (λ (n : ℕ). ReadsAll j n (g.R.Read.remaining c.args.reader.now) (g.R.Read.remaining c.loop-p.reader) c.loop-p.replicas.items) (last ∙ c.parts-p-end.ensures.value) c.loop-p.invariant.read) kept)
    c.read_end.ensures.kept

pub returns-clause-refused : goal.returns-clause-refused
returns-clause-refused g c =
    let j : Job = job_of c.args.self.now.graph.now.graph c.args.self.now.plan.now in
    let last : c.loop-p.p ≡ c.parts-p-end.result = omega (arith, c.loop-p.auto.p-end, c.loop-p-test.false) in
    c.read_end.ensures.refused j c.loop-p.replicas.items (g.R.Read.remaining c.args.reader.now)
    (subst (λ (n : ℕ). ReadsAll j n (g.R.Read.remaining c.args.reader.now) (g.R.Read.remaining c.loop-p.reader) c.loop-p.replicas.items) (last ∙ c.parts-p-end.ensures.value) c.loop-p.invariant.read)

pub returns-in_err-feeds-clause-refused : goal.returns-in_err-feeds-clause-refused
returns-in_err-feeds-clause-refused g c =
    let p = err_from_is_err_and c.from_residual.result c.from_residual.ensures.1 in
    rw (p.1, p.2) (start_lacks (job_of c.args.self.now.graph.now.graph c.args.self.now.plan.now) (g.R.Read.remaining c.args.reader.now) (omega (arith, c.requires.job.plan.parts_from)))
