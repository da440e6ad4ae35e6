use Rattle.std.proofs.Common.{◌∙◌, List, ℕ, sym, subst}
use Rattle.ball_model.specs.Job.{Job, job_of}
use Rattle.node.specs.NodeText.{IsGivenBack}
use Rattle.std.proofs.Common.{refl, ◌≤◌, length}
use Rattle.std.specs.Arc.{arc_value}
use Rattle.checkpoint.specs.Reading.{IsReplicaSpelling, most_checkpoint_bytes}
use Rattle.ball_model.specs.Job.{PartValue, part_of}
use Rattle.node.specs.Refusals.{IsNodeCheckpoint, IsNoCheckpoint}
use Rattle.std.proofs.lemmas.Result.{err_from_is_err_and}
use Rattle.node.proofs.GatherLemmas.{nothing_lacks, told_other}
use Rattle.node.proofs.gather.Gathering.read_replica.Goals as goal

pub returns-in-Ok-clause-read : goal.returns-in-Ok-clause-read
returns-in-Ok-clause-read g c =
    let j : Job = job_of c.args.self.now.graph.now.graph c.args.self.now.plan.now in
    record {
      body = c.read_bytes.new.bytes.items;
      consumed = c.in_ok-read_bytes.ensures.read;
      made = record {
        part_is = c.in-Ok.ensures.part ∙ c.in_ok-part.ensures;
        is = record {
          few = subst (λ (q : PartValue). length c.read_bytes.new.bytes.items ≤ most_checkpoint_bytes q q.plan.limit) (c.deref.ensures ∙ c.in_ok-part.ensures) c.in_ok-read_bytes.ensures.few;
          checkpoint =
              subst (λ (q : PartValue). IsNodeCheckpoint q c.read_bytes.new.bytes.items) c.in_ok-part.ensures
              (subst (λ (l : List ℕ). IsNodeCheckpoint (arc_value c.in_ok-part.part) l) c.deref-2.ensures.value c.in-Ok.ensures.whole);
        };
        keepable = c.in-Ok.ensures.keepable;
        spells = subst (λ (l : List ℕ). IsReplicaSpelling c.in-Ok.replica l) c.deref-2.ensures.value c.in-Ok.ensures.spells;
        back = λ h given.
            c.in-Ok.ensures.back j c.args.p h c.in_ok-part.ensures
            (subst (λ (l : List ℕ). IsGivenBack j c.args.p l h) (sym c.deref-2.ensures.value) given);
      };
    }

pub returns-clause-refused : goal.returns-clause-refused
unfolding part_of
returns-clause-refused g c =
    let j : Job = job_of c.args.self.now.graph.now.graph c.args.self.now.plan.now in
    rw (c.checkpoint_fault.ensures.told)
    (told_other c.args.p (part_of j c.args.p) (g.R.Read.remaining c.args.reader.now) (g.R.Read.remaining c.read_bytes.new.reader) c.read_bytes.new.bytes.items c.in-Err.error
    (subst (λ (q : PartValue). length c.read_bytes.new.bytes.items ≤ most_checkpoint_bytes q q.plan.limit) (c.deref.ensures ∙ c.in_ok-part.ensures) c.in_ok-read_bytes.ensures.few) refl
    c.in_ok-read_bytes.ensures.read
    (λ some.
    subst (λ (l : List ℕ). IsNoCheckpoint (part_of j c.args.p) l c.in-Err.error) c.deref-2.ensures.value
    (subst (λ (x : PartValue). IsNoCheckpoint x c.deref-2.result.now c.in-Err.error) c.in_ok-part.ensures (c.in-Err.ensures.named some))))

pub returns-in_err-part-clause-refused : goal.returns-in_err-part-clause-refused
returns-in_err-part-clause-refused g c =
    let p = err_from_is_err_and c.from_residual.result c.from_residual.ensures.1 in
    rw (p.1, p.2) (nothing_lacks (part_of (job_of c.args.self.now.graph.now.graph c.args.self.now.plan.now) c.args.p) (g.R.Read.remaining c.args.reader.now))
