use Rattle.std.proofs.Common.{◌≡◌, ◌∙◌, true, false, [], refl, arith}
use Rattle.std.proofs.lemmas.Bool.{eq-eqb, ne_eqb}
use Rattle.ball_model.specs.Graph.{counts_all}
use Rattle.ball_model.specs.Job.{digest_of, digest_bytes}
use Rattle.graph.proofs.digest.digest.Goals as goal

pub returns-then-counted_count-vertices : goal.returns-then-counted_count-vertices
unfolding digest_of digest_bytes
returns-then-counted_count-vertices c =
    let all : counts_all c.args.graph.now.graph ≡ true = eq-eqb _ _ (omega (arith, c.counted_count.ensures, c.vertices.ensures.count, c.if-counted_count-vertices.true)) in
    c.finalize.ensures _ (c.add_job.ensures _ (c.add_first.ensures [] c.new-hasher.ensures)) ∙ rw (all, c.is_corrected.ensures) refl

pub returns : goal.returns
unfolding digest_of digest_bytes
returns c =
    let some : counts_all c.args.graph.now.graph ≡ false =
    ne_eqb _ _ (λ same. c.if-counted_count-vertices.false (omega (arith, c.counted_count.ensures, c.vertices.ensures.count, same))) in
    c.finalize-2.ensures _ (c.add_counted.ensures _ (c.add_job-2.ensures _ (c.add_second.ensures [] c.new-hasher.ensures))) ∙ rw (some, c.is_corrected-2.ensures) refl
