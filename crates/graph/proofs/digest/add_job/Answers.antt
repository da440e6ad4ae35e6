use Rattle.std.proofs.Common.{ℕ, List, subst}
use Rattle.sha2.specs.Hashers.{Holds256}
use Rattle.ball_model.specs.Job.{job_bytes}
use Rattle.graph.proofs.DigestLemmas.{seven-behind}
use Rattle.graph.proofs.digest.add_job.Goals as goal

pub returns : goal.returns
unfolding job_bytes
returns c = λ m h1.
    let h2 = c.add.ensures m h1 in
    let h3 = c.add-2.ensures _ h2 in
    let h4 = c.add-3.ensures _ h3 in
    let h5 = c.add-4.ensures _ h4 in
    let h6 = c.add-5.ensures _ h5 in
    let h7 = c.add-6.ensures _ h6 in
    let h8 = c.add_edges.ensures _ h7 in
    subst (λ (bs : List ℕ). Holds256 c.add_edges.new.hasher bs) (seven-behind m _ _ _ _ _ _ _)
    (rw (c.to_be_bytes.ensures, c.to_be_bytes-2.ensures, c.to_be_bytes-3.ensures, c.to_be_bytes-4.ensures, c.to_be_bytes-5.ensures, c.log2m.ensures.value, c.seed.ensures, c.parts.ensures.value, c.limit.ensures.value, c.vertices.ensures.count, c.edges.ensures) at h8)
