use Rattle.std.proofs.Common.{ℕ, List, subst, append_assoc}
use Rattle.sha2.specs.Hashers.{Holds256}
use Rattle.ball_model.specs.Job.{counted_bytes}
use Rattle.graph.proofs.digest.add_counted.Goals as goal

pub returns : goal.returns
unfolding counted_bytes
returns c = λ m h1.
    let h2 = c.add_members.ensures _ (c.add.ensures m h1) in
    subst (λ (bs : List ℕ). Holds256 c.add_members.new.hasher bs) (append_assoc m _ _)
    (rw (c.to_be_bytes.ensures, c.counted_count.ensures) at h2)
