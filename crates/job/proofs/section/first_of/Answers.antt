use Rattle.std.proofs.Common.{◌≡◌, length}
use Rattle.job.proofs.SectionLemmas.{popped_ahead}
use Rattle.job.proofs.section.first_of.Goals as goal

pub returns-else-is_empty-clause-ahead : goal.returns-else-is_empty-clause-ahead
returns-else-is_empty-clause-ahead c = λ b is.
    let same : c.remove.result ≡ b = cc in
    popped_ahead c.args.ahead.now.items c.remove.new.self.items c.remove.result b (length c.remove.new.self.items) c.requires c.remove.ensures.len c.remove.ensures.value c.remove.ensures.items same
