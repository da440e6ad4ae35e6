use Rattle.std.proofs.Common.{◌+◌, ◌*◌}
use Rattle.graph.proofs.codes.+codes.Given as goal

abbrev pub decreases-code_parts : goal.decreases-code_parts
decreases-code_parts g l = 4 * l.shares.threads + 3

abbrev pub decreases-code_both : goal.decreases-code_both
decreases-code_both g l = 4 * l.shares.threads + 2

abbrev pub decreases-code_both-first : goal.decreases-code_both-first
decreases-code_both-first g l = 4 * l.few.threads + 4

abbrev pub decreases-code_both-second : goal.decreases-code_both-second
decreases-code_both-second g l = 4 * l.others.threads + 4
