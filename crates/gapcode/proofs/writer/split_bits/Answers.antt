use Rattle.std.proofs.Common.{◌∙◌, ℕ, ◌+◌, ◌*◌, ◌/◌, ◌%◌, ◌^◌, ◌<◌, ap, arith}
use Rattle.std.specs.Prelude.{bit_or}
use Rattle.std.proofs.lemmas.Nat.{one_shl}
use Rattle.gapcode.proofs.AppendingLemmas.{joined_bits}
use Rattle.gapcode.proofs.writer.split_bits.Goals as goal

pub overflow_cast-result-2 : goal.overflow_cast-result-2
overflow_cast-result-2 c =
    let small : bit_or (c.args.last * 2 ^ c.args.n % 2 ^ 128) c.args.value / 2 ^ c.args.rest < 2 ^ 64 = rw (joined_bits c.args.last c.args.value c.args.n c.requires.n c.requires.last c.requires.value) c.requires.small in
    omega arith

pub returns-clause-whole : goal.returns-clause-whole
returns-clause-whole c = ap (λ (v : ℕ). v / 2 ^ c.args.rest) (joined_bits c.args.last c.args.value c.args.n c.requires.n c.requires.last c.requires.value)

pub returns-clause-left : goal.returns-clause-left
returns-clause-left c =
    ap (λ (v : ℕ). v % (1 * 2 ^ c.args.rest % 2 ^ 128)) (joined_bits c.args.last c.args.value c.args.n c.requires.n c.requires.last c.requires.value)
    ∙ ap (λ (m : ℕ). (c.args.last * 2 ^ c.args.n + c.args.value) % m) (one_shl c.args.rest 128 (omega (arith, c.requires.rest)))
