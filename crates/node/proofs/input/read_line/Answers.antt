use Rattle.std.proofs.Common.{◌≡◌, ◌≢◌, ◌∙◌, ℕ, [], ◌∷◌, ◌++◌, arith, inr, subst, sym}
use Rattle.std.specs.Io.KnownBytes.{Consumes}
use Rattle.std.proofs.KnownBytes.{Consumes-trans}
use Rattle.std.proofs.lemmas.List.Elements.{All-push}
use Rattle.node.specs.Stream.{HasNoEnd}
use Rattle.job.specs.declared.section.NextByte.TheVariants as next
use Rattle.node.proofs.StreamLemmas.{byte_read}
use Rattle.node.proofs.input.read_line.Goals as goal

pub returns-in-Byte-eq10-clause-read : goal.returns-in-Byte-eq10-clause-read
returns-in-Byte-eq10-clause-read g c =
    let ends : c.next_of.result ≡ next.Byte 10 = cc in
    record {
      consumed =
          Consumes-trans (g.R.Read.remaining c.args.reader.now) (g.R.Read.remaining c.loop-reader.reader) (g.R.Read.remaining c.next_of.new.reader)
          c.loop-reader.line.items (10 ∷ []) c.loop-reader.invariant.consumed (c.next_of.ensures.byte 10 ends);
      one_line = c.loop-reader.invariant.one_line;
      short = omega arith;
    }

pub loop-reader-preserved : goal.loop-reader-preserved
loop-reader-preserved g c =
    let line : c.put_byte.new.line.items ≡ c.loop-reader.line.items ++ c.in-Byte.byte ∷ [] = c.in-Ok.ensures.ok in
    record {
      consumed =
          subst (Consumes (g.R.Read.remaining c.args.reader.now) (g.R.Read.remaining c.next_of.new.reader)) (sym line)
          (Consumes-trans (g.R.Read.remaining c.args.reader.now) (g.R.Read.remaining c.loop-reader.reader) (g.R.Read.remaining c.next_of.new.reader)
          c.loop-reader.line.items (c.in-Byte.byte ∷ []) c.loop-reader.invariant.consumed (c.next_of.ensures.byte c.in-Byte.byte c.in-Byte.is));
      one_line = subst HasNoEnd (sym line) (All-push (λ (b : ℕ). b ≢ 10) c.loop-reader.line.items c.in-Byte.byte c.loop-reader.invariant.one_line c.in-Byte.byte-test.1);
      room = inr c.in-Ok.ensures.room;
      counted = c.next_of.ensures.counted (λ (e : c.next_of.result ≡ next.Failed). absurd (cc)) ∙ c.loop-reader.invariant.counted;
    }

pub returns-in_default-clause-read : goal.returns-in_default-clause-read
returns-in_default-clause-read g c =
    byte_read (g.R.Read.remaining c.args.reader.now) (g.R.Read.remaining c.loop-reader.reader) (g.R.Read.remaining c.next_of.new.reader) c.loop-reader.line.items c.in-Byte.byte
    c.in_default.ensures.first c.loop-reader.invariant.consumed (c.next_of.ensures.byte c.in-Byte.byte c.in-Byte.is) c.loop-reader.invariant.one_line c.in-Byte.byte-test.1

pub returns-clause-read : goal.returns-clause-read
returns-clause-read g c = record {
  one_line = c.loop-reader.invariant.one_line;
  consumed = c.loop-reader.invariant.consumed;
  long = omega arith;
}
