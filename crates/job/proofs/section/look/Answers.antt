use Rattle.std.proofs.Common.{◌≡◌, ◌∙◌, true, refl}
use Rattle.std.specs.Io.KnownBytes.{prepend_known}
use Rattle.std.proofs.KnownBytes.{Keeps-refl}
use Rattle.job.specs.Section.{is_front}
use Rattle.job.specs.declared.section.NextByte.TheVariants as next
use Rattle.job.proofs.SectionLemmas.{front_past, pushed, pushed_past}
use Rattle.job.proofs.section.look.Goals as goal

pub loop-reader-init : goal.loop-reader-init
loop-reader-init g c = record {
  same = Keeps-refl (prepend_known c.args.ahead.now.items (g.R.Read.remaining c.args.reader.now));
  past = front_past c.args.ahead.now.items c.requires;
  counted = refl;
}

pub loop-reader-preserved : goal.loop-reader-preserved
loop-reader-preserved g c =
    let front : is_front c.loop-reader.ahead.items ≡ true = cc in
    record {
      same =
          pushed (prepend_known c.args.ahead.now.items (g.R.Read.remaining c.args.reader.now)) (g.R.Read.remaining c.loop-reader.reader) (g.R.Read.remaining c.next_of.new.reader)
          c.loop-reader.ahead.items c.push.new.self.items c.in-Byte.byte c.loop-reader.invariant.same (c.next_of.ensures.byte c.in-Byte.byte c.in-Byte.is) c.push.ensures.items;
      past = pushed_past c.loop-reader.ahead.items c.push.new.self.items c.in-Byte.byte front c.push.ensures.items;
      counted = c.next_of.ensures.counted (λ (e : c.next_of.result ≡ next.Failed). absurd (cc)) ∙ c.loop-reader.invariant.counted;
    }
