use Rattle.std.proofs.Common.{◌≡◌, take}
use Rattle.std.specs.List.{flat_map}
use Rattle.std.specs.Io.KnownBytes.{Appends}
use Rattle.report.proofs.pages.Pages.write_to.Given as goal

-- the first pages were appended, and no call has failed
abbrev pub invariant-loop-page : goal.invariant-loop-page
invariant-loop-page g l =
    Appends (g.W.Write.contents l.initial.writer) (g.W.Write.contents l.writer) (flat_map (λ page. page.items) (take l.page-index l.page-items))
    × (g.W.CountedWrite.failed_calls l.writer ≡ g.W.CountedWrite.failed_calls l.initial.writer)
