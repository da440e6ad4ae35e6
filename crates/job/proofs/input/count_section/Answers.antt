use Rattle.std.proofs.Common.{◌≡◌, ℕ, List, Bool, true, false, sym, subst}
use Rattle.std.specs.Prelude.{Ok, Some}
use Rattle.ball_model.specs.Input.{IsPlain}
use Rattle.ball_model.specs.RunText.{counted_in}
use Rattle.job.specs.Job.{settings_of}
use Rattle.job.specs.Input.{CountsSome}
use Rattle.job.proofs.InputLemmas.{counts_all, counts_listed}
use Rattle.job.proofs.input.count_section.Goals as goal

pub returns-then-not-job-clause-counts : goal.returns-then-not-job-clause-counts
returns-then-not-job-clause-counts g c =
    let off : c.args.job.now.counted ≡ false = search c.if-not-job.true in
    subst (λ (t : Bool). CountsSome (settings_of c.args.job.now.options) t (g.R.Read.remaining c.args.reader.now) (g.R.Read.remaining c.args.reader.now) c.args.graph.now c.args.graph.now) (sym off)
    (counts_all (settings_of c.args.job.now.options) (g.R.Read.remaining c.args.reader.now) c.args.graph.now)

pub returns-clause-counts : goal.returns-clause-counts
returns-clause-counts g c =
    let on : c.args.job.now.counted ≡ true = search c.if-not-job.false in
    subst (λ (t : Bool). CountsSome (settings_of c.args.job.now.options) t (g.R.Read.remaining c.args.reader.now) (g.R.Read.remaining c.read_list.new.reader) c.args.graph.now c.count_listed.new.graph) (sym on)
    (counts_listed (settings_of c.args.job.now.options) (g.R.Read.remaining c.args.reader.now) (g.R.Read.remaining c.read_list.new.reader) c.args.graph.now c.count_listed.new.graph c.read_list.new.list.items
    c.in_ok-read_list.ensures.read c.in_ok-read_list.ensures.few (subst (λ (l : List ℕ). IsPlain l → counted_in (settings_of c.args.job.now.options) c.args.graph.now (Some l) ≡ Ok c.count_listed.new.graph) c.deref.ensures.value c.in_ok-count_listed.ensures.ok))
