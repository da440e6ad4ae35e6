use Rattle.std.proofs.Common.{◌≡◌, ap, subst, sym, Bool, true, false}
use Rattle.std.specs.Prelude.{Err}
use Rattle.std.proofs.lemmas.Result.{err_from_is_err_and}
use Rattle.ball_model.specs.Input.{Limits}
use Rattle.ball_model.specs.RunText.{network_in, run_limits}
use Rattle.job.specs.declared.job.JobOptions.{JobOptions}
use Rattle.job.specs.Job.{settings_of}
use Rattle.job.specs.Input.{GivesEdges}
use Rattle.job.specs.NoJob.{IsNoNetwork}
use Rattle.job.proofs.InputLemmas.{lacks_mark, refused_edges}
use Rattle.job.proofs.input.read_edge_section.Goals as goal

-- the limits in force
abbrev asked : JobOptions → Limits
asked o = run_limits o.large

pub returns-in-Ok-clause-says : goal.returns-in-Ok-clause-says
returns-in-Ok-clause-says g c =
    let marked : c.in_ok-marked.marked ≡ true = c.in-Ok.ensures.ok in
    let s =
    subst (λ (b : Bool). GivesEdges (asked c.args.job.now.options) c.args.job.now.options.delimiter (g.R.Read.remaining c.args.reader.now) (g.R.Read.remaining c.give_section.new.reader) c.give_section.new.edges b) marked
    (c.in_ok-marked.ensures.given (asked c.args.job.now.options) c.args.job.now.options.delimiter c.in_ok-edges.ensures.ok) in
    record {
      input = s.front;
      section = s.section;
      says = λ plain. c.in_ok-read.ensures.ok (asked c.args.job.now.options) c.args.job.now.options.delimiter s.front s.given plain;
    }

pub returns-in-Ok-clause-count : goal.returns-in-Ok-clause-count
returns-in-Ok-clause-count g c =
    let marked : c.in_ok-marked.marked ≡ true = c.in-Ok.ensures.ok in
    let s =
    subst (λ (b : Bool). GivesEdges (asked c.args.job.now.options) c.args.job.now.options.delimiter (g.R.Read.remaining c.args.reader.now) (g.R.Read.remaining c.give_section.new.reader) c.give_section.new.edges b) marked
    (c.in_ok-marked.ensures.given (asked c.args.job.now.options) c.args.job.now.options.delimiter c.in_ok-edges.ensures.ok) in
    record {
      input = s.front;
      behind = g.R.Read.remaining c.give_section.new.reader;
      section = s.section;
      says = λ plain. c.in_ok-read.ensures.count (asked c.args.job.now.options) c.args.job.now.options.delimiter s.front s.given plain;
    }

pub returns-in-Err-clause-refused : goal.returns-in-Err-clause-refused
returns-in-Err-clause-refused g c =
    let unmarked : c.in_ok-marked.marked ≡ false = c.in-Err.ensures.none.0 in
    let s =
    subst (λ (b : Bool). GivesEdges (asked c.args.job.now.options) c.args.job.now.options.delimiter (g.R.Read.remaining c.args.reader.now) (g.R.Read.remaining c.give_section.new.reader) c.give_section.new.edges b) unmarked
    (c.in_ok-marked.ensures.given (asked c.args.job.now.options) c.args.job.now.options.delimiter c.in_ok-edges.ensures.ok) in
    subst (IsNoNetwork (network_in (settings_of c.args.job.now.options)) (g.R.Read.remaining c.args.reader.now)) (sym c.in-Err.ensures.none.1)
    (lacks_mark (network_in (settings_of c.args.job.now.options)) (asked c.args.job.now.options) c.args.job.now.options.delimiter (g.R.Read.remaining c.args.reader.now) c.give_section.new.edges c.in_ok-read.read.graph s
    (λ plain. c.in_ok-read.ensures.ok (asked c.args.job.now.options) c.args.job.now.options.delimiter s.front s.given plain))

pub returns-in_err-read-clause-refused : goal.returns-in_err-read-clause-refused
returns-in_err-read-clause-refused g c =
    let p = err_from_is_err_and c.from_residual-in_err-read.result c.from_residual-in_err-read.ensures.1 in
    rw (p.1, p.2)
    (refused_edges (network_in (settings_of c.args.job.now.options)) (asked c.args.job.now.options) c.args.job.now.options.delimiter (g.R.Read.remaining c.args.reader.now) (g.R.Read.remaining c.give_section.new.reader) c.give_section.new.edges c.in_ok-marked.marked _
    (λ e. c.in_err-read.ensures.read (ap Err e)) (c.in_ok-marked.ensures.given (asked c.args.job.now.options) c.args.job.now.options.delimiter c.in_ok-edges.ensures.ok)
    (λ text given plain. c.in_err-read.ensures.refused (asked c.args.job.now.options) c.args.job.now.options.delimiter text given plain))
