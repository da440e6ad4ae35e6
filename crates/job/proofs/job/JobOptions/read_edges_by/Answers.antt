use Rattle.std.proofs.Common.{◌≡◌, ◌∙◌, List, Bool, true, false, Ok, ap, refl, subst, ℕ}
use Rattle.std.specs.Prelude.{IfErr, IfOk}
use Rattle.ball_model.specs.Input.{Limits, in_force_large, network_from, records}
use Rattle.ball_model.specs.RunText.{run_limits}
use Rattle.graph.specs.Records.{ForPlain, byte_of}
use Rattle.edgelist.specs.Reading.{Refuses}
use Rattle.job.proofs.job.JobOptions.read_edges_by.Goals as goal

-- the limits of a run are in force as they are
in_force : (large : Bool) → in_force_large (run_limits large) ≡ run_limits large
in_force false = refl
in_force true = refl

asked : (limits : Limits) (large : Bool) → limits ≡ run_limits large → in_force_large limits ≡ run_limits large
asked limits large same = ap (λ (l : Limits). in_force_large l) same ∙ in_force large

pub returns-clause-ok : goal.returns-clause-ok
returns-clause-ok g c =
    subst (λ (l : Limits). ForPlain (g.S.Read.remaining c.args.reader.now) (λ (text : List ℕ). IfOk c.read_edge_list_by.result (λ read.
    network_from l (records (byte_of c.args.self.now.delimiter) text) ≡ Ok read.graph)))
    (asked _ c.args.self.now.large c.limits-limits.ensures) c.read_edge_list_by.ensures.ok

pub returns-clause-refused : goal.returns-clause-refused
returns-clause-refused g c =
    subst (λ (l : Limits). ForPlain (g.S.Read.remaining c.args.reader.now) (λ (text : List ℕ). IfErr c.read_edge_list_by.result (
    Refuses (network_from l (records (byte_of c.args.self.now.delimiter) text)))))
    (asked _ c.args.self.now.large c.limits-limits.ensures) c.read_edge_list_by.ensures.refused
