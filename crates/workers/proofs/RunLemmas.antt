-- What a run's refusals say, step by step.
use Rattle.std.proofs.Common.{◌≡◌, ◌≢◌, ◌∙◌, ℕ, List, ap, false, nat_lt, true, refl, subst, sym}
use Rattle.std.specs.Prelude.{Option, None, Some, Result, Ok, Err, IfOk, IfErr, IsOk, OnErr, OnOk, ◌||◌}
use Rattle.std.specs.Io.KnownBytes.{Appends, Keeps}
use Rattle.std.proofs.KnownBytes.{Keeps-refl}
use Rattle.std.specs.Borrow.{Bor}
use Rattle.ball_model.specs.Graph.{Graph}
use Rattle.ball_model.specs.Input.{Network}
use Rattle.ball_model.specs.PlanValue.{PlanValue, mixing_of, plan_within}
use Rattle.ball_model.specs.Report.{report_of}
use Rattle.ball_model.specs.RunText.{AreRead, HasPlan, IsReport, IsReportOf, Numbers, Settings, list_in, network_in, plan_asked, plan_over, run_limits}
use Rattle.ball_model.specs.Streams.{PutsFront, Rises, RisesByOne}
use Rattle.ball_model.specs.declared.plan.PlanError.{PlanError}
use Rattle.ball_model.proofs.BoolLemmas.{by_cases}
use Rattle.job.specs.Job as edges
use Rattle.job.specs.Job.{numbers_asked, settings_of}
use Rattle.edgelist.specs.Reading.{CountsOne}
use Rattle.graph.specs.Records.{ForPlain}
use Rattle.graph.specs.declared.counting.CountedError.TheVariants as counted
use Rattle.job.specs.declared.job.JobOptions.{JobOptions}
use Rattle.job.specs.declared.job.NetworkError.{NetworkError}
use Rattle.job.specs.declared.job.NetworkError.TheVariants as unread
use Rattle.edgelist.specs.declared.limits.EdgeError.{EdgeError}
use Rattle.edgelist.specs.declared.limits.EdgeError.TheVariants as edge
use Rattle.workers.specs.declared.options.RunOptions.{RunOptions}
use Rattle.workers.specs.declared.runs.RunError.{RunError}
use Rattle.workers.specs.declared.runs.RunError.TheVariants as fault
use Rattle.workers.specs.declared.runs.RunError.TheVariants.{Write}
use Rattle.ball_model.specs.Job.{job_of}
use Rattle.workers.specs.Job.{IsFaultOf, IsFirstFault}
use Rattle.workers.specs.Options.{are_in_limits, job_asked}
use Rattle.workers.specs.Run.{AddsFront, AddsReport, HasFirstFault, IsFaultIn, IsOfEnds, IsRunFault, IsRunRefusal, RefusesEdges, WherePlain, network_fault}

-- what holds of plain bytes, and what follows from it
pub where_weaker : (o : RunOptions) (told : Option (List ℕ)) (counted : Option (Bor (List ℕ))) (P Q : Settings → List ℕ → Option (List ℕ) → Type 0) → ((input : List ℕ) → P (settings_of (job_asked o)) input (list_in counted) → Q (settings_of (job_asked o)) input (list_in counted)) → WherePlain o told counted P → WherePlain o told counted Q
where_weaker o None counted P Q f h = tt
where_weaker o (Some input) counted P Q f h = λ plain. f input (h plain)

pub where_always : (o : RunOptions) (told : Option (List ℕ)) (counted : Option (Bor (List ℕ))) (Q : Settings → List ℕ → Option (List ℕ) → Type 0) → ((s : Settings) (input : List ℕ) (list : Option (List ℕ)) → Q s input list) → WherePlain o told counted Q
where_always o None counted Q f = tt
where_always o (Some input) counted Q f = λ plain. f _ _ _

-- what holds of plain bytes under the job's settings holds under the run's
pub where_job : (o : RunOptions) (asked : JobOptions) (told : Option (List ℕ)) (counted : Option (Bor (List ℕ))) (P : Settings → List ℕ → Option (List ℕ) → Type 0) → asked ≡ job_asked o → edges.WherePlain told counted (λ input list. P (settings_of asked) input list) → WherePlain o told counted P
where_job o asked told counted P is h = subst (λ (a : JobOptions). edges.WherePlain told counted (λ input list. P (settings_of a) input list)) is h

pub plain_job : (o : RunOptions) (asked : JobOptions) (told : Option (List ℕ)) (P : Settings → List ℕ → Type 0) → asked ≡ job_asked o → ForPlain told (λ input. P (settings_of asked) input) → ForPlain told (λ input. P (settings_of (job_asked o)) input)
plain_job o asked told P is h = subst (λ (a : JobOptions). ForPlain told (λ input. P (settings_of a) input)) is h

pub plan_job : (o : RunOptions) (asked : JobOptions) (g : Graph) (r : Result PlanValue PlanError) → asked ≡ job_asked o → r ≡ plan_asked (numbers_asked asked) g → r ≡ plan_asked (numbers_asked (job_asked o)) g
plan_job o asked g r is h = subst (λ (a : JobOptions). r ≡ plan_asked (numbers_asked a) g) is h

-- what is refused before there is a network
pub refuses_read : (s : Settings) (input : List ℕ) (list : Option (List ℕ)) (e : NetworkError) → edges.RefusesRead s input list e → IsRunRefusal s input list (network_fault e)
refuses_read s input list (unread.Edges e) h = h
refuses_read s input list (unread.Counted e) h = h

pub refuses_edges : (s : Settings) (input : List ℕ) (e : NetworkError) → edges.RefusesEdges s input e → RefusesEdges s input (network_fault e)
refuses_edges s input (unread.Edges e) h = h
refuses_edges s input (unread.Counted e) h = h

pub never_written : (e : NetworkError) → network_fault e ≢ fault.Write
never_written (unread.Edges e) is = absurd (cc)
never_written (unread.Counted e) is = absurd (cc)

pub no_fault : (o : RunOptions) (e : NetworkError) → IsFaultIn o (network_fault e)
no_fault o (unread.Edges e) = tt
no_fault o (unread.Counted e) = tt

-- a refused edge list is told as it is
told_unread : RunError → NetworkError
told_unread fault.Options = unread.Counted counted.Memory
told_unread (fault.Edges e) = unread.Edges e
told_unread (fault.Counted e) = unread.Counted e
told_unread (fault.Plan e) = unread.Counted counted.Memory
told_unread (fault.PartitionLost p) = unread.Counted counted.Memory
told_unread fault.BookFull = unread.Counted counted.Memory
told_unread fault.Memory = unread.Counted counted.Memory
told_unread (fault.Starved node r q) = unread.Counted counted.Memory
told_unread fault.Write = unread.Counted counted.Memory

unread_back : (e : NetworkError) → told_unread (network_fault e) ≡ e
unfolding told_unread
unread_back (unread.Edges e) = refl
unread_back (unread.Counted e) = refl

pub edges_back : {T : Type 0} (e : NetworkError) (x : EdgeError) → network_fault e ≡ fault.Edges x → ◌≡◌ {A = Result T NetworkError} (Err e) (Err (unread.Edges x))
unfolding told_unread
edges_back e x is = ap Err (sym (unread_back e) ∙ ap told_unread is)

pub edges_told : {T : Type 0} (e : NetworkError) (x : EdgeError) → ◌≡◌ {A = Result T NetworkError} (Err e) (Err (unread.Edges x)) → network_fault e ≡ fault.Edges x
edges_told e x is =
    let same : e ≡ unread.Edges x = cc is in
    ap (λ (f : NetworkError). network_fault f) same

-- what is refused over a network that was read
abbrev RefusesNetwork : Numbers → Network → RunError → Type 0
RefusesNetwork n network fault.Options = ⊥
RefusesNetwork n network (fault.Edges e) = ⊥
RefusesNetwork n network (fault.Counted e) = ⊥
RefusesNetwork n network (fault.Plan e) = plan_asked n network.graph ≡ Err e
RefusesNetwork n network (fault.PartitionLost p) = HasPlan n network
RefusesNetwork n network fault.BookFull = HasPlan n network
RefusesNetwork n network fault.Memory = HasPlan n network
RefusesNetwork n network (fault.Starved node r q) = HasPlan n network
RefusesNetwork n network fault.Write = ⊥

refuses_network : (s : Settings) (input : List ℕ) (list : Option (List ℕ)) (network : Network) (e : RunError) → AreRead s input list network → RefusesNetwork s.numbers network e → IsRunRefusal s input list e
refuses_network s input list network fault.Options read h = tt
refuses_network s input list network (fault.Edges e) read h = absurd h
refuses_network s input list network (fault.Counted e) read h = absurd h
refuses_network s input list network (fault.Plan e) read h = record { network = network; read = read; refused = h }
refuses_network s input list network (fault.PartitionLost p) read h = record { network = network; read = read; planned = h }
refuses_network s input list network fault.BookFull read h = record { network = network; read = read; planned = h }
refuses_network s input list network fault.Memory read h = record { network = network; read = read; planned = h }
refuses_network s input list network (fault.Starved node r q) read h = record { network = network; read = read; planned = h }
refuses_network s input list network fault.Write read h = absurd h

-- whatever is refused over a network that was read, there was one
later_edge : (s : Settings) (n : Numbers) (input : List ℕ) (network : Network) (e : RunError) → RefusesNetwork n network e → IsOk (network_in s input) → RefusesEdges s input e
later_edge s n input network fault.Options h ok = tt
later_edge s n input network (fault.Edges e) h ok = absurd h
later_edge s n input network (fault.Counted e) h ok = ok
later_edge s n input network (fault.Plan e) h ok = ok
later_edge s n input network (fault.PartitionLost p) h ok = ok
later_edge s n input network fault.BookFull h ok = ok
later_edge s n input network fault.Memory h ok = ok
later_edge s n input network (fault.Starved node r q) h ok = ok
later_edge s n input network fault.Write h ok = ok

pub listed_edges : {T : Type 0} (s : Settings) (told : Option (List ℕ)) (r : Result T RunError) → ForPlain told (λ input. IsOk (network_in s input)) → ForPlain told (λ input. OnOk r (IsOk (network_in s input)))
listed_edges s told (Ok x) ok input is plain = ok input is plain
listed_edges s told (Err e) ok input is plain = tt

-- what was read, where the report is not written
pub unwritten_edges : {T : Type 0} (s : Settings) (told : Option (List ℕ)) (r : Result T RunError) → ForPlain told (λ input. IsOk (network_in s input)) → IfErr r (λ e. e ≡ fault.Write) → ForPlain told (λ input. IfErr r (RefusesEdges s input))
unwritten_edges s told (Ok x) ok h input is plain = tt
unwritten_edges s told (Err e) ok h input is plain = subst (RefusesEdges s input) (sym h) (ok input is plain)

-- the text of a report that is written, and what is said where it is not
pub wrote : {T W : Type 0} (o : RunOptions) (told : Option (List ℕ)) (counted : Option (Bor (List ℕ))) (contents : W → Option (List ℕ)) (old new : W) (text : List ℕ) (r : Result T RunError) → WherePlain o told counted (λ s input list. IsReport s input list text) → OnOk r (Appends (contents old) (contents new) text) → OnOk r (WherePlain o told counted (AddsReport contents old new))
wrote o told counted contents old new text (Ok x) report h = where_weaker o told counted (λ s input list. IsReport s input list text) (AddsReport contents old new) (λ input is. record { text = text; report = is; appended = h }) report
wrote o told counted contents old new text (Err e) report h = tt

-- a beginning of it, where a write failed
pub wrote_front : {T W : Type 0} (o : RunOptions) (told : Option (List ℕ)) (counted : Option (Bor (List ℕ))) (contents : W → Option (List ℕ)) (old new : W) (text : List ℕ) (r : Result T RunError) → WherePlain o told counted (λ s input list. IsReport s input list text) → OnErr r (PutsFront (contents old) (contents new) text) → r ≡ Err fault.Write → WherePlain o told counted (AddsFront contents old new)
wrote_front o told counted contents old new text (Ok x) report h is = absurd (cc)
wrote_front o told counted contents old new text (Err e) report h is = where_weaker o told counted (λ s input list. IsReport s input list text) (AddsFront contents old new) (λ input it. record { text = text; report = it; front = h }) report

pub unwritten : {T : Type 0} (o : RunOptions) (told : Option (List ℕ)) (counted : Option (Bor (List ℕ))) (text : List ℕ) (r : Result T RunError) → WherePlain o told counted (λ s input list. IsReport s input list text) → IfErr r (λ e. e ≡ fault.Write) → WherePlain o told counted (λ s input list. IfErr r (IsRunRefusal s input list))
unwritten o told counted text (Ok x) report h = where_always o told counted (λ s input list. IfErr {T = ℕ} (Ok 0) (IsRunRefusal s input list)) (λ s input list. tt)
unwritten o told counted text (Err e) report h = where_weaker o told counted (λ s input list. IsReport s input list text) (λ s input list. IsRunRefusal s input list e) (λ input is. subst (λ (x : RunError). IsRunRefusal (settings_of (job_asked o)) input (list_in counted) x) (sym h) (record { network = is.network; read = is.read; planned = is.report.planned })) report

-- the plan that is asked for, where there is one
plan_or_fault : (most : ℕ) (p : PlanValue) → IfOk (plan_within most p) (λ q. plan_within most p ≡ Ok p)
plan_or_fault most p =
    by_cases (nat_lt p.log2m 4 || nat_lt 10 p.log2m) _ (λ t. rw t tt)
    (λ a. by_cases (nat_lt p.parts 1 || nat_lt 64 p.parts) _ (λ t. rw (a, t) tt)
    (λ b. by_cases (nat_lt p.limit 1 || nat_lt 4096 p.limit) _ (λ t. rw (a, b, t) tt)
    (λ d. by_cases (nat_lt most p.vertices) _ (λ t. rw (a, b, d, t) tt)
    (λ e. rw (a, b, d, e) refl))))

pub planned : (n : Numbers) (g : Graph) (q : PlanValue) → ◌≡◌ {A = Result PlanValue PlanError} (Ok q) (plan_asked n g) → plan_asked n g ≡ Ok (plan_over n g)
planned n g q is = sym is ∙ (rw (← is) at (plan_or_fault (run_limits n.large).vertices (plan_over n g)))

-- a fault of the nodes, where there is a plan
refuses_job : (n : Numbers) (network : Network) (o : RunOptions) (e : RunError) → IsFaultOf o.parts o e → HasPlan n network → RefusesNetwork n network e
refuses_job n network o fault.Options due h = absurd due
refuses_job n network o (fault.Edges e) due h = absurd due
refuses_job n network o (fault.Counted e) due h = absurd due
refuses_job n network o (fault.Plan e) due h = absurd due
refuses_job n network o (fault.PartitionLost p) due h = h
refuses_job n network o fault.BookFull due h = h
refuses_job n network o fault.Memory due h = h
refuses_job n network o (fault.Starved node s q) due h = h
refuses_job n network o fault.Write due h = absurd due

-- the text under the plan that is asked for is the network's report
pub report_planned : (n : Numbers) (network : Network) (q : PlanValue) (text : List ℕ) → ◌≡◌ {A = Result PlanValue PlanError} (Ok q) (plan_asked n network.graph) → text ≡ report_of (mixing_of q) network.graph network.labels q.limit → IsReportOf n network text
report_planned n network q text is h =
    let plan : plan_asked n network.graph ≡ Ok (plan_over n network.graph) = planned n network.graph q is in
    let both : ◌≡◌ {A = Result PlanValue PlanError} (Ok q) (Ok (plan_over n network.graph)) = is ∙ plan in
    let same : q ≡ plan_over n network.graph = cc both in
    record { planned = plan; text_is = h ∙ ap (λ (a : PlanValue). report_of (mixing_of a) network.graph network.labels a.limit) same }

-- ---- the first fault of the nodes' ends
-- of a network that was read
job_first : (o : RunOptions) (network : Network) (plan : PlanValue) (e : RunError) → plan_asked (numbers_asked (job_asked o)) network.graph ≡ Ok plan → (e ≢ fault.Memory → IsFirstFault (job_of network.graph plan) o e) → IsOfEnds e → HasFirstFault o network e
job_first o network plan e asked first own = record { plan = plan; planned = asked; first = first (λ is. subst IsOfEnds is own) }

-- where the network is not read
unread_own : (e : NetworkError) → IsOfEnds (network_fault e) → ⊥
unread_own (unread.Edges e) own = own
unread_own (unread.Counted e) own = own

network_first : (o : RunOptions) (told : Option (List ℕ)) (counted : Option (Bor (List ℕ))) (network : Network) (f : RunError) → WherePlain o told counted (λ s input list. AreRead s input list network) → HasFirstFault o network f →
    WherePlain o told counted (λ s input list. IsRunFault o s input list f)
network_first o told counted network f read first =
    where_weaker o told counted (λ s input list. AreRead s input list network) (λ s input list. IsRunFault o s input list f)
    (λ input h. record { network = network; read = h; first = first }) read

-- ---- what a run tells that ends before it writes
-- what the error says of the input, of the edge list whatever the other list is, and of the options; and a fault of the
-- nodes is the first of their ends
pub record TellsNone (o : RunOptions) (told : Option (List ℕ)) (counted : Option (Bor (List ℕ))) (e : RunError) : Type 0 where
  pub input : WherePlain o told counted (λ s input list. IsRunRefusal s input list e)
  pub edges : ForPlain told (λ input. RefusesEdges (settings_of (job_asked o)) input e)
  pub options : IsFaultIn o e
  pub unwritten : e ≢ fault.Write
  pub first : IsOfEnds e → WherePlain o told counted (λ s input list. IsRunFault o s input list e)

-- the network is not read
pub unread_by : (o : RunOptions) (asked : JobOptions) (told : Option (List ℕ)) (counted : Option (Bor (List ℕ))) (e : NetworkError) → asked ≡ job_asked o → edges.WherePlain told counted (λ input list. edges.RefusesRead (settings_of asked) input list e) → ForPlain told (λ input. edges.RefusesEdges (settings_of asked) input e) → TellsNone o told counted (network_fault e)
unread_by o asked told counted e is refuses of_edges = record {
  input =
      where_weaker o told counted (λ s input list. edges.RefusesRead s input list e) (λ s input list. IsRunRefusal s input list (network_fault e))
      (λ input h. refuses_read (settings_of (job_asked o)) input (list_in counted) e h)
      (where_job o asked told counted (λ s input list. edges.RefusesRead s input list e) is refuses);
  edges = λ input known plain. refuses_edges (settings_of (job_asked o)) input e (plain_job o asked told (λ s input. edges.RefusesEdges s input e) is of_edges input known plain);
  options = no_fault o e;
  unwritten = never_written e;
  first = λ own. absurd (unread_own e own);
}

-- the network is read
pub record IsRead (o : RunOptions) (told : Option (List ℕ)) (counted : Option (Bor (List ℕ))) (network : Network) : Type 0 where
  pub all : WherePlain o told counted (λ s input list. AreRead s input list network)
  pub edges : ForPlain told (λ input. IsOk (network_in (settings_of (job_asked o)) input))

pub read_by : (o : RunOptions) (asked : JobOptions) (told : Option (List ℕ)) (counted : Option (Bor (List ℕ))) (network : Network) → asked ≡ job_asked o → edges.WherePlain told counted (λ input list. AreRead (settings_of asked) input list network) → ForPlain told (λ input. IsOk (network_in (settings_of asked) input)) → IsRead o told counted network
read_by o asked told counted network is read ok = record {
  all = where_job o asked told counted (λ s input list. AreRead s input list network) is read;
  edges = plain_job o asked told (λ s input. IsOk (network_in s input)) is ok;
}

-- and the text is its report
pub reported : (o : RunOptions) (told : Option (List ℕ)) (counted : Option (Bor (List ℕ))) (network : Network) (text : List ℕ) → IsRead o told counted network → IsReportOf (numbers_asked (job_asked o)) network text → WherePlain o told counted (λ s input list. IsReport s input list text)
reported o told counted network text read report =
    where_weaker o told counted (λ s input list. AreRead s input list network) (λ s input list. IsReport s input list text)
    (λ input h. record { network = network; read = h; report = report }) read.all

-- and there is no report for this reason
told_none : (o : RunOptions) (told : Option (List ℕ)) (counted : Option (Bor (List ℕ))) (network : Network) (e : RunError) → IsRead o told counted network → RefusesNetwork (numbers_asked (job_asked o)) network e → IsFaultIn o e → (IsOfEnds e → HasFirstFault o network e) → TellsNone o told counted e
told_none o told counted network e read refuses options first = record {
  input =
      where_weaker o told counted (λ s input list. AreRead s input list network) (λ s input list. IsRunRefusal s input list e)
      (λ input h. refuses_network (settings_of (job_asked o)) input (list_in counted) network e h refuses) read.all;
  edges = λ input known plain. later_edge (settings_of (job_asked o)) (numbers_asked (job_asked o)) input network e refuses (read.edges input known plain);
  options = options;
  unwritten = λ is. subst (λ (x : RunError). RefusesNetwork (numbers_asked (job_asked o)) network x) is refuses;
  first = λ own. network_first o told counted network e read.all (first own);
}

-- there is no such plan over it
pub none_planned : (o : RunOptions) (told : Option (List ℕ)) (counted : Option (Bor (List ℕ))) (network : Network) (e : PlanError) → IsRead o told counted network → plan_asked (numbers_asked (job_asked o)) network.graph ≡ Err e → TellsNone o told counted (fault.Plan e)
none_planned o told counted network e read is = told_none o told counted network (fault.Plan e) read is tt (λ own. absurd own)

-- there is one, and memory is refused
pub none_held : (o : RunOptions) (told : Option (List ℕ)) (counted : Option (Bor (List ℕ))) (network : Network) → IsRead o told counted network → HasPlan (numbers_asked (job_asked o)) network → TellsNone o told counted fault.Memory
none_held o told counted network read planned = told_none o told counted network fault.Memory read planned tt (λ own. absurd own)

-- and the nodes have a fault
job_options : (o : RunOptions) (e : RunError) → IsFaultOf o.parts o e → IsFaultIn o e
job_options o fault.Options h = absurd h
job_options o (fault.Edges e) h = absurd h
job_options o (fault.Counted e) h = absurd h
job_options o (fault.Plan e) h = absurd h
job_options o (fault.PartitionLost p) h = h
job_options o fault.BookFull h = h
job_options o fault.Memory h = tt
job_options o (fault.Starved node s q) h = h
job_options o fault.Write h = absurd h

pub none_done : (o : RunOptions) (told : Option (List ℕ)) (counted : Option (Bor (List ℕ))) (network : Network) (plan : PlanValue) (e : RunError) → IsRead o told counted network → ◌≡◌ {A = Result PlanValue PlanError} (Ok plan) (plan_asked (numbers_asked (job_asked o)) network.graph) → IsFaultOf o.parts o e → (e ≢ fault.Memory → IsFirstFault (job_of network.graph plan) o e) → TellsNone o told counted e
none_done o told counted network plan e read asked options first =
    told_none o told counted network e read (refuses_job (numbers_asked (job_asked o)) network o e options (planned (numbers_asked (job_asked o)) network.graph plan asked)) (job_options o e options)
    (job_first o network plan e (sym asked) first)

-- no fault of the nodes is one of the edge list
pub unread_edges : (o : RunOptions) (e : RunError) (x : EdgeError) → IsFaultOf o.parts o e → e ≢ fault.Edges x
unread_edges o e x due is = subst (IsFaultOf o.parts o) is due

-- the clauses of such a run, by how many calls of the reader failed before and after
abbrev pub EndsUnwritten : {T W : Type 0} → RunOptions → Option (List ℕ) → Option (Bor (List ℕ)) → ℕ → ℕ → (W → Option (List ℕ)) → (W → ℕ) → W → Result T RunError → Type 0
EndsUnwritten o told counted before after contents failed_calls writer r = record {
  ok : OnOk r (WherePlain o told counted (AddsReport contents writer writer));
  refused : WherePlain o told counted (λ s input list. IfErr r (IsRunRefusal s input list));
  edges : ForPlain told (λ input. OnOk r (IsOk (network_in (settings_of (job_asked o)) input)));
  of_edges : ForPlain told (λ input. IfErr r (RefusesEdges (settings_of (job_asked o)) input));
  read : r ≡ Err (fault.Edges edge.Read) → Rises before after;
  failed : CountsOne before after → r ≡ Err (fault.Edges edge.Read);
  write : r ≡ Err fault.Write → RisesByOne (failed_calls writer) (failed_calls writer);
  written : r ≢ Err fault.Write → failed_calls writer ≡ failed_calls writer;
  limits : are_in_limits o ≡ false → r ≡ Err fault.Options;
  fault : IfErr r (IsFaultIn o);
  first : IfErr r (λ e. IsOfEnds e → WherePlain o told counted (λ s input list. IsRunFault o s input list e));
  untouched : IfErr r (λ e. e ≢ Write → Keeps (contents writer) (contents writer));
  begun : r ≡ Err Write → WherePlain o told counted (AddsFront contents writer writer);
}

same_error : {T : Type 0} (e d : RunError) → ◌≡◌ {A = Result T RunError} (Err e) (Err d) → e ≡ d
same_error e d is = cc

pub ends_unwritten : {T W : Type 0} (o : RunOptions) (told : Option (List ℕ)) (counted : Option (Bor (List ℕ))) (before after : ℕ) (contents : W → Option (List ℕ)) (failed_calls : W → ℕ) (writer : W) (e : RunError) → TellsNone o told counted e → are_in_limits o ≡ true →
    (e ≡ fault.Edges edge.Read → Rises before after) → (CountsOne before after → e ≡ fault.Edges edge.Read) → EndsUnwritten {T = T} o told counted before after contents failed_calls writer (Err e)
ends_unwritten o told counted before after contents failed_calls writer e none within read failed = record {
  ok = tt;
  refused = none.input;
  edges = λ input known plain. tt;
  of_edges = none.edges;
  read = λ is. read (same_error e (fault.Edges edge.Read) is);
  failed = λ rises. ap Err (failed rises);
  write = λ is. absurd (none.unwritten (same_error e fault.Write is));
  written = λ _. refl;
  limits = λ outside. absurd (cc);
  fault = none.options;
  first = none.first;
  untouched = λ _. Keeps-refl (contents writer);
  begun = λ is. absurd (none.unwritten (same_error e fault.Write is));
}
