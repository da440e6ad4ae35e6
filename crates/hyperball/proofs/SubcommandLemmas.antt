-- What the words of a command line ask for, and how that ends.
use Rattle.std.proofs.Common.{◌≡◌, ℕ, List, [], arith, inl, inr, refl, subst, sym, true}
use Rattle.std.specs.Prelude.{Err, IfErr, IfOk, None, Ok, Option, Result, Some}
use Rattle.std.specs.Io.KnownBytes.{Keeps}
use Rattle.clap.specs.Words.{Row, Text, fault_of, subcommand_of}
use Rattle.hyperball.specs.CommandLine.{Parsers, TakeNames, hyperball_app}
use Rattle.hyperball.specs.Ends.{Does, EndsAccepted, EndsOrders, FailsAlone, FailsRun, FailsSubcommand, LeavesFault}
use Rattle.hyperball.specs.Nodes.{IsGatherOf, IsNodeOf}
use Rattle.hyperball.specs.Refusals.{DoesJob, FailsJob}
use Rattle.hyperball.specs.Replaying.{IsReplayOf}
use Rattle.hyperball.specs.Streams.{KeptOrFailed, Reads, Untouched, Writes}
use Rattle.hyperball.specs.Subcommands.{AnswersSubcommand, AsksSubcommand, IsOfMatches, IsOfWords, IsSubcommandOf, NamesSubcommand, ReadsAll, Says, SaysListed, with_lists_of}
use Rattle.hyperball.specs.Words.{GivesProgress, IsRunOf, RefusesLists, RefusesOrders}
use Rattle.hyperball.specs.declared.cli.Subcommand.{Subcommand}
use Rattle.hyperball.specs.declared.cli.Subcommand.TheVariants as subcommand
use Rattle.hyperball.specs.declared.cli.WordsError.{WordsError}
use Rattle.hyperball.specs.declared.cli.WordsError.TheVariants as words_error
use Rattle.hyperball.specs.declared.cli.gather.GatherArgs.{GatherArgs}
use Rattle.hyperball.specs.declared.cli.one_node.NodeArgs.{NodeArgs}
use Rattle.hyperball.specs.declared.cli.replay.ReplayArgs.{ReplayArgs}
use Rattle.hyperball.specs.declared.cli.orders.OrdersError.{OrdersError}
use Rattle.hyperball.specs.declared.cli.orders.OrdersError.TheVariants as orders_error
use Rattle.hyperball.specs.declared.cli.run.RunArgs.{RunArgs}
use Rattle.hyperball.specs.declared.fault.Fault.{Fault}
use Rattle.hyperball.specs.declared.fault.Fault.TheVariants as fault

-- nothing was written
pub keeps_same : (old new : Option (List ℕ)) → new ≡ old → Keeps old new
keeps_same None new is = tt
keeps_same (Some x) new is = subst (Keeps (Some x)) (sym is) refl

pub untouched_kept : (r : Reads) (w : Writes) → Untouched r w → KeptOrFailed w
untouched_kept r w none = inl (keeps_same w.contents.old w.contents.new none.unwritten)

-- a fault of a run's job is one of the run
job_fails : (v : RunArgs) (r : Reads) (w : Writes) (f : Fault) → FailsJob v.options v.counted r w f → FailsRun v r w f
job_fails v r w fault.Gate fails = absurd fails.due
job_fails v r w fault.Random fails = absurd fails.due
job_fails v r w (fault.Input e) fails = fails
job_fails v r w (fault.Lacks missing) fails = fails
job_fails v r w (fault.Run e) fails = fails
job_fails v r w (fault.Replay e) fails = absurd fails.due
job_fails v r w (fault.Node e) fails = absurd fails.due
job_fails v r w (fault.Gather e) fails = absurd fails.due

pub run_fails : {T : Type 0} (v : RunArgs) (r : Reads) (w : Writes) (x : Result T Fault) → IfErr x (FailsJob v.options v.counted r w) → IfErr x (FailsRun v r w)
run_fails v r w (Ok t) fails = tt
run_fails v r w (Err f) fails = job_fails v r w f fails

-- a run keeps what was written, or a write failed
run_kept : (v : RunArgs) (r : Reads) (w : Writes) (f : Fault) → FailsRun v r w f → KeptOrFailed w
run_kept v r w fault.Gate fails = untouched_kept r w fails
run_kept v r w fault.Random fails = untouched_kept r w fails
run_kept v r w (fault.Input e) fails = fails.kept
run_kept v r w (fault.Lacks missing) fails = fails.kept
run_kept v r w (fault.Run e) fails = fails.kept
run_kept v r w (fault.Replay e) fails = absurd fails
run_kept v r w (fault.Node e) fails = absurd fails
run_kept v r w (fault.Gather e) fails = absurd fails

-- what each subcommand leaves
alone_leaves : (words : List Text) (x : Subcommand) (r : Reads) (w : Writes) → AsksSubcommand words x → FailsAlone x r w → LeavesFault words r w
alone_leaves words (subcommand.Run v) r w asks fails = inl (run_kept v r w fails.fault fails.due)
alone_leaves words (subcommand.Replay v) r w asks fails = elim fails.due.begun [
  | inl kept ↦ inl (inl kept)
  | inr begun ↦ inr (inl (record { asks = asks; args = v; begun = begun }))
]
alone_leaves words (subcommand.Node v) r w asks fails = inr (inr (inl asks))
alone_leaves words (subcommand.Gather v) r w asks fails = inr (inr (inr asks))

pub subcommand_leaves : (words : List Text) (x : Subcommand) (r : Reads) (w : Writes) → AsksSubcommand words x → FailsSubcommand x r w → LeavesFault words r w
subcommand_leaves words x r w asks (inl none) = inl (untouched_kept r w none)
subcommand_leaves words x r w asks (inr fails) = alone_leaves words x r w asks fails

-- a subcommand that is this one does what this one does
done_run : (w v : RunArgs) (r : Reads) (x : Writes) → with_lists_of w v ≡ w → DoesJob v.options v.counted r x → DoesJob w.options w.counted r x
done_run w v r x says done =
    subst (λ (u : RunArgs). DoesJob u.options u.counted r x) says (record { reported = done.reported; unfailed = done.unfailed; listed = done.listed; written = done.written })

pub says_done : (a x : Subcommand) (r : Reads) (w : Writes) → Says a x → Does x r w → Does a r w
says_done (subcommand.Run a) (subcommand.Run v) r w says done = done_run a v r w says done
says_done (subcommand.Run a) (subcommand.Replay v) r w says done = absurd says
says_done (subcommand.Run a) (subcommand.Node v) r w says done = absurd says
says_done (subcommand.Run a) (subcommand.Gather v) r w says done = absurd says
says_done (subcommand.Replay a) x r w says done = subst (λ (y : Subcommand). Does y r w) says done
says_done (subcommand.Node a) x r w says done = subst (λ (y : Subcommand). Does y r w) says done
says_done (subcommand.Gather a) x r w says done = subst (λ (y : Subcommand). Does y r w) says done

-- and reads the whole input where this one does
pub says_reads : (a x : Subcommand) → Says a x → ReadsAll a → ReadsAll x
says_reads (subcommand.Run a) (subcommand.Run v) says all = subst (λ (u : RunArgs). u.counted ≡ true) (sym says) all
says_reads (subcommand.Run a) (subcommand.Replay v) says all = absurd says
says_reads (subcommand.Run a) (subcommand.Node v) says all = absurd says
says_reads (subcommand.Run a) (subcommand.Gather v) says all = absurd says
says_reads (subcommand.Replay a) x says all = subst ReadsAll (sym says) all
says_reads (subcommand.Node a) x says all = subst ReadsAll (sym says) all
says_reads (subcommand.Gather a) x says all = subst ReadsAll (sym says) all

ok_wish : (r : Result Subcommand WordsError) (x : Subcommand) → r ≡ Ok x → IfOk r (λ y. y ≡ x)
ok_wish r x is = subst (λ (o : Result Subcommand WordsError). IfOk o (λ y. y ≡ x)) (sym is) refl

-- what is asked for is the answer, by each command
pub each_answer : (sub : Option (Text × List Row)) (r : Result Subcommand WordsError) →
    ((w : RunArgs) → IsRunOf sub w → IfOk r (Says (subcommand.Run w))) → ((w : ReplayArgs) → IsReplayOf sub w → r ≡ Ok (subcommand.Replay w)) →
    ((w : NodeArgs) → IsNodeOf sub w → r ≡ Ok (subcommand.Node w)) → ((w : GatherArgs) → IsGatherOf sub w → r ≡ Ok (subcommand.Gather w)) →
    (a : Subcommand) → IsSubcommandOf sub a → AnswersSubcommand a r
each_answer sub r run replay node gather (subcommand.Run w) is = run w is
each_answer sub r run replay node gather (subcommand.Replay w) is = replay w is
each_answer sub r run replay node gather (subcommand.Node w) is = node w is
each_answer sub r run replay node gather (subcommand.Gather w) is = gather w is

-- such an answer is this subcommand
pub answer_says : (a : Subcommand) (r : Result Subcommand WordsError) → AnswersSubcommand a r → IfOk r (Says a)
answer_says (subcommand.Run w) r is = is
answer_says (subcommand.Replay w) r is = ok_wish r (subcommand.Replay w) is
answer_says (subcommand.Node w) r is = ok_wish r (subcommand.Node w) is
answer_says (subcommand.Gather w) r is = ok_wish r (subcommand.Gather w) is

-- a subcommand by its name
pub asks_wish : (words : List Text) (x : Subcommand) (p : Parsers) → TakeNames p → NamesSubcommand (subcommand_of (hyperball_app p) words) x → AsksSubcommand words x
asks_wish words (subcommand.Run w) p take names = tt
asks_wish words (subcommand.Replay w) p take names = record { parsers = p; take = take; named = names }
asks_wish words (subcommand.Node w) p take names = record { parsers = p; take = take; named = names }
asks_wish words (subcommand.Gather w) p take names = record { parsers = p; take = take; named = names }

-- a subcommand as `clap` found it is one as the words say it
pub of_words : (words : List Text) (x : Subcommand) (p : Parsers) → TakeNames p → fault_of (hyperball_app p) words ≡ [] → (sub : Option (Text × List Row)) → sub ≡ subcommand_of (hyperball_app p) words → IsOfMatches sub x → IsOfWords words x
of_words words x p take none sub rows found = record {
  asks = asks_wish words x p take (subst (λ (s : Option (Text × List Row)). NamesSubcommand s x) rows found.names);
  orders = record { parsers = p; take = take; listed = subst (λ (s : Option (Text × List Row)). SaysListed s x) rows found.listed };
  progress = λ b asks. found.progress b (subst (λ (s : Option (Text × List Row)). GivesProgress s b) (sym rows) (asks.flag p take none));
}

-- why the lists of orders in words are refused
pub refuses_orders : (words : List Text) (e : OrdersError) (p : Parsers) → TakeNames p → RefusesLists (subcommand_of (hyperball_app p) words) e → RefusesOrders words e
refuses_orders words orders_error.Form p take why = (record { parsers = p; take = take; orders = why.0 }, record { parsers = p; take = take; misspelt = why.1 })
refuses_orders words orders_error.Memory p take why = record { parsers = p; take = take; lists = why }

-- ---- words that are refused where clap finds nothing wrong
orders_one : (e : OrdersError) (status : ℕ) → EndsOrders e status → status ≡ 0 → ⊥
orders_one orders_error.Memory status ends done = omega (arith, ends, done)
orders_one orders_error.Form status ends done = omega (arith, ends, done)

-- they are not done
pub accepted_undone : (e : WordsError) (status : ℕ) → EndsAccepted e status → status ≡ 0 → ⊥
accepted_undone (words_error.Clap e) status ends done = omega (arith, ends, done)
accepted_undone (words_error.Orders e) status ends done = orders_one e status ends done

orders_form : (e : OrdersError) (status : ℕ) → EndsOrders e status → status ≡ 2 → e ≡ orders_error.Form
orders_form orders_error.Memory status ends two = absurd (omega (arith, ends, two))
orders_form orders_error.Form status ends two = refl

-- and a mistake in them is in a list of orders
pub accepted_mistake : (e : WordsError) (status : ℕ) → EndsAccepted e status → status ≡ 2 → e ≡ words_error.Orders orders_error.Form
accepted_mistake (words_error.Clap e) status ends two = absurd (omega (arith, ends, two))
accepted_mistake (words_error.Orders e) status ends two = rw (orders_form e status ends two) refl
