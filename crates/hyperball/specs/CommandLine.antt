-- The command line: the subcommands `run`, `replay`, `node` and `gather`, and their options.
use Rattle.std.specs.Prelude.{◌≡◌, List, [], ◌∷◌, Option, None, Some, codes, map, pos, true, false}
use Rattle.clap.specs.Words.{App, Rule, Text, app_of, new_app, new_rule}
use Rattle.clap.specs.Words.{with_rule, with_subcommand}
use Rattle.clap.specs.declared.builder.action.ArgAction.TheVariants.{SetTrue}
use Rattle.clap.specs.declared.builder.command.Command.{Command}
use Rattle.clap.specs.declared.builder.command.Command.TheViews.{out-Command as fields_of}
use Rattle.clap.specs.declared.builder.value_parser.ValueParser.{ValueParser}
use Rattle.clap.specs.declared.builder.value_parser.ValueParser.TheVariants as vp
use Rattle.hyperball.specs.declared.cli.arguments.Argument.{Argument}

-- what is between the two fields of a line, by name
abbrev pub delimiter_names : List Text
delimiter_names = codes "tab" ∷ codes "comma" ∷ codes "space" ∷ []

-- how estimates are made, by name
abbrev pub estimate_names : List Text
estimate_names = codes "raw" ∷ codes "corrected" ∷ []

-- the parser takes one of these names, wherever in memory they are
abbrev pub TakesNames : List Text → ValueParser → Type 0
TakesNames names (vp.Names given) = map (λ name. name.now) given.now ≡ names
TakesNames names parser = ⊥

-- the parsers of the options whose values are names
pub record Parsers : Type 0 where
  pub estimates : ValueParser
  pub delimiters : ValueParser

-- each takes its names
abbrev pub TakeNames : Parsers → Type 0
TakeNames p = TakesNames estimate_names p.estimates × TakesNames delimiter_names p.delimiters

-- an option: its long name, and what its value has to be
abbrev pub option_rule : Text → ValueParser → Rule
option_rule name parser = record (new_rule name) { long = Some name; parser = Some parser }

-- a flag: its long name
abbrev pub flag_rule : Text → Rule
flag_rule name = record (new_rule name) { long = Some name; action = Some SetTrue }

-- an option if a parser reads its value, and a flag if none does
abbrev pub named_rule : Text → Option ValueParser → Rule
named_rule name (Some parser) = option_rule name parser
named_rule name None = flag_rule name

-- the rule of an argument
abbrev pub rule_in : Argument → Rule
rule_in a = named_rule a.name.now a.parser

-- a command with these arguments, one after the other
unfoldable pub with_arguments : List Argument → App → App
with_arguments [] app = app
with_arguments (a ∷ rest) app = with_arguments rest (with_rule app (rule_in a))

-- numbers of 8, 16, 32 and 64 bits
abbrev pub number8 : ValueParser
number8 = vp.Signed (pos 0) (pos 255)

abbrev pub number16 : ValueParser
number16 = vp.Signed (pos 0) (pos 65535)

abbrev pub number32 : ValueParser
number32 = vp.Signed (pos 0) (pos 4294967295)

abbrev pub number64 : ValueParser
number64 = vp.Unsigned 0 18446744073709551615

-- a number of threads
abbrev pub thread_number : ValueParser
thread_number = vp.Signed (pos 0) (pos 1024)

-- a command with the options of the counters
abbrev pub with_counters : App → App
with_counters app = with_rule (with_rule app
    (option_rule (codes "log2m") number8))
    (option_rule (codes "seed") number64)

-- a command with the options of a plan
abbrev pub with_numbers : App → App
with_numbers app = with_rule (with_rule (with_counters app)
    (option_rule (codes "parts") number16))
    (option_rule (codes "limit") number32)

-- a command with the option that says how estimates are made, whose names a parser takes
abbrev pub with_estimate : ValueParser → App → App
with_estimate estimates app = with_rule app (option_rule (codes "estimate") estimates)

-- a command with the options of an input, whose delimiters a parser takes
abbrev pub with_input : ValueParser → App → App
with_input delimiters app = with_rule (with_rule app
    (option_rule (codes "delimiter") delimiters))
    (flag_rule (codes "counted"))

-- a command with the options of a plan's nodes
abbrev pub with_nodes : App → App
with_nodes app = with_rule (with_rule (with_rule (with_rule app
    (option_rule (codes "replicas") number8))
    (option_rule (codes "entries") number32))
    (option_rule (codes "keep") number32))
    (option_rule (codes "patience") number32)

-- a command with the number of threads
abbrev pub with_threads : App → App
with_threads app = with_rule app (option_rule (codes "threads") thread_number)

-- a command with the lists of orders
abbrev pub with_orders : App → App
with_orders app = with_rule (with_rule app
    (option_rule (codes "lose") vp.String))
    (option_rule (codes "restart") vp.String)

-- a command with the flag of large edge lists
abbrev pub with_large : App → App
with_large app = with_rule app (flag_rule (codes "large"))

-- a command with the flag of progress
abbrev pub with_progress : App → App
with_progress app = with_rule app (flag_rule (codes "progress"))

-- a command with the options of a job
abbrev pub with_job : Parsers → App → App
with_job p app = with_input p.delimiters (with_estimate p.estimates (with_numbers app))

-- the subcommand `run`
unfoldable pub run_app : Parsers → App
run_app p =
    with_progress (with_large (with_orders (with_threads (with_nodes
    (with_job p (new_app (codes "run")))))))

-- the subcommand `replay`
unfoldable pub replay_app : Parsers → App
replay_app p =
    with_progress
    (with_rule (with_job p (new_app (codes "replay"))) (option_rule (codes "replicas") number8))

-- the subcommand `node`
unfoldable pub node_app : Parsers → App
node_app p = with_progress (with_large
    (with_rule (with_job p (new_app (codes "node"))) (option_rule (codes "part") number16)))

-- the subcommand `gather`
unfoldable pub gather_app : Parsers → App
gather_app p =
    with_progress (with_large (with_threads (with_job p (new_app (codes "gather")))))

-- the program, which has a version and wants a subcommand, before it has one
abbrev pub new_hyperball : App
new_hyperball = record (new_app (codes "hyperball")) {
  top = record (new_app (codes "hyperball")).top { has_version = true; subcommand_required = true };
}

-- the program
unfoldable pub hyperball_app : Parsers → App
hyperball_app p =
    with_subcommand (with_subcommand
    (with_subcommand (with_subcommand new_hyperball (run_app p).top) (replay_app p).top)
    (node_app p).top) (gather_app p).top

-- a command of this form, with no argument for all subcommands
pub record IsApp (app : App) (c : Command) : Type 0 where
  pub form : app_of c ≡ app
  pub local : (fields_of c).has_globals ≡ false
