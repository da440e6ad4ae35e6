-- What the words of a command line say.
use Rattle.std.specs.Prelude.{◌≡◌, ◌≢◌, ◌<◌, ◌^◌, ◌||◌, ℕ, Bool, true, false, List, [], Option, Some, IfOk, IfSome, MatchOption, MatchResult, Result, String, is_some, codes, map, string_bytes}
use Rattle.std.specs.Global.{Global}
use Rattle.std.specs.List.{AllByRecursion}
use Rattle.std.specs.Str.Parse.{IsNumeral, digits_value, without_leading_plus}
use Rattle.clap.specs.Words.{FailsBy, HasKind, Row, Text, fault_of, first_of, one_of, subcommand_of, subcommand_rows_of}
use Rattle.clap.specs.declared.error.Error.{Error}
use Rattle.clap.specs.declared.parser.matches.ArgMatches.{ArgMatches}
use Rattle.clap.specs.declared.error.kind.ErrorKind.{ErrorKind}
use Rattle.clap.specs.declared.error.kind.ErrorKind.TheVariants as kind
use Rattle.ball_model.specs.PlanValue.{greatest_limit}
use Rattle.ball_model.specs.declared.plan.Estimate.{Estimate}
use Rattle.ball_model.specs.declared.plan.Estimate.TheVariants.{Raw, Corrected}
use Rattle.graph.specs.declared.delimiter.Delimiter.{Delimiter}
use Rattle.graph.specs.declared.delimiter.Delimiter.TheVariants.{Tab, Comma, Space}
use Rattle.ball_model.specs.declared.names.NodeId.{NodeId}
use Rattle.job.specs.declared.job.JobOptions.{JobOptions}
use Rattle.hyperball.specs.declared.cli.run.RunArgs.{RunArgs}
use Rattle.hyperball.specs.declared.cli.orders.OrdersError.{OrdersError}
use Rattle.hyperball.specs.declared.cli.orders.OrdersError.TheVariants as orders_error
use Rattle.hyperball.specs.declared.cli.WordsError.{WordsError}
use Rattle.hyperball.specs.declared.cli.WordsError.TheVariants as words
use Rattle.hyperball.specs.CommandLine.{Parsers, TakeNames, hyperball_app}
use Rattle.hyperball.specs.Orders.{AreOrders}
use Rattle.job.specs.declared.input.JobInput.{JobInput}
use Rattle.workers.specs.Options.{job_asked}

-- the words of a command line as texts
abbrev pub texts_of : List (String Global) → List Text
texts_of words = map (λ w. string_bytes w) words

-- the options of a job if none is given
abbrev pub usual_options : JobOptions
usual_options = record {
  log2m = 8;
  seed = 0;
  parts = 1;
  limit = greatest_limit;
  estimate = Raw;
  delimiter = Tab;
  large = false;
  threads = 0;
}

-- a text is this number of so many bits
pub record IsNumber (bits : ℕ) (text : Text) (n : ℕ) : Type 0 where
  pub numeral : IsNumeral 10 (without_leading_plus text)
  pub value : n ≡ digits_value 10 (without_leading_plus text)
  pub fits : n < 2 ^ bits

-- an option's value is this number; if it is not given it is the usual one
abbrev pub IsNumberOr : ℕ → ℕ → List Row → Text → ℕ → Type 0
IsNumberOr usual bits rows id n =
    MatchOption (one_of id rows) (n ≡ usual) (λ text. IsNumber bits text n)

-- the name of a delimiter
abbrev pub delimiter_name : Delimiter → Text
delimiter_name Tab = codes "tab"
delimiter_name Comma = codes "comma"
delimiter_name Space = codes "space"

-- the name of a way to make estimates
abbrev pub estimate_name : Estimate → Text
estimate_name Raw = codes "raw"
estimate_name Corrected = codes "corrected"

-- an option's value is the name of this one; if it is not given it is the usual one
abbrev pub IsNamedOr : {A : Type 0} → A → (A → Text) → List Row → Text → A → Type 0
IsNamedOr usual name_of rows id a =
    MatchOption (first_of id rows) (a ≡ usual) (λ name. name ≡ name_of a)

-- the text of a flag
abbrev pub flag_text : Bool → Text
flag_text true = codes "true"
flag_text false = codes "false"

-- a flag is given or not
abbrev pub IsFlag : List Row → Text → Bool → Type 0
IsFlag rows id b = MatchOption (one_of id rows) (b ≡ false) (λ text. text ≡ flag_text b)

-- the options of a job have these values, but for the flag of large edge lists and the number of threads
pub record AreJobOptionsOf (rows : List Row) (job : JobInput) : Type 0 where
  pub log2m : IsNumberOr usual_options.log2m 8 rows (codes "log2m") job.options.log2m
  pub seed : IsNumberOr usual_options.seed 64 rows (codes "seed") job.options.seed
  pub parts : IsNumberOr usual_options.parts 16 rows (codes "parts") job.options.parts
  pub limit : IsNumberOr usual_options.limit 32 rows (codes "limit") job.options.limit
  pub estimate : IsNamedOr usual_options.estimate estimate_name
      rows (codes "estimate") job.options.estimate
  pub delimiter : IsNamedOr usual_options.delimiter delimiter_name
      rows (codes "delimiter") job.options.delimiter
  pub counted : IsFlag rows (codes "counted") job.counted

-- what a run asks of its job
abbrev pub run_input : RunArgs → JobInput
run_input w = record { options = job_asked w.options; counted = w.counted }

-- the options of a run have these values, whatever its lists of orders are
pub record AreOptionsOf (rows : List Row) (w : RunArgs) : Type 0 where
  pub job : AreJobOptionsOf rows (run_input w)
  pub large : IsFlag rows (codes "large") w.options.large
  pub threads : IsNumberOr usual_options.threads 16 rows (codes "threads") w.options.threads
  pub replicas : IsNumberOr 1 8 rows (codes "replicas") w.options.replicas
  pub entries : IsNumberOr 1048576 32 rows (codes "entries") w.options.entries
  pub keep : IsNumberOr 1 32 rows (codes "keep") w.options.keep
  pub patience : IsNumberOr 1000000 32 rows (codes "patience") w.options.patience
  pub progress : IsFlag rows (codes "progress") w.progress

-- the subcommand is run, with these options or their defaults
abbrev pub IsRunOf : Option (Text × List Row) → RunArgs → Type 0
IsRunOf sub w = (rows : List Row) × (sub ≡ Some (codes "run", rows)) × AreOptionsOf rows w

-- a list of orders is given
abbrev pub AreOrdersIn : List Row → Type 0
AreOrdersIn rows =
    is_some (first_of (codes "lose") rows) || is_some (first_of (codes "restart") rows) ≡ true

-- the subcommand has a list of orders
abbrev pub GivesOrders : Option (Text × List Row) → Type 0
GivesOrders sub = IfSome sub (λ s. AreOrdersIn s.1)

-- a list of orders is spelled by the value of its option; if that is not given the list is empty
abbrev pub IsListed : List Row → Text → List (NodeId × ℕ) → Type 0
IsListed rows id os = MatchOption (first_of id rows) (os ≡ []) (λ text. AreOrders text os)

-- these lists of orders are those of the options
pub record AreListed (rows : List Row) (lost restarted : List (NodeId × ℕ)) : Type 0 where
  pub lose : IsListed rows (codes "lose") lost
  pub restart : IsListed rows (codes "restart") restarted

-- each value of these options is a list of orders
pub record SpellLists (rows : List Row) : Type 0 where
  pub lose : List (NodeId × ℕ)
  pub restart : List (NodeId × ℕ)
  pub lose_is : IsListed rows (codes "lose") lose
  pub restart_is : IsListed rows (codes "restart") restart

-- so it is of the subcommand's options, or not
abbrev pub GivesLists : Option (Text × List Row) → Type 0
GivesLists sub = MatchOption sub ⊥ (λ s. SpellLists s.1)

abbrev pub MisspellsLists : Option (Text × List Row) → Type 0
MisspellsLists sub = MatchOption sub ⊥ (λ s. SpellLists s.1 → ⊥)

-- why a subcommand's lists of orders are refused: one is not of its form; or each is, and memory was refused
abbrev pub RefusesLists : Option (Text × List Row) → OrdersError → Type 0
RefusesLists sub orders_error.Form = GivesOrders sub × MisspellsLists sub
RefusesLists sub orders_error.Memory = GivesLists sub

-- the subcommand has the flag of progress or not
abbrev pub GivesProgress : Option (Text × List Row) → Bool → Type 0
GivesProgress sub b = IfSome sub (λ s. IsFlag s.1 (codes "progress") b)

-- what the program's command finds wrong with the words
pub record HasFaults (words : List Text) (kinds : List ErrorKind) : Type 0 where
  pub are : (p : Parsers) → TakeNames p → fault_of (hyperball_app p) words ≡ kinds

-- the words, if they are not refused, ask for progress or not
pub record AsksProgress (words : List Text) (b : Bool) : Type 0 where
  pub flag : (p : Parsers) → TakeNames p → fault_of (hyperball_app p) words ≡ [] →
      GivesProgress (subcommand_of (hyperball_app p) words) b

-- the words have a list of orders, as some parsers read them
pub record HasOrders (words : List Text) : Type 0 where
  pub parsers : Parsers
  pub take : TakeNames parsers
  pub orders : GivesOrders (subcommand_of (hyperball_app parsers) words)

-- the lists of orders in the words are of their form, as some parsers read them; or one is not
pub record HasLists (words : List Text) : Type 0 where
  pub parsers : Parsers
  pub take : TakeNames parsers
  pub lists : GivesLists (subcommand_of (hyperball_app parsers) words)

pub record HasNoLists (words : List Text) : Type 0 where
  pub parsers : Parsers
  pub take : TakeNames parsers
  pub misspelt : MisspellsLists (subcommand_of (hyperball_app parsers) words)

-- why the lists of orders in the words are refused: one is not of its form; or each is, and memory was refused
abbrev pub RefusesOrders : List Text → OrdersError → Type 0
RefusesOrders words orders_error.Form = HasOrders words × HasNoLists words
RefusesOrders words orders_error.Memory = HasLists words

-- parsers take their names, and the program's command with them reads the words so
pub record ParsesTo (words : List Text) (result : Result ArgMatches Error) : Type 0 where
  pub parsers : Parsers
  pub take : TakeNames parsers
  pub rows : IfOk result (λ m. subcommand_rows_of m ≡ subcommand_of (hyperball_app parsers) words)
  pub faults : FailsBy (fault_of (hyperball_app parsers) words) result

-- if there are such faults, the words are refused for one of them
abbrev pub FailsFor : List ErrorKind → WordsError → Type 0
FailsFor kinds (words.Clap e) = HasKind kinds e
FailsFor kinds (words.Orders e) = kinds ≡ []

abbrev pub FailsWith : {A : Type 0} → List ErrorKind → Result A WordsError → Type 0
FailsWith kinds result = MatchResult result (λ a. kinds ≡ []) (FailsFor kinds)

-- a mistake, and no subcommand for help
abbrev pub IsMistake : ErrorKind → Type 0
IsMistake k = (k ≢ kind.OutOfMemory) × ((k ≢ kind.DisplayHelp) × (k ≢ kind.DisplayVersion))

-- there is a fault, and each is a mistake
abbrev pub AreMistakes : List ErrorKind → Type 0
AreMistakes kinds = (kinds ≢ []) × AllByRecursion IsMistake kinds
