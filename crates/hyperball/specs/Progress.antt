-- What is reported of how a command gets on.
use Rattle.std.specs.Prelude.{◌≡◌, ℕ, List, [], ◌∷◌, ◌++◌, Option, MatchOption, Err, codes, decimal}
use Rattle.std.specs.List.{flat_map}
use Rattle.std.specs.Io.KnownBytes.{Appends, Keeps}
use Rattle.ball_model.specs.Graph.{Graph}
use Rattle.ball_model.specs.RunText.{Numbers, plan_asked}
use Rattle.ball_model.specs.WorldText.{node_word}
use Rattle.ball_model.specs.declared.plan.PlanError.{PlanError}
use Rattle.ball_model.specs.declared.plan.PlanError.TheVariants as fault
use Rattle.node.specs.Stream.{HasNoEnd}
use Rattle.hyperball.specs.declared.lines.ProgressLine.{ProgressLine}
use Rattle.hyperball.specs.declared.lines.ProgressLine.TheVariants as line

-- what a line of progress says
abbrev pub progress_text : ProgressLine → List ℕ
progress_text (line.NoLog2m log2m) =
    codes "no plan has log2m " ++ decimal log2m ++ codes
    " (4 to 10 are allowed): the job will be refused once the edge list is read"
progress_text (line.NoParts parts) =
    codes "no plan has parts " ++ decimal parts ++ codes
    " (1 to 64 are allowed): the job will be refused once the edge list is read"
progress_text (line.NoLimit limit) =
    codes "no plan has limit " ++ decimal limit ++ codes
    " (1 to 4096 are allowed): the job will be refused once the edge list is read"
progress_text (line.Reading records) = decimal records ++ codes " records are read so far"
progress_text (line.Read records vertices) =
    decimal records ++ codes " records and " ++ decimal vertices ++ codes " vertices are read"
progress_text line.Start = codes "the supersteps begin"
progress_text (line.Superstep superstep changed vertices) =
    codes "superstep " ++ decimal superstep ++ codes ", " ++ decimal changed ++ codes " of "
    ++ decimal vertices ++ codes " vertices changed"
progress_text (line.Close node superstep changed vertices) =
    codes "node " ++ node_word node ++ codes " at superstep " ++ decimal superstep
    ++ codes ", " ++ decimal changed ++ codes " of its " ++ decimal vertices
    ++ codes " vertices changed"
progress_text line.Report = codes "the report is written"
progress_text line.Answers = codes "the answers are written"
progress_text line.Commands = codes "the commands are answered"

-- how a line of progress begins, as a fault does
abbrev pub mark_of_program : List ℕ
mark_of_program = codes "hyperball: "

-- a line of progress
abbrev pub progress_line : ProgressLine → List ℕ
progress_line said = mark_of_program ++ progress_text said

-- with the LF that ends it
abbrev pub line_of : ProgressLine → List ℕ
line_of said = progress_line said ++ 10 ∷ []

-- lines of progress are appended to what was there, and nothing else
pub record TellsProgress (old new : Option (List ℕ)) : Type 0 where
  pub lines : List ProgressLine
  pub appended : Appends old new (flat_map line_of lines)

-- as it was asked for: if it was not, what was there is kept, and else lines of progress alone are appended
pub record TellsAsAsked (unasked : Type 0) (old new : Option (List ℕ)) : Type 0 where
  pub silent : unasked → Keeps old new
  pub told : TellsProgress old new

-- a text begins so, and has one LF, at its end
pub record IsLineBehind (mark text : List ℕ) : Type 0 where
  pub rest : List ℕ
  pub is : text ≡ mark ++ rest ++ 10 ∷ []
  pub one_line : HasNoEnd (mark ++ rest)

-- what tells progress was handed out when this was there, and nothing else was written since; or nothing was handed out
-- or written
abbrev pub Awaits : {F T : Type 0} → (F → T → Option (List ℕ) → Type 0) → (F → Option (List ℕ)) →
    F → Option T → Option (List ℕ) → Type 0
Awaits has_lent contents faults teller before =
    MatchOption teller (Keeps before (contents faults)) (λ t. has_lent faults t before)

-- a plan is asked for by these three numbers, among others
abbrev pub AsksBy : ℕ → ℕ → ℕ → Numbers → Type 0
AsksBy log2m parts limit n = (n.log2m ≡ log2m) × ((n.parts ≡ parts) × (n.limit ≡ limit))

-- the line tells the one of them that this fault is about
abbrev pub TellsOf : ℕ → ℕ → ℕ → PlanError → ProgressLine → Type 0
TellsOf log2m parts limit fault.Log2m said = said ≡ line.NoLog2m log2m
TellsOf log2m parts limit fault.Parts said = said ≡ line.NoParts parts
TellsOf log2m parts limit fault.Limit said = said ≡ line.NoLimit limit
TellsOf log2m parts limit fault.Vertices said = ⊥

-- the line tells of a fault that every plan by these numbers has, whatever the graph
pub record Foretells (log2m parts limit : ℕ) (said : ProgressLine) : Type 0 where
  pub error : PlanError
  pub tells : TellsOf log2m parts limit error said
  pub refused : (n : Numbers) (g : Graph) → AsksBy log2m parts limit n → plan_asked n g ≡ Err error

-- if a plan by these numbers is refused, it is for its vertices
abbrev pub IsRefusedForVertices : ℕ → ℕ → ℕ → Type 0
IsRefusedForVertices log2m parts limit =
    (n : Numbers) (g : Graph) (error : PlanError) → AsksBy log2m parts limit n →
    plan_asked n g ≡ Err error → error ≡ fault.Vertices
