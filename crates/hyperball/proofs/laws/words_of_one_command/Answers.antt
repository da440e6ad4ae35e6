use Rattle.std.proofs.Common.{◌≡◌, List, Option, Some, ap, arith, codes, inl, inr, refl, slice_index, subst, sym}
use Rattle.std.specs.Prelude.{option_map}
use Rattle.clap.specs.Words.{Row, Text}
use Rattle.hyperball.specs.Subcommands.{AsksAnother, AsksSubcommand, IsSubcommand}
use Rattle.hyperball.specs.declared.cli.Subcommand.{Subcommand}
use Rattle.hyperball.specs.declared.cli.Subcommand.TheVariants as subcommand
use Rattle.hyperball.proofs.NameLemmas.{some_parsers}
use Rattle.hyperball.proofs.laws.words_of_one_command.Goals as goal

-- the name of a subcommand
abbrev name_of : Option (Text × List Row) → Option Text
name_of sub = option_map (λ s. s.0) sub

some_of : (s t : Text) → Some s ≡ Some t → s ≡ t
some_of s t same = cc

one_name : (name other : Text) → (name ≡ other → ⊥) → (sub : Option (Text × List Row)) (rows : List Row) → sub ≡ Some (name, rows) → name_of sub ≡ Some other → ⊥
one_name name other differ sub rows is named =
    differ (some_of _ _ (subst (λ (o : Option (Text × List Row)). name_of o ≡ Some other) is named))

run_replay : codes "run" ≡ codes "replay" → ⊥
run_replay same = absurd (cc)

run_node : codes "run" ≡ codes "node" → ⊥
run_node same = absurd (cc)

run_gather : codes "run" ≡ codes "gather" → ⊥
run_gather same = absurd (cc)

replay_node : codes "replay" ≡ codes "node" → ⊥
replay_node same = absurd (cc)

replay_gather : codes "replay" ≡ codes "gather" → ⊥
replay_gather same = let bad : 114 ≡ 103 = ap (λ (t : Text). slice_index t 0) same in absurd (omega (arith, bad))

node_replay : codes "node" ≡ codes "replay" → ⊥
node_replay same = absurd (cc)

node_gather : codes "node" ≡ codes "gather" → ⊥
node_gather same = absurd (cc)

asks_its_own : (words : List Text) (x : Subcommand) → IsSubcommand words x → AsksSubcommand words x
asks_its_own words (subcommand.Run w) is = tt
asks_its_own words (subcommand.Replay w) is =
    let replay = is.command some_parsers (refl, refl) in
    record { parsers = some_parsers; take = (refl, refl); named = ap (λ (o : Option (Text × List Row)). name_of o) replay.1 }
asks_its_own words (subcommand.Node w) is =
    let node = is.command some_parsers (refl, refl) in
    record { parsers = some_parsers; take = (refl, refl); named = ap (λ (o : Option (Text × List Row)). name_of o) node.1 }
asks_its_own words (subcommand.Gather w) is =
    let gather = is.command some_parsers (refl, refl) in
    record { parsers = some_parsers; take = (refl, refl); named = ap (λ (o : Option (Text × List Row)). name_of o) gather.1 }

pub returns-clause-asked : goal.returns-clause-asked
returns-clause-asked c = asks_its_own

asks_no_other : (words : List Text) (x : Subcommand) → IsSubcommand words x → AsksAnother words x → ⊥
asks_no_other words (subcommand.Run w) is (inl asks) = let run = is.command asks.parsers asks.take in one_name _ _ run_replay _ run.0 run.1 asks.named
asks_no_other words (subcommand.Run w) is (inr (inl asks)) = let run = is.command asks.parsers asks.take in one_name _ _ run_node _ run.0 run.1 asks.named
asks_no_other words (subcommand.Run w) is (inr (inr asks)) = let run = is.command asks.parsers asks.take in one_name _ _ run_gather _ run.0 run.1 asks.named
asks_no_other words (subcommand.Replay w) is (inl asks) = let replay = is.command asks.parsers asks.take in one_name _ _ replay_node _ replay.0 replay.1 asks.named
asks_no_other words (subcommand.Replay w) is (inr asks) = let replay = is.command asks.parsers asks.take in one_name _ _ replay_gather _ replay.0 replay.1 asks.named
asks_no_other words (subcommand.Node w) is (inl asks) = let node = is.command asks.parsers asks.take in one_name _ _ node_replay _ node.0 node.1 asks.named
asks_no_other words (subcommand.Node w) is (inr asks) = let node = is.command asks.parsers asks.take in one_name _ _ node_gather _ node.0 node.1 asks.named
asks_no_other words (subcommand.Gather w) is (inl asks) = let gather = is.command asks.parsers asks.take in one_name _ _ (λ same. replay_gather (sym same)) _ gather.0 gather.1 asks.named
asks_no_other words (subcommand.Gather w) is (inr asks) = let gather = is.command asks.parsers asks.take in one_name _ _ (λ same. node_gather (sym same)) _ gather.0 gather.1 asks.named

pub returns-clause-another : goal.returns-clause-another
returns-clause-another c = asks_no_other
