-- Lists of orders, as they are spelled.
use Rattle.std.specs.Prelude.{◌≡◌, ◌≢◌, ℕ, ◌<◌, ◌^◌, ◌==◌, ◌&&◌, ◌||◌, Bool, not, List, [], ◌∷◌, ◌++◌, length, map}
use Rattle.std.specs.Prelude.{Option, MatchOption, slice_index, decimal}
use Rattle.std.specs.List.{AllByRecursion, join_with_byte}
use Rattle.ball_model.specs.WorldText.{node_word}
use Rattle.ball_model.specs.declared.names.NodeId.{NodeId}

-- an order as it is spelled: P.K@S
unfoldable pub order_text : NodeId × ℕ → List ℕ
order_text o = node_word o.0 ++ 64 ∷ decimal o.1

-- orders as they are spelled, with commas between
unfoldable pub orders_text : List (NodeId × ℕ) → List ℕ
orders_text os = join_with_byte 44 (map order_text os)

-- the numbers of a partition and of a replica are in range
pub record IsNodeName (id : NodeId) : Type 0 where
  pub part : id.part < 2 ^ 16
  pub replica : id.replica < 2 ^ 8

-- the numbers of an order are in range
pub record IsOrder (o : NodeId × ℕ) : Type 0 where
  pub node : IsNodeName o.0
  pub superstep : o.1 < 10 ^ 9

-- the text is the spelling of these orders, of which there is one at least
pub record AreOrders (text : List ℕ) (os : List (NodeId × ℕ)) : Type 0 where
  pub some : os ≢ []
  pub spelled : text ≡ orders_text os
  pub fit : AllByRecursion IsOrder os

-- the text is a list of orders
pub record SpellsOrders (text : List ℕ) : Type 0 where
  pub orders : List (NodeId × ℕ)
  pub are : AreOrders text orders

-- what was read of a text is the one that it spells, or it spells none
abbrev pub Reads : {A : Type 0} → (A → Type 0) → (A → List ℕ) → List ℕ → Option A → Type 0
Reads {A} Fits spell text read =
    MatchOption read ((a : A) → Fits a → text ≢ spell a) (λ a. Fits a × (text ≡ spell a))

-- a text does not begin with a plus, nor with a zero that is not all of it
abbrev pub has_plain_digits : List ℕ → Bool
has_plain_digits text = not (slice_index text 0 == 43)
    && (length text == 1 || not (slice_index text 0 == 48))
