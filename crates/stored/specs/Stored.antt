-- Stored graphs: a network as bytes. Numbers are written most significant byte first.
use Rattle.std.specs.Prelude.{◌≡◌, ◌≢◌, ℕ, zero, suc, ◌+◌, ◌/◌, ◌^◌, ◌<◌, ◌≤◌, ◌||◌, Bool, false, if◌then◌else◌, nat_le, List, [], ◌∷◌, ◌++◌, map, length, take, drop, replicate, codes}
use Rattle.std.specs.List.{flat_map, range_with_len, sum_by, AllByRecursion}
use Rattle.std.specs.Int.{w32, w64, to_be_bytes}
use Rattle.ball_model.specs.Checkpoint.{sealed}
use Rattle.ball_model.specs.Graph.{preds_of}
use Rattle.ball_model.specs.Input.{Network}
use Rattle.ball_model.specs.PlanValue.{most_vertices}
use Rattle.gapcode.specs.Bits.{number_of}
use Rattle.gapcode.specs.Lists.{list_bits, AreAscending}

-- what is stored of a network: the labels of its vertices, in their order, and the predecessors of each
pub record StoredValue : Type 0 where
  pub labels : List (List ℕ)
  pub preds : List (List ℕ)

unfoldable pub stored_of : Network → StoredValue
stored_of net = record {
  labels = net.labels;
  preds = map (preds_of net.graph) (range_with_len 0 net.graph.vertices);
}

-- a label, and an LF after it
abbrev pub label_line : List ℕ → List ℕ
label_line label = label ++ 10 ∷ []

abbrev pub label_lines : List (List ℕ) → List ℕ
label_lines labels = flat_map label_line labels

-- the gap code of some lists
abbrev pub code_of : List (List ℕ) → List Bool
code_of lists = flat_map list_bits lists

-- bits as n bytes: zero bits follow the last
unfoldable pub packed : ℕ → List Bool → List ℕ
packed zero bits = []
packed (suc n) bits = number_of (take 8 (bits ++ replicate 8 false)) ∷ packed n (drop 8 bits)

-- their gap code in whole bytes
abbrev pub code_bytes : List (List ℕ) → List ℕ
code_bytes lists = packed ((length (code_of lists) + 7) / 8) (code_of lists)

-- a block is full, and no other list follows: it has 65,536 lists or 2^20 bits of code
unfoldable pub is_full : List (List ℕ) → Bool
is_full block = nat_le (2 ^ 16) (length block) || nat_le (2 ^ 20) (length (code_of block))

-- the blocks of some lists, of which the first has begun: a list that follows a full block begins the next
unfoldable pub blocks_after : List (List ℕ) → List (List ℕ) → List (List (List ℕ))
blocks_after block [] = block ∷ []
blocks_after block (xs ∷ lists) =
    if is_full block then block ∷ blocks_after (xs ∷ []) lists
    else blocks_after (block ++ xs ∷ []) lists

unfoldable pub blocks_of : List (List ℕ) → List (List (List ℕ))
blocks_of [] = []
blocks_of (xs ∷ lists) = blocks_after (xs ∷ []) lists

-- a block: how many vertices it has, the length of their gap code, and this code
unfoldable pub block_bytes : List (List ℕ) → List ℕ
block_bytes lists =
    to_be_bytes w32 (length lists) ++ to_be_bytes w64 (length (code_bytes lists))
    ++ code_bytes lists

-- what stands before the labels: the version, and how many vertices, edges, and bytes of labels there are
unfoldable pub head_bytes : StoredValue → List ℕ
head_bytes v =
    codes "HBGR" ++ (1 ∷ []) ++ to_be_bytes w32 (length v.preds)
    ++ to_be_bytes w64 (sum_by length v.preds)
    ++ to_be_bytes w64 (length (label_lines v.labels))

-- all that is before the digest
unfoldable pub content_bytes : StoredValue → List ℕ
content_bytes v =
    head_bytes v ++ label_lines v.labels ++ flat_map block_bytes (blocks_of v.preds)

-- the bytes of a network, version 1
unfoldable pub network_bytes : StoredValue → List ℕ
network_bytes v = sealed (content_bytes v)

-- a label that may be stored: it is not empty, and no LF is in it
pub record IsLabel (label : List ℕ) : Type 0 where
  pub filled : 0 < length label
  pub line : AllByRecursion (λ b. b ≢ 10) label

-- a network that has such bytes. Its labels may be those of other vertices too
pub record IsStorable (v : StoredValue) : Type 0 where
  pub as_many : length v.labels ≡ length v.preds
  pub few : length v.preds ≤ most_vertices
  pub few_edges : sum_by length v.preds < 2 ^ 32
  pub ascend : AreAscending (length v.preds) v.preds
  pub labels : AllByRecursion IsLabel v.labels
  pub short : length (label_lines v.labels) < 2 ^ 64
