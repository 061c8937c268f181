-- The tree of two-rail cells over pairs, with its two rails; and over the pairs of a word, two places each.
use Rattle.std.specs.Prelude.{◌≡◌, ℕ, zero, suc, ◌+◌, ◌*◌, ◌-◌, ◌<◌, Bool, List, [], ◌∷◌, length, slice_index_or, All}
use Rattle.fault_secure.specs.Circuit.{bit}
use Rattle.code_checkers.specs.declared.gate.CheckGate.TheVariants as gate
use Rattle.code_checkers.specs.Signal.{Signal, Pair, value}
use Rattle.code_checkers.specs.Signal.Signal.{Word, Buf}
use Rattle.code_checkers.specs.TwoRail.{tree}
use Rattle.code_checkers.specs.Gates.{meaning}
use Rattle.code_checkers.specs.GateList.{GateList, IsWalkOf}
use Rattle.code_checkers.specs.CheckerNodes.{gate_nodes}

-- the rails over pairs: a buffer of each side of their tree
abbrev pub rails_over : List Pair → Pair
rails_over pairs = record { first = Buf (tree pairs).first; second = Buf (tree pairs).second }

-- the gates of a tree over so many pairs: six per cell, and the two buffers
abbrev pub tree_gates : ℕ → ℕ
tree_gates pairs = 6 * (pairs - 1) + 2

-- so many pairs of a word, each of two places, from a place on
abbrev pub word_pairs : ℕ → ℕ → List Pair
word_pairs place zero = []
word_pairs place (suc pairs) = record { first = Word place; second = Word (place + 1) } ∷ word_pairs (place + 2) pairs

-- the rails of the tree over the pairs of a word, so many of them
abbrev pub tree_rail1 : ℕ → Signal
tree_rail1 pairs = (rails_over (word_pairs 0 pairs)).first

-- the second rail of the tree over so many pairs of a word
abbrev pub tree_rail2 : ℕ → Signal
tree_rail2 pairs = (rails_over (word_pairs 0 pairs)).second

-- the gates are that tree: a walk over its rails
abbrev pub IsTreeOf : ℕ → GateList → Type 0
IsTreeOf pairs made = IsWalkOf (tree_rail1 pairs) (tree_rail2 pairs) made

-- as nodes over any nets they are so many, besides the places of the word
abbrev pub HasNodes : ℕ → GateList → Type 0
HasNodes count made = (nets : List ℕ) → length (gate_nodes nets made.gates) ≡ count

-- the gates read only places of the pairs
abbrev pub ReadsPairs : ℕ → GateList → Type 0
ReadsPairs pairs made = (place word : ℕ) → place < length made.gates → slice_index_or made.gates place (gate.Word 0) ≡ gate.Word word → word < 2 * pairs

-- the two signals of each pair have different bits on a word
abbrev pub AllDiffer : List Bool → List Pair → Type 0
AllDiffer w pairs = All (λ pair. value w pair.first ≡ value w pair.second → ⊥) pairs

-- the rails over pairs have different bits on a word
abbrev pub RailsOverDiffer : List Bool → List Pair → Type 0
RailsOverDiffer w pairs = value w (rails_over pairs).first ≡ value w (rails_over pairs).second → ⊥

-- the two places of each pair of a word, so many of them, have different bits
abbrev pub WordPairsDiffer : List Bool → ℕ → Type 0
WordPairsDiffer w pairs = (k : ℕ) → k < pairs → bit w (2 * k) ≡ bit w (2 * k + 1) → ⊥

-- the rails of gates have different bits on a word
abbrev pub MadeRailsDiffer : List Bool → GateList → Type 0
MadeRailsDiffer w made = value w (meaning made.gates made.rail1) ≡ value w (meaning made.gates made.rail2) → ⊥
