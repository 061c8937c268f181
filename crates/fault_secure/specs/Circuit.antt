-- Circuits. Nets are numbers: the inputs, then the latch outputs, then the nets that nodes drive, in text order.
-- A valuation is a list with one bit per net. Every read has a default, so no definition needs an index in range.
use Rattle.std.specs.Prelude.{ℕ, ◌+◌, Bool, false, List, [], length, slice_index, slice_index_or}
use Rattle.tsc_cover.specs.Cover.{CoverTable, zero_cover}

-- a latch: the net at its input, and the bit that it holds first
pub record LatchOf : Type 0 where
  pub reads : ℕ
  pub init : Bool

-- a node: the nets at its pins, and its cover
pub record NodeOf : Type 0 where
  pub reads : List ℕ
  pub cover : CoverTable

-- a circuit: how many inputs it has, its latches, its nodes, and the nets that are its outputs
pub record Circuit : Type 0 where
  pub inputs : ℕ
  pub latches : List LatchOf
  pub nodes : List NodeOf
  pub outputs : List ℕ

-- what stands past the end of the latches: one that reads net 0 and holds 0 first
abbrev pub no_latch : LatchOf
no_latch = record { reads = 0; init = false }

-- what stands past the end of the nodes: one without pins that is always 0
abbrev pub no_node : NodeOf
no_node = record { reads = []; cover = zero_cover }

-- latch number l of the circuit, and `no_latch` past the end
abbrev pub latch : Circuit → ℕ → LatchOf
latch N l = slice_index_or N.latches l no_latch

-- node number j of the circuit, and `no_node` past the end
abbrev pub node : Circuit → ℕ → NodeOf
node N j = slice_index_or N.nodes j no_node

-- the net that latch l gives
abbrev pub latch_net : Circuit → ℕ → ℕ
latch_net N l = N.inputs + l

-- the net that node j drives
abbrev pub node_net : Circuit → ℕ → ℕ
node_net N j = N.inputs + length N.latches + j

-- the net at a pin of node j
abbrev pub pin_net : Circuit → ℕ → ℕ → ℕ
pin_net N j pin = slice_index (node N j).reads pin

-- how many nets there are
abbrev pub nets : Circuit → ℕ
nets N = N.inputs + length N.latches + length N.nodes

-- the bit at a place of a list of bits, 0 past its end
abbrev pub bit : List Bool → ℕ → Bool
bit bits place = slice_index_or bits place false

-- a node with this cover over these nets
abbrev pub gate : CoverTable → List ℕ → NodeOf
gate cover reads = record { reads = reads; cover = cover }
