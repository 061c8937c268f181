-- Netlists by names: what a text of a netlist says, with each net by the text of its name.
use Rattle.std.specs.Prelude.{ℕ, Bool, List, [], map}
use Rattle.tsc_cover.specs.Cover.{CoverTable, zero_cover}

-- a latch: the name that it reads, the name that it gives, and the bit that it holds first
pub record NamedLatch : Type 0 where
  pub reads : List ℕ
  pub out : List ℕ
  pub init : Bool

-- a node: the names at its pins, the name that it drives, and its cover
pub record NamedNode : Type 0 where
  pub reads : List (List ℕ)
  pub out : List ℕ
  pub cover : CoverTable

-- a netlist: the name of its model, its inputs, outputs, latches and nodes, in text order
pub record Named : Type 0 where
  pub model : List ℕ
  pub inputs : List (List ℕ)
  pub outputs : List (List ℕ)
  pub latches : List NamedLatch
  pub nodes : List NamedNode

-- what the latches give, and what the nodes drive
abbrev pub latch_outs : Named → List (List ℕ)
latch_outs N = map (λ l. l.out) N.latches

-- what the nodes drive
abbrev pub node_outs : Named → List (List ℕ)
node_outs N = map (λ n. n.out) N.nodes

-- what stands past the end of a list of nodes
abbrev pub no_named : NamedNode
no_named = record { reads = []; out = []; cover = zero_cover }
