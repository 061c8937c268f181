-- Mapping cover by cover: in the place of each node stands a block of gates of its own.
use Rattle.std.specs.Prelude.{◌≡◌, ℕ, ◌+◌, ◌<◌, ◌≤◌, Bool, List, length, map}
use Rattle.std.specs.List.{range_with_len}
use Rattle.tsc_cover.specs.Cover.{truth}
use Rattle.fault_secure.specs.Circuit.{Circuit, LatchOf, node, node_net, nets, bit}
use Rattle.fault_secure.specs.StuckAt.{NoFault}
use Rattle.fault_secure.specs.Settle.{node_value}
use Rattle.fault_secure.specs.Closed.{IsClosed}
use Rattle.fault_secure.specs.CodePlan.{CodePlan}

-- the gates of block j settle in the valuation v
pub record BlockSettles (G : Circuit) (block : ℕ → ℕ) (j : ℕ) (v : List Bool) : Type 0 where
  pub sized : length v ≡ nets G
  pub gates : (g : ℕ) → g < length G.nodes → block g ≡ j → bit v (node_net G g) ≡ node_value G NoFault v g

-- the latch, with the net at its input moved
abbrev pub moved_latch : (ℕ → ℕ) → LatchOf → LatchOf
moved_latch at l = record { reads = at l.reads; init = l.init }

-- G is N mapped cover by cover: `at` says where each net of N went, `block` for which node of N each gate of G stands.
-- Inputs and latches stay, and what latches read and what is shown is moved; a net of N is one of G, and what is no net of N is none of G.
-- Where N reads and shows only its own nets, so does G; and wherever the gates of a node's block settle, the node's net has the value of
-- its cover on the nets at its pins. Where they can't settle, as in a ring, this says nothing of the node: so the laws take G without a
-- ring. A block may be empty where its node only repeats a net: then its net is that net
pub record IsMapped (N G : Circuit) (at block : ℕ → ℕ) : Type 0 where
  pub inputs : G.inputs ≡ N.inputs
  pub latches : G.latches ≡ map (moved_latch at) N.latches
  pub outputs : G.outputs ≡ map at N.outputs
  pub sources : (net : ℕ) → net < N.inputs + length N.latches → at net ≡ net
  pub inside : (net : ℕ) → net < nets N → at net < nets G
  pub beyond : (net : ℕ) → nets N ≤ net → nets G ≤ at net
  pub closed : IsClosed N → IsClosed G
  pub blocks : (g : ℕ) → g < length G.nodes → block g < length N.nodes
  pub computes : (j : ℕ) (v : List Bool) → j < length N.nodes → BlockSettles G block j v
      → bit v (at (node_net N j)) ≡ truth (node N j).cover (map (λ net. bit v (at net)) (node N j).reads)

-- the plan, with its checks and rails moved
abbrev pub moved_plan : (ℕ → ℕ) → CodePlan → CodePlan
moved_plan at P = record P { checks = map at P.checks; rail1 = at P.rail1; rail2 = at P.rail2 }

-- a valuation of G as one of N: each net has the bit that stands where it went
abbrev pub as_mapped : Circuit → (ℕ → ℕ) → List Bool → List Bool
as_mapped N at v = map (λ net. bit v (at net)) (range_with_len 0 (nets N))
