-- What the rows hold along the evaluation order.
use Rattle.std.specs.Prelude.{◌≡◌, ◌≢◌, ℕ, suc, ◌<◌, Bool, List, [], ◌∷◌, length, slice_index, Option, Some}
use Rattle.tsc_cover.specs.Cover.{truth}
use Rattle.fault_secure.specs.Circuit.{Circuit, NodeOf, node, node_net, bit}
use Rattle.fault_secure.specs.StuckAt.{StuckAt, on_stem, on_pin}
use Rattle.fault_secure.specs.Settle.{node_value}
use Rattle.tsc_net.specs.Order.{fan_ins, evaluation_order}
use Rattle.lane_rows.specs.Alive.{source_count, net_at}
use Rattle.lane_rows.specs.Rows.{row_of}
use Rattle.lane_sim.specs.Points.{source_bit}
use Rattle.lane_sim.specs.Gate.{operand_bit}
use Rattle.lane_sim.specs.Program.{ProgramState, row_at, operand_of}

-- the bits that pins read, from pin number `pin` on, where nets have these bits; the node drives the net `driver`
abbrev pub read_bits : StuckAt → (ℕ → Bool) → ℕ → ℕ → List ℕ → List Bool
read_bits f bits driver pin [] = []
read_bits f bits driver pin (net ∷ reads) = on_pin f driver pin (bits net) ∷ read_bits f bits driver (suc pin) reads

-- the bit at a point that is where a net's lanes are
abbrev pub net_bit : ℕ → List (Option ℕ) → StuckAt → List ℕ → List ℕ → ℕ → ℕ → Bool
net_bit first rows f words block p net = operand_bit f words block p (operand_of first rows net)

-- what a node that drives a net gives at a point: its truth on what stands where the lanes of its pins' nets are
abbrev pub given_bit : ℕ → List (Option ℕ) → NodeOf → ℕ → StuckAt → List ℕ → List ℕ → ℕ → Bool
given_bit first rows n driver f words block p = on_stem f driver (truth n.cover (read_bits f (net_bit first rows f words block p) driver 0 n.reads))

-- what the node j gives at a point
abbrev pub node_bit : ProgramState → StuckAt → List ℕ → List ℕ → ℕ → ℕ → Bool
node_bit program f words block j p =
    given_bit (source_count program.circuit) program.rows.rows (node program.circuit j) (node_net program.circuit j) f words block p

-- the row of the net of the node at a place of the evaluation order, and what that node gives at a point
abbrev pub row_there : ProgramState → ℕ → ℕ
row_there program place = row_at program.rows.rows (net_at program.circuit (evaluation_order (fan_ins program.circuit)) place)

abbrev pub place_bit : ProgramState → StuckAt → List ℕ → List ℕ → ℕ → ℕ → Bool
place_bit program f words block place p = node_bit program f words block (slice_index (evaluation_order (fan_ins program.circuit)) place) p

-- the valuation has what the inputs and latch outputs have at a point, and each node's truth
pub record SettlesAt (C : Circuit) (f : StuckAt) (words : List ℕ) (p : ℕ) (v : List Bool) : Type 0 where
  pub sources : (net : ℕ) → net < source_count C → bit v net ≡ on_stem f net (source_bit words net p)
  pub nodes : (j : ℕ) → j < length C.nodes → bit v (node_net C j) ≡ on_stem f (node_net C j) (node_value C f v j)

-- the rows of inputs and latch outputs hold what their nets have at so many points; these are the nets below `first`
abbrev pub HoldsSources : ℕ → ℕ → List (Option ℕ) → StuckAt → List ℕ → List ℕ → Type 0
HoldsSources points first rows f words block =
    (net row p : ℕ) → net < first → row_of rows net ≡ Some row → p < points → source_bit block row p ≡ on_stem f net (source_bit words net p)

-- of the nodes at the first places of the order, each that has no later one among them in its row has there what its net has, at so many points
abbrev pub HoldsNodes : ℕ → ProgramState → StuckAt → List ℕ → List ℕ → ℕ → Type 0
HoldsNodes points program f words block places =
    let C = program.circuit in
    let order = evaluation_order (fan_ins C) in
    (p : ℕ) (v : List Bool) → p < points → SettlesAt C f words p v → (place : ℕ) → place < places
    → ((later : ℕ) → place < later → later < places → row_there program later ≢ row_there program place)
    → source_bit block (row_there program place) p ≡ bit v (net_at C order place)
