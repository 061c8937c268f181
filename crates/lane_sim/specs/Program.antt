-- A netlist made ready for settles: where the lanes of its nets are, and what its rows have after one.
use Rattle.std.specs.Prelude.{◌≡◌, ℕ, ◌/◌, ◌%◌, ◌<◌, ◌≤◌, nat_lt, Bool, true, false, if◌then◌else◌, List, length, map, slice_index, slice_index_or, Option, Some, unwrap_or, All}
use Rattle.tsc_cover.specs.Terms.{terms_from}
use Rattle.tsc_cover.specs.Cover.{Literal}
use Rattle.fault_secure.specs.Circuit.{Circuit, NodeOf, node, bit}
use Rattle.fault_secure.specs.StuckAt.{StuckAt}
use Rattle.fault_secure.specs.Settle.{Settles}
use Rattle.tsc_net.specs.Order.{has_place}
use Rattle.lane_rows.specs.Alive.{source_count, net_at}
use Rattle.lane_rows.specs.Rows.{RowsOf, row_of}
use Rattle.lane_sim.specs.Points.{PointsState, source_bit, point_input, point_state}
use Rattle.lane_sim.specs.declared.gate.Operand.{Operand}
use Rattle.lane_sim.specs.declared.gate.Operand.TheVariants.{Points, Row}
use Rattle.lane_sim.specs.declared.gate.Term.{Term}
use Rattle.lane_sim.specs.declared.gate.TwoPins.{TwoPins}
use Rattle.lane_sim.specs.declared.gate.ManyPins.{ManyPins}
use Rattle.lane_sim.specs.declared.gate.Operation.{Operation}
use Rattle.lane_sim.specs.declared.gate.Operation.TheVariants.{Two, Many}
use Rattle.lane_sim.specs.declared.gate.Step.{Step}
use Rattle.lane_sim.specs.declared.flat_rows.FlatRows.{FlatRows}
use Rattle.lane_sim.specs.declared.steps.Steps.{Steps}
use Rattle.lane_sim.specs.Gate.{term_at}
use Rattle.lane_sim.specs.FlatRows.{rows_in, IsPlaceOf, AreInside}
use Rattle.lane_sim.specs.TwoPins.{IsTableOf, AreMasks}
use Rattle.lane_sim.specs.Operation.{IsAligned, first_operand, second_operand, table_of, two_pins, many_pins}

-- the netlist without its names, the watched nets, and the row of each net
pub record ProgramState : Type 0 where
  pub circuit : Circuit
  pub watched : List ℕ
  pub rows : RowsOf

-- the row of a net that has one
abbrev pub row_at : List (Option ℕ) → ℕ → ℕ
row_at rows net = unwrap_or (row_of rows net) 0

-- where the lanes of a net are: those of an input or a latch output among the points' lanes, those of a node's net in its row;
-- `first` is the net of the first node
abbrev pub operand_of : ℕ → List (Option ℕ) → ℕ → Operand
operand_of first rows net = if nat_lt net first then Points net else Row (row_at rows net)

-- the term of a pin of a node that reads these nets, with the bit that is wanted there
abbrev pub term_of : ℕ → List (Option ℕ) → List ℕ → ℕ × Bool → Term
term_of first rows reads asked = term_at (operand_of first rows (slice_index reads asked.0)) asked.0 asked.1

-- the terms of a cover's row
abbrev pub terms_of : ℕ → List (Option ℕ) → List ℕ → List Literal → List Term
terms_of first rows reads row = map (term_of first rows reads) (terms_from 0 row)

-- the gate of a node with at most two pins: where it lacks the second pin the first one's net stands for it, and net 0 for both
pub record IsTwo (first : ℕ) (rows : List (Option ℕ)) (n : NodeOf) (two : TwoPins) : Type 0 where
  pub narrow : length n.reads ≤ 2
  pub aligned : IsAligned two
  pub first_operand : first_operand two ≡ operand_of first rows (slice_index n.reads 0)
  pub second_operand : second_operand two ≡ operand_of first rows (slice_index_or n.reads 1 (slice_index n.reads 0))
  pub table : IsTableOf n.cover (length n.reads) (table_of two)

-- the gate of a node: each row of the cover has one literal per pin, and stands as its terms
pub record IsMany (first : ℕ) (rows : List (Option ℕ)) (n : NodeOf) (flat : FlatRows) (many : ManyPins) : Type 0 where
  pub sized : All (λ row. length row ≡ length n.reads) n.cover.rows
  pub on : many.on ≡ n.cover.on
  pub place : IsPlaceOf flat many.place
  pub terms : rows_in flat many.place ≡ map (terms_of first rows n.reads) n.cover.rows

-- the operation is that of the node
abbrev pub IsOperationOf : ℕ → List (Option ℕ) → NodeOf → FlatRows → Operation → Type 0
IsOperationOf first rows n flat (Two in_rows also masks one other) = IsTwo first rows n (two_pins in_rows also masks one other)
IsOperationOf first rows n flat (Many on place) = IsMany first rows n flat (many_pins on place)

-- the step of a node that drives a net: the net has its row
pub record IsStep (first : ℕ) (rows : List (Option ℕ)) (n : NodeOf) (net : ℕ) (flat : FlatRows) (step : Step) : Type 0 where
  pub driver : step.driver ≡ net
  pub start : step.to % 16 ≡ 0
  pub row : row_of rows net ≡ Some (step.to / 16)
  pub operation : IsOperationOf first rows n flat step.operation

-- the steps are those of the nodes of a circuit at the first places of an order; no more gates than these have rows of terms
pub record AreReady (C : Circuit) (rows : List (Option ℕ)) (order : List ℕ) (places : ℕ) (steps : Steps) : Type 0 where
  pub idle : steps.sources ≡ false → (net row : ℕ) → net < source_count C → row_of rows net ≡ Some row → ⊥
  pub inside : AreInside steps.flat
  pub gates : length steps.flat.gates.items ≤ places
  pub masks : AreMasks steps.masks.items
  pub sized : length steps.list.items ≡ places
  pub each : (k : ℕ) (d : Step) → k < places
      → IsStep (source_count C) rows (node C (slice_index order k)) (net_at C order k) steps.flat (slice_index_or steps.list.items k d)

-- the row of each watched net has, at each of so many points, the bit that the net has in a valuation that settles there under the fault
abbrev pub ShowsWatched : ℕ → ProgramState → PointsState → StuckAt → List ℕ → Type 0
ShowsWatched many program points f block =
    (p net : ℕ) (v : List Bool) → p < many → has_place program.watched net ≡ true
    → Settles program.circuit f (point_input points p) (point_state points p) v
    → source_bit block (row_at program.rows.rows net) p ≡ bit v net
