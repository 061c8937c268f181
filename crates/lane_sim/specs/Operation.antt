-- What a step of a settle gives.
use Rattle.std.specs.Prelude.{◌≡◌, ℕ, ◌/◌, ◌%◌, ◌<◌, Bool, List}
use Rattle.fault_secure.specs.StuckAt.{StuckAt, NoFault, on_stem, on_pin}
use Rattle.lane_sim.specs.Gate.{IsOperand, HaveOperands, operand_at, operand_bit, gate_bit}
use Rattle.lane_sim.specs.TwoPins.{table_bit}
use Rattle.lane_sim.specs.FlatRows.{rows_in, IsPlaceOf}
use Rattle.lane_sim.specs.declared.gate.Operand.{Operand}
use Rattle.lane_sim.specs.declared.gate.TwoPins.{TwoPins}
use Rattle.lane_sim.specs.declared.gate.ManyPins.{ManyPins}
use Rattle.lane_sim.specs.declared.gate.Operation.{Operation}
use Rattle.lane_sim.specs.declared.gate.Operation.TheVariants.{Two, Many}
use Rattle.lane_sim.specs.declared.flat_rows.FlatRows.{FlatRows}

-- where the lanes at the two pins are
abbrev pub first_operand : TwoPins → Operand
first_operand two = operand_at two.first_in_rows two.first

abbrev pub second_operand : TwoPins → Operand
second_operand two = operand_at two.second_in_rows two.second

-- the number of the gate's function
abbrev pub table_of : TwoPins → ℕ
table_of two = two.masks / 10

-- a gate of a step, put together from its parts, and a step's operation from its gate
abbrev pub two_pins : Bool → Bool → ℕ → ℕ → ℕ → TwoPins
two_pins first_in_rows second_in_rows masks first second =
    record { first = first; second = second; first_in_rows = first_in_rows; second_in_rows = second_in_rows; masks = masks }

abbrev pub many_pins : Bool → ℕ → ManyPins
many_pins on place = record { place = place; on = on }

abbrev pub two_operation : TwoPins → Operation
two_operation two = Two two.first_in_rows two.second_in_rows two.masks two.first two.second

-- the places of its lanes and masks are such at which some start
pub record IsAligned (two : TwoPins) : Type 0 where
  pub first : two.first % 16 ≡ 0
  pub second : two.second % 16 ≡ 0
  pub masks : two.masks % 10 ≡ 0
  pub small : two.masks < 160

-- what a gate of at most two pins has at a point; the node drives the net `driver`
abbrev pub two_bit : StuckAt → ℕ → List ℕ → List ℕ → ℕ → TwoPins → Bool
two_bit f driver words block p two =
    on_stem f driver (table_bit (table_of two) (on_pin f driver 0 (operand_bit f words block p (first_operand two))) (on_pin f driver 1 (operand_bit f words block p (second_operand two))))

-- what it has where no fault touches it
abbrev pub free_bit : List ℕ → List ℕ → ℕ → TwoPins → Bool
free_bit words block p two = table_bit (table_of two) (operand_bit NoFault words block p (first_operand two)) (operand_bit NoFault words block p (second_operand two))

-- what a gate has at a point, where rows of terms stand in flat lists
abbrev pub operation_bit : StuckAt → ℕ → List ℕ → List ℕ → ℕ → FlatRows → Operation → Bool
operation_bit f driver words block p flat (Two in_rows also masks one other) = two_bit f driver words block p (two_pins in_rows also masks one other)
operation_bit f driver words block p flat (Many on place) = gate_bit f driver words block p on (rows_in flat place)

-- the operands at the pins are operands, and what else stands in the operation is right
abbrev pub IsFit : List ℕ → List ℕ → FlatRows → Operation → Type 0
IsFit words block flat (Two in_rows also masks one other) =
    let two = two_pins in_rows also masks one other in IsAligned two × IsOperand words block (first_operand two) × IsOperand words block (second_operand two)
IsFit words block flat (Many on place) = IsPlaceOf flat place × HaveOperands words block (rows_in flat place)
