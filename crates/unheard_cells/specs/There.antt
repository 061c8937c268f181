-- What is at a point of a bench: a false alarm, and held stems that are unheard.
use Rattle.std.specs.Prelude.{◌≡◌, ℕ, ◌+◌, ◌-◌, ◌∷◌, ◌++◌, ◌<◌, ◌≤◌, Bool, true, false, List, take, drop, length, Option, Some, None}
use Rattle.tsc_bits.specs.Bits.{bits_of}
use Rattle.fault_secure.specs.Circuit.{Circuit, bit}
use Rattle.fault_secure.specs.StuckAt.{NoFault, Stem}
use Rattle.fault_secure.specs.Settle.{Settles}
use Rattle.fault_secure.specs.CodePlan.{CodePlan, next_nets, RailsAgree}
use Rattle.fault_secure.specs.FailingCell.{IsCell}
use Rattle.fault_secure.specs.Exposing.{word_of_state}
use Rattle.tsc_net.specs.declared.ids.NetId.{NetId}
use Rattle.lane_sim.specs.Points.{PointsState, point_input, point_state, source_bit}
use Rattle.lane_sim.specs.declared.point.Point.{Point}
use Rattle.point_laws.specs.Heard.{IsUnheard}
use Rattle.unheard_cells.specs.declared.stems.HeldStem.{HeldStem}
use Rattle.unheard_cells.specs.declared.spans.Span.{Span}
use Rattle.unheard_cells.specs.declared.cells.FoundCell.{FoundCell}

-- what is seen from outside: the outputs and the nets at the latch inputs
abbrev pub shown_nets : Circuit → CodePlan → List ℕ
shown_nets N P = take P.outputs N.outputs ++ next_nets N

-- what is watched: the rails, and then what is seen from outside
abbrev pub watched_nets : Circuit → CodePlan → List ℕ
watched_nets N P = P.rail1 ∷ (P.rail2 ∷ shown_nets N P)

-- the point p of a bench is this point: the word of its state, and its input
pub record IsPointOf (N : Circuit) (P : CodePlan) (points : PointsState) (p : ℕ) (point : Point) : Type 0 where
  pub word : List Bool
  pub is_state : word_of_state P point.state ≡ Some word
  pub input : (k : ℕ) → k < N.inputs → point_input points p k ≡ bit (bits_of N.inputs point.input) k
  pub state : (l : ℕ) → l < length N.latches → point_state points p l ≡ bit word l

-- at a point of a bench the rails agree without a fault
pub record IsFalseAlarmThere (N : Circuit) (P : CodePlan) (points : PointsState) (p : ℕ) : Type 0 where
  pub valuation : List Bool
  pub settles : Settles N NoFault (point_input points p) (point_state points p) valuation
  pub rails_agree : RailsAgree P valuation

-- at a point of a bench the stem of a net, held at a bit, is unheard
pub record IsUnheardThere (N : Circuit) (P : CodePlan) (points : PointsState) (net : ℕ) (held : Bool) (p : ℕ) : Type 0 where
  pub right : List Bool
  pub wrong : List Bool
  pub settles : Settles N NoFault (point_input points p) (point_state points p) right
  pub failing : Settles N (Stem net held) (point_input points p) (point_state points p) wrong
  pub unheard : IsUnheard N P right wrong

-- how many nets those of a span are, with the rails
abbrev pub near_count : Span → ℕ
near_count span = 2 + (span.past - span.low)

-- the rails, and then what is seen from outside in a span
abbrev pub near_nets : Circuit → CodePlan → Span → List ℕ
near_nets N P span = take (near_count span) (P.rail1 ∷ (P.rail2 ∷ drop span.low (shown_nets N P)))

-- lanes of nets, sixteen words each: at a point those after the rails are in the second list what they are so many places further in the first
abbrev pub AreSameAt : List ℕ → List ℕ → ℕ → ℕ → ℕ → Type 0
AreSameAt right wrong low many p = (place : ℕ) → 2 ≤ place → place < many → source_bit right (low + place) p ≡ source_bit wrong place p

-- some of them aren't, and the rails differ in the second one
pub record AreUnheardAt (right wrong : List ℕ) (low many p : ℕ) : Type 0 where
  pub changed : AreSameAt right wrong low many p → ⊥
  pub rails_differ : source_bit wrong 0 p ≡ source_bit wrong 1 p → ⊥

-- the first point below a bound at which the stem of a cell is unheard, held at one of the two bits; none where it is at none of them
abbrev pub IsFirstHeld : (Bool → ℕ → Type 0) → ℕ → Option HeldStem → Type 0
IsFirstHeld E many None = (held : Bool) (p : ℕ) → p < many → E held p → ⊥
IsFirstHeld E many (Some at) = (at.point < many) × E at.held at.point × ((held : Bool) (p : ℕ) → p < at.point → E held p → ⊥)

-- what was found with the bit 1, if anything, else what was found with the bit 0
abbrev pub earlier : Option ℕ → Option ℕ → Option HeldStem
earlier low (Some point) = Some (record { held = true; point = point })
earlier (Some point) None = Some (record { held = false; point = point })
earlier None None = None

-- the first such point of the cells below a net, and there the least cell; none where no such cell is unheard below the bound
abbrev pub IsLeastCell : (ℕ → Bool → ℕ → Type 0) → ℕ → ℕ → Option FoundCell → Type 0
IsLeastCell E past many None = (cell : ℕ) (held : Bool) (p : ℕ) → cell < past → p < many → E cell held p → ⊥
IsLeastCell E past many (Some found) =
    (found.cell.number < past) × (found.point < many) × E found.cell.number found.held found.point
    × ((cell : ℕ) (held : Bool) (p : ℕ) → cell < past → p < found.point → E cell held p → ⊥)
    × ((cell : ℕ) (held : Bool) → cell < found.cell.number → E cell held found.point → ⊥)

-- a cell's stem is unheard
abbrev pub CellUnheardThere : Circuit → CodePlan → PointsState → ℕ → Bool → ℕ → Type 0
CellUnheardThere N P points cell held p = IsCell N cell × IsUnheardThere N P points cell held p

-- the point that was found, or a bound
abbrev pub point_or : Option FoundCell → ℕ → ℕ
point_or None many = many
point_or (Some found) many = found.point

-- what was found, with what is found of one more cell
abbrev pub found_more : NetId → Option FoundCell → Option HeldStem → Option FoundCell
found_more cell found None = found
found_more cell found (Some at) = Some (record { cell = cell; held = at.held; point = at.point })
