-- What is wrong at the points of a netlist with its plan: the first point at which the rails agree without a fault, or a failing cell is unheard.
use Rattle.std.specs.Prelude.{◌≡◌, ℕ, ◌^◌, ◌<◌, ◌⊎◌, Bool, not, List, Option, Some, None}
use Rattle.tsc_bits.specs.Bits.{bits_of}
use Rattle.fault_secure.specs.Circuit.{Circuit, bit}
use Rattle.fault_secure.specs.CodePlan.{CodePlan}
use Rattle.fault_secure.specs.FailingCell.{IsCell}
use Rattle.fault_secure.specs.Exposing.{ComesBefore}
use Rattle.point_laws.specs.Points.{IsStepAt, IsFalseAlarmAt}
use Rattle.point_laws.specs.Heard.{IsUnheardAt, IsHeardAtPoints}
use Rattle.unheard_cells.specs.declared.reason.PointReason.{PointReason}
use Rattle.unheard_cells.specs.declared.reason.PointReason.TheVariants.{Quiet, Alarm}

-- at a point something is wrong: there is a false alarm, or a cell fails unheard
abbrev pub IsWrongAt : Circuit → CodePlan → ℕ → List Bool → Type 0
IsWrongAt N P q x = IsFalseAlarmAt N P q x ⊎ ((cell : ℕ) × IsCell N cell × IsUnheardAt N P cell q x)

-- nothing is at the points before this one: they come by state, then by the input as a binary number
abbrev pub AreRightBefore : Circuit → CodePlan → ℕ → List Bool → Type 0
AreRightBefore N P q x = (r : ℕ) (y : List Bool) → ComesBefore r y q x → IsWrongAt N P r y → ⊥

-- the least cell that fails unheard at a point, and the bit that its net hasn't there without a fault
pub record IsLeastUnheard (N : Circuit) (P : CodePlan) (cell : ℕ) (value : Bool) (q : ℕ) (x : List Bool) : Type 0 where
  pub is_cell : IsCell N cell
  pub unheard : IsUnheardAt N P cell q x
  pub least : (other : ℕ) → other < cell → IsCell N other → IsUnheardAt N P other q x → ⊥
  pub other_bit : (right : List Bool) → IsStepAt N P q x right → bit right cell ≡ not value

-- the reason is the first one: that of the first point at which something is wrong, a false alarm before a cell. The input of a point is a
-- number of as many bits as inputs
abbrev pub IsFirstOfPoints : Circuit → CodePlan → PointReason → Type 0
IsFirstOfPoints N P (Quiet q input) =
    let x = bits_of N.inputs input in (input < 2 ^ N.inputs) × AreRightBefore N P q x × IsFalseAlarmAt N P q x
IsFirstOfPoints N P (Alarm net value q input) =
    let x = bits_of N.inputs input in
    (input < 2 ^ N.inputs) × AreRightBefore N P q x × (IsFalseAlarmAt N P q x → ⊥) × IsLeastUnheard N P net.number value q x

-- the answer: none where nothing is wrong at any point, else the first reason
abbrev pub IsPointAnswer : Circuit → CodePlan → Option PointReason → Type 0
IsPointAnswer N P None = IsHeardAtPoints N P
IsPointAnswer N P (Some reason) = IsFirstOfPoints N P reason

-- there is at most one answer: two are the same
abbrev pub OnePointAnswer : Type 0
OnePointAnswer = (N : Circuit) (P : CodePlan) (a b : Option PointReason) → IsPointAnswer N P a → IsPointAnswer N P b → a ≡ b
