-- What a netlist is tried with, and what is known of it once it was settled at a batch of points.
use Rattle.std.specs.Prelude.{◌≡◌, ℕ, ◌+◌, ◌*◌, ◌<◌, ◌≤◌, List, ◌∷◌, drop, length, slice_index_or, Option, Some, None}
use Rattle.tsc_bits.specs.Bits.{bits_of}
use Rattle.fault_secure.specs.Circuit.{Circuit}
use Rattle.fault_secure.specs.StuckAt.{NoFault}
use Rattle.fault_secure.specs.CodePlan.{CodePlan, IsPlanOf}
use Rattle.tsc_net.specs.PlanView.{net_numbers}
use Rattle.tsc_net.specs.declared.ids.NetId.{NetId}
use Rattle.lane_sim.specs.Points.{ArePointsOf, PointsState}
use Rattle.lane_sim.specs.Places.{point_at}
use Rattle.lane_sim.specs.FaultBench.{HaveLanesUnder}
use Rattle.lane_sim.specs.declared.point.Point.{Point}
use Rattle.point_laws.specs.Points.{IsFalseAlarmAt}
use Rattle.unheard_cells.specs.PointReason.{IsWrongAt, IsLeastUnheard}
use Rattle.unheard_cells.specs.There.{shown_nets, watched_nets, IsPointOf}
use Rattle.unheard_cells.specs.Spans.{AreSpansOf}
use Rattle.unheard_cells.specs.declared.cells.FoundCell.{FoundCell}
use Rattle.unheard_cells.specs.declared.reason.PointReason.{PointReason}
use Rattle.unheard_cells.specs.declared.reason.PointReason.TheVariants.{Quiet, Alarm}
use Rattle.unheard_cells.specs.declared.trial.Trial.{Trial}

-- a list for each place of what is seen from outside: the rails, then the nets from the place on
pub record AreNear (P : CodePlan) (shown : List ℕ) (near : List (List NetId)) : Type 0 where
  pub sized : length near ≡ length shown
  pub each : (low : ℕ) (d : List NetId) → low < length near → net_numbers (slice_index_or near low d) ≡ P.rail1 ∷ (P.rail2 ∷ drop low shown)

-- the bench and the points are of the netlist, the nets are the watched ones, and the spans tell where those stand that depend on a node
pub record IsTrialOf (N : Circuit) (P : CodePlan) (trial : Trial) : Type 0 where
  pub plan : IsPlanOf N P
  pub circuit : trial.bench.circuit ≡ N
  pub points : ArePointsOf N trial.points
  pub watch : net_numbers trial.watch ≡ watched_nets N P
  pub near : AreNear P (shown_nets N P) trial.near
  pub spans : AreSpansOf N (shown_nets N P) (length (shown_nets N P)) trial.spans.items

-- so many words are room for the lanes of the watched nets
abbrev pub IsRoom : Circuit → CodePlan → List ℕ → Type 0
IsRoom N P lanes = length lanes ≡ length (watched_nets N P) * 16

-- it has settled at its points, and these are the lanes of the watched nets there without a fault
pub record IsSettled (N : Circuit) (P : CodePlan) (trial : Trial) (right : List ℕ) : Type 0 where
  pub is_trial : IsTrialOf N P trial
  pub settled : trial.bench.points ≡ Some trial.points
  pub room : IsRoom N P right
  pub lanes : HaveLanesUnder N NoFault trial.points (watched_nets N P) (length (watched_nets N P)) right

-- the first points of a bench, so many of them, are those at the places from `first` on
abbrev pub ArePointsFrom : Circuit → CodePlan → PointsState → ℕ → ℕ → Type 0
ArePointsFrom N P points first many = (p : ℕ) → p < many → IsPointOf N P points p (point_at N.inputs (first + p))

-- something is wrong at the point at a place
abbrev pub IsWrongPlace : Circuit → CodePlan → ℕ → Type 0
IsWrongPlace N P place = let point = point_at N.inputs place in IsWrongAt N P point.state (bits_of N.inputs point.input)

-- the reason is that of a point
abbrev pub IsReasonOf : Circuit → CodePlan → Point → PointReason → Type 0
IsReasonOf N P point (Quiet q input) = (q ≡ point.state) × (input ≡ point.input) × IsFalseAlarmAt N P point.state (bits_of N.inputs point.input)
IsReasonOf N P point (Alarm net value q input) =
    let x = bits_of N.inputs point.input in
    (q ≡ point.state) × (input ≡ point.input) × (IsFalseAlarmAt N P point.state x → ⊥) × IsLeastUnheard N P net.number value point.state x

-- the reason of the first place from `low` on and below `high` that has one; none where none has
pub record IsFirstReason (N : Circuit) (P : CodePlan) (low high : ℕ) (reason : PointReason) : Type 0 where
  pub place : ℕ
  pub from : low ≤ place
  pub below : place < high
  pub here : IsReasonOf N P (point_at N.inputs place) reason
  pub before : (p : ℕ) → low ≤ p → p < place → IsWrongPlace N P p → ⊥

abbrev pub IsFirstAnswer : Circuit → CodePlan → ℕ → ℕ → Option PointReason → Type 0
IsFirstAnswer N P low high None = (p : ℕ) → low ≤ p → p < high → IsWrongPlace N P p → ⊥
IsFirstAnswer N P low high (Some reason) = IsFirstReason N P low high reason

-- the reason of what was found in a batch that begins at a place: a cell, or else a false alarm
abbrev pub reason_of : ℕ → ℕ → Option ℕ → Option FoundCell → Option PointReason
reason_of inputs first quiet (Some found) =
    let at = point_at inputs (first + found.point) in Some (Alarm found.cell found.held at.state at.input)
reason_of inputs first (Some p) None = let at = point_at inputs (first + p) in Some (Quiet at.state at.input)
reason_of inputs first None None = None
