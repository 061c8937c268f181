-- Points of a bench that are points of a netlist with its plan.
use Rattle.std.proofs.Common.{◌≡◌, ℕ, ◌^◌, ◌/◌, ◌<◌, Bool, List, length, Some, sym, ap, subst, ◌∙◌, arith}
use Rattle.tsc_bits.specs.Bits.{bits_of}
use Rattle.tsc_bits.proofs.Bits.{bits_of-mod, length-bits_of}
use Rattle.fault_secure.specs.Circuit.{Circuit, bit}
use Rattle.fault_secure.specs.StuckAt.{StuckAt, NoFault, Stem}
use Rattle.fault_secure.specs.Settle.{Settles}
use Rattle.fault_secure.specs.CodePlan.{CodePlan}
use Rattle.fault_secure.specs.FailingCell.{IsCell}
use Rattle.fault_secure.specs.Exposing.{word_of_state}
use Rattle.point_laws.specs.Points.{IsFalseAlarmAt}
use Rattle.point_laws.specs.Heard.{IsUnheardAt, IsUnheardUnder}
use Rattle.point_laws.proofs.Steps.{settles_like, one_word}
use Rattle.point_laws.proofs.Heard.{unheard_stems_decide}
use Rattle.lane_sim.specs.Points.{PointsState, point_input, point_state}
use Rattle.lane_sim.specs.Places.{HasInputOf, HasStateOf, point_at}
use Rattle.lane_sim.specs.declared.point.Point.{Point}
use Rattle.unheard_cells.specs.There.{IsPointOf, IsFalseAlarmThere, IsUnheardThere}

-- what is put at a place is the place's point
pub place_point : (N : Circuit) (P : CodePlan) (count : ℕ) (points : PointsState) (p place : ℕ) → count ≡ N.inputs → P.latches ≡ length N.latches → HasInputOf count points p place
    → HasStateOf P count points p place → IsPointOf N P points p (point_at N.inputs place)
place_point N P count points p place same latches input state = record {
  word = state.word;
  is_state = subst (λ (n : ℕ). word_of_state P (place / 2 ^ n) ≡ Some state.word) same state.is_state;
  input = λ k h.
      input k (subst (λ (n : ℕ). k < n) (sym same) h)
      ∙ (ap (λ (n : ℕ). bit (bits_of n place) k) same ∙ ap (λ (bits : List Bool). bit bits k) (sym (bits_of-mod N.inputs place)));
  state = λ l h. state.state l (omega arith);
}

module _ (N : Circuit) (P : CodePlan) (points : PointsState) (p : ℕ) (point : Point) (is : IsPointOf N P points p point) where
  abbrev x : List Bool
  x = bits_of N.inputs point.input

  sized : length x ≡ N.inputs
  sized = length-bits_of N.inputs point.input

  -- what settles at the bench's point settles with the input and the state's word, and the other way
  to_point : (f : StuckAt) (v : List Bool) → Settles N f (point_input points p) (point_state points p) v → Settles N f (bit x) (bit is.word) v
  to_point f v h = settles_like N (point_input points p) (bit x) (point_state points p) (bit is.word) is.input is.state f v h

  from_point : (f : StuckAt) (w v : List Bool) → word_of_state P point.state ≡ Some w → Settles N f (bit x) (bit w) v
      → Settles N f (point_input points p) (point_state points p) v
  from_point f w v is_state h =
      settles_like N (bit x) (point_input points p) (bit is.word) (point_state points p) (λ k below. sym (is.input k below)) (λ l below. sym (is.state l below)) f v
      (subst (λ (word : List Bool). Settles N f (bit x) (bit word) v) (one_word P point.state w is.word is_state is.is_state) h)

  pub alarm_at : IsFalseAlarmThere N P points p → IsFalseAlarmAt N P point.state (bits_of N.inputs point.input)
  alarm_at there = record {
    valuation = there.valuation;
    step = record { word = is.word; is_state = is.is_state; sized = sized; settles = to_point NoFault there.valuation there.settles };
    rails_agree = there.rails_agree;
  }

  pub alarm_there : IsFalseAlarmAt N P point.state (bits_of N.inputs point.input) → IsFalseAlarmThere N P points p
  alarm_there at = record {
    valuation = at.valuation;
    settles = from_point NoFault at.step.word at.valuation at.step.is_state at.step.settles;
    rails_agree = at.rails_agree;
  }

  pub stem_at : (cell : ℕ) (held : Bool) → IsUnheardThere N P points cell held p → IsUnheardUnder N P cell held point.state (bits_of N.inputs point.input)
  stem_at cell held there = record {
    right = there.right;
    wrong = there.wrong;
    step = record { word = is.word; is_state = is.is_state; sized = sized; settles = to_point NoFault there.right there.settles };
    failing = record { word = is.word; is_state = is.is_state; sized = sized; settles = to_point (Stem cell held) there.wrong there.failing };
    unheard = there.unheard;
  }

  stem_there : (cell : ℕ) (held : Bool) → IsUnheardUnder N P cell held point.state (bits_of N.inputs point.input) → IsUnheardThere N P points cell held p
  stem_there cell held at = record {
    right = at.right;
    wrong = at.wrong;
    settles = from_point NoFault at.step.word at.right at.step.is_state at.step.settles;
    failing = from_point (Stem cell held) at.failing.word at.wrong at.failing.is_state at.failing.settles;
    unheard = at.unheard;
  }

  -- a cell fails unheard at the point exactly where its stem is unheard at the bench's, held at one of the two bits
  pub cell_at : (cell : ℕ) (held : Bool) → IsCell N cell → IsUnheardThere N P points cell held p → IsUnheardAt N P cell point.state (bits_of N.inputs point.input)
  cell_at cell held is_cell there = (unheard_stems_decide N P cell point.state x is_cell).1 (held, stem_at cell held there)

  pub cell_there : (cell : ℕ) → IsCell N cell → IsUnheardAt N P cell point.state (bits_of N.inputs point.input) → (held : Bool) × IsUnheardThere N P points cell held p
  cell_there cell is_cell at = let under = (unheard_stems_decide N P cell point.state x is_cell).0 at in (under.0, stem_there cell under.0 under.1)
