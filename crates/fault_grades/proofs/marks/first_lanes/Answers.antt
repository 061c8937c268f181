use Rattle.std.proofs.Common.{◌≡◌, ℕ, ◌+◌, ◌<◌, ◌≤◌, true, List, ap, ◌∙◌, inl, inr, arith}
use Rattle.std.proofs.lemmas.Bool.{cases_eq}
use Rattle.lane_sim.specs.Lanes.{lane_bit}
use Rattle.fault_grades.proofs.marks.first_lanes.Goals as goal

set_more : (old new : List ℕ) (index : ℕ) → lane_bit new (index + 1) ≡ true → ((other : ℕ) → (other ≡ index + 1 → ⊥) → lane_bit new other ≡ lane_bit old other)
    → ((lane : ℕ) → 0 < lane → lane ≤ index → lane_bit old lane ≡ true) → (lane : ℕ) → 0 < lane → lane ≤ index + 1 → lane_bit new lane ≡ true
set_more old new index here others before lane some low = elim (cases_eq lane (index + 1)) [
  | inl same ↦ ap (lane_bit new) same ∙ here
  | inr apart ↦ others lane apart ∙ before lane some (omega (arith, apart))
]

pub loop-index-preserved : goal.loop-index-preserved
loop-index-preserved c = record {
  sized = omega arith;
  set = set_more c.loop-index.words c.set_lane.new.words c.loop-index.index c.set_lane.ensures.here c.set_lane.ensures.others c.loop-index.invariant.set;
}
