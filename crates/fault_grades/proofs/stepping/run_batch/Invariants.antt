-- The steps so far were taken, and the grades of the lanes say what they decided.
use Rattle.std.proofs.Common.{◌≡◌, ℕ, ◌<◌, ◌≤◌, length, take}
use Rattle.std.specs.Prelude.{slice_index_or}
use Rattle.lane_sim.specs.Lanes.{lane_bit}
use Rattle.fault_lanes.specs.Bench.{fault_of, state_of, IsSameBatch}
use Rattle.fault_grades.specs.Grade.{grade_at, is_left}
use Rattle.fault_grades.specs.declared.grade.Grade.TheVariants.{Unseen}
use Rattle.fault_grades.proofs.StandLemmas.{Stands}
use Rattle.fault_grades.proofs.stepping.run_batch.Given as goal

abbrev pub invariant-loop-step : goal.invariant-loop-step
invariant-loop-step l = record {
  same : IsSameBatch l.initial.bench l.bench;
  input : length l.input ≡ length l.initial.input;
  sized : length l.marks ≡ 1024;
  left : (lane : ℕ) → 0 < lane → lane ≤ l.count → lane_bit l.undecided lane ≡ is_left (slice_index_or l.marks lane Unseen);
  stands : (lane : ℕ) → 0 < lane → lane ≤ l.count
      → Stands l.initial.bench.circuit l.plan (fault_of l.initial.bench lane) (take l.limit l.steps) l.step (state_of l.bench 0) (state_of l.bench lane) (grade_at l.marks lane);
}
