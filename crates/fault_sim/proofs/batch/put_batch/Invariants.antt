use Rattle.std.proofs.Common.{◌≡◌, ℕ, ◌+◌, ◌/◌, ◌<◌, length}
use Rattle.tsc_bits.specs.Bits.{bits_of}
use Rattle.fault_sim.specs.Batch.{input_of, IsPoint}
use Rattle.fault_sim.proofs.batch.put_batch.Given as goal

abbrev pub invariant-loop-point : goal.invariant-loop-point
invariant-loop-point l = record {
  inputs : l.points.inputs ≡ l.initial.points.inputs;
  latches : l.points.latches ≡ l.initial.points.latches;
  put : (p : ℕ) → p < l.point → IsPoint l.points p (input_of l.inputs (l.first + p)) (bits_of l.initial.points.latches ((l.first + p) / length l.inputs));
}
