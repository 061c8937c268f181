use Rattle.std.proofs.Common.{ℕ, ◌*◌, ◌<◌}
use Rattle.mapping_reading.specs.Pins.{at_of}
use Rattle.mapping_audit.specs.Values.{AreZeros, IsGiven}
use Rattle.mapping_audit.proofs.values.first_missed.Given as goal

-- the values of the blocks so far are given, and the words are 0 again
abbrev pub invariant-loop-block : goal.invariant-loop-block
invariant-loop-block l = record {
  zeros : AreZeros l.mapped.circuit l.words;
  given : (earlier : ℕ) → earlier < 64 * l.block → IsGiven l.plain.circuit l.mapped.circuit (at_of l.mapped.circuit l.moved) l.gates l.node earlier;
}
