use Rattle.std.proofs.Common.{ℕ, ◌<◌, slice_index}
use Rattle.mapping_reading.specs.Pins.{at_of, IsWellAt}
use Rattle.mapping_audit.proofs.pins.open_pin.Given as goal

-- the pins so far are well
abbrev pub invariant-loop-pin : goal.invariant-loop-pin
invariant-loop-pin l = (p : ℕ) → p < l.pin → IsWellAt l.plain.circuit l.mapped.circuit (at_of l.mapped.circuit l.moved) (slice_index l.blocks) l.gate p
