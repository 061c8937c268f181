use Rattle.std.proofs.Common.{◌≡◌, ℕ, ◌<◌, slice_index}
use Rattle.tsc_net.specs.PlanView.{net_numbers}
use Rattle.mapping_audit.proofs.same_gate.are_moved.Given as goal

-- the nets so far went to the pins
abbrev pub invariant-loop-pin : goal.invariant-loop-pin
invariant-loop-pin l = (k : ℕ) → k < l.pin → slice_index l.moved (slice_index (net_numbers l.reads) k) ≡ slice_index (net_numbers l.pins) k
