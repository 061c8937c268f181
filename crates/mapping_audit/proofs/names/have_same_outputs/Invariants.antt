use Rattle.std.proofs.Common.{◌≡◌, ℕ, ◌<◌, slice_index}
use Rattle.tsc_net.specs.Names.{text_at}
use Rattle.mapping_audit.proofs.names.have_same_outputs.Given as goal

-- the outputs so far have the same names
abbrev pub invariant-loop-place : goal.invariant-loop-place
invariant-loop-place l = (k : ℕ) → k < l.place → text_at l.plain.names (slice_index l.plain.circuit.outputs k) ≡ text_at l.mapped.names (slice_index l.mapped.circuit.outputs k)
