use Rattle.std.proofs.Common.{◌≡◌, ℕ, ◌<◌}
use Rattle.tsc_net.specs.Names.{text_at}
use Rattle.mapping_audit.proofs.names.have_same_inputs.Given as goal

-- the inputs so far have the same names
abbrev pub invariant-loop-net : goal.invariant-loop-net
invariant-loop-net l = (k : ℕ) → k < l.net → text_at l.plain.names k ≡ text_at l.mapped.names k
