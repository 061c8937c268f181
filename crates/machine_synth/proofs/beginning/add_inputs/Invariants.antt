use Rattle.std.proofs.Common.{◌≡◌}
use Rattle.machine_synth.specs.MachineParts.{with_inputs}
use Rattle.machine_synth.proofs.beginning.add_inputs.Given as goal

-- so many inputs came
abbrev pub invariant-loop-place : goal.invariant-loop-place
invariant-loop-place l = l.parts ≡ with_inputs l.fn.parts l.place
