use Rattle.std.proofs.Common.{◌≡◌}
use Rattle.machine_synth.specs.MachineParts.{with_latches}
use Rattle.machine_synth.proofs.beginning.add_latches.Given as goal

-- so many latches came
abbrev pub invariant-loop-place : goal.invariant-loop-place
invariant-loop-place l = l.parts ≡ with_latches l.fn.parts l.first l.latches.count l.latches.word l.place
