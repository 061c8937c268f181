use Rattle.std.proofs.Common.{◌≡◌, take}
use Rattle.machine_synth.specs.MachineParts.{with_names}
use Rattle.machine_synth.proofs.beginning.add_names.Given as goal

-- so many names came
abbrev pub invariant-loop-place : goal.invariant-loop-place
invariant-loop-place l = l.parts ≡ with_names l.fn.parts (take l.place l.texts)
