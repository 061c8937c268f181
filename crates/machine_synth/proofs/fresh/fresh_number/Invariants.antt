-- No number below is free: the search goes on from here.
use Rattle.std.proofs.Common.{◌≡◌, ◌++◌, length, ◌-◌}
use Rattle.tsc_net.specs.Parts.{free_number, free_number_from}
use Rattle.machine_synth.proofs.fresh.fresh_number.Given as goal

abbrev pub invariant-loop-number : goal.invariant-loop-number
invariant-loop-number l = free_number_from (l.inputs ++ l.outputs) (length (l.inputs ++ l.outputs) - l.number) l.number ≡ free_number (l.inputs ++ l.outputs)
