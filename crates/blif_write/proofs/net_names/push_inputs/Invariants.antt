use Rattle.std.proofs.Common.{◌≡◌, drop, take}
use Rattle.blif_write.specs.Steps.{after_words}
use Rattle.blif_write.proofs.net_names.push_inputs.Given as goal

abbrev pub invariant-loop-number : goal.invariant-loop-number
invariant-loop-number l =
    after_words l.out (drop l.number (take l.net.circuit.inputs l.net.names)) ≡ after_words l.initial.out (take l.net.circuit.inputs l.net.names)
