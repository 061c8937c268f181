use Rattle.std.proofs.Common.{◌≡◌, drop}
use Rattle.module_join.specs.JointNet.{input_names, with_texts}
use Rattle.module_join.proofs.inputs.add_inputs.Given as goal

abbrev pub invariant-loop-input : goal.invariant-loop-input
invariant-loop-input l = with_texts l.names (drop l.input (input_names l.net)) ≡ with_texts l.initial.names (input_names l.net)
