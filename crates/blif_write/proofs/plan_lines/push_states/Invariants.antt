use Rattle.std.proofs.Common.{◌≡◌, drop, map}
use Rattle.blif_write.specs.NetLines.{line_of_state}
use Rattle.blif_write.specs.Steps.{after_lines}
use Rattle.blif_write.proofs.plan_lines.push_states.Given as goal

abbrev pub invariant-loop-word : goal.invariant-loop-word
invariant-loop-word l =
    after_lines l.out (map (line_of_state l.width) (drop l.word-index l.words)) ≡ after_lines l.initial.out (map (line_of_state l.width) l.words)
