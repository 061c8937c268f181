use Rattle.std.proofs.Common.{◌≡◌, drop, map}
use Rattle.blif_write.specs.NetLines.{line_of_group}
use Rattle.blif_write.specs.Steps.{after_lines}
use Rattle.blif_write.proofs.plan_lines.push_groups.Given as goal

abbrev pub invariant-loop-group : goal.invariant-loop-group
invariant-loop-group l =
    after_lines l.out (map (line_of_group l.net) (drop l.group-index l.groups)) ≡ after_lines l.initial.out (map (line_of_group l.net) l.groups)
