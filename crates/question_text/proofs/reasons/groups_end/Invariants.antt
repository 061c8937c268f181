use Rattle.std.proofs.Common.{◌≡◌, drop}
use Rattle.question_text.specs.Reasons.{groups_end}
use Rattle.question_text.proofs.reasons.groups_end.Given as goal

abbrev pub invariant-loop-group : goal.invariant-loop-group
invariant-loop-group l =
    groups_end l.at (drop l.group-index l.groups) ≡ groups_end l.first l.groups
