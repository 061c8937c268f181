use Rattle.std.proofs.Common.{◌≡◌, take}
use Rattle.twin_synth.proofs.copies.same_groups.Given as goal

abbrev pub invariant-loop-group : goal.invariant-loop-group
invariant-loop-group l = l.all ≡ take l.group-index l.groups
