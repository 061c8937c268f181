use Rattle.std.proofs.Common.{◌≡◌, ◌++◌, drop}
use Rattle.refusals.specs.Notes.{blanked}
use Rattle.refusals.proofs.note.push_cycle.Given as goal

abbrev pub invariant-loop-net : goal.invariant-loop-net
invariant-loop-net l = l.out ++ blanked (drop l.net-index l.net-items) ≡ l.initial.out ++ blanked l.net-items
