use Rattle.std.proofs.Common.{◌≡◌, take}
use Rattle.checker_audit.specs.Program.{checker_places}
use Rattle.checker_audit.proofs.program.outside_places.Given as goal

abbrev pub invariant-loop-place : goal.invariant-loop-place
invariant-loop-place l = l.places.items ≡ checker_places l.rails l.function (take l.place-index l.order)
