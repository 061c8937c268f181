-- The cells so far.
use Rattle.std.proofs.Common.{◌≡◌}
use Rattle.unheard_cells.specs.There.{CellUnheardThere, IsLeastCell}
use Rattle.unheard_cells.specs.Trial.{IsRoom, IsSettled}
use Rattle.unheard_cells.proofs.cells.first_of_cells.Given as goal

abbrev pub invariant-loop-number : goal.invariant-loop-number
invariant-loop-number l = record {
  settled : IsSettled l.net.circuit l.plan l.trial l.right;
  room : IsRoom l.net.circuit l.plan l.wrong;
  points : l.trial.points ≡ l.initial.trial.points;
  found : IsLeastCell (CellUnheardThere l.net.circuit l.plan l.trial.points) l.number l.many l.found;
}
