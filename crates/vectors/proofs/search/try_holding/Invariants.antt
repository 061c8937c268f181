-- Of the faults of the pass the first ones have been tried at the points of the batch.
use Rattle.std.proofs.Common.{◌≡◌, ◌-◌}
use Rattle.vectors.specs.Trial.{AreFirst}
use Rattle.vectors.specs.Unheard.{IsKnown}
use Rattle.vectors.proofs.search.try_holding.Given as goal

abbrev pub invariant-loop-number : goal.invariant-loop-number
invariant-loop-number l = record {
  same : l.trial ≡ l.initial.trial;
  known : IsKnown l.net.circuit l.plan l.trial.points (l.past - l.first) l.unheard;
  found : AreFirst l.net.circuit l.plan l.held l.number l.past l.first l.places;
}
