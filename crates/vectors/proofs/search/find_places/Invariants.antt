-- The places of the batches so far.
use Rattle.std.proofs.Common.{◌*◌, min}
use Rattle.net_cones.specs.Cones.{MarksCone}
use Rattle.vectors.specs.Trial.{IsTrialOf, AreAllFirst}
use Rattle.vectors.specs.Unheard.{rails}
use Rattle.vectors.proofs.search.find_places.Given as goal

abbrev pub invariant-loop-batch : goal.invariant-loop-batch
invariant-loop-batch l = record {
  trial : IsTrialOf l.net.circuit l.trial;
  marks : MarksCone l.net.circuit (rails l.plan) l.unheard.heard.items;
  found : AreAllFirst l.net.circuit l.plan (min (l.batch * 1024) l.count) l.places;
}
