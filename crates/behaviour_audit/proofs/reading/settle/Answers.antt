use Rattle.std.proofs.Common.{◌∙◌, subst}
use Rattle.fault_secure.specs.Circuit.{Circuit}
use Rattle.fault_secure.specs.StuckAt.{NoFault}
use Rattle.lane_sim.specs.Bench.{HasOneValuationEach}
use Rattle.behaviour_audit.proofs.WatchLemmas.{settled_shows}
use Rattle.behaviour_audit.proofs.reading.settle.Goals as goal

pub returns-clause-shows : goal.returns-clause-shows
returns-clause-shows c =
    let points = c.args.watch.now.points in
    settled_shows c.args.net.now.circuit c.settle.new.self points (c.settle.ensures.circuit ∙ c.requires.watch.circuit) c.settle.ensures.shows
    (subst (λ (C : Circuit). HasOneValuationEach C NoFault points) c.requires.watch.circuit c.settle.ensures.one)
