use Rattle.std.proofs.Common.{◌+◌, ◌<◌, arith}
use Rattle.behaviour_audit.proofs.WatchLemmas.{shows_input}
use Rattle.behaviour_audit.proofs.reference.settle_outputs.Goals as goal
use Rattle.lane_sim.specs.Places.{point_at}

pub returns-clause-shows : goal.returns-clause-shows
returns-clause-shows c = λ slot inside.
    let C = c.args.net.now.circuit in
    let below : slot < 1024 = omega arith in (
      c.settle.ensures.settled,
      shows_input C c.settle.new.watch.bench c.put_inputs.new.watch.points slot (point_at C.inputs (c.args.first + slot)) c.requires.latches (c.put_inputs.ensures.put slot inside) (c.settle.ensures.shows slot below),
    )
