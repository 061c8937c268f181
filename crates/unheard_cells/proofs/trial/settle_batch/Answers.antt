use Rattle.std.proofs.Common.{sym, ap, ◌∙◌, subst}
use Rattle.fault_secure.specs.Circuit.{Circuit}
use Rattle.fault_secure.specs.StuckAt.{NoFault}
use Rattle.tsc_net.specs.PlanView.{net_numbers}
use Rattle.lane_sim.specs.Points.{ArePointsOf}
use Rattle.lane_sim.specs.FaultBench.{FaultBenchState}
use Rattle.unheard_cells.specs.There.{watched_nets}
use Rattle.unheard_cells.proofs.WatchLemmas.{watch_below, watch_room, same_lanes}
use Rattle.unheard_cells.proofs.trial.settle_batch.Goals as goal

pub settle-requires : goal.settle-requires
settle-requires c =
    let trial = c.args.trial.now in
    record { points = subst (λ (C : Circuit). ArePointsOf C trial.points) (sym c.requires.trial.circuit) c.requires.trial.points }

pub write_lanes-requires-clause-shown : goal.write_lanes-requires-clause-shown
write_lanes-requires-clause-shown c =
    watch_below c.args.net.now.circuit c.settle.new.self.circuit c.args.plan.now c.as_slice.result.now (c.settle.ensures.circuit ∙ c.requires.trial.circuit)
    c.nets-nets.ensures.checked.closed c.requires.trial.plan (ap net_numbers c.as_slice.ensures.whole ∙ c.requires.trial.watch)

pub write_lanes-requires-clause-room : goal.write_lanes-requires-clause-room
write_lanes-requires-clause-room c =
    watch_room c.args.net.now.circuit c.args.plan.now c.as_slice.result.now c.args.right.now (ap net_numbers c.as_slice.ensures.whole ∙ c.requires.trial.watch) c.requires.room

pub returns-clause-settled : goal.returns-clause-settled
returns-clause-settled c =
    let t = c.requires.trial in
    let N = c.args.net.now.circuit in
    let P = c.args.plan.now in
    let points = c.args.trial.now.points in
    let circuit = c.settle.ensures.circuit ∙ t.circuit in
    record {
      is_trial = record {
        plan = t.plan;
        circuit = ap (λ (b : FaultBenchState). b.circuit) c.write_lanes.ensures.kept ∙ circuit;
        points = t.points;
        watch = t.watch;
        near = t.near;
        spans = t.spans;
      };
      settled = ap (λ (b : FaultBenchState). b.points) c.write_lanes.ensures.kept ∙ c.settle.ensures.points;
      room = c.write_lanes.ensures.room ∙ c.requires.room;
      lanes = same_lanes c.settle.new.self.circuit N NoFault points c.as_slice.result.now (watched_nets N P) c.write_lanes.new.lanes circuit
          (ap net_numbers c.as_slice.ensures.whole ∙ t.watch) (c.write_lanes.ensures.lanes points c.settle.ensures.points);
    }
