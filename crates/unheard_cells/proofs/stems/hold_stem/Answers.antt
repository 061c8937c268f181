use Rattle.std.proofs.Common.{ℕ, ◌*◌, ◌/◌, length, sym, ap, ◌∙◌, subst, IsTrue, take}
use Rattle.fault_secure.specs.Circuit.{Circuit}
use Rattle.fault_secure.specs.StuckAt.{Stem, is_listed}
use Rattle.point_laws.proofs.Steps.{stem_listed}
use Rattle.tsc_net.proofs.NetNumbers.{numbers_counted}
use Rattle.lane_sim.specs.FaultBench.{FaultBenchState, HaveLanesUnder}
use Rattle.unheard_cells.specs.There.{near_nets}
use Rattle.unheard_cells.proofs.WatchLemmas.{near_slice, near_below, near_counted, same_lanes}
use Rattle.unheard_cells.proofs.stems.hold_stem.Goals as goal

pub write_lanes-requires-clause-fault : goal.write_lanes-requires-clause-fault
write_lanes-requires-clause-fault c =
    subst (λ (C : Circuit). IsTrue (is_listed C (Stem c.args.cell.number c.args.held))) (sym c.requires.settled.is_trial.circuit)
    (stem_listed c.args.net.now.circuit c.args.cell.number c.args.held c.requires.cell)

pub write_lanes-requires-clause-shown : goal.write_lanes-requires-clause-shown
write_lanes-requires-clause-shown c =
    let t = c.requires.settled.is_trial in
    let N = c.args.net.now.circuit in
    let P = c.args.plan.now in
    let is = near_slice N P c.args.span c.args.trial.now.near c.get.result.now c.as_slice-near.result.now (length c.args.wrong.now) t.near c.requires.some c.requires.span.within
    c.get.ensures.item c.as_slice-near.ensures.whole c.requires.room in
    near_below N c.args.trial.now.bench.circuit P c.args.span (take (length c.args.wrong.now / 16) c.as_slice-near.result.now) t.circuit c.nets-nets.ensures.checked.closed t.plan is

pub write_lanes-requires-clause-room : goal.write_lanes-requires-clause-room
write_lanes-requires-clause-room c =
    let t = c.requires.settled.is_trial in
    let N = c.args.net.now.circuit in
    let P = c.args.plan.now in
    let is = near_slice N P c.args.span c.args.trial.now.near c.get.result.now c.as_slice-near.result.now (length c.args.wrong.now) t.near c.requires.some c.requires.span.within
    c.get.ensures.item c.as_slice-near.ensures.whole c.requires.room in
    let counted = numbers_counted (take (length c.args.wrong.now / 16) c.as_slice-near.result.now) (near_nets N P c.args.span) is
    ∙ near_counted N P c.args.span c.requires.some c.requires.span.within in
    c.requires.room ∙ ap (λ (n : ℕ). n * 16) (sym counted)

pub returns-clause-held : goal.returns-clause-held
returns-clause-held c =
    let t = c.requires.settled.is_trial in
    let N = c.args.net.now.circuit in
    let P = c.args.plan.now in
    let points = c.args.trial.now.points in
    let f = Stem c.args.cell.number c.args.held in
    let lanes = c.write_lanes.new.lanes in
    let is = near_slice N P c.args.span c.args.trial.now.near c.get.result.now c.as_slice-near.result.now (length c.args.wrong.now) t.near c.requires.some c.requires.span.within
    c.get.ensures.item c.as_slice-near.ensures.whole c.requires.room in
    subst (λ (n : ℕ). HaveLanesUnder N f points (near_nets N P c.args.span) n lanes) (near_counted N P c.args.span c.requires.some c.requires.span.within)
    (same_lanes c.args.trial.now.bench.circuit N f points (take (length c.args.wrong.now / 16) c.as_slice-near.result.now) (near_nets N P c.args.span) lanes t.circuit is
    (c.write_lanes.ensures.lanes points c.requires.settled.settled))

pub returns-clause-settled : goal.returns-clause-settled
returns-clause-settled c =
    let t = c.requires.settled.is_trial in
    record {
      is_trial = record {
        plan = t.plan;
        circuit = ap (λ (b : FaultBenchState). b.circuit) c.write_lanes.ensures.kept ∙ t.circuit;
        points = t.points;
        watch = t.watch;
        near = t.near;
        spans = t.spans;
      };
      settled = ap (λ (b : FaultBenchState). b.points) c.write_lanes.ensures.kept ∙ c.requires.settled.settled;
      room = c.requires.settled.room;
      lanes = c.requires.settled.lanes;
    }
