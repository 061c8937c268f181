use Rattle.std.proofs.Common.{refl}
use Rattle.fault_sim.proofs.OpenLemmas.{shown_first, watched_first, watched_plan, points_first, state_first_sized, state_first}
use Rattle.fault_sim.proofs.sim.opened.Goals as goal

pub invariant_of-result : goal.invariant_of-result
invariant_of-result c =
    let N = c.args.net.now.circuit in
    let P = c.args.plan.now in
    let shown = c.in_ok-shown.shown in
    let is = c.in_ok-shown.ensures.shown in
    let bench = c.in_ok-bench.bench in
    let circuit = c.in_ok-bench.ensures.circuit in
    record {
      points = points_first N P shown is bench circuit c.in_ok-points.points c.in_ok-points.ensures.shape;
      shown = shown_first N P shown is bench circuit;
      watched = watched_first N P shown is bench circuit c.in_ok-bench.ensures.watched;
      state = state_first_sized N P shown is bench circuit c.deref.result.now c.in_ok-state.state c.deref.ensures.value c.in_ok-state.ensures.state;
      next = state_first_sized N P shown is bench circuit c.deref-2.result.now c.in_ok-next.next c.deref-2.ensures.value c.in_ok-next.ensures.state;
    }

pub returns : goal.returns
returns c =
    let N = c.args.net.now.circuit in
    let P = c.args.plan.now in
    let shown = c.in_ok-shown.shown in
    let is = c.in_ok-shown.ensures.shown in
    let bench = c.in_ok-bench.bench in
    let circuit = c.in_ok-bench.ensures.circuit in
    record {
      opened = record {
        circuit = circuit;
        watched = watched_plan N P shown is bench circuit c.in_ok-bench.ensures.watched;
        lanes = c.in_ok-bench.ensures.lanes;
        plan = is.plan;
        fault = refl;
        when = refl;
        step = refl;
        state = state_first N P shown is bench circuit c.deref.result.now c.in_ok-state.state c.deref.ensures.value c.in_ok-state.ensures.state;
      };
    }
