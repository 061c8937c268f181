use Rattle.std.proofs.Common.{◌≡◌, ◌≢◌, ℕ, ◌-◌, ◌*◌, ◌<◌, length, ap, sym, ◌∙◌, subst, arith}
use Rattle.tsc_net.specs.Fault.{stuck_at_or_none}
use Rattle.tsc_net.specs.Order.{fan_ins, evaluation_order}
use Rattle.lane_sim.specs.Along.{row_there, place_bit, HoldsNodes}
use Rattle.lane_sim.specs.Points.{source_bit}
use Rattle.lane_sim.specs.ProgramView.{program_as}
use Rattle.lane_sim.proofs.ProgramLemmas.{keeps_along, places_are, nodes_more, sources_stay, next_inside, next_starts, next_room, next_fits, next_row, next_gives}
use Rattle.lane_sim.proofs.WalkLemmas.{next, left}
use Rattle.lane_sim.proofs.program.Program.take_steps.Goals as goal

pub settle_step-requires-clause-start : goal.settle_step-requires-clause-start
settle_step-requires-clause-start g c =
    let keeps = keeps_along (program_as c.self.inside) c.args.self.now c.self.inside.steps c.self.view_is c.self.invariant in
    let i = c.loop-step.invariant in
    next_starts c.args.self.now c.self.inside.steps keeps c.as_slice-rest.result.now c.loop-step.rest.now c.in-Some.behind.now c.in-Some.step.now c.as_slice-rest.ensures.value
    c.in-Some.ensures.cases.0 i.sized i.walked

pub settle_step-requires-clause-room : goal.settle_step-requires-clause-room
settle_step-requires-clause-room g c =
    let keeps = keeps_along (program_as c.self.inside) c.args.self.now c.self.inside.steps c.self.view_is c.self.invariant in
    let i = c.loop-step.invariant in
    next_room c.args.self.now c.self.inside.steps keeps c.as_slice-rest.result.now c.loop-step.rest.now c.in-Some.behind.now c.in-Some.step.now c.as_slice-rest.ensures.value
    c.in-Some.ensures.cases.0 i.sized i.walked c.loop-step.block i.rows

pub settle_step-requires-clause-fit : goal.settle_step-requires-clause-fit
settle_step-requires-clause-fit g c =
    let keeps = keeps_along (program_as c.self.inside) c.args.self.now c.self.inside.steps c.self.view_is c.self.invariant in
    let i = c.loop-step.invariant in
    next_fits c.args.self.now c.self.inside.steps keeps c.as_slice-rest.result.now c.loop-step.rest.now c.in-Some.behind.now c.in-Some.step.now c.as_slice-rest.ensures.value
    c.in-Some.ensures.cases.0 i.sized i.walked c.args.words.now c.loop-step.block c.requires.sources i.rows

pub loop-step-preserved : goal.loop-step-preserved
loop-step-preserved g c =
    let program = c.args.self.now in
    let steps = c.self.inside.steps in
    let keeps = keeps_along (program_as c.self.inside) program steps c.self.view_is c.self.invariant in
    let items = c.as_slice-rest.ensures.value in
    let all = c.as_slice-rest.result.now in
    let rest = c.loop-step.rest.now in
    let step = c.in-Some.step.now in
    let behind = c.in-Some.behind.now in
    let is = c.in-Some.ensures.cases.0 in
    let i = c.loop-step.invariant in
    let place = length all - length rest in
    let f = stuck_at_or_none c.args.fault in
    let words = c.args.words.now in
    let old = c.loop-step.block in
    let new = c.settle_step.new.block in
    let inside : place < length (evaluation_order (fan_ins program.circuit)) =
    omega (arith, places_are program steps keeps, next_inside program steps keeps all rest behind step items is i.sized i.walked) in
    let row = next_row program steps keeps all rest behind step items is i.sized i.walked in
    let here : (p : ℕ) → p < g.row.N * 64 → source_bit new (row_there program place) p ≡ place_bit program f words old place p =
    (λ p below.
    ap (λ r. source_bit new r p) (sym row)
    ∙ c.settle_step.ensures.here p below
    ∙ next_gives program steps keeps all rest behind step items is i.sized i.walked f words old p) in
    let others : (other p : ℕ) → other ≢ row_there program place → p < g.row.N * 64 → source_bit new other p ≡ source_bit old other p =
    (λ other p apart below. c.settle_step.ensures.others other p below (λ same. apart (same ∙ row))) in
    record {
      sized = omega (arith, i.sized, c.in-Some.ensures.cases.1);
      walked = left all rest behind step is i.sized i.walked step;
      sources = sources_stay program steps keeps (g.row.N * 64) f words old new place inside here others i.sources;
      nodes = subst (HoldsNodes (g.row.N * 64) program f words new) (sym (next all rest behind step is i.sized i.walked))
          (nodes_more program steps keeps (g.row.N * 64) f words old new place inside here others i.nodes);
      rows = c.settle_step.ensures.sized ∙ i.rows;
    }
