use Rattle.std.proofs.Common.{◌≡◌, ◌/◌, ap, sym, ◌∙◌, subst, arith}
use Rattle.tsc_net.specs.Fault.{stuck_at_or_none}
use Rattle.lane_sim.specs.Operation.{operation_bit, IsFit}
use Rattle.lane_sim.specs.Along.{row_there}
use Rattle.lane_sim.specs.Points.{source_bit}
use Rattle.lane_sim.specs.ProgramView.{program_as}
use Rattle.lane_sim.specs.declared.gate.Step.{Step}
use Rattle.lane_sim.proofs.ProgramLemmas.{keeps_along, step_fits, step_gives, step_row}
use Rattle.lane_sim.proofs.program.Program.settle_place.Goals as goal

pub change_step-requires-clause-fit : goal.change_step-requires-clause-fit
change_step-requires-clause-fit c =
    let steps = c.self.inside.steps in
    let keeps = keeps_along (program_as c.self.inside) c.args.self.now steps c.self.view_is c.self.invariant in
    let step = c.index.result.now in
    subst (λ (s : Step). IsFit c.words.result.now c.args.block.now steps.flat s.operation) (sym c.index.ensures)
    (step_fits c.args.self.now steps keeps c.words.result.now c.args.block.now (omega arith) c.requires.rows c.args.place step c.requires.place)

pub returns-clause-here : goal.returns-clause-here
returns-clause-here c = λ p below.
    let program = c.args.self.now in
    let steps = c.self.inside.steps in
    let keeps = keeps_along (program_as c.self.inside) program steps c.self.view_is c.self.invariant in
    let step = c.index.result.now in
    let place = c.args.place in
    let f = stuck_at_or_none c.args.fault in
    let words = c.args.points.now.words in
    let block = c.args.block.now in
    let row : row_there program place ≡ step.to / 16 = step_row program steps keeps place step c.requires.place ∙ ap (λ (s : Step). s.to / 16) (sym c.index.ensures) in
    ap (λ r. source_bit c.change_step.new.block r p) row
    ∙ c.change_step.ensures.here p below
    ∙ (λ i. operation_bit f step.driver (c.words.ensures.words i) block p steps.flat step.operation)
    ∙ ap (λ (s : Step). operation_bit f s.driver words block p steps.flat s.operation) c.index.ensures
    ∙ step_gives program steps keeps f words block place step c.requires.place p

pub returns-clause-same : goal.returns-clause-same
returns-clause-same c = λ none p below.
    let program = c.args.self.now in
    let steps = c.self.inside.steps in
    let keeps = keeps_along (program_as c.self.inside) program steps c.self.view_is c.self.invariant in
    let step = c.index.result.now in
    let row : row_there program c.args.place ≡ step.to / 16 = step_row program steps keeps c.args.place step c.requires.place ∙ ap (λ (s : Step). s.to / 16) (sym c.index.ensures) in
    ap (λ r. source_bit c.change_step.new.block r p) row
    ∙ c.change_step.ensures.same none p below
    ∙ ap (λ r. source_bit c.args.block.now r p) (sym row)
