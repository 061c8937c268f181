use Rattle.std.proofs.Common.{◌∷◌, ap, ◌∙◌}
use Rattle.std.proofs.Common.{Bool, List}
use Rattle.fault_sim.specs.Sim.{answer_of}
use Rattle.sim_text.specs.StepLine.{bits_word}
use Rattle.sim_text.proofs.TakeLemmas.{step_ends}
use Rattle.sim_text.proofs.stepwise.print_call.Goals as goal

pub returns-clause-line : goal.returns-clause-line
returns-clause-line g c = λ rest.
    let after = c.step-view.new.self in
    step_ends c.args.widths c.args.sim.now after c.args.input.now rest (answer_of c.step-view.result after) _ _ c.requires.widths c.step-view.ensures.call
    c.print_step.result c.args.step c.requires.number
    (c.print_step.ensures.printed after.next
    (c.as_slice.ensures.whole ∙ (c.put_word.ensures.word ∙ ap (λ (bits : List Bool). 32 ∷ bits_word bits) c.next.ensures.bits)))
