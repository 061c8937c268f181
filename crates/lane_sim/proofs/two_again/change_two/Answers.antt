use Rattle.std.proofs.Common.{◌∙◌}
use Rattle.tsc_net.specs.Fault.{stuck_at_or_none}
use Rattle.lane_sim.proofs.KernelLemmas.{two_free}
use Rattle.lane_sim.proofs.two_again.change_two.Goals as goal

pub returns-then-is_elsewhere-clause-here : goal.returns-then-is_elsewhere-clause-here
returns-then-is_elsewhere-clause-here c = λ p inside.
    c.change_free.ensures.here p inside
    ∙ two_free c.args.driver c.args.first (stuck_at_or_none c.args.fault) c.args.words.now c.args.block.now p c.requires.sources
    (c.is_elsewhere.ensures.elsewhere c.if-is_elsewhere.true) c.args.gate c.requires.first_operand c.requires.second_operand
