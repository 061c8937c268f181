use Rattle.std.proofs.Common.{refl, ap}
use Rattle.gate_net.specs.Negations.{is_input}
use Rattle.state_code.proofs.OverInputs.{over_twice}
use Rattle.state_code.proofs.matching.input_line.Goals as goal

pub returns-in_err-line-clause-grown : goal.returns-in_err-line-clause-grown
returns-in_err-line-clause-grown c = c.add.ensures.over_inputs refl refl

pub returns-then-wanted-clause-grown : goal.returns-then-wanted-clause-grown
returns-then-wanted-clause-grown c = c.add.ensures.over_inputs refl refl

pub returns-else-wanted-clause-grown : goal.returns-else-wanted-clause-grown
returns-else-wanted-clause-grown c =
    over_twice c.args.gates.now c.add.new.gates c.add-else-wanted.new.gates (c.add.ensures.over_inputs refl refl) (c.add-else-wanted.ensures.over_inputs refl (ap is_input c.in_ok-line.ensures.stored))
