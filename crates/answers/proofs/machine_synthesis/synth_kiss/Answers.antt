-- The text that is written is read again as the netlist.
use Rattle.commands.specs.Words.{code_of}
use Rattle.answers.proofs.MachineLemmas.{machine_synthesis}
use Rattle.answers.proofs.machine_synthesis.synth_kiss.Goals as goal

pub returns-in-Ok-clause-answers : goal.returns-in-Ok-clause-answers
returns-in-Ok-clause-answers c =
    let made = c.in_ok-made.made in
    machine_synthesis (code_of c.args.code) c.args.text.now c.in-Ok.bytes made.net made.plan c.in-Ok.ensures.text c.in-Ok.ensures.read c.in_ok-made.ensures.secure
