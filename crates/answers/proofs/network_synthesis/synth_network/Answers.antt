-- The text that is written is read again as the netlist.
use Rattle.answers.proofs.SynthesisLemmas.{synthesis}
use Rattle.answers.proofs.network_synthesis.synth_network.Goals as goal

pub returns-in-Ok-clause-answers : goal.returns-in-Ok-clause-answers
returns-in-Ok-clause-answers c =
    let made = c.in_ok-made.made in
    synthesis c.args.way c.args.text.now c.in-Ok.bytes made.net made.plan c.in-Ok.ensures.text c.in-Ok.ensures.read c.in_ok-made.ensures.secure
