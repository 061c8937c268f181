-- The text that is written is read again as the netlist.
use Rattle.answers.proofs.LooseLemmas.{loose_synthesis}
use Rattle.answers.proofs.loose_synthesis.synth_pla.Goals as goal

pub returns-in-Ok-clause-answers : goal.returns-in-Ok-clause-answers
returns-in-Ok-clause-answers c =
    let made = c.in_ok-made.made in
    loose_synthesis c.args.way c.args.text.now c.in-Ok.bytes made.net made.plan c.in-Ok.ensures.text c.in-Ok.ensures.read c.in_ok-made.ensures.tabled c.in_ok-made.ensures.secure
