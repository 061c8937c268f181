use Rattle.std.proofs.Common.{sym, subst}
use Rattle.synth_ways.specs.declared.way.Way.TheVariants.{Duplex}
use Rattle.answers.specs.NetworkAnswers.{IsSecureFor}
use Rattle.answers.proofs.SynthesisLemmas.{synthesis}
use Rattle.answers.proofs.blif_synthesis.network_text.Goals as goal

pub returns-in-Ok-clause-answers : goal.returns-in-Ok-clause-answers
returns-in-Ok-clause-answers c = λ text is.
    let made = c.in_ok-made.made in
    synthesis Duplex text c.in-Ok.bytes made.net made.plan c.in-Ok.ensures.text c.in-Ok.ensures.read
    (subst (λ s. IsSecureFor Duplex s made.net made.plan) (sym is) c.in_ok-made.ensures.secure)
