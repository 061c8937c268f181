use Rattle.std.proofs.lemmas.Result.{err_from_is_err_and}
use Rattle.answers.proofs.SynthesisLemmas.{secure_in}
use Rattle.answers.proofs.SizeLemmas.{refused-text}
use Rattle.answers.proofs.network_synthesis.network_synthesis_in.Goals as goal

pub returns-in_err-source-clause-refused : goal.returns-in_err-source-clause-refused
returns-in_err-source-clause-refused c =
    let p = err_from_is_err_and c.from_residual.result c.from_residual.ensures.1 in rw (p.1, p.2) (
    refused-text c.args.way c.args.text.now c.in_err-source.field-0.0 c.in_err-source.ensures.refused)

pub returns-clause-secure : goal.returns-clause-secure
returns-clause-secure c = secure_in c.args.way c.args.text.now c.in_ok-source.source c.in_ok-made.made.net c.in_ok-made.made.plan c.in_ok-source.ensures.exact c.in_ok-made.ensures.secure
