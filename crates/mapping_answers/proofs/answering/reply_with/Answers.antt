-- A yes is a mapping.
use Rattle.std.proofs.Common.{subst}
use Rattle.mapping_audit.specs.MappedAnswer.{IsMappedAnswer, IsSecureWhereYes}
use Rattle.mapping_answers.proofs.MappedLemmas.{is_mapping, yes_replied}
use Rattle.mapping_answers.proofs.answering.reply_with.Goals as goal

pub returns-in-Ok-clause-answers : goal.returns-in-Ok-clause-answers
returns-in-Ok-clause-answers c =
    let N = c.args.plain.now in
    let G = c.args.mapped.now in
    yes_replied N G c.finished.result c.in-Ok.bytes c.finished.ensures.reply
    (is_mapping N G (subst (IsMappedAnswer N G) c.in-Yes.is c.requires.answer) (subst (IsSecureWhereYes N G) c.in-Yes.is c.requires.secure) c.requires.acyclic)
    c.in-Ok.ensures.text
