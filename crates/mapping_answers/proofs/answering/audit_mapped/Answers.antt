-- The two netlists, then the answer on them.
use Rattle.std.proofs.Common.{Some}
use Rattle.std.proofs.lemmas.Result.{IfErr-weaker}
use Rattle.refusals.specs.declared.limit.OwnLimit.TheVariants.{Pins}
use Rattle.text_sections.proofs.StopLemmas.{stops_refused}
use Rattle.mapping_answers.specs.MappedReply.{HasWideCoverIn, StopsMapped, StopsPair}
use Rattle.mapping_answers.specs.MappedSections.{mapped_refusal}
use Rattle.mapping_answers.proofs.MappedLemmas.{replied, stopped}
use Rattle.mapping_answers.proofs.answering.audit_mapped.Goals as goal

pub returns-in-Err-clause-stopped : goal.returns-in-Err-clause-stopped
returns-in-Err-clause-stopped c =
    let text = c.args.text.now in
    stops_refused (Some Pins) (mapped_refusal text) (HasWideCoverIn text) c.in-Err.refusal c.in-Err.ensures.refused

pub returns-clause-answers : goal.returns-clause-answers
returns-clause-answers c =
    replied c.args.text.now c.in-Ok.pair.other_clock c.in-Ok.pair.plain c.in-Ok.pair.mapped c.in-Ok.ensures.clocks c.in-Ok.ensures.plain c.in-Ok.ensures.mapped
    c.answer_on.result c.answer_on.ensures.answers

pub returns-clause-stopped : goal.returns-clause-stopped
returns-clause-stopped c =
    IfErr-weaker c.answer_on.result (StopsPair c.in-Ok.pair.other_clock c.in-Ok.pair.plain c.in-Ok.pair.mapped) (StopsMapped c.args.text.now)
    (λ given stops. stopped c.args.text.now c.in-Ok.pair.other_clock c.in-Ok.pair.plain c.in-Ok.pair.mapped c.in-Ok.ensures.clocks c.in-Ok.ensures.plain c.in-Ok.ensures.mapped
    given c.in-Ok.ensures.allowed stops)
    c.answer_on.ensures.stopped
