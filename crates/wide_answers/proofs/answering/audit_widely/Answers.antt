-- The network and the netlist, then the answer on them.
use Rattle.std.proofs.Common.{Some}
use Rattle.std.proofs.lemmas.Result.{IfErr-weaker}
use Rattle.refusals.specs.declared.limit.OwnLimit.TheVariants.{Rows}
use Rattle.text_sections.proofs.StopLemmas.{stops_refused}
use Rattle.wide_answers.specs.WideReply.{NeedsMoreRows, StopsJudged, StopsWide}
use Rattle.wide_answers.specs.WideSections.{wide_refusal}
use Rattle.wide_answers.proofs.WideLemmas.{replied, stopped}
use Rattle.wide_answers.proofs.answering.audit_widely.Goals as goal

pub returns-in-Err-clause-stopped : goal.returns-in-Err-clause-stopped
returns-in-Err-clause-stopped c =
    stops_refused (Some (Rows c.args.rows)) (wide_refusal c.args.text.now) (NeedsMoreRows c.args.rows c.args.text.now) c.in-Err.refusal c.in-Err.ensures.refused

pub returns-clause-answers : goal.returns-clause-answers
returns-clause-answers c =
    let read = c.in-Ok.read in
    let ensured = c.in-Ok.ensures in
    replied c.args.text.now c.get-rows.result c.args.rows read.source read.net read.plan c.get-rows.ensures.number ensured.source ensured.net ensured.plan
    c.answer_on.result c.answer_on.ensures.answers

pub returns-clause-stopped : goal.returns-clause-stopped
returns-clause-stopped c =
    let read = c.in-Ok.read in
    let ensured = c.in-Ok.ensures in
    IfErr-weaker c.answer_on.result (StopsJudged c.get-rows.result read.source.circuit read.net read.plan) (StopsWide c.args.rows c.args.text.now)
    (λ given stops. stopped c.args.text.now c.get-rows.result c.args.rows read.source read.net read.plan c.get-rows.ensures.number ensured.source ensured.net ensured.plan
    given ensured.allowed stops)
    c.answer_on.ensures.stopped
