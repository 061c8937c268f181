-- One line after the other.
use Rattle.std.proofs.Common.{ap, ◌∙◌, arith}
use Rattle.tsc_text.specs.TextLine.{TextLine}
use Rattle.table_lines.proofs.LineFacts.{fault_found, fault_later}
use Rattle.kiss_read.specs.LineKind.{kind_of}
use Rattle.kiss_read.specs.Faults.{fault_behind, first_fault}
use Rattle.kiss_read.specs.Survey.{survey_behind}
use Rattle.kiss_read.proofs.Refused.{line_refused}
use Rattle.kiss_read.proofs.Surveyed.{survey_next, within_next}
use Rattle.kiss_read.proofs.survey.survey_of.Goals as goal

pub returns-in-Some-clause-refused : goal.returns-in-Some-clause-refused
returns-in-Some-clause-refused c =
    let lines = c.args.section.now in
    let whole = first_fault lines in
    line_refused whole c.number-line.result c.in-Some.cause c.line_refusal.result
    (fault_found fault_behind lines c.loop-place.place (omega arith) c.number-line.result c.in-Some.cause whole c.in-Some.ensures.fault
    (c.number-line.ensures.number ∙ ap (λ (line : TextLine). line.number) c.line-line.ensures.line) c.loop-place.invariant.fault)
    c.line_refusal.ensures.refusal

pub loop-place-preserved : goal.loop-place-preserved
loop-place-preserved c =
    let lines = c.args.section.now in
    let behind = c.in-Ok.ensures.behind ∙ ap (λ (line : TextLine). survey_behind c.loop-place.survey (kind_of line) line) c.line-line.ensures.line in
    record {
      survey = survey_next lines c.loop-place.place (omega arith)
          c.loop-place.survey c.line.new.self c.loop-place.invariant.survey behind c.in-None.ensures.fault;
      limits = within_next lines c.loop-place.place (omega arith)
          c.loop-place.survey c.line.new.self c.loop-place.invariant.survey behind c.in-None.ensures.fault c.loop-place.invariant.limits;
      fault = fault_later fault_behind lines c.loop-place.place (omega arith) (first_fault lines) c.in-None.ensures.fault c.loop-place.invariant.fault;
    }
