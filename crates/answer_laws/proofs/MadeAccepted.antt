-- What is made from a number is accepted: its text has its end line, and a netlist of its machine has the printed counts.
use Rattle.std.proofs.Common.{◌≡◌, refl, arith, ℕ, suc, ◌+◌, ◌<◌, Bool, true, false, cond, not, List, [], ◌∷◌, ◌++◌, codes, length, map, Option, None, Some, ap, sym, ◌∙◌, subst}
use Rattle.std.specs.List.{flat_map, position_or_len}
use Rattle.std.proofs.lemmas.List.{append_assoc}
use Rattle.std.proofs.lemmas.List.Concat.{flat_map-cons}
use Rattle.tsc_text.specs.Joined.{HasNoOpenLine, open_after}
use Rattle.tsc_text.specs.Lines.{OpenLine, line_left, lines_of, physical_lines, without_last}
use Rattle.tsc_text.specs.Section.{is_end_line, section_of}
use Rattle.tsc_text.specs.TextLine.{TextLine}
use Rattle.tsc_text.specs.Written.{WrittenLine, numbered}
use Rattle.tsc_text.specs.declared.section.End.TheVariants.{Kiss as KissEnd}
use Rattle.tsc_text.proofs.JoinedTexts.{physical_lines-append}
use Rattle.tsc_text.proofs.Parts.{ends_in-append}
use Rattle.fault_secure.specs.declared.code.Code.TheVariants.{Berger}
use Rattle.fault_secure.specs.Logic.{States}
use Rattle.machine_maker.specs.Drawn.{DrawnRow, rows_of_number}
use Rattle.machine_maker.specs.MadeLines.{end_line, inputs_line, outputs_line, written_row}
use Rattle.machine_maker.specs.MadeText.{made_text, number_digits, row_line, state_name}
use Rattle.machine_maker.proofs.MadeLines.{read_lines}
use Rattle.machine_maker.proofs.MadeMachine.{made_is}
use Rattle.answer_laws.specs.AnswerLaws.{IsEndedSource}
use Rattle.text_sections.specs.Denoted.{inputs_in, machine_in, netlist_in, outputs_in, plan_in}
use Rattle.answer_laws.specs.MadeLaws.{MadeReportsAreBacked, MadeTextsAreAllowed}
use Rattle.text_sections.specs.Refused.{machine_text_refusal}
use Rattle.netlist_answers.specs.Refused.{audit_points_refusal, has_too_many_audit_points}
use Rattle.answers.specs.Refused.{limits_refusal, synth_machine_refusal}
use Rattle.answer_laws.proofs.AcceptedBehind.{machine_answers_are_accepted}
use Rattle.made_report.proofs.MadeLemmas.{checks_are, kept_points, latches_are, never_refused}
use Rattle.text_sections.proofs.SectionLemmas.{none_first, none_later}
use Rattle.fault_secure.proofs.PlanSizes.{monitored_count}

-- ---- no line of the text goes on behind its end

-- a line `.e` closes what is open
closes : (open_line : Option OpenLine) (number : ℕ) → line_left open_line number (codes ".e") ≡ None
closes None number = refl
closes (Some line) number =
    ap (λ b. cond b (Some (record { number = line.number; bytes = without_last (line.bytes ++ codes ".e") ++ 32 ∷ [] })) None) (ends_in-append 92 line.bytes 46 (101 ∷ []))

closed_by_end : (ps : List (List ℕ)) (open_line : Option OpenLine) (number : ℕ) → open_after open_line number (ps ++ codes ".e" ∷ []) ≡ None
closed_by_end [] open_line number = closes open_line number
closed_by_end (p ∷ ps) open_line number = closed_by_end ps (line_left open_line number p) (number + 1)

complete_by_end : (front : List ℕ) → HasNoOpenLine (front ++ 10 ∷ codes ".e")
complete_by_end front = ap (open_after None 1) (physical_lines-append front (codes ".e")) ∙ closed_by_end (physical_lines front) None 1

-- the rows behind a line end in an LF
record IsFed (text : List ℕ) : Type 0 where
  front : List ℕ
  fed : text ≡ front ++ 10 ∷ []

-- the bytes of a row's line before its LF
abbrev row_bytes : DrawnRow → List ℕ
row_bytes row =
    number_digits row.number ++ (row.asked ++ (32 ∷ (state_name row.state ++ (32 ∷ (state_name row.next ++ (32 ∷ row.outputs))))))

row_behind : (front d a s n o rest : List ℕ)
    → front ++ 10 ∷ ((d ++ (a ++ (32 ∷ (s ++ (32 ∷ (n ++ (32 ∷ (o ++ 10 ∷ [])))))))) ++ rest)
    ≡ (front ++ 10 ∷ (d ++ (a ++ (32 ∷ (s ++ (32 ∷ (n ++ (32 ∷ o)))))))) ++ 10 ∷ rest
row_behind front d a s n o rest = grind (arith, append_assoc)

rows_fed : (front : List ℕ) (rows : List DrawnRow) → IsFed (front ++ 10 ∷ flat_map row_line rows)
rows_fed front [] = record { front = front; fed = refl }
rows_fed front (row ∷ rows) =
    let later = rows_fed (front ++ 10 ∷ row_bytes row) rows in
    record {
      front = later.front;
      fed = ap (λ l. front ++ 10 ∷ l) (flat_map-cons row_line row rows)
          ∙ (row_behind front (number_digits row.number) row.asked (state_name row.state) (state_name row.next) row.outputs (flat_map row_line rows)
          ∙ later.fed);
    }

-- the bytes before the rows, but for the LF
abbrev counts : List ℕ
counts = codes ".i 7" ++ (10 ∷ codes ".o 8")

-- the text without its last LF
abbrev made_body : List DrawnRow → List ℕ
made_body rows = (counts ++ 10 ∷ flat_map row_line rows) ++ codes ".e"

body_complete : (rows : List DrawnRow) → HasNoOpenLine (made_body rows)
body_complete rows =
    let is = rows_fed counts rows in
    let same : made_body rows ≡ is.front ++ 10 ∷ codes ".e" = ap (λ l. l ++ codes ".e") is.fed ∙ append_assoc is.front (10 ∷ []) (codes ".e") in
    ap (λ l. open_after None 1 (physical_lines l)) same ∙ complete_by_end is.front

-- ---- the text has its own end line

end_within : (number : ℕ) (lines : List WrittenLine)
    → position_or_len (is_end_line KissEnd) (numbered number (lines ++ end_line ∷ [])) < length (numbered number (lines ++ end_line ∷ []))
end_within number [] = omega arith
end_within number (line ∷ lines) =
    step (is_end_line KissEnd (record { number = number; is_plan = line.is_plan; words = line.words }))
    (position_or_len (is_end_line KissEnd) (numbered (number + 1) (lines ++ end_line ∷ []))) (length (numbered (number + 1) (lines ++ end_line ∷ [])))
    (end_within (number + 1) lines)
  where
    step : (ends : Bool) (place count : ℕ) → place < count → cond (not ends) (1 + place) 0 < suc count
    step true place count there = omega arith
    step false place count there = omega arith

end_of_made : (number : ℕ) → (section_of (lines_of (made_text number)) 0 KissEnd).past < length (lines_of (made_text number))
end_of_made number =
    let rows = rows_of_number number in
    let P : List TextLine → Type 0 = λ lines. (section_of lines 0 KissEnd).past < length lines in
    let there = end_within 1 (inputs_line ∷ outputs_line ∷ map written_row rows) in
    subst P (sym (read_lines number)) (omega (arith, there))

made_is_ended : (number : ℕ) → IsEndedSource KissEnd (made_text number)
made_is_ended number =
    let rows = rows_of_number number in
    record {
      body = made_body rows;
      fed = sym (append_assoc (counts ++ 10 ∷ flat_map row_line rows) (codes ".e") (10 ∷ []) ∙ append_assoc counts (10 ∷ flat_map row_line rows) (codes ".e" ++ 10 ∷ []));
      complete = body_complete rows;
      ended = end_of_made number;
    }

-- ---- how many nets are monitored

-- ---- the law

pub made_texts_are_allowed : MadeTextsAreAllowed
made_texts_are_allowed number = never_refused (made_text number) (made_is number)

pub made_reports_are_backed : MadeReportsAreBacked
made_reports_are_backed number answer made =
    let text = made_text number in
    let M = machine_in text in
    let is = made_is number in
    let none = never_refused text is in
    let limits = limits_refusal Berger M in
    let points = audit_points_refusal (has_too_many_audit_points (States M)) in
    let sourced = none_first (machine_text_refusal text) limits (none_first (synth_machine_refusal Berger text) points none) in
    let few = kept_points M (none_later (synth_machine_refusal Berger text) points none) in
    let secure = made.secure in
    let N = netlist_in answer in
    let P = plan_in answer in
    let plan_of = secure.checking.structure.plan_of in
    let eight : M.outputs ≡ 8 = is.outputs in
    let states : M.states ≡ 48 = is.states in
    let checks = checks_are M (inputs_in text) (outputs_in text) N P secure.exact secure.coded (omega (arith, eight)) (omega (arith, eight)) in
    let latches = latches_are M (inputs_in text) (outputs_in text) N P secure.exact (omega (arith, states)) plan_of.latches in
    let outputs : P.outputs ≡ M.outputs = secure.exact.plan.outputs in
    let count = monitored_count N.circuit P plan_of in
    record {
      accepted = machine_answers_are_accepted Berger text answer sourced (made_is_ended number) few made;
      checks = checks;
      latches = latches;
      word = omega (arith, count, outputs, checks, latches);
      covers = secure.covers;
    }
