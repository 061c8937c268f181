-- The sources of the two texts are those of their lines, which nothing refuses.
use Rattle.std.proofs.Common.{◌≡◌, ℕ, List, Option, None, Some, refl}
use Rattle.fault_secure.specs.CellSecure.{IsCellSecure}
use Rattle.fault_secure.specs.FaultSecure.{IsFaultSecure}
use Rattle.tsc_text.specs.Bytes.{bad_line}
use Rattle.tsc_text.specs.Lines.{lines_of}
use Rattle.pla_read.specs.Refusal.{refusal}
use Rattle.pla_read.specs.declared.error.PlaError.{PlaError}
use Rattle.source_laws.proofs.AllowsLess.{cells_carry, faults_carry}
use Rattle.table_refinement.proofs.RefinedTables.{is_enough}
use Rattle.text_sections.specs.Denoted.{machine_lines, netlist_in, plan_in}
use Rattle.text_sections.specs.Refused.{behind_machine, byte_refusal, first_table_refusal, pla_lines_refusal, pla_refusal, pla_text_refusal}
use Rattle.text_sections.proofs.SectionLemmas.{none_first, none_later}
use Rattle.refined_laws.specs.RefinedAnswers.{RefinedAnswersAreSecure}

not_refused : (error : Option PlaError) → pla_refusal error ≡ None → error ≡ None
not_refused None e = refl
not_refused (Some error) e = cc

lines_read : (text : List ℕ) → pla_text_refusal text ≡ None → refusal (machine_lines (lines_of text)) ≡ None
lines_read text read =
    let all : pla_lines_refusal (lines_of text) ≡ None = none_later (byte_refusal (bad_line text)) (pla_lines_refusal (lines_of text)) read in
    not_refused (refusal (machine_lines (lines_of text))) (none_first (first_table_refusal (lines_of text)) (behind_machine (lines_of text)) all)

pub refined_answers_are_secure : RefinedAnswersAreSecure
refined_answers_are_secure way text other answer both made =
    let a = machine_lines (lines_of other) in
    let b = machine_lines (lines_of text) in
    let read = lines_read other both.other_read in
    let also = lines_read text both.read in
    record {
      cells = is_enough IsCellSecure cells_carry a b (netlist_in answer).circuit (plan_in answer) read also both.refines made.secure.version made.secure.cells;
      secure = is_enough IsFaultSecure faults_carry a b (netlist_in answer).circuit (plan_in answer) read also both.refines made.secure.version made.secure.secure;
    }
