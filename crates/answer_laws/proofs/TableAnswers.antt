-- A PLA text that nothing refuses: its two networks answer what its table says.
use Rattle.std.proofs.Common.{◌≡◌, ℕ, List, Option, None, Some, refl}
use Rattle.tsc_text.specs.Bytes.{bad_line}
use Rattle.tsc_text.specs.Lines.{lines_of}
use Rattle.pla_read.specs.Refusal.{refusal}
use Rattle.pla_read.specs.declared.error.PlaError.{PlaError}
use Rattle.table_laws.proofs.TableNets.{tables_answer}
use Rattle.tsc_synth.specs.CoverBound.{is_too_large}
use Rattle.commands.specs.declared.source_format.SourceFormat.TheVariants.{Pla}
use Rattle.text_sections.specs.Denoted.{behind_source, machine_lines, source_of, values_in}
use Rattle.text_sections.specs.Refused.{behind_machine, byte_refusal, first_table_refusal, pla_lines_refusal, pla_refusal, pla_text_refusal}
use Rattle.text_sections.proofs.SectionLemmas.{none_first, none_later}
use Rattle.netlist_answers.specs.Refused.{audit_behind_refusal, audit_lines_refusal}
use Rattle.answers.specs.Refused.{size_refusal}
use Rattle.answer_laws.specs.AnswerLaws.{IsAnsweredTable, TablesAreAnswered}

not_refused : (error : Option PlaError) → pla_refusal error ≡ None → error ≡ None
not_refused None e = refl
not_refused (Some error) e = cc

answered : (text : List ℕ) → first_table_refusal (lines_of text) ≡ None → IsAnsweredTable text
answered text allowed =
    let lines = machine_lines (lines_of text) in
    let both = tables_answer lines (not_refused (refusal lines) allowed) in
    record { values_as = both.values; frees_as = both.frees }

pub tables_are_answered : TablesAreAnswered
tables_are_answered = record {
  synthesised = λ way text none.
      let whole : pla_text_refusal text ≡ None = none_first (pla_text_refusal text) (size_refusal (is_too_large way (values_in text).circuit)) none in
      let lines : pla_lines_refusal (lines_of text) ≡ None = none_later (byte_refusal (bad_line text)) (pla_lines_refusal (lines_of text)) whole in
      answered text (none_first (first_table_refusal (lines_of text)) (behind_machine (lines_of text)) lines);
  audited = λ text none.
      let lines : audit_lines_refusal Pla (lines_of text) ≡ None = none_later (byte_refusal (bad_line text)) (audit_lines_refusal Pla (lines_of text)) none in
      answered text (none_first (first_table_refusal (lines_of text)) (audit_behind_refusal (lines_of text) (behind_source Pla (lines_of text)) (source_of Pla (lines_of text))) lines);
}
