-- What is read of the first section.
use Rattle.std.proofs.Common.{◌≡◌, length}
use Rattle.pla_read.specs.Loose.{free_text, IsFreeNet}
use Rattle.pla_read.specs.Networks.{input_names, output_names, value_text, AnswersAs}
use Rattle.pla_read.specs.TableText.{is_one, table_text, AreWide}
use Rattle.tsc_net.specs.NetlistOf.{netlist_of}
use Rattle.text_sections.proofs.MachineLemmas.{denoted_of, is_section}
use Rattle.text_sections.proofs.TableLemmas.{allowed_of, over_first, refused_of}
use Rattle.text_sections.proofs.pla_section.first_table.Goals as goal

pub read_pla-requires : goal.read_pla-requires
read_pla-requires c = record { section = is_section c.args.lines.now c.section.result c.section.ensures.section }

pub returns-in-Ok-clause-value : goal.returns-in-Ok-clause-value
returns-in-Ok-clause-value c =
    denoted_of (λ lines. netlist_of (value_text lines)) c.args.lines.now c.section.result c.in-Ok.text.loose.value c.section.ensures.section c.in-Ok.ensures.value

pub returns-in-Ok-clause-values : goal.returns-in-Ok-clause-values
returns-in-Ok-clause-values c =
    over_first (λ lines. AnswersAs (is_one (table_text lines)) c.in-Ok.text.loose.value.circuit) c.args.lines.now c.section.result c.section.ensures.section c.in-Ok.ensures.values

pub returns-in-Ok-clause-free : goal.returns-in-Ok-clause-free
returns-in-Ok-clause-free c =
    denoted_of (λ lines. netlist_of (free_text lines)) c.args.lines.now c.section.result c.in-Ok.text.loose.free c.section.ensures.section c.in-Ok.ensures.free

pub returns-in-Ok-clause-frees : goal.returns-in-Ok-clause-frees
returns-in-Ok-clause-frees c =
    over_first (λ lines. IsFreeNet c.in-Ok.text.inputs c.in-Ok.text.outputs (table_text lines) c.in-Ok.text.loose.free) c.args.lines.now c.section.result
    c.section.ensures.section c.in-Ok.ensures.frees

pub returns-in-Ok-clause-wide : goal.returns-in-Ok-clause-wide
returns-in-Ok-clause-wide c =
    over_first (λ lines. AreWide (table_text lines)) c.args.lines.now c.section.result c.section.ensures.section c.in-Ok.ensures.wide

pub returns-in-Ok-clause-table_inputs : goal.returns-in-Ok-clause-table_inputs
returns-in-Ok-clause-table_inputs c =
    over_first (λ lines. length c.in-Ok.text.inputs ≡ (table_text lines).inputs) c.args.lines.now c.section.result c.section.ensures.section c.in-Ok.ensures.table_inputs

pub returns-in-Ok-clause-table_outputs : goal.returns-in-Ok-clause-table_outputs
returns-in-Ok-clause-table_outputs c =
    over_first (λ lines. length c.in-Ok.text.outputs ≡ (table_text lines).outputs) c.args.lines.now c.section.result c.section.ensures.section c.in-Ok.ensures.table_outputs

pub returns-in-Ok-clause-inputs : goal.returns-in-Ok-clause-inputs
returns-in-Ok-clause-inputs c =
    denoted_of input_names c.args.lines.now c.section.result c.in-Ok.text.inputs c.section.ensures.section c.in-Ok.ensures.inputs

pub returns-in-Ok-clause-outputs : goal.returns-in-Ok-clause-outputs
returns-in-Ok-clause-outputs c =
    denoted_of output_names c.args.lines.now c.section.result c.in-Ok.text.outputs c.section.ensures.section c.in-Ok.ensures.outputs

pub returns-in-Ok-clause-allowed : goal.returns-in-Ok-clause-allowed
returns-in-Ok-clause-allowed c = allowed_of c.args.lines.now c.section.result c.section.ensures.section c.in-Ok.ensures.sound

pub returns-in-Err-clause-refused : goal.returns-in-Err-clause-refused
returns-in-Err-clause-refused c =
    refused_of c.args.lines.now c.section.result c.in-Err.error c.as_pla_refusal.result
    c.section.ensures.section c.in-Err.ensures.refused c.as_pla_refusal.ensures.refusal
