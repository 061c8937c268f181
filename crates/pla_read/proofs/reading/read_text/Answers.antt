-- What is read of lines without a fault.
use Rattle.std.proofs.Common.{List, ℕ, ◌≤◌, Option, ◌++◌, All, length, sym, ap, ap₂, ◌∙◌, subst, arith}
use Rattle.std.specs.Option.{option_map}
use Rattle.std.proofs.lemmas.List.{length-map}
use Rattle.tsc_net.specs.NetlistOf.{NetlistOf}
use Rattle.table_lines.specs.Denotes.{IsName, IsShort}
use Rattle.pla_read.specs.TableText.{is_one, AreWide, TableOf}
use Rattle.pla_read.specs.Networks.{AnswersAs}
use Rattle.pla_read.specs.Loose.{IsFreeNet}
use Rattle.pla_read.specs.Refusal.{IsRefusedBy}
use Rattle.pla_read.specs.Shaped.{table_as}
use Rattle.pla_read.specs.declared.error.PlaError.{PlaError}
use Rattle.pla_read.specs.declared.error.PlaError.TheVariants.{Header}
use Rattle.pla_read.proofs.Collected.{wide_table}
use Rattle.pla_read.proofs.CleanLines.{named_by_words, shaped_lines, short_names}
use Rattle.pla_read.proofs.Headed.{free_read, loose_source, names_alone, value_few, value_read}
use Rattle.pla_read.proofs.reading.read_text.Goals as goal

pub read_table-requires-clause-shaped : goal.read_table-requires-clause-shaped
read_table-requires-clause-shaped c =
    shaped_lines c.args.section.now c.args.inputs c.args.outputs c.requires.clean c.requires.inputs c.requires.outputs

pub returns-in-Err-clause-refused : goal.returns-in-Err-clause-refused
returns-in-Err-clause-refused c =
    subst (λ (refusal : Option PlaError). IsRefusedBy refusal c.in-Err.error)
    (sym (names_alone c.args.section.now c.args.inputs c.args.outputs c.requires.clean c.requires.inputs c.requires.outputs))
    c.in-Err.ensures.refused

pub returns-clause-value : goal.returns-clause-value
returns-clause-value c =
    value_read c.args.section.now _ _ _ _ c.in-Ok.ensures.inputs c.in-Ok.ensures.outputs c.in-Ok-read_table.ensures.table
    c.in-Ok-loose_of.ensures.value

pub returns-clause-values : goal.returns-clause-values
returns-clause-values c =
    subst (λ (T : TableOf). AnswersAs (is_one T) c.in-Ok-loose_of.loose.value.circuit) c.in-Ok-read_table.ensures.table c.in-Ok-loose_of.ensures.values

pub returns-clause-free : goal.returns-clause-free
returns-clause-free c =
    free_read c.args.section.now _ _ _ _ c.in-Ok.ensures.inputs c.in-Ok.ensures.outputs c.in-Ok-read_table.ensures.table
    c.in-Ok-loose_of.ensures.free

pub returns-clause-frees : goal.returns-clause-frees
returns-clause-frees c =
    subst (λ (T : TableOf). IsFreeNet c.in-Ok.names.inputs c.in-Ok.names.outputs T c.in-Ok-loose_of.loose.free) c.in-Ok-read_table.ensures.table c.in-Ok-loose_of.ensures.frees

pub returns-clause-loose : goal.returns-clause-loose
returns-clause-loose c =
    loose_source c.in-Ok.names.inputs c.in-Ok.names.outputs (table_as c.in-Ok-read_table.table) c.in-Ok-loose_of.loose.value c.in-Ok-loose_of.loose.free
    c.in-Ok-loose_of.ensures.value c.in-Ok-loose_of.ensures.frees

pub returns-clause-count_inputs : goal.returns-clause-count_inputs
returns-clause-count_inputs c = sym (ap (λ (W : NetlistOf). W.circuit.inputs) c.in-Ok-loose_of.ensures.value)

pub returns-clause-count_outputs : goal.returns-clause-count_outputs
returns-clause-count_outputs c =
    sym (ap (λ (W : NetlistOf). length W.circuit.outputs) c.in-Ok-loose_of.ensures.value ∙ length-map c.in-Ok.names.outputs _)

pub returns-clause-wide : goal.returns-clause-wide
returns-clause-wide c = subst AreWide c.in-Ok-read_table.ensures.table (wide_table c.in-Ok-read_table.table)

pub returns-clause-table_inputs : goal.returns-clause-table_inputs
returns-clause-table_inputs c =
    c.in-Ok.ensures.count_inputs ∙ sym c.in-Ok-read_table.ensures.inputs ∙ ap (λ (T : TableOf). T.inputs) c.in-Ok-read_table.ensures.table

pub returns-clause-table_outputs : goal.returns-clause-table_outputs
returns-clause-table_outputs c =
    c.in-Ok.ensures.count_outputs ∙ sym c.in-Ok-read_table.ensures.outputs ∙ ap (λ (T : TableOf). T.outputs) c.in-Ok-read_table.ensures.table

pub returns-clause-few_nets : goal.returns-clause-few_nets
returns-clause-few_nets c =
    let table = table_as c.in-Ok-read_table.table in
    let few_inputs : length c.in-Ok.names.inputs ≤ 64 = omega (arith, c.in-Ok.ensures.count_inputs, c.requires.few_inputs) in
    let few_outputs : table.outputs ≤ 64 = omega (arith, c.in-Ok-read_table.ensures.outputs, c.requires.few_outputs) in
    value_few c.in-Ok.names.inputs c.in-Ok.names.outputs table c.in-Ok-loose_of.loose.value c.in-Ok-loose_of.ensures.value few_inputs few_outputs

pub returns-clause-short : goal.returns-clause-short
returns-clause-short c =
    subst (All IsShort) (sym (ap₂ (λ (a b : List (List ℕ)). a ++ b) c.in-Ok.ensures.inputs c.in-Ok.ensures.outputs))
    (short_names c.args.section.now c.args.inputs c.args.outputs c.requires.clean c.requires.inputs c.requires.outputs
    c.requires.few_inputs c.requires.few_outputs)

pub returns-clause-words : goal.returns-clause-words
returns-clause-words c = λ written.
    subst (All IsName) (sym (ap₂ (λ (a b : List (List ℕ)). a ++ b) c.in-Ok.ensures.inputs c.in-Ok.ensures.outputs))
    (named_by_words c.args.section.now c.args.inputs c.args.outputs c.requires.inputs c.requires.outputs
    c.requires.few_inputs c.requires.few_outputs written)

pub returns-clause-sound : goal.returns-clause-sound
returns-clause-sound c =
    names_alone c.args.section.now c.args.inputs c.args.outputs c.requires.clean c.requires.inputs c.requires.outputs
    ∙ ap (option_map Header) c.in-Ok.ensures.sound
