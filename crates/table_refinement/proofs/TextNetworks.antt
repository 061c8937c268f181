-- The networks of lines that nothing refuses are those of their table.
use Rattle.std.proofs.Common.{◌≡◌, ℕ, ◌≤◌, List, Option, None, unwrap_or, ap, ◌∙◌, arith}
use Rattle.std.proofs.lemmas.List.{length-map}
use Rattle.tsc_text.specs.TextLine.{TextLine}
use Rattle.pla_read.specs.Selections.{inputs_of, line_of, outputs_of}
use Rattle.pla_read.specs.Networks.{input_names, output_names}
use Rattle.pla_read.specs.Refusal.{refusal}
use Rattle.pla_read.specs.declared.kinds.LineKind.TheVariants.{InputNames, OutputNames}
use Rattle.table_laws.proofs.Headings.{allowed_parts, IsAllowed}
use Rattle.table_laws.proofs.RightNames.{names_right, AreRight}
use Rattle.table_laws.proofs.TableNets.{lines_answer}
use Rattle.table_refinement.specs.TableRefinement.{TextsAreNetworks}

module _ (lines : List TextLine) (e : refusal lines ≡ None) where
  allowed : IsAllowed lines
  allowed = allowed_parts lines e

  few_inputs : inputs_of lines ≤ 64
  few_inputs = let is : inputs_of lines ≡ allowed.inputs.count = ap (λ (o : Option ℕ). unwrap_or o 0) allowed.inputs.is in omega (arith, is, allowed.inputs.few)

  few_outputs : outputs_of lines ≤ 64
  few_outputs = let is : outputs_of lines ≡ allowed.outputs.count = ap (λ (o : Option ℕ). unwrap_or o 0) allowed.outputs.is in omega (arith, is, allowed.outputs.few)

  right : AreRight (input_names lines) (inputs_of lines) (output_names lines) (outputs_of lines)
  right = names_right (line_of InputNames lines) (line_of OutputNames lines) (inputs_of lines) (outputs_of lines) few_inputs few_outputs allowed.names

pub texts_are_networks : TextsAreNetworks
texts_are_networks lines e =
    let names : AreRight (input_names lines) (inputs_of lines) (output_names lines) (outputs_of lines) = right lines e in
    let both = lines_answer lines e in
    record {
      value_inputs = names.inputs_many;
      free_inputs = names.inputs_many;
      value_outputs = length-map (output_names lines) _ ∙ names.outputs_many;
      free_outputs = length-map (output_names lines) _ ∙ names.outputs_many;
      values = both.values;
      frees = both.frees;
    }
