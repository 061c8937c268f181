-- The refusals of a whole section, and the table that is read.
use Rattle.std.proofs.Common.{◌≡◌, ℕ, ◌≤◌, true, ◌&&◌, if◌then◌else◌, List, length, Option, Some, None, unwrap_or, refl, sym, ap, ap₂, ◌∙◌, subst, arith}
use Rattle.std.specs.Option.{option_map, is_some}
use Rattle.tsc_text.specs.TextLine.{TextLine}
use Rattle.table_lines.specs.LineFaults.{number_in}
use Rattle.table_lines.specs.NamesText.{wrong_names}
use Rattle.pla_read.specs.Selections.{count_in, has_line, line_of}
use Rattle.pla_read.specs.TableText.{table_text, TableOf}
use Rattle.pla_read.specs.Networks.{input_names, output_names, value_named, value_node, value_text}
use Rattle.pla_read.specs.FreeParts.{frees_named}
use Rattle.pla_read.specs.Loose.{free_text, IsFreeNet}
use Rattle.tsc_net.specs.NetlistOf.{netlist_of, NetlistOf}
use Rattle.tsc_net.specs.SourceView.{IsLooseSource}
use Rattle.std.proofs.lemmas.List.{length-map}
use Rattle.std.proofs.lemmas.List.FromFn.{length-map-range_with_len}
use Rattle.fault_secure.specs.Circuit.{nets}
use Rattle.pla_read.specs.Faults.{first_fault}
use Rattle.pla_read.specs.Refusal.{first_refusal, heading_refusal, last_number, line_refusal, refusal, wrong_names_in}
use Rattle.pla_read.specs.declared.kinds.LineKind.{LineKind}
use Rattle.pla_read.specs.declared.kinds.LineKind.TheVariants.{Inputs, Outputs, InputNames, OutputNames}
use Rattle.pla_read.specs.declared.error.PlaError.TheVariants.{Header}

-- ---- counts

has_count : (kind : LineKind) (lines : List TextLine) (n : ℕ) → count_in kind lines ≡ Some n → has_line kind lines ≡ true
has_count kind lines n e = by (line_of kind lines) e
  where
    by : (o : Option TextLine) → option_map number_in o ≡ Some n → is_some o ≡ true
    by None f = cc
    by (Some line) f = refl

count_is : (kind : LineKind) (lines : List TextLine) (n : ℕ) → count_in kind lines ≡ Some n → unwrap_or (count_in kind lines) 0 ≡ n
count_is kind lines n e = ap (λ (o : Option ℕ). unwrap_or o 0) e

-- ---- refusals

clean_refusal : (lines : List TextLine) → first_fault lines ≡ None → refusal lines ≡ heading_refusal lines
clean_refusal lines e = ap (λ o. first_refusal (option_map line_refusal o) (heading_refusal lines)) e

pub names_alone : (lines : List TextLine) (i o : ℕ) → first_fault lines ≡ None → count_in Inputs lines ≡ Some i → count_in Outputs lines ≡ Some o
    → refusal lines ≡ option_map Header (wrong_names_in lines)
names_alone lines i o e a b =
    clean_refusal lines e
    ∙ ap₂ (λ p q. if p && q then option_map Header (wrong_names_in lines) else Some (Header (last_number lines))) (has_count Inputs lines i a) (has_count Outputs lines o b)

-- ---- names

pub wrong_names_are : (lines : List TextLine) (given shown : Option TextLine) (i o : ℕ) → given ≡ line_of InputNames lines → shown ≡ line_of OutputNames lines
    → count_in Inputs lines ≡ Some i → count_in Outputs lines ≡ Some o → wrong_names given i shown o ≡ wrong_names_in lines
wrong_names_are lines given shown i o a b e f =
    ap₂ (λ p q. wrong_names p i q o) a b ∙ ap₂ (λ n m. wrong_names (line_of InputNames lines) n (line_of OutputNames lines) m) (sym (count_is Inputs lines i e)) (sym (count_is Outputs lines o f))

-- ---- the table

-- what `free` and `value` are together
pub loose_source : (inputs outputs : List (List ℕ)) (table : TableOf) (V F : NetlistOf) → V ≡ netlist_of (value_named inputs outputs table) → IsFreeNet inputs outputs table F
    → IsLooseSource V.circuit F.circuit
loose_source inputs outputs table V F is free =
    subst (λ (W : NetlistOf). IsLooseSource W.circuit F.circuit) (sym is)
    (record { value = refl; free = free.no_latch; inputs = free.inputs_many; outputs = free.outputs_many ∙ sym (length-map outputs _) })

pub value_read : (lines : List TextLine) (inputs outputs : List (List ℕ)) (table : TableOf) (V : NetlistOf) → inputs ≡ input_names lines → outputs ≡ output_names lines
    → table ≡ table_text lines → V ≡ netlist_of (value_named inputs outputs table) → V ≡ netlist_of (value_text lines)
value_read lines inputs outputs table V a b t is =
    is ∙ ap₂ (λ x y. netlist_of (value_named x y table)) a b ∙ ap (λ T. netlist_of (value_named (input_names lines) (output_names lines) T)) t

pub free_read : (lines : List TextLine) (inputs outputs : List (List ℕ)) (table : TableOf) (F : NetlistOf) → inputs ≡ input_names lines → outputs ≡ output_names lines
    → table ≡ table_text lines → F ≡ netlist_of (frees_named inputs outputs table) → F ≡ netlist_of (free_text lines)
free_read lines inputs outputs table F a b t is =
    is ∙ ap₂ (λ x y. netlist_of (frees_named x y table)) a b ∙ ap (λ T. netlist_of (frees_named (input_names lines) (output_names lines) T)) t

-- it has few nets
pub value_few : (inputs outputs : List (List ℕ)) (table : TableOf) (V : NetlistOf) → V ≡ netlist_of (value_named inputs outputs table) → length inputs ≤ 64 → table.outputs ≤ 64
    → nets V.circuit ≤ 128
value_few inputs outputs table V is few_inputs few_outputs =
    let nodes = (value_named inputs outputs table).nodes in
    let many : length (netlist_of (value_named inputs outputs table)).circuit.nodes ≡ table.outputs =
    length-map nodes _ ∙ length-map-range_with_len (value_node inputs outputs table) 0 table.outputs in
    subst (λ (W : NetlistOf). nets W.circuit ≤ 128) (sym is) (omega (arith, many, few_inputs, few_outputs))
