-- Both networks of lines that nothing refuses: they are sound, built, and answer what the table says.
use Rattle.std.proofs.Common.{◌≡◌, ℕ, ◌+◌, ◌≤◌, ◌<◌, ◌^◌, true, List, [], ◌∷◌, ◌++◌, length, Option, None, All, unwrap_or, refl, sym, ap, ◌∙◌, subst, arith, length-append}
use Rattle.std.specs.List.{range_with_len}
use Rattle.std.proofs.lemmas.List.{length-map}
use Rattle.std.proofs.lemmas.List.Elements.{All-append, All-map}
use Rattle.std.proofs.lemmas.List.FromFn.{length-map-range_with_len}
use Rattle.tsc_net.specs.Named.{Named, NamedNode}
use Rattle.tsc_net.specs.Names.{IsNumbering}
use Rattle.tsc_net.specs.NetlistOf.{circuit_of, drivers, netlist_of, IsBuilt}
use Rattle.net_building.proofs.NamedNets.{drivers_counted}
use Rattle.tsc_text.specs.TextLine.{TextLine}
use Rattle.pla_read.specs.Selections.{frees_of, inputs_of, line_of, outputs_of}
use Rattle.pla_read.specs.RowText.{TableRow}
use Rattle.pla_read.specs.TableText.{is_free, is_one, table_text, AreWide, TableOf}
use Rattle.pla_read.specs.Networks.{input_names, output_names, value_named, value_node, AnswersAs}
use Rattle.pla_read.specs.FreeParts.{barred_names, frees_named, gate_node, gate_nodes, left_names, rows_node, rows_nodes}
use Rattle.pla_read.specs.Refusal.{refusal}
use Rattle.pla_read.specs.declared.kinds.LineKind.TheVariants.{InputNames, OutputNames}
use Rattle.pla_read.specs.declared.table.Chosen.{Chosen}
use Rattle.pla_read.specs.declared.table.Chosen.TheVariants.{Free, OnesBesideFree}
use Rattle.pla_read.proofs.CleanLines.{shaped_lines}
use Rattle.pla_read.proofs.FreeNet.{free_answers, free_sound, nodes_many}
use Rattle.pla_read.proofs.ValueNet.{value_answers, value_sound}
use Rattle.table_laws.specs.TableLaws.{AreBuilt, NetworksAnswer, TablesAnswer, TablesAreBuilt, TablesAreLooseSources}
use Rattle.table_laws.specs.SmallTable.{small_table, SmallTableAnswers}
use Rattle.table_laws.proofs.FreshApart.{fresh_apart}
use Rattle.table_laws.proofs.Headings.{allowed_parts, IsAllowed}
use Rattle.table_laws.proofs.RightNames.{names_right, AreRight}
use Rattle.table_laws.proofs.SoundNets.{sound_is_built}
use Rattle.table_laws.proofs.WideRows.{rows_wide}

abbrev IsEven : NamedNode → Type 0
IsEven node = length node.reads ≡ node.cover.width

-- ---- a table with right names
module _ (inputs outputs : List (List ℕ)) (table : TableOf) (right : AreRight inputs table.inputs outputs table.outputs) (some : 1 ≤ table.outputs)
    (few_inputs : table.inputs ≤ 64) (few_outputs : table.outputs ≤ 64) where
  abbrev n : ℕ
  n = table.outputs

  abbrev lefts : List (List ℕ)
  lefts = left_names inputs outputs table

  abbrev barred : List (List ℕ)
  barred = barred_names inputs outputs table

  lefts_many : length lefts ≡ n
  lefts_many = length-map-range_with_len _ 0 n

  barred_many : length barred ≡ n
  barred_many = length-map-range_with_len _ n n

  names_many : length (inputs ++ outputs) ≡ table.inputs + n
  names_many = omega (arith, length-append inputs outputs, right.inputs_many, right.outputs_many)

  apart : IsNumbering (((inputs ++ outputs) ++ lefts) ++ barred)
  apart = fresh_apart (inputs ++ outputs) n (omega (arith, names_many)) (omega arith) right.distinct

  -- the network of its values
  abbrev V : Named
  V = value_named inputs outputs table

  value_even : All IsEven V.nodes
  value_even = All-map IsEven (value_node inputs outputs table) (range_with_len 0 n) (λ k d h. right.inputs_many)

  value_few : length (drivers V) < 2 ^ 32
  value_few =
      let many : length V.nodes ≡ n = length-map-range_with_len (value_node inputs outputs table) 0 n in
      omega (arith, drivers_counted V, many, right.inputs_many)

  pub value_built : IsBuilt (netlist_of V)
  value_built = sound_is_built V (value_sound inputs outputs table right.inputs_many right.outputs_many right.distinct some) value_even value_few

  pub value_right : AreWide table → AnswersAs (is_one table) (circuit_of V)
  value_right wide = value_answers inputs outputs table right.inputs_many right.outputs_many right.distinct wide value_built.acyclic

  -- the one that tells where its outputs are free
  abbrev F : Named
  F = frees_named inputs outputs table

  rows_even : (names : List (List ℕ)) (chosen : Chosen) → All IsEven (rows_nodes inputs names chosen table n)
  rows_even names chosen = All-map IsEven (rows_node inputs names chosen table) (range_with_len 0 n) (λ k d h. right.inputs_many)

  gates_even : All IsEven (gate_nodes outputs lefts barred n)
  gates_even = All-map IsEven (gate_node outputs lefts barred) (range_with_len 0 n) (λ k d h. refl)

  free_even : All IsEven F.nodes
  free_even =
      let gates : List NamedNode = gate_nodes outputs lefts barred n in
      let frees : List NamedNode = rows_nodes inputs lefts Free table n in
      All-append IsEven (gates ++ frees) (rows_nodes inputs barred OnesBesideFree table n)
      (All-append IsEven gates frees gates_even (rows_even lefts Free)) (rows_even barred OnesBesideFree)

  free_few : length (drivers F) < 2 ^ 32
  free_few =
      let many : length F.nodes ≡ n + n + n = nodes_many inputs outputs lefts barred table right.outputs_many lefts_many barred_many apart in
      omega (arith, drivers_counted F, many, right.inputs_many)

  pub free_built : IsBuilt (netlist_of F)
  free_built = sound_is_built F (free_sound inputs outputs lefts barred table right.outputs_many lefts_many barred_many apart some) free_even free_few

  pub free_right : AreWide table → AnswersAs (is_free table) (circuit_of F)
  free_right wide =
      free_answers inputs outputs lefts barred table right.outputs_many lefts_many barred_many apart right.inputs_many wide free_built.acyclic

-- ---- that of the lines
module _ (lines : List TextLine) (e : refusal lines ≡ None) where
  allowed : IsAllowed lines
  allowed = allowed_parts lines e

  inputs_are : inputs_of lines ≡ allowed.inputs.count
  inputs_are = ap (λ (o : Option ℕ). unwrap_or o 0) allowed.inputs.is

  outputs_are : outputs_of lines ≡ allowed.outputs.count
  outputs_are = ap (λ (o : Option ℕ). unwrap_or o 0) allowed.outputs.is

  few_inputs : inputs_of lines ≤ 64
  few_inputs = omega (arith, inputs_are, allowed.inputs.few)

  few_outputs : outputs_of lines ≤ 64
  few_outputs = omega (arith, outputs_are, allowed.outputs.few)

  some_output : 1 ≤ outputs_of lines
  some_output = omega (arith, outputs_are, allowed.outputs.some)

  right : AreRight (input_names lines) (inputs_of lines) (output_names lines) (outputs_of lines)
  right = names_right (line_of InputNames lines) (line_of OutputNames lines) (inputs_of lines) (outputs_of lines) few_inputs few_outputs allowed.names

  wide : AreWide (table_text lines)
  wide =
      subst (λ m. All (λ (row : TableRow). length row.input ≡ m) (table_text lines).rows) (sym inputs_are)
      (rows_wide allowed.inputs.count allowed.outputs.count (frees_of lines) lines
      (shaped_lines lines allowed.inputs.count allowed.outputs.count allowed.sound allowed.inputs.is allowed.outputs.is))

  -- both networks of these lines answer what their table says
  pub lines_answer : NetworksAnswer lines
  lines_answer = record {
    values = value_right (input_names lines) (output_names lines) (table_text lines) right some_output few_inputs few_outputs wide;
    frees = free_right (input_names lines) (output_names lines) (table_text lines) right some_output few_inputs few_outputs wide;
  }

  pub lines_built : AreBuilt lines
  lines_built = record {
    value = value_built (input_names lines) (output_names lines) (table_text lines) right some_output few_inputs few_outputs;
    free = free_built (input_names lines) (output_names lines) (table_text lines) right some_output few_inputs few_outputs;
  }

-- ---- the laws

-- where nothing refuses the lines, both networks of them answer what their table says
pub tables_answer : TablesAnswer
tables_answer lines e = lines_answer lines e

pub tables_are_built : TablesAreBuilt
tables_are_built lines e = lines_built lines e

pub tables_are_loose_sources : TablesAreLooseSources
tables_are_loose_sources lines =
    record { value = refl; free = refl; inputs = refl; outputs = length-map (output_names lines) _ ∙ sym (length-map (output_names lines) _) }

pub small_table_answers : SmallTableAnswers
small_table_answers =
    let both = lines_answer small_table refl in
    record { values = both.values.answers (true ∷ true ∷ []); frees = both.frees.answers (true ∷ true ∷ []) }
