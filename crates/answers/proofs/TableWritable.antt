-- A text can hold the network of a table's values, and no net stands twice among its outputs.
use Rattle.std.proofs.Common.{◌≡◌, ℕ, ◌≤◌, List, ◌++◌, filter, length, get_or, All, refl, sym, ap₂, ◌∙◌, subst, arith}
use Rattle.std.specs.List.{range_with_len}
use Rattle.std.proofs.lemmas.List.{length-map}
use Rattle.std.proofs.lemmas.List.Elements.{All-filter, All-map}
use Rattle.std.proofs.lemmas.List.FromFn.{length-map-range_with_len}
use Rattle.tsc_bits.specs.Lists.{AreApart}
use Rattle.tsc_cover.specs.Cover.{Literal}
use Rattle.fault_secure.specs.Circuit.{bit}
use Rattle.tsc_net.specs.Named.{Named, NamedNode}
use Rattle.tsc_net.specs.Names.{place_of_text, IsNumbering}
use Rattle.tsc_net.specs.NetlistOf.{circuit_of, drivers, netlist_of, numbered_node, NetlistOf}
use Rattle.blif_write.specs.Writable.{IsGoodName, IsWritable, IsWritableNode}
use Rattle.pla_read.specs.RowText.{TableRow}
use Rattle.pla_read.specs.TableText.{AreWide, table_text, TableOf}
use Rattle.tsc_text.specs.TextLine.{TextLine}
use Rattle.pla_read.specs.Networks.{input_names, ones_at, output_names, value_named, value_node, value_text}
use Rattle.pla_read.proofs.ValueNet.{driven, value_sound}
use Rattle.net_building.specs.Sound.{IsSound}
use Rattle.text_sections.proofs.OutputsApart.{shown_apart}

module _ (inputs outputs : List (List ℕ)) (T : TableOf) (inputs_many : length inputs ≡ T.inputs) (outputs_many : length outputs ≡ T.outputs)
    (distinct : IsNumbering (inputs ++ outputs)) (some : 1 ≤ T.outputs) where
  abbrev N : Named
  N = value_named inputs outputs T

  sound : IsSound N
  sound = value_sound inputs outputs T inputs_many outputs_many distinct some

  pub values_apart : (V : NetlistOf) → V ≡ netlist_of N → AreApart V.circuit.outputs
  values_apart V is = subst (λ (v : NetlistOf). AreApart v.circuit.outputs) (sym is) (shown_apart N sound.shown_once sound.outputs)

  module _ (wide : AreWide T) (few_inputs : length inputs ≤ 64) (few_outputs : length outputs ≤ 64) where
    rows_sized : (place : ℕ) → All (λ (row : List Literal). length row ≡ T.inputs) (ones_at T.rows place)
    rows_sized place =
        All-map (λ (row : List Literal). length row ≡ T.inputs) (λ (row : TableRow). row.input) (filter (λ (row : TableRow). bit row.ones place) T.rows)
        (All-filter (λ (row : TableRow). bit row.ones place) (λ (row : TableRow). length row.input ≡ T.inputs) T.rows wide)

    node_writable : (place : ℕ) → IsWritableNode (numbered_node (drivers N) (value_node inputs outputs T place))
    node_writable place = record {
      pins = omega (arith, length-map inputs (place_of_text (drivers N)), few_inputs);
      rows = rows_sized place;
      set = λ none. refl;
    }

    nodes_writable : All IsWritableNode (circuit_of N).nodes
    nodes_writable =
        All-map IsWritableNode (numbered_node (drivers N)) N.nodes
        (All-map (λ (n : NamedNode). IsWritableNode (numbered_node (drivers N) n)) (value_node inputs outputs T) (range_with_len 0 T.outputs)
        (λ k d h. node_writable (get_or (range_with_len 0 T.outputs) k d)))

    nodes_many : length (circuit_of N).nodes ≡ T.outputs
    nodes_many = length-map N.nodes (numbered_node (drivers N)) ∙ length-map-range_with_len (value_node inputs outputs T) 0 T.outputs

    pub values_writable : (V : NetlistOf) → V ≡ netlist_of N → All IsGoodName (inputs ++ outputs) → IsWritable V
    values_writable V is good = subst IsWritable (sym is) (record {
      model = record { word = refl; allowed = refl; short = omega arith };
      names = subst (All IsGoodName) (sym (driven inputs outputs T inputs_many outputs_many distinct)) good;
      inputs = omega (arith, few_inputs);
      outputs = omega (arith, length-map outputs (place_of_text (drivers N)), few_outputs);
      latches = omega arith;
      nodes = omega (arith, nodes_many, outputs_many, few_outputs);
      different = shown_apart N sound.shown_once sound.outputs;
      each_node = nodes_writable;
    })

-- the network of the values of lines is the one over the names that were read of them
pub values_named : (L : List TextLine) (inputs outputs : List (List ℕ)) (V : NetlistOf) → inputs ≡ input_names L → outputs ≡ output_names L
    → V ≡ netlist_of (value_text L) → V ≡ netlist_of (value_named inputs outputs (table_text L))
values_named L inputs outputs V ins outs is = is ∙ ap₂ (λ a b. netlist_of (value_named a b (table_text L))) (sym ins) (sym outs)
