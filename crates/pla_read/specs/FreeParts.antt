-- The parts of the two networks, as they are collected.
use Rattle.std.specs.Prelude.{◌≡◌, ℕ, true, false, List, [], ◌∷◌, ◌++◌, codes, map, None}
use Rattle.std.specs.List.{range_with_len}
use Rattle.tsc_cover.specs.Cover.{CoverTable}
use Rattle.tsc_cover.specs.Cover.Literal.{Wants}
use Rattle.tsc_net.specs.Named.{Named, NamedNode}
use Rattle.tsc_net.specs.Names.{text_at, IsNumbering}
use Rattle.tsc_net.specs.Parts.{free_number, fresh_text, PartsOf}
use Rattle.pla_read.specs.TableText.{TableOf}
use Rattle.pla_read.specs.Covers.{rows_cover}
use Rattle.pla_read.specs.declared.table.Chosen.{Chosen}
use Rattle.pla_read.specs.declared.table.Chosen.TheVariants.{Free, OnesBesideFree}

-- the parts with the model's name, these inputs and these outputs
abbrev pub begun : List (List ℕ) → List (List ℕ) → PartsOf
begun inputs outputs = record {
  names = inputs ++ outputs;
  named = record { model = codes "pla"; inputs = inputs; outputs = outputs; latches = []; nodes = [] };
  fresh = None;
}

-- the parts with some more nodes
abbrev pub with_nodes : PartsOf → List NamedNode → PartsOf
with_nodes p nodes = let N = p.named in record p { named = record N { nodes = N.nodes ++ nodes } }

-- the node of an output whose cover has the rows that are chosen for it
abbrev pub rows_node : List (List ℕ) → List (List ℕ) → Chosen → TableOf → ℕ → NamedNode
rows_node inputs outs chosen table place = record { reads = inputs; out = text_at outs place; cover = rows_cover chosen table place }

-- the nodes of so many outputs, each with the cover of the rows that are chosen for its output
abbrev pub rows_nodes : List (List ℕ) → List (List ℕ) → Chosen → TableOf → ℕ → List NamedNode
rows_nodes inputs outs chosen table count = map (rows_node inputs outs chosen table) (range_with_len 0 count)

-- `10 1`: the first pin is 1 and the second isn't
abbrev pub and_not_cover : CoverTable
and_not_cover = record { width = 2; on = true; rows = (Wants true ∷ (Wants false ∷ [])) ∷ [] }

-- the node that is 1 where one name is and another isn't
abbrev pub gate_node : List (List ℕ) → List (List ℕ) → List (List ℕ) → ℕ → NamedNode
gate_node outs lefts barred place =
    record { reads = text_at lefts place ∷ text_at barred place ∷ []; out = text_at outs place; cover = and_not_cover }

-- the nodes that are 1 where one name is and another isn't, for so many outputs
abbrev pub gate_nodes : List (List ℕ) → List (List ℕ) → List (List ℕ) → ℕ → List NamedNode
gate_nodes outs lefts barred count = map (gate_node outs lefts barred) (range_with_len 0 count)

-- the network that tells where outputs are free: an output is free where some row leaves it so and no row makes it 1
abbrev pub free_named : List (List ℕ) → List (List ℕ) → List (List ℕ) → List (List ℕ) → TableOf → Named
free_named inputs outputs lefts barred table = record {
  model = codes "pla";
  inputs = inputs;
  outputs = outputs;
  latches = [];
  nodes = (gate_nodes outputs lefts barred table.outputs ++ rows_nodes inputs lefts Free table table.outputs) ++ rows_nodes inputs barred OnesBesideFree table table.outputs;
}

-- so many fresh names beside these, from a count on
abbrev pub fresh_texts : List (List ℕ) → ℕ → ℕ → List (List ℕ)
fresh_texts names first count = map (fresh_text (free_number names)) (range_with_len first count)

-- the names of the nodes after the outputs: those that tell what rows leave free, and those that tell what rows make 1
abbrev pub left_names : List (List ℕ) → List (List ℕ) → TableOf → List (List ℕ)
left_names inputs outputs table = fresh_texts (inputs ++ outputs) 0 table.outputs

-- the names of the nodes that tell what rows make 1
abbrev pub barred_names : List (List ℕ) → List (List ℕ) → TableOf → List (List ℕ)
barred_names inputs outputs table = fresh_texts (inputs ++ outputs) table.outputs table.outputs

-- the network over these names
abbrev pub frees_named : List (List ℕ) → List (List ℕ) → TableOf → Named
frees_named inputs outputs table = free_named inputs outputs (left_names inputs outputs table) (barred_names inputs outputs table) table

-- the netlist by names is this network, and all its names are different
pub record IsFreeNamed (inputs outputs : List (List ℕ)) (table : TableOf) (N : Named) : Type 0 where
  pub distinct : IsNumbering (((inputs ++ outputs) ++ left_names inputs outputs table) ++ barred_names inputs outputs table)
  pub named : N ≡ frees_named inputs outputs table
