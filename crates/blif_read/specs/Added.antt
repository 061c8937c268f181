-- A netlist by names with what one more line gives.
use Rattle.std.specs.Prelude.{ℕ, List, [], ◌∷◌, ◌++◌}
use Rattle.tsc_net.specs.Named.{Named, NamedLatch, NamedNode}
use Rattle.tsc_text.specs.TextLine.{TextLine}
use Rattle.blif_read.specs.LineKind.{names_of}
use Rattle.blif_read.specs.NamedText.{name_or, latch_at, node_at}
use Rattle.blif_read.specs.declared.kinds.LineKind.{LineKind}
use Rattle.blif_read.specs.declared.kinds.LineKind.TheVariants.{Model, Inputs, Outputs, Names, Latch}

abbrev pub with_model_name : Named → List ℕ → Named
with_model_name N name = record N { model = name }

abbrev pub with_inputs : Named → List (List ℕ) → Named
with_inputs N names = record N { inputs = N.inputs ++ names }

abbrev pub with_outputs : Named → List (List ℕ) → Named
with_outputs N names = record N { outputs = N.outputs ++ names }

abbrev pub with_latch : Named → NamedLatch → Named
with_latch N latch = record N { latches = N.latches ++ latch ∷ [] }

abbrev pub with_node : Named → NamedNode → Named
with_node N node = record N { nodes = N.nodes ++ node ∷ [] }

-- the netlist with what a line of this kind gives, before the lines after it
abbrev pub with_line : Named → LineKind → TextLine → List TextLine → Named
with_line N Model line behind = with_model_name N (name_or N.model (names_of line))
with_line N Inputs line behind = with_inputs N (names_of line)
with_line N Outputs line behind = with_outputs N (names_of line)
with_line N Names line behind = with_node N (node_at line behind)
with_line N Latch line behind = with_latch N (latch_at line)
with_line N _ line behind = N
