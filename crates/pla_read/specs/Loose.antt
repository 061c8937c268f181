-- The network that tells where outputs are free: the one that lines denote, and what it is as a function.
use Rattle.std.specs.Prelude.{◌≡◌, ℕ, ◌≤◌, List, length}
use Rattle.fault_secure.specs.Circuit.{nets}
use Rattle.tsc_net.specs.Named.{Named}
use Rattle.tsc_net.specs.NetlistOf.{named_of, NetlistOf}
use Rattle.tsc_text.specs.TextLine.{TextLine}
use Rattle.pla_read.specs.TableText.{is_free, table_text, TableOf}
use Rattle.pla_read.specs.Networks.{input_names, output_names, AnswersAs}
use Rattle.pla_read.specs.FreeParts.{frees_named}

-- the network that tells where the outputs of the lines' table are free
abbrev pub free_text : List TextLine → Named
free_text lines = frees_named (input_names lines) (output_names lines) (table_text lines)

-- a network with these inputs and outputs, without latches, that answers where each output is free; its nodes are its own affair
pub record IsFreeNet (inputs outputs : List (List ℕ)) (table : TableOf) (net : NetlistOf) : Type 0 where
  pub inputs_are : (named_of net).inputs ≡ inputs
  pub outputs_are : (named_of net).outputs ≡ outputs
  pub inputs_many : net.circuit.inputs ≡ length inputs
  pub outputs_many : length net.circuit.outputs ≡ length outputs
  pub no_latch : length net.circuit.latches ≡ 0
  pub few_nets : nets net.circuit ≤ 256
  pub answers : AnswersAs (is_free table) net.circuit
