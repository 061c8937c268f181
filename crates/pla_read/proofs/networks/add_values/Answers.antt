-- The nodes of the outputs behind the beginning.
use Rattle.std.proofs.Common.{length, ◌∙◌, arith}
use Rattle.pla_read.specs.Shaped.{table_as}
use Rattle.pla_read.proofs.Collected.{begun_many, values_shown}
use Rattle.pla_read.proofs.Segments.{shown_many, shown_within}
use Rattle.pla_read.proofs.networks.add_values.Goals as goal

pub add_rows_nodes-requires-clause-outs : goal.add_rows_nodes-requires-clause-outs
add_rows_nodes-requires-clause-outs c =
    shown_within c.begin.new.parts.names c.as_slice.result.now c.in_ok-outs.outs (length c.args.names.now.inputs) (length c.args.names.now.outputs)
    c.as_slice.ensures.whole c.in_ok-outs.ensures.names
    (begun_many c.args.names.now.inputs c.args.names.now.outputs c.begin.new.parts c.begin.new.parts.names c.in_ok-outs.ensures.begun (omega arith))

pub add_rows_nodes-requires-clause-count : goal.add_rows_nodes-requires-clause-count
add_rows_nodes-requires-clause-count c =
    shown_many c.as_slice.result.now c.in_ok-outs.outs (length c.args.names.now.inputs) (length c.args.names.now.outputs) c.as_slice.ensures.whole c.in_ok-outs.ensures.names
    ∙ c.requires.outputs

pub returns : goal.returns
returns c = record {
  values = values_shown c.args.names.now.inputs c.args.names.now.outputs (table_as c.args.table.now) c.begin.new.parts c.add_rows_nodes.new.parts c.in_ok-outs.outs
      c.as_slice.result.now c.in_ok-outs.ensures.begun c.in_ok-outs.ensures.names c.as_slice.ensures.whole c.in_ok-add_rows_nodes.ensures.added;
}
