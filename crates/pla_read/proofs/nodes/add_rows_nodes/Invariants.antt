-- The nodes of the outputs so far, and the covers of the others.
use Rattle.std.proofs.Common.{◌≡◌}
use Rattle.tsc_net.specs.PartsView.{texts_of}
use Rattle.pla_read.specs.Covers.{rows_cover}
use Rattle.pla_read.specs.Spread.{AreCovers}
use Rattle.pla_read.specs.FreeParts.{rows_nodes, with_nodes}
use Rattle.pla_read.specs.Shaped.{table_as}
use Rattle.pla_read.proofs.nodes.add_rows_nodes.Given as goal

abbrev pub invariant-loop-place : goal.invariant-loop-place
invariant-loop-place l = record {
  parts : l.parts ≡ with_nodes l.fn.parts (rows_nodes l.fn.parts.named.inputs (texts_of l.fn.parts.names l.outs) l.fn.chosen (table_as l.table) l.place);
  covers : AreCovers l.place l.table.outputs (rows_cover l.fn.chosen (table_as l.table)) l.covers;
}
