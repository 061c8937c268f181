-- One node more.
use Rattle.std.proofs.Common.{◌∙◌, arith, ap, length, refl, sym}
use Rattle.tsc_cover.specs.Cover.{CoverTable}
use Rattle.pla_read.specs.Covers.{rows_cover}
use Rattle.pla_read.specs.Spread.{no_rows}
use Rattle.pla_read.specs.Shaped.{table_as}
use Rattle.pla_read.proofs.NodesMore.{kept_inputs, rows_more}
use Rattle.pla_read.proofs.CoverLists.{covers_taken}
use Rattle.pla_read.proofs.nodes.add_rows_nodes.Goals as goal

pub add_cover_node-requires-clause-inputs : goal.add_cover_node-requires-clause-inputs
add_cover_node-requires-clause-inputs c = λ d.
    ap length (kept_inputs c.args.parts.now c.loop-place.parts _ c.loop-place.invariant.parts) ∙ c.requires.inputs
    ∙ sym (ap (λ (cover : CoverTable). cover.width)
    (c.loop-place.invariant.covers.each c.loop-place.place d (omega arith) (omega (arith, c.loop-place-test.true, c.requires.count))))

pub loop-place-preserved : goal.loop-place-preserved
loop-place-preserved c = record {
  parts = rows_more c.args.parts.now c.loop-place.parts c.add_cover_node.new.parts c.args.outs.now c.args.chosen (table_as c.args.table.now) c.loop-place.place _ _ _
      c.loop-place.invariant.parts c.loop-place-test.true refl
      (c.loop-place.invariant.covers.each c.loop-place.place (no_rows 0) (omega arith) (omega (arith, c.loop-place-test.true, c.requires.count)))
      (c.in_ok-add_cover_node.ensures.added (no_rows 0));
  covers = covers_taken c.loop-place.place c.args.table.now.outputs (rows_cover c.args.chosen (table_as c.args.table.now)) c.loop-place.covers
      c.add_cover_node.new.covers (no_rows 0) c.loop-place.invariant.covers c.in_ok-add_cover_node.ensures.left;
}
