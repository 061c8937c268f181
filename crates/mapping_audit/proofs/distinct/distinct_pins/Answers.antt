use Rattle.std.proofs.Common.{[], ◌∙◌, ap, arith}
use Rattle.std.proofs.lemmas.Result.{IfOk-weaker}
use Rattle.lane_rows.proofs.OrderFacts.{reads_within}
use Rattle.mapping_reading.specs.ReadMapping.{new_onto}
use Rattle.mapping_audit.proofs.Pinning.{moved_reads}
use Rattle.mapping_audit.proofs.distinct.distinct_pins.Goals as goal

pub distinct_moved-requires : goal.distinct_moved-requires
distinct_moved-requires c = record {
  within = λ k d h.
      (let b = reads_within c.args.plain.now.circuit c.nets-nets.ensures.checked.closed c.args.node c.requires.node c.node_reads.result.now c.node_reads.ensures.reads k d h in
      let s = c.requires.moved in omega arith);
}

pub returns : goal.returns
returns c = record {
  pins = IfOk-weaker c.distinct_moved.result _ _ (λ pins are. are ∙ ap (new_onto [])
      (moved_reads c.args.plain.now.circuit c.args.mapped.now.circuit c.args.moved.now c.args.node c.node_reads.result.now c.nets-nets.ensures.checked.closed c.requires.moved c.requires.node c.node_reads.ensures.reads))
      c.distinct_moved.ensures.nets;
}
