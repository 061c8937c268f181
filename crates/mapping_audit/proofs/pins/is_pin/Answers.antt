use Rattle.std.proofs.Common.{◌∙◌, arith}
use Rattle.lane_rows.proofs.OrderFacts.{reads_within}
use Rattle.mapping_audit.proofs.Pinning.{is_at_pin}
use Rattle.mapping_audit.proofs.pins.is_pin.Goals as goal

pub goes_to-requires : goal.goes_to-requires
goes_to-requires c = record {
  within = λ k d h.
      (let b = reads_within c.args.plain.now.circuit c.nets-nets.ensures.checked.closed c.args.node c.requires.node c.node_reads.result.now c.node_reads.ensures.reads k d h in
      let s = c.requires.moved in omega arith);
}

pub returns : goal.returns
returns c = record {
  pin = c.goes_to.ensures.goes
      ∙ is_at_pin c.args.plain.now.circuit c.args.mapped.now.circuit c.args.moved.now c.args.node c.args.net c.node_reads.result.now c.nets-nets.ensures.checked.closed c.requires.moved c.requires.node c.node_reads.ensures.reads;
}
