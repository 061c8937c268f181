use Rattle.std.proofs.Common.{◌∙◌, arith}
use Rattle.std.proofs.lemmas.Result.{IfOk-weaker}
use Rattle.lane_rows.proofs.OrderFacts.{reads_within}
use Rattle.mapping_audit.proofs.Pinning.{moved_reads}
use Rattle.mapping_audit.proofs.distinct.moved_reads.Goals as goal

pub nets_moved-requires-clause-within : goal.nets_moved-requires-clause-within
nets_moved-requires-clause-within c = λ k d h.
    (let b = reads_within c.args.plain.now.circuit c.nets-nets.ensures.checked.closed c.args.node c.requires.node c.node_reads.result.now c.node_reads.ensures.reads k d h in
    let s = c.requires.moved.sized in omega arith)

pub returns : goal.returns
returns c = record {
  nets = IfOk-weaker c.nets_moved.result _ _ (λ nets are. are
      ∙ moved_reads c.args.plain.now.circuit c.args.mapped.now.circuit c.args.moved.now c.args.node c.node_reads.result.now c.nets-nets.ensures.checked.closed c.requires.moved.sized c.requires.node c.node_reads.ensures.reads)
      c.nets_moved.ensures.nets;
}
