use Rattle.std.proofs.Common.{◌+◌, arith}
use Rattle.tsc_net.specs.Fault.{stuck_at}
use Rattle.vectors.proofs.UnheardLemmas.{cell_inside, unheard_at}
use Rattle.vectors.proofs.unheard.Unheard.is_unheard.Goals as goal

pub returns-then-cell-first : goal.returns-then-cell-first
returns-then-cell-first c = record {
  unheard = unheard_at c.args.net.now.circuit c.args.plan.now (stuck_at c.args.fault) c.args.self.now.heard.items c.cell_of-cell.result.number (c.inputs.result + c.latches.result) c.index.result.now
      c.requires.marks c.cell_of-cell.ensures.cell (omega (arith, c.inputs.ensures.count, c.latches.ensures.count)) (omega (arith, c.if-cell-first.true))
      (cell_inside c.args.net.now.circuit (stuck_at c.args.fault) c.requires.fault) c.index.ensures;
}
