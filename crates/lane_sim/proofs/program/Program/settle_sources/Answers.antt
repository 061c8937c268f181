use Rattle.std.proofs.Common.{◌*◌, ap, arith}
use Rattle.tsc_net.specs.Fault.{stuck_at_or_none}
use Rattle.lane_rows.specs.Alive.{source_count}
use Rattle.lane_sim.specs.Program.{ProgramState}
use Rattle.lane_sim.specs.ProgramView.{program_as}
use Rattle.lane_sim.proofs.ProgramLemmas.{keeps_along, sources_more}
use Rattle.lane_sim.proofs.program.Program.settle_sources.Goals as goal

pub loop-net-preserved : goal.loop-net-preserved
loop-net-preserved g c =
    let inside = c.self.inside in
    let program = c.args.self.now in
    let keeps = keeps_along (program_as inside) program inside.steps c.self.view_is c.self.invariant in
    record {
      sources = sources_more program inside.steps keeps (g.row.N * 64) (stuck_at_or_none c.args.fault) c.args.words.now c.loop-net.net c.loop-net.block c.settle_source.new.block
          (omega (arith, c.loop-net-test.true, c.inputs.ensures.count, c.latches.ensures.count, ap (λ (s : ProgramState). source_count s.circuit) c.self.view_is))
          c.settle_source.ensures.here c.settle_source.ensures.others c.loop-net.invariant.sources;
      rows = c.settle_source.ensures.rows;
    }
