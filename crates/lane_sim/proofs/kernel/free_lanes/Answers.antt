use Rattle.std.proofs.Common.{ℕ, ap, ◌∙◌}
use Rattle.tsc_bits.specs.Bits.{same}
use Rattle.fault_secure.specs.StuckAt.{NoFault}
use Rattle.lane_sim.specs.Spans.{pieces}
use Rattle.lane_sim.specs.Gate.{gate_bit}
use Rattle.lane_sim.proofs.KernelLemmas.{HasLanes-along, span_bit_is}
use Rattle.lane_sim.proofs.kernel.free_lanes.Goals as goal

pub returns : goal.returns
returns g c =
    let words = c.args.words.now in
    let block = c.args.block.now in
    let terms = c.args.terms.now in
    let rows = c.args.rows.now in
    record {
      lanes = HasLanes-along g.row.N _ _ (λ (p : ℕ). gate_bit NoFault 0 words block p c.args.on (pieces terms rows))
          (λ p inside. ap (same c.args.on) (c.some_row.ensures.lanes.lanes p inside ∙ span_bit_is NoFault 0 words block p terms rows))
          c.signed.ensures.lanes;
    }
