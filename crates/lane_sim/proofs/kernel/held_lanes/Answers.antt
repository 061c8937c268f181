use Rattle.std.proofs.Common.{ℕ, ap, ◌∙◌}
use Rattle.tsc_bits.specs.Bits.{same}
use Rattle.tsc_net.specs.Fault.{stuck_at_or_none}
use Rattle.fault_secure.specs.StuckAt.{on_stem}
use Rattle.lane_sim.specs.Spans.{pieces}
use Rattle.lane_sim.specs.Gate.{gate_bit}
use Rattle.lane_sim.proofs.KernelLemmas.{HasLanes-along, span_bit_is}
use Rattle.lane_sim.proofs.kernel.held_lanes.Goals as goal

pub returns : goal.returns
returns g c =
    let f = stuck_at_or_none c.args.fault in
    let words = c.args.words.now in
    let block = c.args.block.now in
    let terms = c.args.terms.now in
    let rows = c.args.rows.now in
    let driver = c.args.driver in
    record {
      lanes = HasLanes-along g.row.N _ _ (λ (p : ℕ). gate_bit f driver words block p c.args.on (pieces terms rows))
          (λ p inside. ap (on_stem f driver) (c.signed.ensures.lanes.lanes p inside ∙ ap (same c.args.on) (c.some_held_row-some.ensures.lanes.lanes p inside ∙ span_bit_is f driver words block p terms rows)))
          c.at_stem.ensures.lanes;
    }
