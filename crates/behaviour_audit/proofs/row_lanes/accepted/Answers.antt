use Rattle.std.proofs.Common.{Bool, ◌∙◌, sym, ap}
use Rattle.tsc_cover.specs.Cover.{accepts}
use Rattle.tsc_cover.specs.Row.{literal}
use Rattle.tsc_bits.specs.Bits.{bit_worth}
use Rattle.lane_sim.proofs.LaneLemmas.{bit_of_ones}
use Rattle.behaviour_audit.proofs.row_lanes.accepted.Goals as goal

pub returns-then-not-asked : goal.returns-then-not-asked
returns-then-not-asked c = record {
  bits = λ k few. bit_of_ones k few ∙ ap (λ (asked : Bool). accepts (literal asked c.args.wanted) (bit_worth k c.args.lane)) (sym c.if-not-asked.true);
}
