use Rattle.std.proofs.Common.{ℕ, ◌<◌, ◌-◌, ◌∙◌, sym, ap, arith}
use Rattle.tsc_bits.specs.Bits.{bit_worth}
use Rattle.tsc_bits.proofs.Counting.{shifted}
use Rattle.lane_sim.proofs.LaneLemmas.{bit_of_ones}
use Rattle.lane_sim.proofs.PlaceLemmas.{all_are_below, first_below}
use Rattle.lane_sim.proofs.place_lanes.places_below.Goals as goal

pub returns-then-limit-base-ge64 : goal.returns-then-limit-base-ge64
returns-then-limit-base-ge64 c = record { bits = λ k few. bit_of_ones k few ∙ sym (all_are_below c.args.limit c.args.base k (omega arith) (omega arith) few) }

pub returns-else-limit-base-ge64 : goal.returns-else-limit-base-ge64
returns-else-limit-base-ge64 c = record {
  bits = λ k few.
      let size : c.args.limit - c.args.base < 64 = omega arith in
      ap (λ (n : ℕ). bit_worth k (n - 1)) (shifted (c.args.limit - c.args.base) size) ∙ first_below c.args.limit c.args.base k (omega arith);
}
