use Rattle.std.proofs.Common.{ℕ, Bool, not, nat_lt, ◌&&◌, ◌+◌, ◌*◌, ◌^◌, ◌<◌, ◌∙◌, ap, ap₂, pow_pos, arith}
use Rattle.std.specs.Int.{bit_not}
use mir.Syntax.{w64}
use Rattle.tsc_bits.proofs.Bits.{bit_worth-and}
use Rattle.lane_sim.proofs.LaneLemmas.{bit_of_not}
use Rattle.lane_sim.proofs.PlaceLemmas.{state_is}
use Rattle.lane_sim.proofs.place_lanes.places_of.Goals as goal

pub returns : goal.returns
returns c = record {
  bits = λ k few.
      let state = c.args.state in
      let width : ℕ = 2 ^ c.args.inputs in
      let place : ℕ = c.args.base + k in
      let before = c.places_below-2.result in
      let fits : before < 2 ^ 64 = omega arith in
      let is = c.width_of-width.ensures.width in
      bit_worth-and k c.places_below.result (bit_not w64 before)
      ∙ (ap₂ (λ (a b : Bool). a && b) (c.places_below.ensures.bits k few) (bit_of_not before k fits few ∙ ap not (c.places_below-2.ensures.bits k few))
      ∙ (ap (λ (w : ℕ). nat_lt place (state * w + w) && not (nat_lt place (state * w))) is ∙ state_is state width place (pow_pos c.args.inputs)));
}
