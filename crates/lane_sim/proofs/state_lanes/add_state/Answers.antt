use Rattle.std.proofs.Common.{◌<◌, ◌∙◌, ℕ, length, get_or, bit_and, bit_or, arith}
use Rattle.std.proofs.lemmas.List.{get_or-set_other}
use Rattle.lane_sim.proofs.PuttingLemmas.{ones_more}
use Rattle.lane_sim.proofs.state_lanes.add_state.Goals as goal

pub loop-latch-preserved : goal.loop-latch-preserved
loop-latch-preserved c =
    let latch = c.loop-latch.latch in
    let lanes = c.loop-latch.lanes in
    let i = c.loop-latch.invariant in
    let inside : latch < length lanes = omega arith in
    let new : ℕ = bit_or (get_or lanes latch 0) (bit_and c.args.points c.word_of.result) in
    record {
      added = ones_more latch c.args.latches c.args.word c.args.points c.word_of.result c.bit_at.result c.args.lanes.now lanes inside c.bit_at.ensures.bit c.word_of.ensures.bits
          (i.rest latch (omega arith)) i.added;
      rest = λ other past. get_or-set_other lanes latch other new 0 (λ same. omega arith) ∙ i.rest other (omega arith);
    }
