use Rattle.std.proofs.Common.{◌∙◌, ◌^◌, ap, arith}
use Rattle.machine_maker.specs.Counts.{ones_at, resets_at, sum_below}
use Rattle.machine_maker.proofs.CountLemmas.{none_below, one_below}
use Rattle.machine_maker.proofs.counting.counts_of.Goals as goal

pub loop-state-init : goal.loop-state-init
loop-state-init c =
    let M = c.args.machine.now.table in
    record {
      ones = none_below (λ state. sum_below (ones_at M state) (2 ^ M.inputs));
      resets = none_below (λ state. sum_below (resets_at M state) (2 ^ M.inputs));
      few_ones = omega arith;
      few_resets = omega arith;
    }

pub loop-state-preserved : goal.loop-state-preserved
loop-state-preserved c =
    let M = c.args.machine.now.table in
    let is = c.loop-state.invariant in
    let few = c.counts_at-here.ensures.few_ones in
    let one = c.counts_at-here.ensures.few_resets in
    let so_far = is.few_ones in
    let so_few = is.few_resets in
    record {
      ones = one_below (λ state. sum_below (ones_at M state) (2 ^ M.inputs)) c.loop-state.state c.loop-state.counts.ones c.counts_at-here.result.ones
          is.ones (c.counts_at-here.ensures.ones ∙ ap (sum_below (ones_at M c.loop-state.state)) c.input_count-inputs.ensures.count);
      resets = one_below (λ state. sum_below (resets_at M state) (2 ^ M.inputs)) c.loop-state.state c.loop-state.counts.resets c.counts_at-here.result.resets
          is.resets (c.counts_at-here.ensures.resets ∙ ap (sum_below (resets_at M c.loop-state.state)) c.input_count-inputs.ensures.count);
      few_ones = omega (arith, few, so_far);
      few_resets = omega (arith, one, so_few);
    }
