use Rattle.std.proofs.Common.{◌∙◌, ap, arith}
use Rattle.tsc_bits.specs.Counting.{ones}
use Rattle.std.specs.Prelude.{◌==◌, cond}
use Rattle.machine_maker.specs.Counts.{ones_at, resets_at}
use Rattle.machine_maker.proofs.CountLemmas.{none_below, one_below}
use Rattle.machine_maker.proofs.counting.counts_at.Goals as goal

pub loop-input-init : goal.loop-input-init
loop-input-init c =
    let M = c.args.machine.now.table in
    record {
      ones = none_below (ones_at M c.args.state);
      resets = none_below (resets_at M c.args.state);
      few_ones = omega arith;
      few_resets = omega arith;
    }

pub loop-input-preserved : goal.loop-input-preserved
loop-input-preserved c =
    let M = c.args.machine.now.table in
    let is = c.loop-input.invariant in
    let few = c.ones.ensures.few in
    let one = c.resets.ensures.few in
    let so_far = is.few_ones in
    let so_few = is.few_resets in
    record {
      ones = one_below (ones_at M c.args.state) c.loop-input.input c.loop-input.counts.ones c.ones.result is.ones
          (c.ones.ensures.ones ∙ ap ones c.answer-answer.ensures.outputs);
      resets = one_below (resets_at M c.args.state) c.loop-input.input c.loop-input.counts.resets c.resets.result is.resets
          (c.resets.ensures.one ∙ ap (λ next. cond (next == M.reset) 1 0) c.answer-answer.ensures.next);
      few_ones = omega (arith, few, so_far);
      few_resets = omega (arith, one, so_few);
    }
