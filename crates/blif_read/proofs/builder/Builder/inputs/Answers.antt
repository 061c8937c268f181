use Rattle.std.proofs.Common.{arith}
use Rattle.blif_read.proofs.NamedMore.{inputs_more}
use Rattle.blif_read.proofs.builder.Builder.inputs.Goals as goal

pub loop-place-preserved : goal.loop-place-preserved
loop-place-preserved c =
    record {
      named = inputs_more c.args.self.now.named c.loop-place.self.named c.input.new.self.named c.args.line.now.words c.loop-place.place c.word.result.now
          c.word.ensures.word (omega arith) (omega arith) c.loop-place.invariant.named c.in_ok-input.ensures.named;
      few = omega (arith, c.loop-place.invariant.few, c.in_ok-input.ensures.few);
      within = omega (arith, c.words-place-end.ensures.count);
    }
