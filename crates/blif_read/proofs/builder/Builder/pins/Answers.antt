use Rattle.std.proofs.Common.{arith, ap, ◌∙◌}
use Rattle.tsc_net.specs.Parts.{PartsOf}
use Rattle.blif_read.proofs.NameGrowth.{pins_more}
use Rattle.blif_read.proofs.builder.Builder.pins.Goals as goal

pub loop-place-preserved : goal.loop-place-preserved
loop-place-preserved c = record {
  named = ap (λ (p : PartsOf). p.named) c.in_ok-name.ensures.ok ∙ c.loop-place.invariant.named;
  few = omega (arith, c.loop-place.invariant.few, c.in_ok-name.ensures.few);
  reads = pins_more c.loop-place.self c.name.new.self c.loop-place.reads c.push.new.self c.args.line.now.words c.loop-place.place c.word.result.now c.in_ok-name.name
      c.in_ok-name.ensures.ok c.loop-place.invariant.reads c.in_ok-name.ensures.name c.in_ok-name.ensures.text c.in_ok-push.ensures.ok c.word.ensures.word (omega arith) (omega arith);
}
