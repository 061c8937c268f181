use Rattle.std.proofs.Common.{◌+◌, ◌*◌, ◌-◌, ◌/◌, ◌^◌, ap, ◌∙◌}
use Rattle.tsc_bits.specs.Bits.{bits_of}
use Rattle.tsc_cover.specs.Cover.{truth}
use Rattle.lane_sim.proofs.TwoPinLemmas.{bits_of_pins}
use Rattle.lane_sim.proofs.steps.truth_at.Goals as goal

pub returns : goal.returns
returns c =
    let cover = c.args.cover.now in
    record {
      truth = c.truth.ensures.truth
          ∙ ap (truth cover)
          ((λ i. bits_of cover.width ((c.from.ensures i * 2 + c.from-2.ensures i) / 2 ^ (2 - c.width.ensures.width i))) ∙ bits_of_pins cover.width c.args.a c.args.b c.requires.narrow);
    }
