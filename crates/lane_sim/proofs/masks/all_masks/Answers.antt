use Rattle.std.proofs.Common.{◌≡◌, ◌+◌, ◌/◌, ◌%◌, [], ◌∷◌, length, length-append, sym, ap, ◌∙◌, subst, arith}
use Rattle.tsc_bits.specs.Bits.{bit_worth}
use Rattle.lane_sim.specs.TwoPins.{mask_bit}
use Rattle.lane_sim.proofs.LaneLemmas.{masks_more}
use Rattle.lane_sim.proofs.masks.all_masks.Goals as goal

pub loop-place-preserved : goal.loop-place-preserved
loop-place-preserved c =
    let i = c.loop-place.invariant in
    let old = c.loop-place.masks.items in
    let mask = c.mask_at.result in
    let pushed = c.in_ok-push.ensures.items in
    record {
      sized = ap length pushed ∙ length-append old (mask ∷ []) ∙ ap (λ n. n + 1) i.sized;
      bits = λ place j inside few.
          masks_more old c.push.new.self.items mask place j pushed (omega (arith, i.sized)) few
          (λ earlier k below under. i.bits earlier k (omega (arith, i.sized)) under)
          (λ k under. subst (λ n. bit_worth k mask ≡ mask_bit (n % 10 / 2) (n / 10)) (sym i.sized) (c.mask_at.ensures.bits k under));
    }
