use Rattle.std.proofs.Common.{◌≡◌, ℕ, ◌<◌, not, true, sym, ap, ap₂, ◌∙◌, arith}
use Rattle.lane_sim.specs.Lanes.{lane_bit}
use Rattle.lane_sim.specs.Points.{source_bit}
use Rattle.lane_sim.specs.TwoPins.{differ}
use Rattle.lane_sim.proofs.FirstLemmas.{first_same}
use Rattle.unheard_cells.proofs.LaneLemmas.{agree_same, same_agree}
use Rattle.unheard_cells.proofs.comparing.first_agreeing.Goals as goal

pub returns : goal.returns
returns c =
    let lanes = c.args.lanes.now in
    let many = c.args.many in
    let agree = c.signed.result in
    let is : (p : ℕ) → p < many → lane_bit agree p ≡ not (differ (source_bit lanes 0 p) (source_bit lanes 1 p)) = (λ p below.
    let inside : p < 1024 = omega (arith, below, c.requires.many) in
    c.signed.ensures.lanes.lanes p inside ∙ ap not (c.differ.ensures.lanes.lanes p inside ∙ ap₂ differ (c.load-one.ensures.lanes.lanes p inside) (c.load-other.ensures.lanes.lanes p inside))) in
    record {
      first = first_same (λ p. lane_bit agree p ≡ true) (λ p. source_bit lanes 0 p ≡ source_bit lanes 1 p) 0 many c.first_point.result
          (λ p below yes_. agree_same (source_bit lanes 0 p) (source_bit lanes 1 p) (sym (is p below) ∙ yes_))
          (λ p below same. is p below ∙ same_agree (source_bit lanes 0 p) (source_bit lanes 1 p) same) c.first_point.ensures.first;
    }
