use Rattle.std.proofs.Common.{◌≡◌, ◌↔◌, ℕ, ◌<◌, true, arith}
use Rattle.lane_sim.specs.Lanes.{lane_bit}
use Rattle.lane_sim.proofs.FirstLemmas.{first_same}
use Rattle.unheard_cells.specs.There.{AreUnheardAt}
use Rattle.unheard_cells.proofs.LaneLemmas.{unheard_bits}
use Rattle.unheard_cells.proofs.comparing.first_unheard.Goals as goal

pub returns : goal.returns
returns c =
    let right = c.args.right.now in
    let wrong = c.args.wrong.now in
    let low = c.args.low in
    let count = c.args.count in
    let many = c.args.many in
    let unheard = c.meet-unheard.result in
    let is : (p : ℕ) → p < many → (lane_bit unheard p ≡ true) ↔ AreUnheardAt right wrong low count p = (λ p below.
    let inside : p < 1024 = omega (arith, below, c.requires.many) in
    unheard_bits right wrong low count p (lane_bit unheard p) (lane_bit c.changed.result p) (lane_bit c.differ.result p) (lane_bit c.load-one.result p) (lane_bit c.load-other.result p)
    (c.meet-unheard.ensures.lanes.lanes p inside) (c.differ.ensures.lanes.lanes p inside) (c.load-one.ensures.lanes.lanes p inside) (c.load-other.ensures.lanes.lanes p inside)
    (c.changed.ensures.same p inside)) in
    record {
      first = first_same (λ p. lane_bit unheard p ≡ true) (AreUnheardAt right wrong low count) 0 many c.first_point.result
          (λ p below yes_. (is p below).0 yes_) (λ p below at. (is p below).1 at) c.first_point.ensures.first;
    }
