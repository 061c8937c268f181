use Rattle.std.proofs.Common.{◌≡◌, ◌↔◌, ℕ, false, subst, arith}
use Rattle.lane_sim.specs.Lanes.{lane_bit}
use Rattle.unheard_cells.specs.There.{AreSameAt}
use Rattle.unheard_cells.proofs.LaneLemmas.{same_none, same_more}
use Rattle.unheard_cells.proofs.comparing.changed.Goals as goal

pub loop-place-init : goal.loop-place-init
loop-place-init c = λ p inside. same_none c.args.right.now c.args.wrong.now c.args.low p (lane_bit c.constant-changed.result p) (c.constant-changed.ensures.lanes.lanes p inside)

pub loop-place-preserved : goal.loop-place-preserved
loop-place-preserved c = λ p inside.
    same_more c.args.right.now c.args.wrong.now c.args.low c.loop-place.place p (lane_bit c.join-changed.result p) (lane_bit c.loop-place.changed p) (lane_bit c.differ.result p)
    (lane_bit c.load.result p) (lane_bit c.load-in-loop-place.result p) (c.join-changed.ensures.lanes.lanes p inside) (c.differ.ensures.lanes.lanes p inside) (c.load.ensures.lanes.lanes p inside)
    (c.load-in-loop-place.ensures.lanes.lanes p inside) c.loop-place.auto.place (c.loop-place.invariant p inside)

pub returns : goal.returns
returns c =
    let right = c.args.right.now in
    let wrong = c.args.wrong.now in
    let last : c.loop-place.place ≡ c.args.count = omega (arith, c.loop-place-test.false, c.requires.some, c.loop-place.auto.place-end) in
    record { same = λ p inside. subst (λ (n : ℕ). (lane_bit c.loop-place.changed p ≡ false) ↔ AreSameAt right wrong c.args.low n p) last (c.loop-place.invariant p inside) }
