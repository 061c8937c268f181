use Rattle.std.proofs.Common.{◌&&◌, ap, ap₂, ◌∙◌}
use Rattle.lane_sim.specs.Lanes.{lane_bit}
use Rattle.lane_sim.specs.TwoPins.{differ}
use Rattle.lane_sim.proofs.FormulaLemmas.{product_gives}
use Rattle.lane_sim.proofs.masks.formula_lanes.Goals as goal

pub returns-then-this-eq-PRODUCT : goal.returns-then-this-eq-PRODUCT
returns-then-this-eq-PRODUCT g c =
    let one = c.differ.ensures.lanes in
    let other = c.differ-then-this-eq-PRODUCT.ensures.lanes in
    let whole = c.differ-then-this-eq-PRODUCT-2.ensures.lanes in
    record {
      lanes = λ table has masks. record {
        sized = whole.sized;
        lanes = λ p inside.
            let a = lane_bit c.args.a p in
            let b = lane_bit c.args.b p in
            let bounds = has.product c.if-this-eq-PRODUCT.true in
            whole.lanes p inside
            ∙ ap₂ differ
            (c.meet.ensures.lanes.lanes p inside
            ∙ ap₂ ◌&&◌ (one.lanes p inside ∙ ap (differ a) (masks.second.lanes p inside)) (other.lanes p inside ∙ ap (differ b) (masks.first.lanes p inside)))
            (masks.negated.lanes p inside)
            ∙ product_gives table a b bounds.0 bounds.1;
      };
    }

pub returns : goal.returns
returns g c = record {
  lanes = λ table has masks. record {
    sized = c.differ-2.ensures.lanes.sized;
    lanes = λ p inside.
        let a = lane_bit c.args.a p in
        let b = lane_bit c.args.b p in
        let without = c.differ-without.ensures.lanes.lanes p inside ∙ ap₂ differ (masks.constant.lanes p inside) (c.meet-2.ensures.lanes.lanes p inside ∙ ap (λ f. a && f) (masks.first.lanes p inside)) in
        let with = c.differ-with.ensures.lanes.lanes p inside ∙ ap₂ differ (masks.second.lanes p inside) (c.meet-3.ensures.lanes.lanes p inside ∙ ap (λ f. a && f) (masks.both.lanes p inside)) in
        c.differ-2.ensures.lanes.lanes p inside ∙ ap₂ differ without (c.meet-4.ensures.lanes.lanes p inside ∙ ap (λ w. b && w) with);
  };
}
