use Rattle.std.proofs.Common.{◌≡◌, ℕ, ◌<◌, List, [], All, length, slice_index_or, ap, subst, sym, ◌∙◌}
use Rattle.std.proofs.lemmas.List.Elements.{All-push}
use Rattle.tsc_net.specs.PartsView.{IsName}
use Rattle.parity_code.proofs.GroupSteps.{get_default}
use Rattle.parity_code.proofs.PredictorParts.{grows_twice, names_stay}
use Rattle.parity_code.proofs.PredictorGroups.{group_added, group_counted, group_check}
use Rattle.parity_code.proofs.predictors.add_predictors.Goals as goal

-- the item of a slice of the groups
item_is : (groups slice : List (List ℕ)) (i : ℕ) (item group : List ℕ) → slice ≡ groups → i < length slice → item ≡ slice_index_or slice i item → group ≡ item
    → group ≡ slice_index_or groups i []
item_is groups slice i item group whole there is same =
    same ∙ get_default groups i item (subst (λ (list : List (List ℕ)). i < length list) whole there) (is ∙ ap (λ (list : List (List ℕ)). slice_index_or list i item) whole)

pub loop-group-preserved : goal.loop-group-preserved
loop-group-preserved c =
    let there = subst (λ (list : List (List ℕ)). c.loop-group.group-index < length list) c.as_slice-group-items.ensures.whole c.loop-group-test.true in
    let group = item_is c.args.groups.now c.as_slice-group-items.result.now c.loop-group.group-index c.group-item.result c.as_slice.result.now c.as_slice-group-items.ensures.whole
    c.loop-group-test.true c.group-item.is c.as_slice.ensures.whole in
    let loop = c.loop-group.invariant in
    let step = c.in_ok-check.ensures in
    record {
      added = group_added c.args.net.now c.args.groups.now c.loop-group.group-index there c.args.parts.now c.loop-group.parts c.add_predictor.new.parts c.as_slice.result.now group loop.added step.added;
      checks = group_check c.args.net.now c.args.groups.now c.loop-group.group-index there c.args.parts.now c.loop-group.parts c.add_predictor.new.parts c.as_slice.result.now group loop.added step.added
          c.loop-group.checks c.push.new.self c.in_ok-check.check step.grows loop.names loop.checks step.check c.in_ok-push.ensures.ok;
      names = subst (All (IsName c.add_predictor.new.parts.names)) (sym c.in_ok-push.ensures.ok)
          (All-push (IsName c.add_predictor.new.parts.names) c.loop-group.checks c.in_ok-check.check
          (names_stay c.loop-group.parts c.add_predictor.new.parts c.loop-group.checks step.grows loop.names) step.check.0);
      counted = group_counted c.args.net.now c.args.groups.now c.loop-group.group-index there c.args.parts.now c.loop-group.parts c.add_predictor.new.parts c.as_slice.result.now group loop.added step.added
          _ loop.counted;
      grows = grows_twice c.args.parts.now c.loop-group.parts c.add_predictor.new.parts loop.grows step.grows;
    }
