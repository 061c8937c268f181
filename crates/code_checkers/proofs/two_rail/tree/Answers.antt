use Rattle.std.proofs.Common.{◌<◌, ◌∙◌, List, ap, subst, length, arith}
use Rattle.std.proofs.lemmas.List.{length-map}
use Rattle.code_checkers.specs.declared.pair_places.PairPlaces.{PairPlaces}
use Rattle.code_checkers.specs.Draft.{pair_at, pairs_at, PairsAreAdded}
use Rattle.code_checkers.specs.TwoRail.{tree, level}
use Rattle.code_checkers.proofs.TwoRail.{level_some, level_less}
use Rattle.code_checkers.proofs.Kept.{Keeps-trans}
use Rattle.code_checkers.proofs.Levels.{tree-level}
use Rattle.code_checkers.proofs.two_rail.tree.Goals as goal

pub levels-smaller : goal.levels-smaller
levels-smaller c =
    let added = subst (λ (ps : List PairPlaces). PairsAreAdded c.levels.draft c.level.new.draft (level (pairs_at c.levels.draft ps)) c.in_ok-left.left.items) c.deref.ensures.value c.in_ok-left.ensures.added in
    let more : 1 < length (pairs_at c.levels.draft c.levels.left.items) = omega (arith, length-map c.levels.left.items (pair_at c.levels.draft)) in
    let less : length c.in_ok-left.left.items < length c.levels.left.items =
    omega (arith, length-map c.in_ok-left.left.items (pair_at c.level.new.draft), ap length added.mean, level_less (pairs_at c.levels.draft c.levels.left.items) more, length-map c.levels.left.items (pair_at c.levels.draft)) in
    less

pub levels-preserved : goal.levels-preserved
levels-preserved c =
    let added = subst (λ (ps : List PairPlaces). PairsAreAdded c.levels.draft c.level.new.draft (level (pairs_at c.levels.draft ps)) c.in_ok-left.left.items) c.deref.ensures.value c.in_ok-left.ensures.added in
    let some : 0 < length (pairs_at c.levels.draft c.levels.left.items) = omega (arith, length-map c.levels.left.items (pair_at c.levels.draft), c.levels.invariant.some) in
    let left : 0 < length c.in_ok-left.left.items =
    omega (arith, length-map c.in_ok-left.left.items (pair_at c.level.new.draft), ap length added.mean, level_some (pairs_at c.levels.draft c.levels.left.items) some) in
    record {
      same = ap tree added.mean ∙ tree-level (pairs_at c.levels.draft c.levels.left.items) ∙ c.levels.invariant.same;
      some = left;
      within = added.within;
      keeps = Keeps-trans c.levels.invariant.keeps added.keeps;
    }
