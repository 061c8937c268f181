use Rattle.std.proofs.Common.{◌<◌, ◌+◌, ◌≡◌, ◌∙◌, ◌++◌, ◌∷◌, ℕ, List, map, length, drop, sym, ap, arith}
use Rattle.tsc_net.specs.declared.plan.Group.{Group}
use Rattle.code_checkers.specs.Signal.{Pair, chain}
use Rattle.code_checkers.specs.Signal.Signal.{Word, Xor}
use Rattle.code_checkers.specs.Checker.{group_pairs}
use Rattle.code_checkers.specs.Draft.{pairs_at}
use Rattle.code_checkers.proofs.Kept.{pairs_pushed}
use Rattle.code_checkers.proofs.Loops.{drop_at, group_pairs_step}
use Rattle.code_checkers.proofs.plan_checker.group_pairs.Goals as goal

places_of : Group → List ℕ
places_of group = group.places

pub loop-group-preserved : goal.loop-group-preserved
unfolding places_of
loop-group-preserved c =
    let groups = c.args.groups.now in
    let i = c.loop-group.group-index in
    let group = c.as_slice.result.now in
    let lt : i < length groups = c.loop-group-test.true in
    let pair : Pair = record { first = chain Xor (map Word group); second = Word c.loop-group.place } in
    let pushed = pairs_pushed c.args.draft.now c.loop-group.draft c.group_pair.new.draft c.loop-group.pairs.items c.push.new.self.items c.in_ok-made.made pair
    c.loop-group.invariant.keeps c.loop-group.invariant.within c.in_ok-made.ensures.added c.in_ok-push.ensures.items in
    let split : map places_of (drop i groups) ≡ group ∷ map places_of (drop (i + 1) groups) =
    ap (map places_of) (drop_at groups i c.group-item.result c.group-item.result lt c.group-item.is)
    ∙ ap (λ (places : List ℕ). places ∷ map places_of (drop (i + 1) groups)) (sym c.as_slice.ensures.whole) in
    record {
      made =
          ap (λ made. made ++ group_pairs (c.loop-group.place + 1) (map places_of (drop (i + 1) groups))) pushed.mean
          ∙ group_pairs_step (pairs_at c.loop-group.draft c.loop-group.pairs.items) (group_pairs c.args.check (map places_of groups)) group (map places_of (drop i groups)) (map places_of (drop (i + 1) groups)) c.loop-group.place split c.loop-group.invariant.made;
      place = omega (arith, c.loop-group.invariant.place);
      within = pushed.within;
      keeps = pushed.keeps;
    }
