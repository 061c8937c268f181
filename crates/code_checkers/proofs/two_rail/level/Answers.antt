use Rattle.std.proofs.Common.{◌+◌, ◌<◌, ◌≡◌, ◌∙◌, ◌++◌, drop, sym, ap, subst, refl, length, get_or, arith}
use Rattle.std.proofs.lemmas.List.{length-map}
use Rattle.code_checkers.specs.declared.pair_places.PairPlaces.{PairPlaces}
use Rattle.code_checkers.specs.Draft.{pair_at, pairs_at, PairsAreWithin}
use Rattle.code_checkers.specs.TwoRail.{level}
use Rattle.code_checkers.proofs.Kept.{pairs_pushed, pair_read, Keeps-refl, PairIsWithin_kept}
use Rattle.code_checkers.proofs.Levels.{level_step, level_last, level_end}
use Rattle.code_checkers.proofs.two_rail.level.Goals as goal
use Rattle.code_checkers.proofs.two_rail.level.Goals.{then-place-pairs+in_ok-push-2, else-place-pairs}

pub loop-place-preserved : goal.loop-place-preserved
loop-place-preserved c =
    let start = c.args.draft.now in
    let here = c.loop-place.draft in
    let ps = c.args.pairs.now in
    let i = c.loop-place.place in
    let d : PairPlaces = record { first = 0; second = 0 } in
    let lt : i < length ps = omega arith in
    let pushed = pairs_pushed start here c.cell.new.draft c.loop-place.next.items c.push.new.self.items c.in_ok-made.made _ c.loop-place.invariant.keeps c.loop-place.invariant.within c.in_ok-made.ensures.added c.in_ok-push.ensures.items in
    record {
      made =
          ap (λ made. made ++ level (drop (i + 2) (pairs_at start ps))) pushed.mean
          ∙ level_step (pairs_at here c.loop-place.next.items) (pairs_at start ps) (level (pairs_at start ps)) i (pair_at start d) (pair_at here (get_or ps i d)) (pair_at here (get_or ps (i + 1) d))
          (omega (arith, length-map ps (pair_at start)))
          (sym (pair_read start here ps i d c.loop-place.invariant.keeps c.requires.within lt))
          (sym (pair_read start here ps (i + 1) d c.loop-place.invariant.keeps c.requires.within c.loop-place-test.true))
          c.loop-place.invariant.made;
      within = pushed.within;
      keeps = pushed.keeps;
      place = omega arith;
    }

pub returns : goal.returns
returns c =
    let start = c.args.draft.now in
    let here = c.loop-place.draft in
    let ps = c.args.pairs.now in
    let i = c.loop-place.place in
    let d : PairPlaces = record { first = 0; second = 0 } in
    elim c.if-place-pairs.branch [
      | then-place-pairs+in_ok-push-2 w ↦
          let pushed = pairs_pushed start here here c.loop-place.next.items c.if-place-pairs.next.items (get_or ps i d) (pair_at here (get_or ps i d))
          c.loop-place.invariant.keeps c.loop-place.invariant.within
          (record { means = refl; within = PairIsWithin_kept c.loop-place.invariant.keeps (get_or ps i d) (c.requires.within i d w.if-place-pairs.true); keeps = Keeps-refl here })
          (ap (λ v. v.items) w.next-is ∙ w.in_ok-push-2.ensures.items) in
          record {
            added = record {
              mean = pushed.mean ∙ level_last (pairs_at here c.loop-place.next.items) (pairs_at start ps) (level (pairs_at start ps)) i (pair_at start d) (pair_at here (get_or ps i d))
                  (omega (arith, length-map ps (pair_at start), w.if-place-pairs.true))
                  (omega (arith, length-map ps (pair_at start), c.loop-place-test.false))
                  (sym (pair_read start here ps i d c.loop-place.invariant.keeps c.requires.within w.if-place-pairs.true))
                  c.loop-place.invariant.made;
              within = pushed.within;
              keeps = pushed.keeps;
            };
          }
      | else-place-pairs w ↦
          let same : c.if-place-pairs.next.items ≡ c.loop-place.next.items = ap (λ v. v.items) w.next-is in
          record {
            added = record {
              mean = ap (pairs_at here) same ∙ level_end (pairs_at here c.loop-place.next.items) (pairs_at start ps) (level (pairs_at start ps)) i
                  (omega (arith, length-map ps (pair_at start), w.if-place-pairs.false)) c.loop-place.invariant.made;
              within = subst (PairsAreWithin here) (sym same) c.loop-place.invariant.within;
              keeps = c.loop-place.invariant.keeps;
            };
          }
    ]
