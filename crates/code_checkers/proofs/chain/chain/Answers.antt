use Rattle.std.proofs.Common.{◌<◌, ◌+◌, ◌-◌, ◌∙◌, ℕ, List, ap, sym, length, take, drop, get_or, arith}
use Rattle.std.proofs.lemmas.List.{length-map}
use Rattle.code_checkers.specs.Signal.{chain_from, chain}
use Rattle.code_checkers.specs.Chain.{joined}
use Rattle.code_checkers.specs.Gates.{meaning}
use Rattle.code_checkers.specs.Draft.{meanings}
use Rattle.code_checkers.proofs.Kept.{Keeps-trans, signal_read}
use Rattle.code_checkers.proofs.Loops.{chain_step}
use Rattle.code_checkers.proofs.chain.chain.Goals as goal

pub loop-place-preserved : goal.loop-place-preserved
loop-place-preserved c =
    let start = c.args.draft.now in
    let here = c.loop-place.draft in
    let items : List ℕ = take (length c.args.places.now - 1) (drop 1 c.args.places.now) in
    let i = c.loop-place.place-index in
    let lt : i < length items = c.loop-place-test.true in
    record {
      made =
          ap (λ s. chain_from (joined c.args.joint) s (drop (i + 1) (meanings start items))) c.in_ok-made.ensures.added.means
          ∙ chain_step (joined c.args.joint) (meanings start items) (chain (joined c.args.joint) (meanings start c.args.places.now)) (meaning here c.loop-place.made) (meaning here (get_or items i 0)) (meaning start 0) i
          (omega (arith, length-map items (meaning start)))
          (sym (signal_read start here items i 0 c.loop-place.invariant.keeps c.loop-place.invariant.items lt))
          c.loop-place.invariant.made;
      within = c.in_ok-made.ensures.added.within;
      items = c.loop-place.invariant.items;
      keeps = Keeps-trans c.loop-place.invariant.keeps c.in_ok-made.ensures.added.keeps;
    }
