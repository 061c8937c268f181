use Rattle.std.proofs.Common.{◌<◌, ◌+◌, ◌∙◌, ◌++◌, length, drop, get_or, sym, ap, arith}
use Rattle.std.proofs.lemmas.List.{length-map}
use Rattle.code_checkers.specs.Signal.{Pair}
use Rattle.code_checkers.specs.Signal.Signal.{Word, Not}
use Rattle.code_checkers.specs.Checker.{count_pairs}
use Rattle.code_checkers.specs.Gates.{meaning}
use Rattle.code_checkers.specs.Draft.{meanings, pairs_at}
use Rattle.code_checkers.proofs.Kept.{pairs_pushed, signal_read}
use Rattle.code_checkers.proofs.Loops.{count_pairs_step}
use Rattle.code_checkers.proofs.pairs.count_pairs.Goals as goal

pub loop-bit-preserved : goal.loop-bit-preserved
loop-bit-preserved c =
    let start = c.args.draft.now in
    let here = c.loop-bit.draft in
    let bits = c.args.bits.now in
    let i = c.loop-bit.bit-index in
    let b = get_or bits i 0 in
    let lt : i < length bits = c.loop-bit-test.true in
    let pair : Pair = record { first = Not (meaning here b); second = Word c.loop-bit.place } in
    let pushed = pairs_pushed start here c.count_pair.new.draft c.loop-bit.pairs.items c.push.new.self.items c.in_ok-made.made pair
    c.loop-bit.invariant.keeps c.loop-bit.invariant.within c.in_ok-made.ensures.added c.in_ok-push.ensures.items in
    record {
      made =
          ap (λ made. made ++ count_pairs (c.loop-bit.place + 1) (drop (i + 1) (meanings start bits))) pushed.mean
          ∙ count_pairs_step (pairs_at here c.loop-bit.pairs.items) (count_pairs c.args.check (meanings start bits)) (meanings start bits) c.loop-bit.place i (meaning here b) (meaning start 0)
          (omega (arith, length-map bits (meaning start)))
          (sym (signal_read start here bits i 0 c.loop-bit.invariant.keeps c.requires.bits lt))
          c.loop-bit.invariant.made;
      place = omega (arith, c.loop-bit.invariant.place);
      within = pushed.within;
      keeps = pushed.keeps;
    }
