use Rattle.std.proofs.Common.{◌<◌, ◌+◌, ◌∙◌, ◌++◌, ◌∷◌, [], ap, sym, length, drop, get_or, arith}
use Rattle.std.proofs.lemmas.List.{length-map}
use Rattle.code_checkers.specs.Signal.{Pair}
use Rattle.code_checkers.specs.Signal.Signal.{And, Xor}
use Rattle.code_checkers.specs.Counter.{add_carry}
use Rattle.code_checkers.specs.Gates.{meaning}
use Rattle.code_checkers.specs.Draft.{meanings}
use Rattle.code_checkers.proofs.Kept.{signal_read, signals_pushed, first_added, second_added}
use Rattle.code_checkers.proofs.Loops.{carry_step}
use Rattle.code_checkers.proofs.counter.add_carry.Goals as goal

pub loop-bit-preserved : goal.loop-bit-preserved
loop-bit-preserved c =
    let start = c.args.draft.now in
    let here = c.loop-bit.draft in
    let bits = c.args.bits.now in
    let i = c.loop-bit.bit-index in
    let b = get_or bits i 0 in
    let lt : i < length bits = c.loop-bit-test.true in
    let pair : Pair = record { first = Xor (meaning here b) (meaning here c.loop-bit.carried); second = And (meaning here b) (meaning here c.loop-bit.carried) } in
    let first = first_added here c.half_adder.new.draft pair c.in_ok-sum.sum c.in_ok-sum.ensures.added in
    let second = second_added here c.half_adder.new.draft pair c.in_ok-sum.sum c.in_ok-sum.ensures.added in
    let pushed = signals_pushed start here c.half_adder.new.draft c.loop-bit.next.items c.push.new.self.items c.in_ok-sum.sum.first (Xor (meaning here b) (meaning here c.loop-bit.carried))
    c.loop-bit.invariant.keeps c.loop-bit.invariant.within first c.in_ok-push.ensures.items in
    record {
      made =
          ap (λ made. made ++ add_carry c.args.grows (meaning c.half_adder.new.draft c.in_ok-sum.sum.second) (drop (i + 1) (meanings start bits))) pushed.mean
          ∙ ap (λ s. (meanings here c.loop-bit.next.items ++ Xor (meaning here b) (meaning here c.loop-bit.carried) ∷ []) ++ add_carry c.args.grows s (drop (i + 1) (meanings start bits))) second.means
          ∙ carry_step c.args.grows (meanings here c.loop-bit.next.items) (meanings start bits) (add_carry c.args.grows (meaning start c.args.carry) (meanings start bits)) (meaning here c.loop-bit.carried) (meaning here b) (meaning start 0) i
          (omega (arith, length-map bits (meaning start)))
          (sym (signal_read start here bits i 0 c.loop-bit.invariant.keeps c.requires.bits lt))
          c.loop-bit.invariant.made;
      within = pushed.within;
      carried = second.within;
      keeps = pushed.keeps;
    }
