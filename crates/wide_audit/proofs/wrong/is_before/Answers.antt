use Rattle.std.proofs.Common.{◌≡◌, Bool, true, false, not, refl, sym, arith}
use Rattle.std.proofs.lemmas.Bool.{false≢true}
use mathlib.Core.Bool.{beq}
use Rattle.wide_audit.proofs.Orders.{before_at, alike}
use Rattle.wide_audit.proofs.wrong.is_before.Goals as goal

-- of two bits that differ
first_low : (a b : Bool) → not (beq a b) ≡ true → b ≡ true → a ≡ false
first_low true true differ high = absurd (false≢true differ)
first_low true false differ high = absurd (false≢true high)
first_low false b differ high = refl

first_high : (a b : Bool) → not (beq a b) ≡ true → b ≡ false → a ≡ true
first_high true b differ low = refl
first_high false false differ low = absurd (false≢true differ)
first_high false true differ low = absurd (false≢true (sym low))

pub returns-then-first-i-clause-before : goal.returns-then-first-i-clause-before
returns-then-first-i-clause-before c = λ sized high.
    (before_at c.args.first.now c.args.second.now c.loop-i.i (omega (arith, c.min-count.ensures, c.loop-i-test.true)) (omega (arith, c.min-count.ensures, c.loop-i-test.true)) c.loop-i.invariant
    (first_low _ _ c.if-first-i.true high) high).0

pub returns-then-first-i-clause-strictly : goal.returns-then-first-i-clause-strictly
returns-then-first-i-clause-strictly c = λ sized high.
    (before_at c.args.first.now c.args.second.now c.loop-i.i (omega (arith, c.min-count.ensures, c.loop-i-test.true)) (omega (arith, c.min-count.ensures, c.loop-i-test.true)) c.loop-i.invariant
    (first_low _ _ c.if-first-i.true high) high).1

pub returns-then-first-i-clause-otherwise : goal.returns-then-first-i-clause-otherwise
returns-then-first-i-clause-otherwise c = λ sized low.
    (before_at c.args.second.now c.args.first.now c.loop-i.i (omega (arith, c.min-count.ensures, c.loop-i-test.true)) (omega (arith, c.min-count.ensures, c.loop-i-test.true))
    (λ k below. sym (c.loop-i.invariant k below)) low (first_high _ _ c.if-first-i.true low)).0

pub returns-clause-otherwise : goal.returns-clause-otherwise
returns-clause-otherwise c = λ sized low.
    alike c.args.first.now c.args.second.now sized (λ k below. c.loop-i.invariant k (omega (arith, c.min-count.ensures, c.loop-i-test.false, sized, below)))
