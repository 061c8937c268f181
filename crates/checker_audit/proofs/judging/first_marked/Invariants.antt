use Rattle.std.proofs.Common.{◌≡◌, ℕ, ◌<◌, false}
use Rattle.tsc_bits.specs.Bits.{bit_worth}
use Rattle.checker_audit.proofs.judging.first_marked.Given as goal

-- none of the points so far has a 1
abbrev pub invariant-loop-at : goal.invariant-loop-at
invariant-loop-at l = (p : ℕ) → p < l.at → bit_worth p l.word ≡ false
