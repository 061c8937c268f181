-- What was appended, and the characters of the bits from here on.
use Rattle.std.proofs.Common.{◌≡◌, ◌++◌, drop, map}
use Rattle.sim_text.specs.StepLine.{digit}
use Rattle.wide_answers.proofs.wide_line.push_digits.Given as goal

abbrev pub invariant-loop-bit : goal.invariant-loop-bit
invariant-loop-bit l = l.out ++ map digit (drop l.bit-index l.bits) ≡ l.initial.out ++ map digit l.bits
