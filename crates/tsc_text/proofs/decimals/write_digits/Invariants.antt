use Rattle.tsc_text.proofs.Digits.{AreWritten}
use Rattle.tsc_text.proofs.decimals.write_digits.Given as goal

abbrev pub invariant-loop-rest : goal.invariant-loop-rest
invariant-loop-rest l = AreWritten l.value l.rest l.start l.digits

abbrev pub decreases-loop-rest : goal.decreases-loop-rest
decreases-loop-rest l = l.rest
