use Rattle.tsc_text.proofs.Within.{IsRead}
use Rattle.tsc_text.proofs.reading.scan_bytes.Given as goal

abbrev pub invariant-loop-at : goal.invariant-loop-at
invariant-loop-at l = IsRead l.text l.at l.scan
