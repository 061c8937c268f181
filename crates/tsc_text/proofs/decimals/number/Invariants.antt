use Rattle.std.proofs.Common.{◌≡◌, ◌<◌, ◌^◌, drop}
use Rattle.tsc_text.proofs.Digits.{number_from}
use Rattle.tsc_text.proofs.decimals.number.Given as goal

abbrev pub invariant-loop-byte : goal.invariant-loop-byte
invariant-loop-byte l = (number_from l.value (drop l.byte-index l.word) ≡ number_from 0 l.word) × (l.value < 2 ^ 64)
