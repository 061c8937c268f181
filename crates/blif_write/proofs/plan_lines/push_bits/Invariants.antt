use Rattle.std.proofs.Common.{◌≡◌, ◌-◌, ◌++◌}
use Rattle.tsc_bits.specs.Bits.{bits_of}
use Rattle.blif_write.specs.Layout.{word_of_bits}
use Rattle.blif_write.proofs.plan_lines.push_bits.Given as goal

abbrev pub invariant-loop-pin : goal.invariant-loop-pin
invariant-loop-pin l =
    l.out ++ word_of_bits (bits_of (l.width - l.pin) l.word) ≡ l.initial.out ++ word_of_bits (bits_of l.width l.word)
