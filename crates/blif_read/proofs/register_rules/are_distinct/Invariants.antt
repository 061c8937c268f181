use Rattle.std.proofs.Common.{◌≡◌, ◌-◌, length}
use Rattle.std.specs.List.{slice_range}
use Rattle.tsc_net.specs.NetFault.{first_repeat, repeat_after}
use Rattle.blif_read.specs.LineKind.{pins_of}
use Rattle.blif_read.proofs.register_rules.are_distinct.Given as goal

abbrev pub invariant-loop-place : goal.invariant-loop-place
invariant-loop-place l =
    first_repeat (pins_of l.line) ≡ repeat_after l.table (slice_range l.line.words l.place (length l.line.words - 1))
