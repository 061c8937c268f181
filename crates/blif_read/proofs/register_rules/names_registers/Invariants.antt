use Rattle.std.proofs.Common.{◌≡◌, ◌-◌, length}
use Rattle.std.specs.List.{slice_range, list_all}
use Rattle.blif_read.specs.LineKind.{pins_of}
use Rattle.blif_read.specs.RegisterFault.{is_register}
use Rattle.blif_read.proofs.register_rules.names_registers.Given as goal

abbrev pub invariant-loop-place : goal.invariant-loop-place
invariant-loop-place l =
    list_all (is_register l.net) (pins_of l.line)
    ≡ list_all (is_register l.net) (slice_range l.line.words l.place (length l.line.words - 1))
