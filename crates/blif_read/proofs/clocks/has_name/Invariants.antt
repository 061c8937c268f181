use Rattle.std.proofs.Common.{◌≡◌, length}
use Rattle.std.specs.List.{slice_range, list_any}
use Rattle.std.specs.Str.{bytes_eq}
use Rattle.blif_read.specs.LineKind.{names_of}
use Rattle.blif_read.proofs.clocks.has_name.Given as goal

abbrev pub invariant-loop-place : goal.invariant-loop-place
invariant-loop-place l = list_any (bytes_eq l.name) (names_of l.line) ≡ list_any (bytes_eq l.name) (slice_range l.line.words l.place (length l.line.words))
