use Rattle.std.proofs.Common.{◌≡◌, not, length}
use Rattle.std.specs.List.{slice_range, list_any}
use Rattle.std.specs.Option.{is_some}
use Rattle.tsc_net.specs.Names.{find_text}
use Rattle.blif_read.specs.LineKind.{names_of}
use Rattle.blif_read.proofs.plan_names.has_unknown_from.Given as goal

abbrev pub invariant-loop-place : goal.invariant-loop-place
invariant-loop-place l =
    list_any (λ name. not (is_some (find_text l.net.names name))) (names_of l.line)
    ≡ list_any (λ name. not (is_some (find_text l.net.names name))) (slice_range l.line.words l.place (length l.line.words))
