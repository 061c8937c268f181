use Rattle.std.proofs.Common.{◌≡◌, drop}
use Rattle.std.specs.List.{list_any}
use Rattle.tsc_net.specs.Parts.{begins_with}
use Rattle.twin_synth.proofs.names.some_name_begins_with.Given as goal

-- what is left has such a name where the whole does
abbrev pub invariant-loop-place : goal.invariant-loop-place
invariant-loop-place l = list_any (begins_with l.prefix) (drop l.place l.source.names) ≡ list_any (begins_with l.prefix) l.source.names
