use Rattle.std.proofs.Common.{◌≡◌, ◌+◌, drop, not}
use Rattle.std.specs.List.{list_any, position_or_len}
use Rattle.parity_code.specs.FirstFit.{share}
use Rattle.register_synth.proofs.groups.first_apart.Given as goal

abbrev pub invariant-loop-place : goal.invariant-loop-place
invariant-loop-place l =
    l.place + position_or_len (λ group. not (list_any (share l.cells l.output) group)) (drop l.place l.groups)
    ≡ position_or_len (λ group. not (list_any (share l.cells l.output) group)) l.groups
