use Rattle.std.proofs.Common.{◌≡◌, drop}
use Rattle.std.specs.List.{list_any}
use Rattle.parity_code.specs.FirstFit.{share}
use Rattle.register_synth.proofs.groups.shares_with_some.Given as goal

abbrev pub invariant-loop-member : goal.invariant-loop-member
invariant-loop-member l = list_any (share l.cells l.output) (drop l.member-index l.group) ≡ list_any (share l.cells l.output) l.group
