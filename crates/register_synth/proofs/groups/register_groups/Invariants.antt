use Rattle.std.proofs.Common.{◌≡◌}
use Rattle.parity_code.specs.FirstFit.{first_fit, share}
use Rattle.register_synth.proofs.groups.register_groups.Given as goal

abbrev pub invariant-loop-output : goal.invariant-loop-output
invariant-loop-output l = l.groups ≡ first_fit (share l.cells) l.output
