use Rattle.std.proofs.Common.{◌≡◌}
use Rattle.std.specs.List.{slice_range}
use Rattle.blif_read.specs.Faults.{limit_in}
use Rattle.blif_read.proofs.limits.limit_in.Given as goal

abbrev pub invariant-loop-place : goal.invariant-loop-place
invariant-loop-place l =
    limit_in l.tally.which l.tally.most l.tally.count (slice_range l.line.words l.from l.to)
    ≡ limit_in l.tally.which l.tally.most l.count (slice_range l.line.words l.place l.to)
