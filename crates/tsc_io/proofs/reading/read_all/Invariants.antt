use Rattle.std.proofs.Common.{◌+◌, ◌-◌, ◌≤◌, length}
use Rattle.std.specs.Io.KnownBytes.{Consumes}
use Rattle.tsc_io.proofs.reading.read_all.Given as goal

-- what came is held, and each call that was made gave a byte of it
abbrev pub invariant-loop-held : goal.invariant-loop-held
invariant-loop-held g l = record {
  came : Consumes (g.S.Source.left l.initial.source) (g.S.Source.left l.source) l.held;
  within : length l.held ≤ l.limit;
  faults_stay : g.S.Source.faults l.initial.source ≤ g.S.Source.faults l.source;
  calls_stay : g.S.Source.calls l.initial.source ≤ g.S.Source.calls l.source;
  few_calls : g.S.Source.calls l.source ≤ g.S.Source.calls l.initial.source + length l.held;
}

abbrev pub decreases-loop-held : goal.decreases-loop-held
decreases-loop-held g l = l.limit + 1 - length l.held
