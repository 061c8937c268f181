-- What stood before the place is gathered.
use Rattle.refutations.proofs.Gathering.{IsGathered}
use Rattle.refutations.proofs.clauses.gather.Given as goal

abbrev pub invariant-loop-place : goal.invariant-loop-place
invariant-loop-place l = record {
  gathered : IsGathered l.fn.entries.items l.fn.pool.items l.place l.kept l.end l.entries.items l.pool.items;
}
