-- A count that rises in one of several calls.
use Rattle.std.proofs.Common.{ℕ, ◌≤◌, arith}
use Rattle.tsc_io.specs.Counts.{Rose}

-- a count that rose later rose in all
pub Rose-later : (before mid after : ℕ) → before ≤ mid → mid ≤ after → Rose mid after → Rose before after
Rose-later before mid after stays stayed rose = grind arith
