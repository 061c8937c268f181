-- How many gates a network takes at most.
use Rattle.std.specs.Prelude.{ℕ, ◌+◌, ◌*◌, length}
use Rattle.tsc_cover.specs.Cover.{CoverTable}
use Rattle.fault_secure.specs.Circuit.{Circuit}
use Rattle.fault_secure.specs.Size.{cover_literals, network_size}

-- as many as a cover takes at most: for each literal a Not and an And, for each row an Or and the constant 1, and for the
-- cover a Not and the constant 0
abbrev pub cover_gates : CoverTable → ℕ
cover_gates c = 2 * (cover_literals c + length c.rows + 1)

-- and as many as a network does: one for each input, and those of its covers
abbrev pub network_gates : Circuit → ℕ
network_gates C = C.inputs + 2 * network_size C
