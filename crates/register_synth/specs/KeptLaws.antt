-- The laws of what is kept of a source, and of its groups: their statements.
use Rattle.std.specs.Prelude.{◌≡◌, ℕ, List}
use Rattle.fault_secure.specs.Circuit.{Circuit}
use Rattle.fault_secure.specs.Closed.{IsClosed}
use Rattle.fault_secure.specs.Settle.{Acyclic}
use Rattle.register_laws.specs.Part.{IsPart}
use Rattle.register_synth.specs.Kept.{AreKept, kept_part, kept_place}
use Rattle.register_synth.specs.RegisterGroups.{AreRegisterGroups}

-- what is kept of a closed source without a ring is a part of it
abbrev pub KeptIsPart : Type 0
KeptIsPart = (S : Circuit) (registers covers : List ℕ) → IsClosed S → Acyclic S → AreKept S registers covers
    → IsPart (kept_part S registers covers) S (kept_place S registers covers)

-- a circuit has at most one list of kept registers, and at most one of kept covers
abbrev pub OneIsKept : Type 0
OneIsKept = (C : Circuit) (registers covers others more : List ℕ) → AreKept C registers covers → AreKept C others more → (registers ≡ others) × (covers ≡ more)

-- and at most one list of groups
abbrev pub OneGrouping : Type 0
OneGrouping = (C : Circuit) (groups others : List (List ℕ)) → AreRegisterGroups C groups → AreRegisterGroups C others → groups ≡ others
