-- The cones of some nets, one for each net.
use Rattle.std.specs.Prelude.{◌≡◌, ℕ, ◌<◌, Bool, List, [], ◌∷◌, length, slice_index}
use Rattle.fault_secure.specs.Circuit.{Circuit}
use Rattle.net_cones.specs.Cones.{MarksCone}
use Rattle.parity_code.specs.FirstFit.{marks_of}

-- a list of marks for each of the roots: its cone
pub record AreCones (C : Circuit) (roots : List ℕ) (cones : List (List Bool)) : Type 0 where
  pub sized : length cones ≡ length roots
  pub each : (o : ℕ) → o < length roots → MarksCone C (slice_index roots o ∷ []) (marks_of cones o)
