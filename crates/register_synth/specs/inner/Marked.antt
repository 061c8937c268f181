-- The places that are marked in a stretch of marks.
use Rattle.std.specs.Prelude.{ℕ, ◌+◌, ◌<◌, Bool, List, IsTrue}
use Rattle.fault_secure.specs.Circuit.{bit}
use Rattle.register_synth.specs.Kept.{AreThose}

-- the marked places of the stretch that begins at `first`, so many of them, counted from its begin
pub record AreMarked (marks : List Bool) (first count : ℕ) (places : List ℕ) : Type 0 where
  pub are : AreThose (λ place. (place < count) × IsTrue (bit marks (first + place))) places
