-- Drafts of a checker: gates in any order, the same one as often as it is convenient. What a place means, it goes on meaning.
use Rattle.std.specs.Prelude.{◌≡◌, ℕ, ◌<◌, ◌≤◌, List, map, length, All}
use Rattle.code_checkers.specs.declared.gate.CheckGate.{CheckGate}
use Rattle.code_checkers.specs.declared.pair_places.PairPlaces.{PairPlaces}
use Rattle.code_checkers.specs.Signal.{Signal, Pair}
use Rattle.code_checkers.specs.Gates.{meaning}

-- the places are there
abbrev pub AreWithin : List CheckGate → List ℕ → Type 0
AreWithin gates places = All (λ place. place < length gates) places

abbrev pub meanings : List CheckGate → List ℕ → List Signal
meanings gates places = map (meaning gates) places

-- new gates may have come, and each earlier place means what it meant
pub record Keeps (old new : List CheckGate) : Type 0 where
  pub grows : length old ≤ length new
  pub same : (place : ℕ) → place < length old → meaning new place ≡ meaning old place

-- a signal was added, at this place
pub record IsAdded (old new : List CheckGate) (signal : Signal) (place : ℕ) : Type 0 where
  pub means : meaning new place ≡ signal
  pub within : place < length new
  pub keeps : Keeps old new

-- signals were added, at these places
pub record AreAdded (old new : List CheckGate) (signals : List Signal) (places : List ℕ) : Type 0 where
  pub mean : meanings new places ≡ signals
  pub within : AreWithin new places
  pub keeps : Keeps old new

-- the pair at two places
abbrev pub pair_at : List CheckGate → PairPlaces → Pair
pair_at gates p = record { first = meaning gates p.first; second = meaning gates p.second }

abbrev pub PairIsWithin : List CheckGate → PairPlaces → Type 0
PairIsWithin gates p = (p.first < length gates) × (p.second < length gates)

abbrev pub pairs_at : List CheckGate → List PairPlaces → List Pair
pairs_at gates ps = map (pair_at gates) ps

abbrev pub PairsAreWithin : List CheckGate → List PairPlaces → Type 0
PairsAreWithin gates ps = All (PairIsWithin gates) ps

-- a pair was added
pub record PairIsAdded (old new : List CheckGate) (pair : Pair) (p : PairPlaces) : Type 0 where
  pub means : pair_at new p ≡ pair
  pub within : PairIsWithin new p
  pub keeps : Keeps old new

-- pairs were added
pub record PairsAreAdded (old new : List CheckGate) (pairs : List Pair) (ps : List PairPlaces) : Type 0 where
  pub mean : pairs_at new ps ≡ pairs
  pub within : PairsAreWithin new ps
  pub keeps : Keeps old new
