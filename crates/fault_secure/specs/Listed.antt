-- The listed faults, in order: latches, then nodes in text order; for each the stem at 0 and 1, then pin by pin at 0 and 1.
use Rattle.std.specs.Prelude.{ℕ, zero, suc, ◌+◌, true, false, List, [], ◌∷◌, ◌++◌, length, map, replicate}
use Rattle.fault_secure.specs.Circuit.{Circuit}
use Rattle.fault_secure.specs.StuckAt.{StuckAt, Stem, Pin}

-- both faults of each of the pins from number `pin` on
abbrev pub pin_faults : ℕ → ℕ → ℕ → List StuckAt
pin_faults net pin zero = []
pin_faults net pin (suc pins) = Pin net pin false ∷ Pin net pin true ∷ pin_faults net (pin + 1) pins

-- the faults of a latch or node that drives a net and has so many pins
abbrev pub faults_at : ℕ → ℕ → List StuckAt
faults_at net pins = Stem net false ∷ Stem net true ∷ pin_faults net 0 pins

-- the faults of the drivers of the nets from `net` on, by their numbers of pins
abbrev pub faults_from : ℕ → List ℕ → List StuckAt
faults_from net [] = []
faults_from net (pins ∷ counts) = faults_at net pins ++ faults_from (net + 1) counts

-- the number of pins of each latch, which is 1, and of each node
abbrev pub pin_counts : Circuit → List ℕ
pin_counts N = replicate (length N.latches) 1 ++ map (λ n. length n.reads) N.nodes

-- the listed faults of a circuit: those of each latch and of each node, in the order of the nets that they drive
abbrev pub listed_faults : Circuit → List StuckAt
listed_faults N = faults_from N.inputs (pin_counts N)
