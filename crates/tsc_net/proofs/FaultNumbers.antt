-- How many faults are listed, one driver after the other.
use Rattle.std.proofs.Common.{◌≡◌, ℕ, zero, suc, ◌+◌, ◌-◌, ◌*◌, ◌<◌, ◌≤◌, List, ◌++◌, length, drop, refl, ap, arith}
use Rattle.std.proofs.lemmas.List.{length-append}
use Rattle.fault_secure.specs.Circuit.{Circuit, nets}
use Rattle.fault_secure.specs.Listed.{faults_at, faults_from, pin_counts, pin_faults}
use Rattle.fault_secure.specs.StuckAt.{StuckAt, pins_of}
use Rattle.fault_secure.proofs.ListedLemmas.{faults_from-next}

-- how many faults the pins have
length-pin_faults : (net pin pins : ℕ) → length (pin_faults net pin pins) ≡ 2 * pins
length-pin_faults net pin zero = refl
length-pin_faults net pin (suc pins) = omega (arith, length-pin_faults net (pin + 1) pins)

module _ (C : Circuit) where
  -- the faults from a net on
  abbrev pub left_from : ℕ → List StuckAt
  left_from net = faults_from net (drop (net - C.inputs) (pin_counts C))

  -- their number is that of the driver's, and that from the next net on
  pub length-left_from : (net : ℕ) → C.inputs ≤ net → net < nets C → length (left_from net) ≡ 2 + 2 * pins_of C net + length (left_from (net + 1))
  length-left_from net not_input is_net =
      let split : length (left_from net) ≡ length (faults_at net (pins_of C net) ++ left_from (net + 1)) = ap length (faults_from-next C net not_input is_net) in
      omega (arith, split, length-append (faults_at net (pins_of C net)) (left_from (net + 1)), length-pin_faults net 0 (pins_of C net))
