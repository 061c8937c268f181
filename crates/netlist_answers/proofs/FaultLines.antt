-- The lines of the listed faults, one driver after the other.
use Rattle.std.proofs.Common.{◌≡◌, ℕ, zero, suc, ◌+◌, ◌-◌, ◌<◌, ◌≤◌, true, false, List, ◌++◌, drop, refl, sym, ap, ap₂, ◌∙◌, append_assoc, arith}
use Rattle.std.specs.List.{flat_map}
use Rattle.std.proofs.lemmas.List.Concat.{flat_map-append}
use Rattle.fault_secure.specs.Circuit.{Circuit, nets}
use Rattle.fault_secure.specs.Listed.{faults_at, faults_from, listed_faults, pin_counts, pin_faults}
use Rattle.fault_secure.specs.StuckAt.{Stem, Pin, pins_of}
use Rattle.fault_secure.proofs.ListedLemmas.{faults_from-next}
use Rattle.tsc_net.proofs.FaultNumbers.{left_from}
use Rattle.tsc_net.specs.Names.{text_at}
use Rattle.netlist_answers.specs.FaultList.{driver_lines, fault_line, pin_lines, pins_lines, stem_lines}

-- the lines of both faults of a pin, and those behind them
pin_first : (names : List (List ℕ)) (net pin : ℕ) (rest : List ℕ)
    → fault_line names (Pin net pin false) ++ (fault_line names (Pin net pin true) ++ rest) ≡ pin_lines (text_at names net) pin ++ rest
pin_first names net pin rest = simp append_assoc

stem_first : (names : List (List ℕ)) (net : ℕ) (rest : List ℕ)
    → fault_line names (Stem net false) ++ (fault_line names (Stem net true) ++ rest) ≡ stem_lines (text_at names net) ++ rest
stem_first names net rest = simp append_assoc

-- the lines of the faults of pins
pins_are : (names : List (List ℕ)) (net pin pins : ℕ) → flat_map (fault_line names) (pin_faults net pin pins) ≡ pins_lines (text_at names net) pin pins
pins_are names net pin zero = refl
pins_are names net pin (suc pins) =
    pin_first names net pin (flat_map (fault_line names) (pin_faults net (pin + 1) pins))
    ∙ ap (λ (l : List ℕ). pin_lines (text_at names net) pin ++ l) (pins_are names net (pin + 1) pins)

-- the lines of the faults of a driver
driver_is : (names : List (List ℕ)) (net pins : ℕ) → flat_map (fault_line names) (faults_at net pins) ≡ driver_lines (text_at names net) pins
driver_is names net pins =
    stem_first names net (flat_map (fault_line names) (pin_faults net 0 pins))
    ∙ ap (λ (l : List ℕ). stem_lines (text_at names net) ++ l) (pins_are names net 0 pins)

-- the lines of the pins from one on
pub pins_lines-next : (net : List ℕ) (pin most rest : ℕ) → most ≡ suc rest → pins_lines net pin most ≡ pin_lines net pin ++ pins_lines net (pin + 1) rest
pins_lines-next net pin most rest e = rw e refl

module _ (C : Circuit) where
  -- from the first net that is no input they are all
  pub left_from-first : (net : ℕ) → net ≡ C.inputs → left_from C net ≡ listed_faults C
  left_from-first net e =
      let none : net - C.inputs ≡ 0 = omega arith in
      ap (λ (k : ℕ). faults_from net (drop k (pin_counts C))) none ∙ ap (λ (n : ℕ). faults_from n (pin_counts C)) e

  -- their lines are those of its driver, and those from the next net on
  pub lines_from-next : (names : List (List ℕ)) (net : ℕ) (name : List ℕ) (pins : ℕ) → C.inputs ≤ net → net < nets C
      → name ≡ text_at names net → pins ≡ pins_of C net
      → flat_map (fault_line names) (left_from C net) ≡ driver_lines name pins ++ flat_map (fault_line names) (left_from C (net + 1))
  lines_from-next names net name pins not_input is_net named counted =
      ap (flat_map (fault_line names)) (faults_from-next C net not_input is_net)
      ∙ flat_map-append (fault_line names) (faults_at net (pins_of C net)) (left_from C (net + 1))
      ∙ ap (λ (l : List ℕ). l ++ flat_map (fault_line names) (left_from C (net + 1))) (driver_is names net (pins_of C net))
      ∙ ap₂ (λ (n : List ℕ) (p : ℕ). driver_lines n p ++ flat_map (fault_line names) (left_from C (net + 1))) (sym named) (sym counted)
