-- Where listed faults are, and the nets that a plan shows.
use Rattle.std.proofs.Common.{◌≡◌, ℕ, zero, suc, ◌+◌, ◌<◌, ◌≤◌, List, [], ◌∷◌, length, take, map, replicate, refl, sym, ap, subst, ◌∙◌, All, arith, get_or}
use Rattle.std.proofs.lemmas.List.{length-append, length-replicate, length-map, take-map}
use Rattle.std.proofs.lemmas.List.Elements.{All-nil, All-cons, All-append, All-take}
use Rattle.std.specs.Prelude.{true, false}
use Rattle.fault_secure.specs.Circuit.{Circuit, nets}
use Rattle.fault_secure.specs.StuckAt.{StuckAt, Stem, Pin, fault_cell}
use Rattle.fault_secure.specs.Listed.{pin_faults, faults_at, faults_from, pin_counts, listed_faults}
use Rattle.fault_secure.specs.CodePlan.{CodePlan}
use Rattle.tsc_net.specs.PlanView.{net_numbers}
use Rattle.tsc_net.specs.declared.ids.NetId.{NetId}
use Rattle.tsc_net.proofs.NetNumbers.{all_numbers}
use Rattle.fault_grades.specs.Batch.{HasNets}
use Rattle.fault_grades.specs.declared.grade.Grade.{Grade as Kept}
use Rattle.fault_grades.specs.declared.grade.Grade.TheVariants.{Unseen as Neither}

module _ (bound : ℕ) where
  abbrev IsBelow : StuckAt → Type 0
  IsBelow f = fault_cell f < bound

  pins_below : (net pin pins : ℕ) → net < bound → All IsBelow (pin_faults net pin pins)
  pins_below net pin zero low = All-nil IsBelow
  pins_below net pin (suc pins) low =
      All-cons IsBelow (Pin net pin false) (Pin net pin true ∷ pin_faults net (pin + 1) pins) low (All-cons IsBelow (Pin net pin true) (pin_faults net (pin + 1) pins) low (pins_below net (pin + 1) pins low))

  driver_below : (net pins : ℕ) → net < bound → All IsBelow (faults_at net pins)
  driver_below net pins low =
      All-cons IsBelow (Stem net false) (Stem net true ∷ pin_faults net 0 pins) low (All-cons IsBelow (Stem net true) (pin_faults net 0 pins) low (pins_below net 0 pins low))

  from_below : (net : ℕ) (counts : List ℕ) → net + length counts ≤ bound → All IsBelow (faults_from net counts)
  from_below net [] low = All-nil IsBelow
  from_below net (pins ∷ counts) low = All-append IsBelow (faults_at net pins) (faults_from (net + 1) counts) (driver_below net pins (omega arith)) (from_below (net + 1) counts (omega arith))

-- each listed fault is at a net of the circuit
pub listed_below : (N : Circuit) → All (λ f. fault_cell f < nets N) (listed_faults N)
listed_below N = from_below (nets N) N.inputs (pin_counts N) (let e : length (pin_counts N) ≡ length N.latches + length N.nodes = many in omega arith)
  where
    many : length (pin_counts N) ≡ length N.latches + length N.nodes
    many = length-append (replicate (length N.latches) 1) (map (λ n. length n.reads) N.nodes)
        ∙ (λ i. length-replicate {A = ℕ} (length N.latches) 1 i + length-map N.nodes (λ n. length n.reads) i)

-- the first nets of the circuit's outputs, and the rails
pub plan_nets : (N : Circuit) (P : CodePlan) (list first : List NetId) (count : ℕ) → first ≡ take count list → count ≡ P.outputs → net_numbers list ≡ N.outputs
    → All (λ net. net < nets N) N.outputs → (P.rail1 < nets N) × (P.rail2 < nets N) → HasNets N P first
plan_nets N P list first count is many numbers closed rails = record {
  numbers = ap net_numbers is ∙ sym (take-map (λ (net : NetId). net.number) count list) ∙ ap (take count) numbers ∙ ap (λ k. take k N.outputs) many;
  within = subst (All (λ (net : NetId). net.number < nets N)) (sym is)
      (All-take (λ (net : NetId). net.number < nets N) count list (all_numbers (λ net. net < nets N) list (subst (All (λ net. net < nets N)) (sym numbers) closed)));
  rail1 = rails.0;
  rail2 = rails.1;
}

-- a list of unseen faults
pub all_unseen : (grades : List Kept) (many place : ℕ) → grades ≡ replicate many Neither → get_or grades place Neither ≡ Neither
all_unseen grades many place is = ap (λ (list : List Kept). get_or list place Neither) is ∙ none many place
  where
    none : (many place : ℕ) → get_or (replicate many Neither) place Neither ≡ Neither
    none zero place = refl
    none (suc many) zero = refl
    none (suc many) (suc place) = none many place
