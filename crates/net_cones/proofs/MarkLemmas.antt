-- What marking the drivers of nets marks.
use Rattle.std.proofs.Common.{◌≡◌, ℕ, zero, suc, ◌+◌, ◌-◌, ◌<◌, ◌≤◌, ◌⊎◌, inl, inr, Bool, true, List, [], ◌∷◌, length, slice_set, Contains, IsTrue, refl, sym, ◌∙◌, ap, subst, arith, length-set}
use Rattle.std.proofs.lemmas.Bool.{cases_lt}
use Rattle.std.proofs.lemmas.Grind.{common_steps}
use Rattle.fault_secure.specs.Circuit.{bit}
use Rattle.net_cones.specs.Marks.{mark_driver, mark_drivers}

-- for a net below the first that a node drives nothing is marked
pub mark_driver-before : (first net : ℕ) (marks : List Bool) → net < first → mark_driver first net marks ≡ marks
mark_driver-before first net marks h = grind (arith, common_steps)

-- for a net from the first on that a node drives, the mark of its driver is set
pub mark_driver-from : (first net : ℕ) (marks : List Bool) → first ≤ net → mark_driver first net marks ≡ slice_set marks (net - first) true
mark_driver-from first net marks h = grind (arith, common_steps)

pub length-mark_driver : (first net : ℕ) (marks : List Bool) → length (mark_driver first net marks) ≡ length marks
length-mark_driver first net marks = elim (cases_lt net first) [
  | inl low ↦ ap length (mark_driver-before first net marks low)
  | inr high ↦ ap length (mark_driver-from first net marks high) ∙ length-set marks (net - first) true
]

-- marking the drivers of nets keeps the number of marks
pub length-mark_drivers : (first : ℕ) (nets : List ℕ) (marks : List Bool) → length (mark_drivers first nets marks) ≡ length marks
length-mark_drivers first [] marks = refl
length-mark_drivers first (net ∷ nets) marks = length-mark_drivers first nets (mark_driver first net marks) ∙ length-mark_driver first net marks

-- a mark stays
bit_stays : (marks : List Bool) (at q : ℕ) → IsTrue (bit marks q) → IsTrue (bit (slice_set marks at true) q)
bit_stays [] at q is = is
bit_stays (m ∷ marks) zero zero is = refl
bit_stays (m ∷ marks) zero (suc q) is = is
bit_stays (m ∷ marks) (suc at) zero is = is
bit_stays (m ∷ marks) (suc at) (suc q) is = bit_stays marks at q is

-- a place is marked because it was, or because it was set
bit_from : (marks : List Bool) (at q : ℕ) → IsTrue (bit (slice_set marks at true) q) → IsTrue (bit marks q) ⊎ (at ≡ q)
bit_from [] at q is = inl is
bit_from (m ∷ marks) zero zero is = inr refl
bit_from (m ∷ marks) zero (suc q) is = inl is
bit_from (m ∷ marks) (suc at) zero is = inl is
bit_from (m ∷ marks) (suc at) (suc q) is = elim (bit_from marks at q is) [ inl old ↦ inl old | inr e ↦ inr (ap suc e) ]

bit_set : (marks : List Bool) (at : ℕ) → at < length marks → IsTrue (bit (slice_set marks at true) at)
bit_set [] at within = absurd (omega arith)
bit_set (m ∷ marks) zero within = refl
bit_set (m ∷ marks) (suc at) within = bit_set marks at (omega arith)

driver_stays : (first net q : ℕ) (marks : List Bool) → IsTrue (bit marks q) → IsTrue (bit (mark_driver first net marks) q)
driver_stays first net q marks is = elim (cases_lt net first) [
  | inl low ↦ subst (λ m. IsTrue (bit m q)) (sym (mark_driver-before first net marks low)) is
  | inr high ↦ subst (λ m. IsTrue (bit m q)) (sym (mark_driver-from first net marks high)) (bit_stays marks (net - first) q is)
]

driver_from : (first net q : ℕ) (marks : List Bool) → IsTrue (bit (mark_driver first net marks) q) → IsTrue (bit marks q) ⊎ (net ≡ first + q)
driver_from first net q marks is = elim (cases_lt net first) [
  | inl low ↦ inl (subst (λ m. IsTrue (bit m q)) (mark_driver-before first net marks low) is)
  | inr high ↦ elim (bit_from marks (net - first) q (subst (λ m. IsTrue (bit m q)) (mark_driver-from first net marks high) is)) [
    | inl old ↦ inl old
    | inr e ↦ inr (omega arith)
  ]
]

driver_set : (first net q : ℕ) (marks : List Bool) → q < length marks → net ≡ first + q → IsTrue (bit (mark_driver first net marks) q)
driver_set first net q marks within is =
    let e : net - first ≡ q = omega arith in
    let set : IsTrue (bit (slice_set marks q true) q) = bit_set marks q within in
    subst (λ m. IsTrue (bit m q)) (sym (mark_driver-from first net marks (omega arith))) (subst (λ at. IsTrue (bit (slice_set marks at true) q)) (sym e) set)

pub drivers_stay : (first q : ℕ) (nets : List ℕ) (marks : List Bool) → IsTrue (bit marks q) → IsTrue (bit (mark_drivers first nets marks) q)
drivers_stay first q [] marks is = is
drivers_stay first q (net ∷ nets) marks is = drivers_stay first q nets (mark_driver first net marks) (driver_stays first net q marks is)

-- what is marked after marking the drivers of nets was marked before, or drives one of the nets
pub drivers_from : (first q : ℕ) (nets : List ℕ) (marks : List Bool) → IsTrue (bit (mark_drivers first nets marks) q) → IsTrue (bit marks q) ⊎ Contains nets (first + q)
drivers_from first q [] marks is = inl is
drivers_from first q (net ∷ nets) marks is =
    elim (drivers_from first q nets (mark_driver first net marks) is) [
      | inl old ↦ elim (driver_from first net q marks old) [ inl older ↦ inl older | inr here ↦ inr (0, omega arith, here) ]
      | inr (k, within, e) ↦ inr (suc k, omega arith, e)
    ]

-- a node that drives one of the nets is marked
pub drivers_set : (first q : ℕ) (nets : List ℕ) (marks : List Bool) → q < length marks → Contains nets (first + q) → IsTrue (bit (mark_drivers first nets marks) q)
drivers_set first q [] marks within (k, there, e) = absurd (omega arith)
drivers_set first q (net ∷ nets) marks within (zero, there, e) = drivers_stay first q nets (mark_driver first net marks) (driver_set first net q marks within e)
drivers_set first q (net ∷ nets) marks within (suc k, there, e) =
    let count : length (mark_driver first net marks) ≡ length marks = length-mark_driver first net marks in
    drivers_set first q nets (mark_driver first net marks) (omega arith) (k, omega arith, e)
