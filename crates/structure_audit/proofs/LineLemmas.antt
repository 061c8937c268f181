-- The marks of one line, as the masks of all lines are made.
use Rattle.std.proofs.Common.{◌≡◌, ℕ, zero, suc, ◌+◌, ◌-◌, ◌^◌, ◌<◌, ◌≤◌, ◌==◌, ◌≢◌, inl, inr, bit_or, Bool, true, false, ◌||◌, if◌then◌else◌, List, [], ◌∷◌, length, replicate, slice_index, slice_set, refl, sym, ◌∙◌, ap, ap₂, subst, arith, length-set}
use Rattle.std.proofs.lemmas.Bool.{cases_lt}
use Rattle.std.proofs.lemmas.Grind.{common_steps}
use Rattle.std.proofs.lemmas.List.{get_or-map}
use Rattle.std.proofs.lemmas.Nat.Bits.{bit_at-pow_same, bit_at-pow_other}
use Rattle.tsc_bits.specs.Bits.{bit_worth}
use Rattle.tsc_bits.proofs.Bits.{bit_worth-or, bit_worth-zero}
use Rattle.fault_secure.specs.Circuit.{bit}
use Rattle.net_cones.specs.Marks.{mark_driver, mark_drivers, marked_pins}
use Rattle.net_cones.proofs.MarkLemmas.{mark_driver-before, mark_driver-from}
use Rattle.structure_audit.specs.Lines.{line_marks, with_lines, with_all_lines, with_roots}
use Rattle.tsc_bits.proofs.Bools.{or-true, or-false}

-- ---- one bit

pub bit_worth-pow_same : (k : ℕ) → bit_worth k (2 ^ k) ≡ true
bit_worth-pow_same k = ap (λ n. n == 1) (bit_at-pow_same k)

pub bit_worth-pow_other : (j k : ℕ) → k ≢ j → bit_worth k (2 ^ j) ≡ false
bit_worth-pow_other j k apart = ap (λ n. n == 1) (bit_at-pow_other j k apart)

pub marks_clear : (k n : ℕ) → line_marks k (replicate n 0) ≡ replicate n false
marks_clear k zero = refl
marks_clear k (suc n) = ap₂ (λ (b : Bool) (bs : List Bool). b ∷ bs) (bit_worth-zero k) (marks_clear k n)

-- ---- lines at one driver

with_lines-before : (first lines net : ℕ) (masks : List ℕ) → net < first → with_lines first lines net masks ≡ masks
with_lines-before first lines net masks h = grind (arith, common_steps)

with_lines-from : (first lines net : ℕ) (masks : List ℕ) → first ≤ net → with_lines first lines net masks ≡ slice_set masks (net - first) (bit_or (slice_index masks (net - first)) lines)
with_lines-from first lines net masks h = grind (arith, common_steps)

pub length-with_lines : (first lines net : ℕ) (masks : List ℕ) → length (with_lines first lines net masks) ≡ length masks
length-with_lines first lines net masks = elim (cases_lt net first) [
  | inl low ↦ ap length (with_lines-before first lines net masks low)
  | inr high ↦ ap length (with_lines-from first lines net masks high) ∙ length-set masks (net - first) (bit_or (slice_index masks (net - first)) lines)
]

set_in : (k lines at : ℕ) (masks : List ℕ) → bit_worth k lines ≡ true → line_marks k (slice_set masks at (bit_or (slice_index masks at) lines)) ≡ slice_set (line_marks k masks) at true
set_in k lines at [] is = refl
set_in k lines zero (mask ∷ masks) is = ap (λ b. b ∷ line_marks k masks) (bit_worth-or k mask lines ∙ ap (λ b. bit_worth k mask || b) is ∙ or-true (bit_worth k mask))
set_in k lines (suc at) (mask ∷ masks) is = ap (λ bs. bit_worth k mask ∷ bs) (set_in k lines at masks is)

set_out : (k lines at : ℕ) (masks : List ℕ) → bit_worth k lines ≡ false → line_marks k (slice_set masks at (bit_or (slice_index masks at) lines)) ≡ line_marks k masks
set_out k lines at [] is = refl
set_out k lines zero (mask ∷ masks) is = ap (λ b. b ∷ line_marks k masks) (bit_worth-or k mask lines ∙ ap (λ b. bit_worth k mask || b) is ∙ or-false (bit_worth k mask))
set_out k lines (suc at) (mask ∷ masks) is = ap (λ bs. bit_worth k mask ∷ bs) (set_out k lines at masks is)

-- the line is among those that are added: its marks get the driver
pub lines_in : (k first lines net : ℕ) (masks : List ℕ) → bit_worth k lines ≡ true → line_marks k (with_lines first lines net masks) ≡ mark_driver first net (line_marks k masks)
lines_in k first lines net masks is = elim (cases_lt net first) [
  | inl low ↦ ap (line_marks k) (with_lines-before first lines net masks low) ∙ sym (mark_driver-before first net (line_marks k masks) low)
  | inr high ↦ ap (line_marks k) (with_lines-from first lines net masks high) ∙ set_in k lines (net - first) masks is ∙ sym (mark_driver-from first net (line_marks k masks) high)
]

-- it isn't: its marks stay
pub lines_out : (k first lines net : ℕ) (masks : List ℕ) → bit_worth k lines ≡ false → line_marks k (with_lines first lines net masks) ≡ line_marks k masks
lines_out k first lines net masks is = elim (cases_lt net first) [
  | inl low ↦ ap (line_marks k) (with_lines-before first lines net masks low)
  | inr high ↦ ap (line_marks k) (with_lines-from first lines net masks high) ∙ set_out k lines (net - first) masks is
]

-- ---- lines at the drivers of some nets

pub length-with_all_lines : (first lines : ℕ) (nets masks : List ℕ) → length (with_all_lines first lines nets masks) ≡ length masks
length-with_all_lines first lines [] masks = refl
length-with_all_lines first lines (net ∷ nets) masks = length-with_all_lines first lines nets (with_lines first lines net masks) ∙ length-with_lines first lines net masks

all_in : (k first lines : ℕ) (nets masks : List ℕ) → bit_worth k lines ≡ true → line_marks k (with_all_lines first lines nets masks) ≡ mark_drivers first nets (line_marks k masks)
all_in k first lines [] masks is = refl
all_in k first lines (net ∷ nets) masks is = all_in k first lines nets (with_lines first lines net masks) is ∙ ap (mark_drivers first nets) (lines_in k first lines net masks is)

all_out : (k first lines : ℕ) (nets masks : List ℕ) → bit_worth k lines ≡ false → line_marks k (with_all_lines first lines nets masks) ≡ line_marks k masks
all_out k first lines [] masks is = refl
all_out k first lines (net ∷ nets) masks is = all_out k first lines nets (with_lines first lines net masks) is ∙ lines_out k first lines net masks is

-- a node hands its lines on: for each line that is the step of marking its cone
pub handed_on : (k first place : ℕ) (reads masks : List ℕ) → place < length masks
    → line_marks k (with_all_lines first (slice_index masks place) reads masks) ≡ marked_pins first place reads (line_marks k masks)
handed_on k first place reads masks within = choose (bit_worth k (slice_index masks place)) refl
  where
    at : bit (line_marks k masks) place ≡ bit_worth k (slice_index masks place)
    at = get_or-map (bit_worth k) masks place 0 false within

    pick : (b : Bool) → bit (line_marks k masks) place ≡ b → marked_pins first place reads (line_marks k masks) ≡ (if b then mark_drivers first reads (line_marks k masks) else line_marks k masks)
    pick b is = ap (λ b. if b then mark_drivers first reads (line_marks k masks) else line_marks k masks) is

    choose : (b : Bool) → bit_worth k (slice_index masks place) ≡ b → line_marks k (with_all_lines first (slice_index masks place) reads masks) ≡ marked_pins first place reads (line_marks k masks)
    choose true is = all_in k first (slice_index masks place) reads masks is ∙ sym (pick true (at ∙ is))
    choose false is = all_out k first (slice_index masks place) reads masks is ∙ sym (pick false (at ∙ is))

-- ---- each line at its driver

pub length-with_roots : (first place : ℕ) (word masks : List ℕ) → length (with_roots first place word masks) ≡ length masks
length-with_roots first place [] masks = refl
length-with_roots first place (net ∷ word) masks = length-with_roots first (place + 1) word (with_lines first (2 ^ place) net masks) ∙ length-with_lines first (2 ^ place) net masks

-- the lines at earlier places keep their marks
roots_before : (k first place : ℕ) (word masks : List ℕ) → k < place → line_marks k (with_roots first place word masks) ≡ line_marks k masks
roots_before k first place [] masks low = refl
roots_before k first place (net ∷ word) masks low =
    roots_before k first (place + 1) word (with_lines first (2 ^ place) net masks) (omega arith)
    ∙ lines_out k first (2 ^ place) net masks (bit_worth-pow_other place k (omega arith))

-- each line gets its driver alone
pub roots_in : (i k first place : ℕ) (word masks : List ℕ) → i < length word → k ≡ place + i → line_marks k (with_roots first place word masks) ≡ mark_driver first (slice_index word i) (line_marks k masks)
roots_in i k first place [] masks within is = absurd (omega arith)
roots_in zero k first place (net ∷ word) masks within is =
    let same : k ≡ place = omega arith in
    roots_before k first (place + 1) word (with_lines first (2 ^ place) net masks) (omega arith)
    ∙ lines_in k first (2 ^ place) net masks (subst (λ j. bit_worth k (2 ^ j) ≡ true) same (bit_worth-pow_same k))
roots_in (suc i) k first place (net ∷ word) masks within is =
    roots_in i k first (place + 1) word (with_lines first (2 ^ place) net masks) (omega arith) (omega arith)
    ∙ ap (mark_driver first (slice_index word i)) (lines_out k first (2 ^ place) net masks (bit_worth-pow_other place k (omega arith)))
