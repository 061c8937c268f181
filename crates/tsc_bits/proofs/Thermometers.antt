-- Thermometers: their bits, the number of their ones, the number that they stand for, and one bit more.
use Rattle.std.specs.Prelude.{◌≡◌, ◌↔◌, ℕ, zero, suc, ◌+◌, ◌-◌, ◌^◌, ◌<◌, ◌≤◌, Bool, true, false, IsTrue, ◌&&◌, ◌||◌, List, [], ◌∷◌, ◌++◌, length, drop, get_or, slice_index_or, leb, refl}
use Rattle.std.proofs.Common.{sym, ◌∙◌, ap, arith}
use Rattle.std.proofs.Math.Nat.{pow-succ'}
use Rattle.std.proofs.lemmas.List.{append_assoc, drop_more, drop_all}
use Rattle.std.proofs.lemmas.Bool.{false≢true, le-leb, lt-leb}
use Rattle.std.proofs.lemmas.Bool.Decides.{nat_tests}
use Rattle.tsc_bits.specs.Bits.{weight_of, bits_of, binary}
use Rattle.tsc_bits.specs.Counting.{ones}
use Rattle.tsc_bits.specs.Thermometer.{thermo, row_with}
use Rattle.tsc_bits.proofs.Bits.{bits_of-binary}
use Rattle.tsc_bits.proofs.Counting.{ones-cons}

pub thermo_length : (k n : ℕ) → length (thermo k n) ≡ k
thermo_length zero n = refl
thermo_length (suc k) zero = ap suc (thermo_length k zero)
thermo_length (suc k) (suc n) = ap suc (thermo_length k n)

pub thermo_bit : (k n j : ℕ) → j < k → (IsTrue (slice_index_or (thermo k n) j false) ↔ j < n)
thermo_bit zero n j h = absurd (omega arith)
thermo_bit (suc k) zero zero h = (λ t. absurd (false≢true t), λ lt. absurd (omega arith))
thermo_bit (suc k) zero (suc j) h =
    let rest = thermo_bit k zero j (omega arith) in
    (λ t. let none : j < zero = rest.0 t in absurd (omega arith), λ lt. absurd (omega arith))
thermo_bit (suc k) (suc n) zero h = (λ t. omega arith, λ lt. refl)
thermo_bit (suc k) (suc n) (suc j) h =
    let rest = thermo_bit k n j (omega arith) in
    (λ t. let less : j < n = rest.0 t in omega arith, λ lt. rest.1 (omega arith))

-- the same, as a test
pub thermo-at : (size n j : ℕ) (d : Bool) → j < size → slice_index_or (thermo size n) j d ≡ leb (suc j) n
thermo-at zero n j d h = absurd (omega arith)
thermo-at (suc size) zero zero d h = sym (lt-leb 1 0 (omega arith))
thermo-at (suc size) (suc n) zero d h = sym (le-leb 1 (suc n) (omega arith))
thermo-at (suc size) zero (suc j) d h = thermo-at size zero j d (omega arith) ∙ lt-leb (suc j) 0 (omega arith) ∙ sym (lt-leb (suc (suc j)) 0 (omega arith))
thermo-at (suc size) (suc n) (suc j) d h = thermo-at size n j d (omega arith) ∙ grind (arith, nat_tests)

pub thermo_ones : (k n : ℕ) → n ≤ k → ones (thermo k n) ≡ n
thermo_ones zero n h = omega arith
thermo_ones (suc k) zero h = omega (arith, ones-cons false (thermo k zero), thermo_ones k zero (omega arith))
thermo_ones (suc k) (suc n) h = omega (arith, ones-cons true (thermo k n), thermo_ones k n (omega arith))

binary-none : (k : ℕ) → binary (thermo k zero) ≡ 0
binary-none zero = refl
binary-none (suc k) = omega (arith, binary-none k)

-- the number of a thermometer
binary-thermo : (k n : ℕ) → n ≤ k → binary (thermo k n) + 2 ^ (k - n) ≡ 2 ^ k
binary-thermo zero n h = ap (λ m. 0 + 2 ^ m) (none n)
  where
    none : (n : ℕ) → zero - n ≡ zero
    none n = omega arith
binary-thermo (suc k) zero h = omega (arith, binary-none (suc k), ap (λ m. 2 ^ m) (whole k))
  where
    whole : (k : ℕ) → suc k - zero ≡ suc k
    whole k = omega arith
binary-thermo (suc k) (suc n) h =
    let less : suc k - suc n ≡ k - n = omega arith in
    omega (arith, ap (λ m. 2 ^ m) less, ap (λ m. 2 ^ m) (thermo_length k n), pow-succ' 2 k, binary-thermo k n (omega arith))

-- the bits of the number that ends a thermometer
pub thermo_value : (k n value : ℕ) → n ≤ k → value + 2 ^ (k - n) ≡ 2 ^ k → bits_of k value ≡ thermo k n
thermo_value k n value within e =
    let same : value ≡ binary (thermo k n) = omega (arith, binary-thermo k n within) in
    ap (bits_of k) same ∙ ap (λ m. bits_of m (binary (thermo k n))) (sym (thermo_length k n)) ∙ bits_of-binary (thermo k n)

row_with-none : (size n : ℕ) → n ≤ size → row_with false false (thermo size n) ≡ thermo (suc size) n
row_with-none zero zero h = refl
row_with-none zero (suc n) h = absurd (omega arith)
row_with-none (suc size) zero h = ap (λ bits. false ∷ bits) (row_with-none size zero (omega arith))
row_with-none (suc size) (suc n) h = ap (λ bits. true ∷ bits) (row_with-none size n (omega arith))

row_with-stop : (size : ℕ) → row_with false true (thermo size zero) ≡ thermo (suc size) zero
row_with-stop zero = refl
row_with-stop (suc size) = ap (λ bits. false ∷ bits) (row_with-stop size)

row_with-one : (size n : ℕ) → n ≤ size → row_with true true (thermo size n) ≡ thermo (suc size) (suc n)
row_with-one zero zero h = refl
row_with-one zero (suc n) h = absurd (omega arith)
row_with-one (suc size) zero h = ap (λ bits. true ∷ bits) (row_with-stop size)
row_with-one (suc size) (suc n) h = ap (λ bits. true ∷ bits) (row_with-one size n (omega arith))

-- a thermometer with one bit more
pub row_with-more : (more : Bool) (size n : ℕ) → n ≤ size → row_with more more (thermo size n) ≡ thermo (size + 1) (n + weight_of more)
row_with-more true size n h =
    let longer : suc size ≡ size + 1 = omega arith in
    let one : suc n ≡ n + weight_of true = omega arith in
    row_with-one size n h ∙ ap (λ m. thermo m (suc n)) longer ∙ ap (thermo (size + 1)) one
row_with-more false size n h =
    let longer : suc size ≡ size + 1 = omega arith in
    let none : n ≡ n + weight_of false = omega arith in
    row_with-none size n h ∙ ap (λ m. thermo m n) longer ∙ ap (thermo (size + 1)) none

pub row_step : (made row goal : List Bool) (carried more t d : Bool) (i : ℕ) → i < length row → t ≡ get_or row i d
    → made ++ row_with carried more (drop i row) ≡ goal → (made ++ (t || carried) ∷ []) ++ row_with (t && more) more (drop (i + 1) row) ≡ goal
row_step made row goal carried more t d i lt e h =
    append_assoc made ((t || carried) ∷ []) (row_with (t && more) more (drop (i + 1) row))
    ∙ ap (λ rest. made ++ row_with carried more rest) (sym (drop_more row i d lt ∙ ap (λ y. y ∷ drop (i + 1) row) (sym e))) ∙ h

pub row_end : (made row goal : List Bool) (carried more : Bool) (i : ℕ) → length row ≤ i
    → made ++ row_with carried more (drop i row) ≡ goal → made ++ carried ∷ [] ≡ goal
row_end made row goal carried more i end h = ap (λ rest. made ++ row_with carried more rest) (sym (drop_all i row end)) ∙ h
