-- What holds at the points of words.
use Rattle.std.proofs.Common.{◌≡◌, ℕ, ◌+◌, ◌-◌, ◌<◌, ◌≤◌, Bool, true, false, not, ◌&&◌, ◌⊎◌, inl, inr, List, length, bit_and, bit_or, bit_xor, refl, sym, ap, ap₂, ◌∙◌, arith, below_more}
use Rattle.std.specs.Prelude.{slice_index}
use Rattle.std.proofs.lemmas.List.{length-map}
use Rattle.std.proofs.lemmas.Bool.{true≢false}
use Rattle.tsc_bits.specs.Bits.{bit_worth, bits_of}
use Rattle.tsc_bits.proofs.Bits.{bit_worth-and, length-bits_of, get_or-bits_of}
use Rattle.fault_secure.specs.Circuit.{bit}
use Rattle.lane_sim.proofs.LaneLemmas.{bit_of_ones}
use Rattle.code_lanes.specs.Lanes.{column}
use Rattle.code_lanes.proofs.LaneLemmas.{neither, same_bit, bit_of_column}
use Rattle.behaviour_audit.specs.Lanes.{ChosenOrFree}
use Rattle.behaviour_audit.proofs.BitLemmas.{same_items}

-- a word that is met by a mask has no bit where the mask has one and both together don't
pub outside : (k mask word : ℕ) → bit_worth k (bit_and mask word) ≡ false → bit_worth k mask ≡ true → bit_worth k word ≡ false
outside k mask word zero_ inside = left (bit_worth k mask) (bit_worth k word) (sym (bit_worth-and k mask word) ∙ zero_) inside
  where
    left : (x y : Bool) → (x && y) ≡ false → x ≡ true → y ≡ false
    left true y e h = e
    left false y e h = absurd (true≢false (sym h))

-- two words that are met have no bit where one of them has none
pub either : (k a b : ℕ) → bit_worth k (bit_and a b) ≡ false → (bit_worth k a ≡ false) ⊎ (bit_worth k b ≡ false)
either k a b zero_ = one (bit_worth k a) (bit_worth k b) (sym (bit_worth-and k a b) ∙ zero_)
  where
    one : (x y : Bool) → (x && y) ≡ false → (x ≡ false) ⊎ (y ≡ false)
    one false y h = inl refl
    one true y h = inr h

-- lanes with the same bits at a point
pub same_columns : (k : ℕ) (as_ bs : List ℕ) → length as_ ≡ length bs → ((p : ℕ) → p < length as_ → bit_worth k (slice_index as_ p) ≡ bit_worth k (slice_index bs p)) → column k as_ ≡ column k bs
same_columns k as_ bs sized each = same_items (column k as_) (column k bs) (length-map as_ (bit_worth k) ∙ (sized ∙ sym (length-map bs (bit_worth k))))
    (λ p inside. bit_of_column k as_ p ∙ (each p (omega (arith, length-map as_ (bit_worth k))) ∙ sym (bit_of_column k bs p)))

-- where a difference that is met by the other bits of a lane is 0, that lane has a 1, or there is no difference
pub free_or_same : (version k lane chosen free bound : ℕ) → version ≡ 2 → bit_worth k bound ≡ not (bit_worth k free) → bit_worth k (bit_and (bit_xor lane chosen) bound) ≡ false
    → ((version ≡ 2) × (bit_worth k free ≡ true)) ⊎ (bit_worth k lane ≡ bit_worth k chosen)
free_or_same version k lane chosen free bound two other zero_ =
    by (bit_worth k (bit_xor lane chosen)) (bit_worth k free) refl refl
    (ap (λ (b : Bool). bit_worth k (bit_xor lane chosen) && b) (sym other) ∙ (sym (bit_worth-and k (bit_xor lane chosen) bound) ∙ zero_))
  where
    by : (d f : Bool) → bit_worth k (bit_xor lane chosen) ≡ d → bit_worth k free ≡ f → (bit_worth k (bit_xor lane chosen) && not (bit_worth k free)) ≡ false
        → ((version ≡ 2) × (bit_worth k free ≡ true)) ⊎ (bit_worth k lane ≡ bit_worth k chosen)
    by d true differ_ is both = inl (two, is)
    by false false differ_ is both = inr ((same_bit k lane chosen).0 differ_)
    by true false differ_ is both = absurd (true≢false (ap₂ (λ (a b : Bool). a && not b) (sym differ_) (sym is) ∙ both))

-- lanes that have the chosen bits at a point, but where they are free
pub columns_bound : (version k : ℕ) (lanes chosen free : List ℕ)
    → ((p : ℕ) → p < length lanes → ((version ≡ 2) × (bit_worth k (slice_index free p) ≡ true)) ⊎ (bit_worth k (slice_index lanes p) ≡ bit_worth k (slice_index chosen p)))
    → ChosenOrFree version (column k free) (column k chosen) (column k lanes)
columns_bound version k lanes chosen free each place inside = there (each place (omega (arith, length-map lanes (bit_worth k))))
  where
    there : ((version ≡ 2) × (bit_worth k (slice_index free place) ≡ true)) ⊎ (bit_worth k (slice_index lanes place) ≡ bit_worth k (slice_index chosen place))
        → ((version ≡ 2) × (bit (column k free) place ≡ true)) ⊎ (bit (column k lanes) place ≡ bit (column k chosen) place)
    there (inl is) = inl (is.0, bit_of_column k free place ∙ is.1)
    there (inr same) = inr (bit_of_column k lanes place ∙ (same ∙ sym (bit_of_column k chosen place)))

-- what holds where a word that is gathered has a 0
pub zeros_more : (Q : ℕ → ℕ → Type 0) (wrong more n : ℕ) → ((k : ℕ) → k < 64 → bit_worth k wrong ≡ false → (p : ℕ) → p < n → Q k p)
    → ((k : ℕ) → k < 64 → bit_worth k more ≡ false → Q k n) → (k : ℕ) → k < 64 → bit_worth k (bit_or wrong more) ≡ false → (p : ℕ) → p < n + 1 → Q k p
zeros_more Q wrong more n before here k few zero_ =
    let parts = (neither k wrong more).0 zero_ in
    below_more (Q k) n (before k few parts.0) (here k few parts.1)

-- lanes that have the bits of a number
pub column_is : (k wanted n : ℕ) (lanes : List ℕ) → length lanes ≡ n → n ≤ 64
    → ((p : ℕ) → p < length lanes → bit_worth (length lanes - 1 - p) 18446744073709551615 ≡ true → bit (column k lanes) p ≡ bit_worth (length lanes - 1 - p) wanted)
    → column k lanes ≡ bits_of n wanted
column_is k wanted n lanes sized few fits =
    let many = length-map lanes (bit_worth k) in
    same_items (column k lanes) (bits_of (length lanes) wanted) (many ∙ sym (length-bits_of (length lanes) wanted))
    (λ p inside.
    let within : p < length lanes = omega arith in
    fits p within (bit_of_ones (length lanes - 1 - p) (omega arith)) ∙ sym (get_or-bits_of (length lanes) wanted p within))
    ∙ ap (λ (m : ℕ). bits_of m wanted) sized
