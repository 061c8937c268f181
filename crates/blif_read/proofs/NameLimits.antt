-- The limits on names and counts, one name after the other.
use Rattle.std.proofs.Common.{◌≡◌, ℕ, ◌+◌, ◌<◌, ◌≤◌, Bool, true, false, List, [], ◌∷◌, length, get_or, arith, refl, Option, None, Some, if◌then◌else◌, nat_le}
use Rattle.std.specs.List.{slice_range}
use Rattle.std.proofs.lemmas.Grind.{common_steps}
use Rattle.blif_read.specs.Faults.{is_long, limit_in, limit}
use Rattle.tsc_text.specs.declared.which.Which.{Which}
use Rattle.tsc_text.specs.declared.which.Which.TheVariants.{NameBytes}
use Rattle.tsc_bits.proofs.Ranges.{range_cons, range_none}

pub limit_in_long : (which : Which) (most count : ℕ) (words : List (List ℕ)) (place to : ℕ) → place < to → to ≤ length words
    → is_long (get_or words place []) ≡ true → limit_in which most count (slice_range words place to) ≡ Some NameBytes
limit_in_long which most count words place to h k e = rw (range_cons words place to [] h k, e) refl

pub limit_in_most : (which : Which) (most count : ℕ) (words : List (List ℕ)) (place to : ℕ) → place < to → to ≤ length words
    → is_long (get_or words place []) ≡ false → most ≤ count → limit_in which most count (slice_range words place to) ≡ Some which
limit_in_most which most count words place to h k e m =
    let f : nat_le most count ≡ true = grind (arith, common_steps) in
    rw (range_cons words place to [] h k, e, f) refl

pub limit_in_step : (which : Which) (most count : ℕ) (words : List (List ℕ)) (place to : ℕ) → place < to → to ≤ length words
    → is_long (get_or words place []) ≡ false → count < most
    → limit_in which most count (slice_range words place to) ≡ limit_in which most (count + 1) (slice_range words (place + 1) to)
limit_in_step which most count words place to h k e m =
    let f : nat_le most count ≡ false = grind (arith, common_steps) in
    rw (range_cons words place to [] h k, e, f) refl

pub limit_in_end : (which : Which) (most count : ℕ) (words : List (List ℕ)) (place to : ℕ) → to ≤ place
    → limit_in which most count (slice_range words place to) ≡ None
limit_in_end which most count words place to h = rw (range_none words place to h) refl

-- names that pass no limit keep their count
pub limit_in_fits : (which : Which) (most count bound : ℕ) (names : List (List ℕ)) → most ≤ bound → count ≤ bound
    → limit_in which most count names ≡ None → count + length names ≤ bound
limit_in_fits which most count bound [] h k e = omega arith
limit_in_fits which most count bound (name ∷ names) h k e =
    by (is_long name) (nat_le most count) refl (λ k2. limit_in_fits which most (count + 1) bound names h k2) e
  where
    by : (b c : Bool) → nat_le most count ≡ c
        → (count + 1 ≤ bound → limit_in which most (count + 1) names ≡ None → (count + 1) + length names ≤ bound)
        → (if b then Some NameBytes else (if c then Some which else limit_in which most (count + 1) names)) ≡ None
        → count + length (name ∷ names) ≤ bound
    by true c f rest e = cc
    by false true f rest e = cc
    by false false f rest e =
        let m : count < most = grind (arith, common_steps) in
        let r : (count + 1) + length names ≤ bound = rest (omega arith) e in
        omega arith

-- where there is no fault of a limit, no limit is passed
pub limit_none : (which : Option Which) → limit which ≡ None → which ≡ None
limit_none None e = refl
limit_none (Some which) e = cc
