-- Words of bits, a bit a point, and what is read of them.
use Rattle.std.proofs.Common.{◌≡◌, ℕ, ◌+◌, ◌<◌, ◌↔◌, Bool, true, false, not, ◌||◌, List, get_or, bit_or, bit_xor, refl, sym, ap, ◌∙◌, arith, below_more}
use Rattle.std.specs.Prelude.{slice_index}
use Rattle.std.proofs.Math.ListN.{get_or-map}
use Rattle.std.proofs.lemmas.Bool.{true≢false}
use Rattle.tsc_bits.specs.Bits.{same, bit_worth}
use Rattle.tsc_bits.proofs.Bits.{bit_worth-or, bit_worth-xor, bit_worth-zero}
use Rattle.tsc_bits.specs.Counting.{differ}
use Rattle.fault_secure.specs.Circuit.{bit}
use Rattle.code_lanes.specs.Lanes.{column}

-- ---- one bit

-- two words have the same bit exactly where they don't differ
pub same_bit : (k a b : ℕ) → (bit_worth k (bit_xor a b) ≡ false) ↔ (bit_worth k a ≡ bit_worth k b)
same_bit k a b = (
  λ zero_. alike (bit_worth k a) (bit_worth k b) (sym (bit_worth-xor k a b) ∙ zero_),
  λ is. bit_worth-xor k a b ∙ (ap (λ (x : Bool). not (same x (bit_worth k b))) is ∙ itself (bit_worth k b)),
)
  where
    alike : (x y : Bool) → not (same x y) ≡ false → x ≡ y
    alike true true e = refl
    alike true false e = absurd (true≢false e)
    alike false true e = absurd (true≢false e)
    alike false false e = refl

    itself : (x : Bool) → not (same x x) ≡ false
    itself true = refl
    itself false = refl

-- neither word has the bit exactly where both together don't
pub neither : (k a b : ℕ) → (bit_worth k (bit_or a b) ≡ false) ↔ ((bit_worth k a ≡ false) × (bit_worth k b ≡ false))
neither k a b = (
  λ zero_. apart (bit_worth k a) (bit_worth k b) (sym (bit_worth-or k a b) ∙ zero_),
  λ both. bit_worth-or k a b ∙ together (bit_worth k a) (bit_worth k b) both.0 both.1,
)
  where
    apart : (x y : Bool) → (x || y) ≡ false → (x ≡ false) × (y ≡ false)
    apart true y e = absurd (true≢false e)
    apart false y e = (refl, e)

    together : (x y : Bool) → x ≡ false → y ≡ false → (x || y) ≡ false
    together true y e f = absurd (true≢false e)
    together false y e f = f

-- exclusive or, as it is counted
pub differ_bit : (k a b : ℕ) → bit_worth k (bit_xor a b) ≡ differ (bit_worth k a) (bit_worth k b)
differ_bit k a b = bit_worth-xor k a b ∙ apart (bit_worth k a) (bit_worth k b)
  where
    apart : (x y : Bool) → not (same x y) ≡ differ x y
    apart true true = refl
    apart true false = refl
    apart false true = refl
    apart false false = refl

-- ---- columns

-- the bit at a place of the word at point k is bit k of the lane at that place
pub bit_of_column : (k : ℕ) (lanes : List ℕ) (place : ℕ) → bit (column k lanes) place ≡ bit_worth k (slice_index lanes place)
bit_of_column k lanes place = ap (get_or (column k lanes) place) (sym (bit_worth-zero k)) ∙ get_or-map (bit_worth k) lanes place 0

-- ---- a word that is gathered has a 0 exactly where all of so many facts hold

pub zeros_at_first : (Q : ℕ → Type 0) (k : ℕ) → (bit_worth k 0 ≡ false) ↔ ((p : ℕ) → p < 0 → Q p)
zeros_at_first Q k = (λ zero_ p below. absurd (omega arith), λ all. bit_worth-zero k)

pub zeros_go_on : (Q : ℕ → Type 0) (k wrong more n : ℕ) → (bit_worth k wrong ≡ false) ↔ ((p : ℕ) → p < n → Q p) → (bit_worth k more ≡ false) ↔ Q n
    → (bit_worth k (bit_or wrong more) ≡ false) ↔ ((p : ℕ) → p < n + 1 → Q p)
zeros_go_on Q k wrong more n before here = (
  λ zero_.
      let parts = (neither k wrong more).0 zero_ in
      below_more Q n (before.0 parts.0) (here.0 parts.1),
  λ all. (neither k wrong more).1 (before.1 (λ p below. all p (omega arith)), here.1 (all n (omega arith))),
)
