-- Facts on exclusive or, conjunctions and lists of bits.
use Rattle.std.specs.Prelude.{◌≡◌, ◌↔◌, Bool, true, false, not, ◌&&◌, ◌||◌, List, [], ◌∷◌, ◌++◌, refl}
use Rattle.std.proofs.Common.{sym, ◌∙◌, ap}
use Rattle.std.proofs.lemmas.Bool.{true≢false, false≢true}
use Rattle.tsc_bits.specs.Bits.{same}
use Rattle.tsc_bits.specs.Counting.{differ, odd}

-- two bits differ exactly where they are not equal
pub differ-iff : (a b : Bool) → (differ a b ≡ true) ↔ (a ≡ b → ⊥)
differ-iff true true = (λ h. absurd (false≢true h), λ h. absurd (h refl))
differ-iff true false = (λ h. true≢false, λ h. refl)
differ-iff false true = (λ h. false≢true, λ h. refl)
differ-iff false false = (λ h. absurd (false≢true h), λ h. absurd (h refl))

pub differ-assoc : (a b c : Bool) → differ (differ a b) c ≡ differ a (differ b c)
differ-assoc true true true = refl
differ-assoc true true false = refl
differ-assoc true false true = refl
differ-assoc true false false = refl
differ-assoc false b c = refl

pub differ-comm : (a b : Bool) → differ a b ≡ differ b a
differ-comm true true = refl
differ-comm true false = refl
differ-comm false true = refl
differ-comm false false = refl

pub differ-false : (a : Bool) → differ a false ≡ a
differ-false true = refl
differ-false false = refl

pub and_assoc : (a b c : Bool) → (a && b) && c ≡ a && (b && c)
and_assoc true b c = refl
and_assoc false b c = refl

pub and-true : (a : Bool) → a && true ≡ a
and-true true = refl
and-true false = refl

-- a list with one bit more has an odd number of ones where exactly one of the two has
pub odd-push : (bits : List Bool) (b : Bool) → odd (bits ++ b ∷ []) ≡ differ (odd bits) b
odd-push [] b = differ-false b
odd-push (a ∷ bits) b = ap (differ a) (odd-push bits b) ∙ sym (differ-assoc a (odd bits) b)

pub and-false : (a : Bool) → a && false ≡ false
and-false true = refl
and-false false = refl

pub and_comm : (a b : Bool) → a && b ≡ b && a
and_comm true b = sym (and-true b)
and_comm false b = sym (and-false b)

pub or-false : (a : Bool) → a || false ≡ a
or-false true = refl
or-false false = refl

pub or_assoc : (a b c : Bool) → (a || b) || c ≡ a || (b || c)
or_assoc true b c = refl
or_assoc false b c = refl

-- bits that are the same are equal
pub same_is : (a b : Bool) → same a b ≡ true → a ≡ b
same_is true true e = refl
same_is true false e = sym e
same_is false true e = e
same_is false false e = refl

pub or-true : (a : Bool) → a || true ≡ true
or-true true = refl
or-true false = refl

pub not-not : (a : Bool) → not (not a) ≡ a
not-not true = refl
not-not false = refl
