-- Lists of bits that are compared.
use Rattle.std.proofs.Common.{◌≡◌, ℕ, zero, suc, Bool, true, false, List, [], ◌∷◌, replicate, refl, ap}
use Rattle.std.proofs.lemmas.Bool.{false≢true}
use Rattle.fault_secure.specs.Circuit.{bit}
use Rattle.fault_secure.specs.FaultSecure.{equal_bits}

-- equal bits are the same
pub same_bits : (as_ bs : List Bool) → equal_bits as_ bs ≡ true → as_ ≡ bs
same_bits [] [] e = refl
same_bits [] (b ∷ bs) e = absurd (false≢true e)
same_bits (a ∷ as_) [] e = absurd (false≢true e)
same_bits (true ∷ as_) (true ∷ bs) e = ap (λ l. true ∷ l) (same_bits as_ bs e)
same_bits (true ∷ as_) (false ∷ bs) e = absurd (false≢true e)
same_bits (false ∷ as_) (true ∷ bs) e = absurd (false≢true e)
same_bits (false ∷ as_) (false ∷ bs) e = ap (λ l. false ∷ l) (same_bits as_ bs e)

-- bits are equal to themselves
pub bits_same : (as_ : List Bool) → equal_bits as_ as_ ≡ true
bits_same [] = refl
bits_same (true ∷ as_) = bits_same as_
bits_same (false ∷ as_) = bits_same as_

-- of bits that are all 0 each is, and each that is missing
pub bit-replicate : (n q : ℕ) → bit (replicate n false) q ≡ false
bit-replicate zero q = refl
bit-replicate (suc n) zero = refl
bit-replicate (suc n) (suc q) = bit-replicate n q
