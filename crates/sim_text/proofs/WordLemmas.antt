-- Words of digits, and lists that are written over until one is made.
use Rattle.std.proofs.Common.{◌≡◌, ℕ, suc, ◌+◌, ◌-◌, ◌<◌, Bool, false, List, [], ◌∷◌, codes, length, map, take, get_or, set, refl, sym, ap, ◌∙◌, subst, arith}
use Rattle.std.proofs.lemmas.List.{get_or-map, length-map}
use Rattle.tsc_bits.specs.Bits.{bit_worth, bits_of}
use Rattle.tsc_bits.proofs.Bits.{length-bits_of, get_or-bits_of}
use Rattle.fault_sim.proofs.WrittenLemmas.{written_all}
use Rattle.sim_text.specs.StepLine.{digit}

pub word_all : (goal made : List ℕ) (place count : ℕ) → place ≡ count → length goal ≡ count + 1 → take (place + 1) made ≡ take (place + 1) goal → take (count + 1) made ≡ goal
word_all goal made place count end sized all =
    written_all goal made (count + 1) (sym sized) (subst (λ (n : ℕ). take (n + 1) made ≡ take (n + 1) goal) end all)

-- ---- the digits of a word after its blank

pub length-word : (n x : ℕ) → length (32 ∷ map digit (bits_of n x)) ≡ n + 1
length-word n x = let e = length-map (bits_of n x) digit in let h = length-bits_of n x in omega arith

pub digit_at : (n place x : ℕ) → place < n → get_or (32 ∷ map digit (bits_of n x)) (place + 1) 0 ≡ digit (bit_worth (n - 1 - place) x)
digit_at n place x inside =
    let e : place + 1 ≡ suc place = omega arith in
    let h : place < length (bits_of n x) = omega (arith, length-bits_of n x) in
    ap (λ (k : ℕ). get_or (32 ∷ map digit (bits_of n x)) k 0) e
    ∙ (get_or-map digit (bits_of n x) place false 0 h ∙ ap digit (get_or-bits_of n x place inside))

-- a blank that is written over the first character
pub blank_first : (old : List ℕ) → 0 < length old → take 1 (set old 0 32) ≡ 32 ∷ []
blank_first [] some = absurd (omega arith)
blank_first (c ∷ old) some = refl

-- the word of no bits, written over two characters
pub none_written : (old : List ℕ) → length old ≡ 2 → set (set old 0 32) 1 46 ≡ 32 ∷ codes "."
none_written [] sized = absurd (omega arith)
none_written (a ∷ []) sized = absurd (omega arith)
none_written (a ∷ b ∷ []) sized = refl
none_written (a ∷ b ∷ c ∷ old) sized = absurd (omega arith)

-- the digit of a bit of a list
pub digit_of : (bits : List Bool) (place : ℕ) → place < length bits → (b : Bool) → get_or (32 ∷ map digit bits) (place + 1) 0 ≡ digit (get_or bits place b)
digit_of bits place inside b =
    let e : place + 1 ≡ suc place = omega arith in
    ap (λ (k : ℕ). get_or (32 ∷ map digit bits) k 0) e ∙ get_or-map digit bits place b 0 inside
