-- Functions of so many inputs, their cofactors, and how many different ones there are.
use Rattle.std.specs.Prelude.{◌≡◌, ℕ, zero, suc, ◌≤◌, Bool, true, false, ◌&&◌, ◌⊎◌, List, [], ◌∷◌, ◌++◌, map, length, drop}
use Rattle.std.specs.List.{flat_map}
use Rattle.std.specs.Set.{distinct_count}
use Rattle.tsc_bits.specs.Bits.{same}

-- a function of inputs: what it makes of their bits
abbrev pub Function : Type 0
Function = List Bool → Bool

-- the two functions have the same value at each input of so many bits
pub record Same (inputs : ℕ) (f g : Function) : Type 0 where
  pub at : (x : List Bool) → length x ≡ inputs → f x ≡ g x

-- the function with its first inputs fixed to these bits
abbrev pub fixed : List Bool → Function → Function
fixed bits f x = f (bits ++ drop (length bits) x)

-- the function g comes from f by fixing its first inputs, none or more of them, to some bits
pub record IsCofactor (inputs : ℕ) (f g : Function) : Type 0 where
  pub bits : List Bool
  pub short : length bits ≤ inputs
  pub comes : Same inputs g (fixed bits f)

-- the function is a cofactor of one of these
abbrev pub IsCofactorOfOne : ℕ → List Function → Function → Type 0
IsCofactorOfOne inputs [] g = ⊥
IsCofactorOfOne inputs (f ∷ fs) g = IsCofactor inputs f g ⊎ IsCofactorOfOne inputs fs g

-- a function's values at all inputs of so many bits, the first input most significant
abbrev pub table : ℕ → Function → List Bool
table zero f = f [] ∷ []
table (suc n) f = table n (λ x. f (false ∷ x)) ++ table n (λ x. f (true ∷ x))

-- the lists of at most so many bits
abbrev pub prefixes : ℕ → List (List Bool)
prefixes zero = [] ∷ []
prefixes (suc n) = [] ∷ map (λ x. false ∷ x) (prefixes n) ++ map (λ x. true ∷ x) (prefixes n)

-- the values of all functions that come from one of these by fixing its first inputs
abbrev pub cofactor_tables : ℕ → List Function → List (List Bool)
cofactor_tables inputs fs = flat_map (λ f. map (λ bits. table inputs (fixed bits f)) (prefixes inputs)) fs

-- the two lists of bits are equal
abbrev pub same_bits : List Bool → List Bool → Bool
same_bits [] [] = true
same_bits [] (c ∷ cs) = false
same_bits (b ∷ bs) [] = false
same_bits (b ∷ bs) (c ∷ cs) = same b c && same_bits bs cs

-- how many different cofactors these functions have
abbrev pub cofactor_count : ℕ → List Function → ℕ
cofactor_count inputs fs = distinct_count same_bits (cofactor_tables inputs fs)
