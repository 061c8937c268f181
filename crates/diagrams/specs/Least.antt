-- The first input, of all of so many bits, at which a function has a value.
use Rattle.std.specs.Prelude.{◌≡◌, ℕ, zero, suc, Bool, true, false, nat_eq, List, [], ◌∷◌, length}
use Rattle.diagrams.specs.declared.decision.Decision.{Decision}
use Rattle.diagrams.specs.Decisions.{step}
use Rattle.diagrams.specs.Cofactors.{Function}

-- the one list of bits, read as a number with its first bit most significant, is at most the other
abbrev pub IsUpTo : List Bool → List Bool → Type 0
IsUpTo [] ys = Unit {0}
IsUpTo (x ∷ xs) [] = ⊥
IsUpTo (false ∷ xs) (false ∷ ys) = IsUpTo xs ys
IsUpTo (false ∷ xs) (true ∷ ys) = Unit {0}
IsUpTo (true ∷ xs) (false ∷ ys) = ⊥
IsUpTo (true ∷ xs) (true ∷ ys) = IsUpTo xs ys

-- the function has the value at this input, and at none before it
pub record IsLeast (inputs : ℕ) (f : Function) (wanted : Bool) (x : List Bool) : Type 0 where
  pub sized : length x ≡ inputs
  pub has : f x ≡ wanted
  pub least : (y : List Bool) → length y ≡ inputs → f y ≡ wanted → IsUpTo x y

-- the constant that never has the value
abbrev pub dead : Bool → ℕ
dead true = 0
dead false = 1

-- the bits of a walk that takes 0 wherever that doesn't end at the row `end`
abbrev pub least_from : List Decision → ℕ → ℕ → ℕ → ℕ → List Bool
least_from rows end zero level k = []
least_from rows end (suc n) level k =
    nat_eq (step rows level k false) end ∷ least_from rows end n (suc level) (step rows level k (nat_eq (step rows level k false) end))
