-- The first input at which the word is wrong or an output is, as a search over the rows of a diagram finds it.
use Rattle.std.specs.Prelude.{◌≡◌, ℕ, ◌<◌, ◌⊎◌, Bool, true, false, List, length, Option, Some, None}
use Rattle.diagrams.specs.Cofactors.{Function}
use Rattle.diagrams.specs.Least.{IsUpTo}
use Rattle.wide_audit.specs.declared.wrong.WrongPoint.{WrongPoint}

-- at this input the rails agree, or one of the first so many outputs differs
abbrev pub IsWrongAt : Function → (ℕ → Function) → ℕ → List Bool → Type 0
IsWrongAt rails differs n x = (rails x ≡ false) ⊎ ((place : ℕ) × (place < n) × (differs place x ≡ true))

-- what is wrong at an input, the word before the outputs, and these by place: none means the word
abbrev pub IsFirstAt : Function → (ℕ → Function) → ℕ → List Bool → Option ℕ → Type 0
IsFirstAt rails differs n x None = rails x ≡ false
IsFirstAt rails differs n x (Some place) = (rails x ≡ true) × (place < n) × (differs place x ≡ true) × ((other : ℕ) → other < place → differs other x ≡ false)

-- this is the first such input of so many bits, and what is wrong there
pub record IsFirstPoint (inputs : ℕ) (rails : Function) (differs : ℕ → Function) (n : ℕ) (x : List Bool) (output : Option ℕ) : Type 0 where
  pub sized : length x ≡ inputs
  pub here : IsFirstAt rails differs n x output
  pub first : (y : List Bool) → length y ≡ inputs → IsWrongAt rails differs n y → IsUpTo x y

-- nothing is wrong at any input of so many bits, or this is the first such input
abbrev pub IsFirstWrong : ℕ → Function → (ℕ → Function) → ℕ → Option WrongPoint → Type 0
IsFirstWrong inputs rails differs n None = (x : List Bool) → length x ≡ inputs → IsWrongAt rails differs n x → ⊥
IsFirstWrong inputs rails differs n (Some point) = IsFirstPoint inputs rails differs n point.input.items point.output
