-- One valuation and one run: the statements of the laws.
use Rattle.std.specs.Prelude.{◌≡◌, ℕ, Bool, List, length}
use Rattle.fault_secure.specs.Circuit.{Circuit}
use Rattle.fault_secure.specs.StuckAt.{StuckAt}
use Rattle.fault_secure.specs.Settle.{Settles, Acyclic}
use Rattle.fault_secure.specs.Run.{HasOneRun}

-- exactly one valuation settles under the fault with these input and state bits
pub record HasOneValuation (N : Circuit) (f : StuckAt) (x s : ℕ → Bool) : Type 0 where
  pub valuation : List Bool
  pub settles : Settles N f x s valuation
  pub only : (v : List Bool) → Settles N f x s v → v ≡ valuation

-- in an acyclic circuit exactly one valuation settles
abbrev pub OneValuation : Type 0
OneValuation = (N : Circuit) (f : StuckAt) (x s : ℕ → Bool) → Acyclic N → HasOneValuation N f x s

-- in an acyclic circuit there is exactly one run over each list of inputs, with each fault present at any steps
abbrev pub OneRun : Type 0
OneRun = (N : Circuit) (f : StuckAt) (w : List Bool) (xs : List (List Bool)) → Acyclic N → length w ≡ length xs → HasOneRun N f w xs
