-- What a call that builds some functions leaves.
use Rattle.std.specs.Prelude.{ℕ, List}
use Rattle.std.specs.List.{AllByRecursion}
use Rattle.diagrams.specs.Cofactors.{Function, IsCofactorOfOne}
use Rattle.diagrams.specs.Building.{DiagramState, AreMade, AreShort}
use Rattle.cover_diagrams.specs.Covering.{HasRow, Grows}

-- each of the functions is a cofactor of one of those that are kept
abbrev pub AreKept : ℕ → List Function → List Function → Type 0
AreKept inputs kept fs = AllByRecursion (IsCofactorOfOne inputs kept) fs

-- each of the functions has a row
abbrev pub AreBuilt : DiagramState → List Function → Type 0
AreBuilt state fs = AllByRecursion (HasRow state) fs

-- rows were added for the sake of these functions alone: all that was stays, and each row that came stands for a cofactor of any kept functions of which these are cofactors
pub record AreAdded (old new : DiagramState) (fs : List Function) : Type 0 where
  pub grown : Grows old new
  pub made : (kept : List Function) → AreKept old.inputs kept fs → AreMade old new kept

-- there is no room left, and no row stands for some cofactor of any kept functions of which these are cofactors
abbrev pub AreShortOf : DiagramState → DiagramState → List Function → Type 0
AreShortOf old new fs = (kept : List Function) → AreKept old.inputs kept fs → AreShort new kept
