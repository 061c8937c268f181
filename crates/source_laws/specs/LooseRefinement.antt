-- Sources with free bits: one that uses the freedom of another and adds none, and one that has none.
use Rattle.std.specs.Prelude.{◌≡◌, ℕ, ◌<◌, ◌⊎◌, Bool, true, List, length}
use Rattle.fault_secure.specs.Circuit.{Circuit, bit}
use Rattle.fault_secure.specs.Logic.{Network, Loose, NetworkAnswers, NetworkHas}
use Rattle.source_laws.specs.AllowsLess.{AllowsLess, AllowAlike}

-- the source of the values V and the frees F is refined by that of W and G: at each input V answers; where F doesn't free an output W
-- answers as V does; and what G frees F frees
pub record IsRefinedBy (V F W G : Circuit) : Type 0 where
  pub as_many : length W.outputs ≡ length V.outputs
  pub answers : (x : List Bool) → (vs : List Bool) × NetworkAnswers V x vs
  pub values : (x vs ws : List Bool) (place : ℕ) → NetworkAnswers V x vs → NetworkAnswers W x ws → place < length V.outputs
      → NetworkHas F x place true ⊎ (bit ws place ≡ bit vs place)
  pub frees : (x : List Bool) (place : ℕ) → place < length V.outputs → NetworkHas G x place true → NetworkHas F x place true

-- a source that refines another allows less under version 2
abbrev pub RefinedSourcesAllowLess : Type 0
RefinedSourcesAllowLess = (V F W G : Circuit) → IsRefinedBy V F W G → AllowsLess 2 (Loose W G) (Loose V F)

-- under a version other than 2 it allows what its values do
abbrev pub VersionOneFreesNothing : Type 0
VersionOneFreesNothing = (V F : Circuit) (version : ℕ) → (version ≡ 2 → ⊥) → AllowAlike version (Loose V F) (Network V)

-- so many outputs of the network are never 1
abbrev pub FreesNothing : Circuit → ℕ → Type 0
FreesNothing F outputs = (x : List Bool) (place : ℕ) → place < outputs → NetworkHas F x place true → ⊥

-- where nothing is free, so it does under any version
abbrev pub UnfreedAreNetworks : Type 0
UnfreedAreNetworks = (V F : Circuit) (version : ℕ) → FreesNothing F (length V.outputs) → AllowAlike version (Loose V F) (Network V)
