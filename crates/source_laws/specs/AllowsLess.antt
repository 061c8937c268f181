-- A source that allows less than another: refinement, as a specification is refined. What is secure for it is secure for the other.
use Rattle.std.specs.Prelude.{◌≡◌, ℕ, Bool, List}
use Rattle.fault_secure.specs.Circuit.{Circuit}
use Rattle.fault_secure.specs.CodePlan.{CodePlan}
use Rattle.fault_secure.specs.Logic.{Logic, reset_of, AllowsOutputs, AllowsNext}

-- under a plan of this version L allows no more than M: they are reset to the same state, and at each state and input the outputs that L
-- allows are allowed by M, and so are the next states
pub record AllowsLess (version : ℕ) (L M : Logic) : Type 0 where
  pub reset : reset_of L ≡ reset_of M
  pub outputs : (q : ℕ) (x ys : List Bool) → AllowsOutputs L version q x ys → AllowsOutputs M version q x ys
  pub next : (q : ℕ) (x : List Bool) (r : ℕ) → AllowsNext L version q x r → AllowsNext M version q x r

-- the two allow the same
pub record AllowAlike (version : ℕ) (L M : Logic) : Type 0 where
  pub less : AllowsLess version L M
  pub more : AllowsLess version M L

-- what is so of a netlist with its plan for a source is so for each source that allows more under that plan
abbrev pub CarriesOver : (Logic → Circuit → CodePlan → Type 0) → Type 0
CarriesOver IsSecure = (L M : Logic) (N : Circuit) (P : CodePlan) → AllowsLess P.version L M → IsSecure L N P → IsSecure M N P

-- to allow less is a preorder
pub record RefinementsChain : Type 0 where
  pub same : (version : ℕ) (M : Logic) → AllowsLess version M M
  pub chain : (version : ℕ) (K L M : Logic) → AllowsLess version K L → AllowsLess version L M → AllowsLess version K M
