-- A table that only uses the freedom of another: it refines it, and what is secure for it is secure for the other.
use Rattle.std.specs.Prelude.{◌≡◌, ℕ, ◌<◌, ◌⊎◌, Bool, List, length, None, IsTrue}
use Rattle.fault_secure.specs.Circuit.{Circuit}
use Rattle.fault_secure.specs.CodePlan.{CodePlan}
use Rattle.fault_secure.specs.Logic.{Logic, Loose}
use Rattle.source_laws.specs.AllowsLess.{AllowsLess}
use Rattle.tsc_net.specs.NetlistOf.{circuit_of}
use Rattle.tsc_text.specs.TextLine.{TextLine}
use Rattle.pla_read.specs.TableText.{is_free, is_one, table_text, TableOf}
use Rattle.pla_read.specs.Networks.{value_text, AnswersAs}
use Rattle.pla_read.specs.Loose.{free_text}
use Rattle.pla_read.specs.Refusal.{refusal}

-- the table B refines the table A: it has as many inputs and outputs; at each input, an output is free in A or has A's value in B; and
-- what is free in B is free in A
pub record Refines (B A : TableOf) : Type 0 where
  pub inputs : B.inputs ≡ A.inputs
  pub outputs : B.outputs ≡ A.outputs
  pub values : (x : List Bool) (place : ℕ) → length x ≡ A.inputs → place < A.outputs
      → IsTrue (is_free A x place) ⊎ (is_one B x place ≡ is_one A x place)
  pub frees : (x : List Bool) (place : ℕ) → length x ≡ A.inputs → place < A.outputs → IsTrue (is_free B x place) → IsTrue (is_free A x place)

-- two networks are those of a table: over its inputs and outputs, the first answers its values, and the second where these are free
pub record AreNetworksOf (T : TableOf) (V F : Circuit) : Type 0 where
  pub value_inputs : V.inputs ≡ T.inputs
  pub free_inputs : F.inputs ≡ T.inputs
  pub value_outputs : length V.outputs ≡ T.outputs
  pub free_outputs : length F.outputs ≡ T.outputs
  pub values : AnswersAs (is_one T) V
  pub frees : AnswersAs (is_free T) F

-- of tables of which one refines the other so do the sources
abbrev pub RefinedTablesAllowLess : Type 0
RefinedTablesAllowLess = (A B : TableOf) (V F W G : Circuit) → AreNetworksOf A V F → AreNetworksOf B W G → Refines B A
    → AllowsLess 2 (Loose W G) (Loose V F)

-- the networks of lines that nothing refuses are those of their table
abbrev pub TextsAreNetworks : Type 0
TextsAreNetworks = (lines : List TextLine) → refusal lines ≡ None
    → AreNetworksOf (table_text lines) (circuit_of (value_text lines)) (circuit_of (free_text lines))

-- the source that lines denote
abbrev pub source_of : List TextLine → Logic
source_of lines = Loose (circuit_of (value_text lines)) (circuit_of (free_text lines))

-- what is so of a netlist, with a plan of version 2, for the source of a table is so for that of each table that it refines
abbrev pub IsEnough : (Logic → Circuit → CodePlan → Type 0) → Type 0
IsEnough IsSecure = (a b : List TextLine) (N : Circuit) (P : CodePlan) → refusal a ≡ None → refusal b ≡ None
    → Refines (table_text b) (table_text a) → P.version ≡ 2 → IsSecure (source_of b) N P → IsSecure (source_of a) N P
