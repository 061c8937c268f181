-- A table in which nothing is free: its source is the network of its values.
use Rattle.std.specs.Prelude.{◌≡◌, ℕ, ◌<◌, Bool, false, List, length, None, IsFalse}
use Rattle.fault_secure.specs.Logic.{Network}
use Rattle.source_laws.specs.AllowsLess.{AllowAlike}
use Rattle.tsc_net.specs.NetlistOf.{circuit_of}
use Rattle.tsc_text.specs.TextLine.{TextLine}
use Rattle.pla_read.specs.Selections.{frees_of}
use Rattle.pla_read.specs.TableText.{is_free, table_text, TableOf}
use Rattle.pla_read.specs.Networks.{value_text}
use Rattle.pla_read.specs.Refusal.{refusal}
use Rattle.table_refinement.specs.TableRefinement.{source_of}

-- at no input is an output of the table free
abbrev pub IsUnfreed : TableOf → Type 0
IsUnfreed T = (x : List Bool) (place : ℕ) → length x ≡ T.inputs → place < T.outputs → IsFalse (is_free T x place)

-- there the source allows, under any version, what the network of the values does
abbrev pub UnfreedTablesAreNetworks : Type 0
UnfreedTablesAreNetworks = (lines : List TextLine) (version : ℕ) → refusal lines ≡ None → IsUnfreed (table_text lines)
    → AllowAlike version (source_of lines) (Network (circuit_of (value_text lines)))

-- so is the table of lines whose type is f
abbrev pub TypeFFreesNothing : Type 0
TypeFFreesNothing = (lines : List TextLine) → frees_of lines ≡ false → IsUnfreed (table_text lines)
