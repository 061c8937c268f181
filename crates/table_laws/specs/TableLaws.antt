-- The two networks that a text of a table denotes: what is so of them where nothing refuses the text. The statements of the laws.
use Rattle.std.specs.Prelude.{◌≡◌, List, None}
use Rattle.tsc_net.specs.NetlistOf.{circuit_of, netlist_of, IsBuilt}
use Rattle.tsc_net.specs.SourceView.{IsLooseSource}
use Rattle.tsc_text.specs.TextLine.{TextLine}
use Rattle.pla_read.specs.TableText.{is_free, is_one, table_text}
use Rattle.pla_read.specs.Networks.{value_text, AnswersAs}
use Rattle.pla_read.specs.Loose.{free_text}
use Rattle.pla_read.specs.Refusal.{refusal}

-- both networks of the lines answer what their table says: which outputs are 1, and which are free
pub record NetworksAnswer (lines : List TextLine) : Type 0 where
  pub values : AnswersAs (is_one (table_text lines)) (circuit_of (value_text lines))
  pub frees : AnswersAs (is_free (table_text lines)) (circuit_of (free_text lines))

-- so it is where nothing refuses the lines
abbrev pub TablesAnswer : Type 0
TablesAnswer = (lines : List TextLine) → refusal lines ≡ None → NetworksAnswer lines

-- both networks of the lines are checked netlists
pub record AreBuilt (lines : List TextLine) : Type 0 where
  pub value : IsBuilt (netlist_of (value_text lines))
  pub free : IsBuilt (netlist_of (free_text lines))

abbrev pub TablesAreBuilt : Type 0
TablesAreBuilt = (lines : List TextLine) → refusal lines ≡ None → AreBuilt lines

-- and a source with free bits, whatever the lines are
abbrev pub TablesAreLooseSources : Type 0
TablesAreLooseSources = (lines : List TextLine) → IsLooseSource (circuit_of (value_text lines)) (circuit_of (free_text lines))
