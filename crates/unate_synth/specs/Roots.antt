-- Roots of the gates of a netlist: the names that are to have the values of lines, in parts that hold only inputs and latches yet.
use Rattle.std.specs.Prelude.{◌≡◌, ℕ, ◌+◌, ◌<◌, ◌≤◌, ◌⊎◌, List, [], ◌∷◌, ◌++◌, take, drop, length, slice_index_or, All, Contains}
use Rattle.tsc_net.specs.Names.{IsNumbering}
use Rattle.tsc_net.specs.NetlistOf.{drivers}
use Rattle.tsc_net.specs.Parts.{PartsOf}
use Rattle.tsc_net.specs.PartsView.{IsName}
use Rattle.tsc_net.specs.declared.ids.Name.{Name}
use Rattle.gate_net.specs.declared.line.Line.{Line}
use Rattle.net_writing.specs.Names.{name_at}
use Rattle.gate_net.specs.declared.root.Root.{Root}
use Rattle.gate_net.specs.Gates.{GateNetwork, IsLine}
use Rattle.unate_synth.specs.declared.roots.SourceNames.{SourceNames}

-- the number of the name of the root at a place
abbrev pub root_number : List Root → ℕ → ℕ
root_number roots place = (slice_index_or roots place (record { name = record { number = 0 }; line = record { number = 0 } })).name.number

-- the number is that of a source's name: of an input, or of what a latch gives
abbrev pub IsSourceNumber : SourceNames → ℕ → Type 0
IsSourceNumber sources number = (number < sources.inputs) ⊎ ((sources.first ≤ number) × (number < sources.first + sources.latches))

-- nothing is driven except the sources, as many as the gates have inputs and state bits; the names that latches give stand after
-- those of the inputs; nothing is shown; and different names have different texts
pub record HasSourcesOnly (sources : SourceNames) (p : PartsOf) (G : GateNetwork) : Type 0 where
  pub inputs : length p.named.inputs ≡ G.inputs
  pub latches : length p.named.latches ≡ G.states
  pub inputs_named : sources.inputs ≡ G.inputs
  pub latches_named : sources.latches ≡ G.states
  pub behind : 0 < sources.latches → sources.inputs ≤ sources.first
  pub nodeless : p.named.nodes ≡ []
  pub nothing_shown : p.named.outputs ≡ []
  pub driven : drivers p.named ≡ take sources.inputs p.names ++ take sources.latches (drop sources.first p.names)
  pub distinct : IsNumbering p.names

-- the roots are names and lines, none is a source, and no two have the same name
pub record AreRoots (texts : List (List ℕ)) (sources : SourceNames) (G : GateNetwork) (roots : List Root) : Type 0 where
  pub lines : All (λ root. IsLine G root.line) roots
  pub names : All (λ root. IsName texts root.name) roots
  pub apart : All (λ root. IsSourceNumber sources root.name.number → ⊥) roots
  pub once : (a b : ℕ) → a < length roots → b < length roots → root_number roots a ≡ root_number roots b → a ≡ b

-- a root came, whose name is no source's and no other root's
pub record AddsRoot (sources : SourceNames) (old new : List Root) (root : Root) : Type 0 where
  pub pushed : new ≡ old ++ root ∷ []
  pub apart : IsSourceNumber sources root.name.number → ⊥
  pub other : (k : ℕ) → k < length old → root_number old k ≡ root.name.number → ⊥

-- the roots stay, or this one came
abbrev pub AddsRootOrNot : SourceNames → List Root → List Root → Root → Type 0
AddsRootOrNot sources old new root = (new ≡ old) ⊎ AddsRoot sources old new root

-- some root has this number for its name's
abbrev pub HasNumber : List Root → ℕ → Type 0
HasNumber roots number = (k : ℕ) × (k < length roots) × (root_number roots k ≡ number)

-- the name of the root is a source's, or that of a root that is there
abbrev pub IsTaken : SourceNames → List Root → Root → Type 0
IsTaken sources roots root = IsSourceNumber sources root.name.number ⊎ HasNumber roots root.name.number

-- the line at a place
abbrev pub line_at : List Line → ℕ → Line
line_at lines place = slice_index_or lines place (record { number = 0 })

-- the name at a place of the word is a source's, or some root has it, with the line of a place that has the same name
abbrev pub IsRooted : SourceNames → List Root → List Line → List Name → ℕ → Type 0
IsRooted sources roots lines word i =
    IsSourceNumber sources (name_at word i).number ⊎ ((j : ℕ) × (j < length lines) × (name_at word j ≡ name_at word i) × Contains roots (record { name = name_at word j; line = line_at lines j }))

-- the root has the name and the line of a place of the word before this one
abbrev pub IsOfPlace : List Line → List Name → ℕ → Root → Type 0
IsOfPlace lines word place root = (j : ℕ) × (j < place) × (root ≡ record { name = name_at word j; line = line_at lines j })

-- the places before this one are rooted, and each root is of one of them
pub record AreRooted (sources : SourceNames) (roots : List Root) (lines : List Line) (word : List Name) (place : ℕ) : Type 0 where
  pub places : All (IsOfPlace lines word place) roots
  pub rooted : (i : ℕ) → i < place → IsRooted sources roots lines word i
