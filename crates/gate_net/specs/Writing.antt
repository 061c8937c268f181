-- The steps of writing gates into parts: the name of a node, the node of a gate, the lines so far, the Buf of a root.
use Rattle.std.specs.Prelude.{◌≡◌, ℕ, ◌<◌, ◌⊎◌, Bool, true, false, IsTrue, List, [], ◌∷◌, length, Option, None, Some, All, Contains}
use Rattle.std.specs.List.{AllZip}
use Rattle.tsc_cover.specs.Cover.{CoverTable}
use Rattle.tsc_cover.specs.Gates.{buf_cover}
use Rattle.tsc_net.specs.Named.{NamedNode, latch_outs}
use Rattle.tsc_net.specs.Names.{text_at, has_text, IsNumbering}
use Rattle.tsc_net.specs.Parts.{PartsOf, with_node, with_fresh, next_fresh}
use Rattle.tsc_net.specs.PartsView.{text_of, texts_of, IsName}
use Rattle.tsc_net.specs.declared.ids.Name.{Name}
use Rattle.gate_net.specs.declared.line.Line.{Line}
use Rattle.gate_net.specs.declared.root.Root.{Root}
use Rattle.gate_net.specs.declared.gate.Gate.{Gate}
use Rattle.gate_net.specs.declared.gate.Gate.TheVariants as gate
use Rattle.gate_net.specs.Gates.{GateNetwork, IsLine, gate_at}
use Rattle.gate_net.specs.NodesOfLines.{has_node, cover_of, operands}
use Rattle.fault_secure.specs.Circuit.{bit}
use Rattle.gate_net.specs.Written.{HasName, IsNamed}
use Rattle.gate_net.specs.Added.{added_nodes, added_outs, IsFresh, AreFreshOuts}

-- the name is the owner's, and the parts stay, or it is the next fresh one
abbrev pub NamesNode : PartsOf → PartsOf → Option Name → Name → Type 0
NamesNode old new None name = (new ≡ with_fresh old) × (name.number ≡ length old.names) × (has_text old.names (next_fresh old) ≡ false)
NamesNode old new (Some owner) name = (new ≡ old) × (name ≡ owner)

-- a node was added that is the gate over the names of the lines that it reads, and it drives this name
pub record AddsNode (old new : PartsOf) (g : Gate) (names : List (Option Name)) (owner : Option Name) (name : Name) : Type 0 where
  pub here : PartsOf
  pub reads : List Name
  pub cover : CoverTable
  pub named : NamesNode old here owner name
  pub zip : AllZip (HasName names) (operands g) reads
  pub is_cover : cover ≡ cover_of g
  pub node : new ≡ with_node here (texts_of here.names reads) (text_of here.names name) cover

-- the text is that of the gate's input or latch, where the gate is one
abbrev pub IsSourceText : PartsOf → Gate → List ℕ → Type 0
IsSourceText p (gate.Input i) text = (i < length p.named.inputs) × (text ≡ text_at p.named.inputs i)
IsSourceText p (gate.State i) text = (i < length p.named.latches) × (text ≡ text_at (latch_outs p.named) i)
IsSourceText p _ text = Unit {0}

-- the name is the gate's input's or latch's, which owns the line, and the parts stay, or a node was added for the gate
abbrev pub NamesGate : PartsOf → PartsOf → Gate → List (Option Name) → Option Name → Name → Type 0
NamesGate old new (gate.Input i) names owner name = (new ≡ old) × (owner ≡ Some name)
NamesGate old new (gate.State i) names owner name = (new ≡ old) × (owner ≡ Some name)
NamesGate old new g names owner name = AddsNode old new g names owner name

-- the gate got no name, and the parts stay, or it got this one
abbrev pub NamesIfNeeded : PartsOf → PartsOf → Gate → List (Option Name) → Option Name → Option Name → Type 0
NamesIfNeeded old new g names owner None = new ≡ old
NamesIfNeeded old new g names owner (Some name) = NamesGate old new g names owner name

-- the line has a gate with a node
abbrev pub HasNodeAt : GateNetwork → Line → Type 0
HasNodeAt G line = has_node (gate_at G.gates line.number) ≡ true

-- the line is an input or a bit of the state, and the name is its name in the parts
pub record IsSourceLine (p : PartsOf) (G : GateNetwork) (line : Line) (name : Name) : Type 0 where
  pub without : has_node (gate_at G.gates line.number) ≡ false
  pub within : IsName p.names name
  pub text : IsSourceText p (gate_at G.gates line.number) (text_of p.names name)

-- each of these names is that of the line's input or latch
abbrev pub AreSources : PartsOf → GateNetwork → List (Option Name) → Type 0
AreSources p G names = (line : Line) (name : Name) → HasName names line name → IsSourceLine p G line name

-- the line gets a node, and the name is that of a root with it
pub record IsRootOfLine (G : GateNetwork) (roots : List Root) (line : Line) (name : Name) : Type 0 where
  pub placed : HasNodeAt G line
  pub is_root : Contains roots (record { name = name; line = line })

-- the owner of each line is its input or latch, or a root with it, where it gets a node
abbrev pub AreOwners : PartsOf → GateNetwork → List Root → List (Option Name) → Type 0
AreOwners p G roots owners = (line : Line) (name : Name) → HasName owners line name → IsSourceLine p G line name ⊎ IsRootOfLine G roots line name

-- each input and state bit has an owner
abbrev pub SourcesOwned : GateNetwork → List (Option Name) → Type 0
SourcesOwned G owners = (line : Line) → IsLine G line → has_node (gate_at G.gates line.number) ≡ false → IsNamed owners line

-- the lines before this place that are marked have names
abbrev pub MarkedNamed : List Bool → ℕ → List (Option Name) → Type 0
MarkedNamed marks place names = (line : Line) → line.number < place → IsTrue (bit marks line.number) → IsNamed names line

-- each line that has a name is marked
abbrev pub NamedMarked : List Bool → List (Option Name) → Type 0
NamedMarked marks names = (line : Line) (name : Name) → HasName names line name → IsTrue (bit marks line.number)

-- the text of each owner is that of the line's input or latch, where the line is one
abbrev pub OwnersFit : PartsOf → GateNetwork → List (Option Name) → Type 0
OwnersFit p G owners = (line : Line) (name : Name) → HasName owners line name → IsSourceText p (gate_at G.gates line.number) (text_of p.names name)

-- no line has an owner with the name of the owner of another line that gets a node
abbrev pub OwnersDiffer : PartsOf → GateNetwork → List (Option Name) → Type 0
OwnersDiffer p G owners = (a b : Line) (m n : Name) → HasName owners a m → HasName owners b n → HasNodeAt G a → text_of p.names m ≡ text_of p.names n → a.number ≡ b.number

-- the line's name is its owner's, or fresh
abbrev pub IsNameOf : PartsOf → List (Option Name) → Line → Name → List ℕ → Type 0
IsNameOf start owners line name text = HasName owners line name ⊎ IsFresh start text

-- the node is a line's: it has the cover of the line's gate, reads the names of the lines that the gate reads, and drives
-- the line's name
pub record IsNodeOfLine (G : GateNetwork) (texts : List (List ℕ)) (names : List (Option Name)) (n : NamedNode) : Type 0 where
  pub line : Line
  pub name : Name
  pub reads : List Name
  pub within : IsLine G line
  pub placed : HasNodeAt G line
  pub has : HasName names line name
  pub zip : AllZip (HasName names) (operands (gate_at G.gates line.number)) reads
  pub pins : n.reads ≡ texts_of texts reads
  pub out : n.out ≡ text_of texts name
  pub cover : n.cover ≡ cover_of (gate_at G.gates line.number)

-- the lines that have names were written: the nodes that came are lines', no two drive the same name, the names that came
-- are theirs, and no line's node drives the name of another line
pub record AreWritten (start here : PartsOf) (G : GateNetwork) (owners names : List (Option Name)) : Type 0 where
  pub nodes : All (IsNodeOfLine G here.names names) (added_nodes start here)
  pub outs : IsNumbering (added_outs start here)
  pub fresh : AreFreshOuts start here
  pub named : (line : Line) (name : Name) → HasName names line name → IsNameOf start owners line name (text_of here.names name)
  pub apart : (a b : Line) (m n : Name) → HasName names a m → HasName names b n → HasNodeAt G a → text_of here.names m ≡ text_of here.names n → a.number ≡ b.number

-- a Buf was added over the name of the root's line, which isn't the root's, and it drives the root's name
pub record AddsBuf (old new : PartsOf) (names : List (Option Name)) (root : Root) : Type 0 where
  pub name : Name
  pub reads : List Name
  pub cover : CoverTable
  pub has : HasName names root.line name
  pub other : name.number ≡ root.name.number → ⊥
  pub reads_are : reads ≡ name ∷ []
  pub is_cover : cover ≡ buf_cover
  pub node : new ≡ with_node old (texts_of old.names reads) (text_of old.names root.name) cover

-- the parts stay, or a Buf was added
abbrev pub AddsBufOrNot : PartsOf → PartsOf → List (Option Name) → Root → Type 0
AddsBufOrNot old new names root = (new ≡ old) ⊎ AddsBuf old new names root

-- the node is a root's Buf, whose line has another name
pub record IsBufOfRoot (texts : List (List ℕ)) (names : List (Option Name)) (roots : List Root) (n : NamedNode) : Type 0 where
  pub root : Root
  pub name : Name
  pub is_root : Contains roots root
  pub has : HasName names root.line name
  pub other : name.number ≡ root.name.number → ⊥
  pub pins : n.reads ≡ text_of texts name ∷ []
  pub out : n.out ≡ text_of texts root.name
  pub cover : n.cover ≡ buf_cover

-- the nodes that came are Bufs of roots, and no two drive the same name; no name came
pub record AreBufs (old new : PartsOf) (names : List (Option Name)) (roots : List Root) : Type 0 where
  pub nodes : All (IsBufOfRoot old.names names roots) (added_nodes old new)
  pub outs : IsNumbering (added_outs old new)
  pub names_stay : new.names ≡ old.names
