-- Gates written into a netlist by names: what is added, and which names realise signals.
use Rattle.std.specs.Prelude.{◌≡◌, ℕ, ◌<◌, ◌≤◌, ◌⊎◌, List, [], ◌∷◌, ◌++◌, length, slice_index_or, Option, None, Some, All, Contains}
use Rattle.std.specs.Fn.{iterate}
use Rattle.tsc_cover.specs.Cover.{CoverTable, zero_cover}
use Rattle.tsc_cover.specs.Gates.{buf_cover, not_cover, and_cover, or_cover, xor_cover}
use Rattle.tsc_net.specs.Named.{Named, NamedNode, latch_outs, no_named}
use Rattle.tsc_net.specs.Names.{text_at}
use Rattle.tsc_net.specs.Parts.{PartsOf, with_fresh}
use Rattle.tsc_net.specs.PartsView.{text_of}
use Rattle.tsc_net.specs.declared.ids.Name.{Name}
use Rattle.gate_net.specs.declared.line.Line.{Line}
use Rattle.gate_net.specs.declared.root.Root.{Root}
use Rattle.gate_net.specs.declared.gate.Gate.{Gate}
use Rattle.gate_net.specs.declared.gate.Gate.TheVariants as gate
use Rattle.gate_net.specs.Signal.{Signal}
use Rattle.gate_net.specs.Signal.Signal.{Zero, One, Input, State, Not, And, Or, Xor}
use Rattle.gate_net.specs.Gates.{GateNetwork, meaning}
use Rattle.gate_net.specs.Realised.{one_cover}

-- a node from place lo on drives the name, and it is the gate with this cover over these names
pub record IsNamedGate (N : Named) (lo : ℕ) (out : List ℕ) (cover : CoverTable) (reads : List (List ℕ)) : Type 0 where
  pub place : ℕ
  pub within : place < length N.nodes
  pub behind : lo ≤ place
  pub is_gate : slice_index_or N.nodes place no_named ≡ record { reads = reads; out = out; cover = cover }

-- the name realises the signal: it is the input's, what the latch gives, or a gate from place lo on over names that realise
-- the operands
abbrev pub NameRealises : Named → ℕ → Signal → List ℕ → Type 0
NameRealises N lo Zero out = IsNamedGate N lo out zero_cover []
NameRealises N lo One out = IsNamedGate N lo out one_cover []
NameRealises N lo (Input i) out = (i < length N.inputs) × (out ≡ text_at N.inputs i)
NameRealises N lo (State i) out = (i < length N.latches) × (out ≡ text_at (latch_outs N) i)
NameRealises N lo (Not a) out = (m : List ℕ) × IsNamedGate N lo out not_cover (m ∷ []) × NameRealises N lo a m
NameRealises N lo (And a b) out = (m n : List ℕ) × IsNamedGate N lo out and_cover (m ∷ (n ∷ [])) × NameRealises N lo a m × NameRealises N lo b n
NameRealises N lo (Or a b) out = (m n : List ℕ) × IsNamedGate N lo out or_cover (m ∷ (n ∷ [])) × NameRealises N lo a m × NameRealises N lo b n
NameRealises N lo (Xor a b) out = (m n : List ℕ) × IsNamedGate N lo out xor_cover (m ∷ (n ∷ [])) × NameRealises N lo a m × NameRealises N lo b n

-- the name realises the signal, itself or by a Buf from place lo on over a name that does
abbrev pub NameIsRoot : Named → ℕ → Signal → List ℕ → Type 0
NameIsRoot N lo signal out = NameRealises N lo signal out ⊎ ((m : List ℕ) × IsNamedGate N lo out buf_cover (m ∷ []) × NameRealises N lo signal m)

-- each root's name realises what its line means
abbrev pub RootsRealise : PartsOf → ℕ → GateNetwork → List Root → Type 0
RootsRealise p lo G roots = All (λ root. NameIsRoot p.named lo (meaning G root.line) (text_of p.names root.name)) roots

-- the names that came are so many fresh ones, in order, and the next one is known: fresh names go on after them
pub record AddsFreshNames (old new : PartsOf) : Type 0 where
  pub count : ℕ
  pub names : new.names ≡ (iterate with_fresh count old).names
  pub next : new.fresh ≡ (iterate with_fresh count old).fresh

-- the parts hold what they held, followed by nodes of at most two pins and by fresh names
pub record Extends (old new : PartsOf) : Type 0 where
  pub added : List NamedNode
  pub more : List (List ℕ)
  pub nodes : new.named.nodes ≡ old.named.nodes ++ added
  pub names : new.names ≡ old.names ++ more
  pub fresh : AddsFreshNames old new
  pub pins : All (λ n. length n.reads ≤ 2) added
  pub model : new.named.model ≡ old.named.model
  pub inputs : new.named.inputs ≡ old.named.inputs
  pub outputs : new.named.outputs ≡ old.named.outputs
  pub latches : new.named.latches ≡ old.named.latches

-- the node at a place of a netlist by names
abbrev pub named_at : Named → ℕ → NamedNode
named_at N place = slice_index_or N.nodes place no_named

-- the name is an input, what a latch gives, or what a node from place lo on and before place k drives
abbrev pub IsGiven : Named → ℕ → ℕ → List ℕ → Type 0
IsGiven N lo k text = Contains N.inputs text ⊎ (Contains (latch_outs N) text ⊎ ((j : ℕ) × (lo ≤ j) × (j < k) × ((named_at N j).out ≡ text)))

-- each node from place lo on reads only inputs, what latches give, and what nodes between place lo and its own drive
abbrev pub ReadsBefore : Named → ℕ → Type 0
ReadsBefore N lo = (k pin : ℕ) → lo ≤ k → k < length N.nodes → pin < length (named_at N k).reads → IsGiven N lo k (text_at (named_at N k).reads pin)

-- the name is no input, and no latch gives it
abbrev pub IsFree : Named → List ℕ → Type 0
IsFree N text = Contains N.inputs text ⊎ Contains (latch_outs N) text → ⊥

-- a node from place lo on drives the name
pub record IsDrivenFrom (N : Named) (lo : ℕ) (out : List ℕ) : Type 0 where
  pub place : ℕ
  pub within : place < length N.nodes
  pub behind : lo ≤ place
  pub drives : (named_at N place).out ≡ out

-- the line has this name
abbrev pub HasName : List (Option Name) → Line → Name → Type 0
HasName names line name = slice_index_or names line.number None ≡ Some name

-- the line has some name
abbrev pub IsNamed : List (Option Name) → Line → Type 0
IsNamed names line = (name : Name) × HasName names line name

-- each line's name, where it has one, is one of so many
abbrev pub AreBelow : ℕ → List (Option Name) → Type 0
AreBelow n names = (line : Line) (name : Name) → HasName names line name → name.number < n

-- each line's name, where it has one, realises what the line means
abbrev pub NamesRealise : PartsOf → ℕ → GateNetwork → List (Option Name) → Type 0
NamesRealise p lo G names = (line : Line) (name : Name) → HasName names line name → NameRealises p.named lo (meaning G line) (text_of p.names name)

-- the gate's input or latch is there
abbrev pub IsFed : PartsOf → Gate → Type 0
IsFed p (gate.Input i) = i < length p.named.inputs
IsFed p (gate.State i) = i < length p.named.latches
IsFed p _ = Unit {0}
