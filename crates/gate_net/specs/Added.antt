-- The nodes and names that came as gates were written into parts: what they drive, and what they read.
use Rattle.std.specs.Prelude.{◌≡◌, ℕ, ◌<◌, ◌≤◌, ◌⊎◌, true, false, List, [], ◌∷◌, ◌++◌, map, length, drop, slice_index_or, All, Contains, IsFalse}
use Rattle.tsc_cover.specs.Cover.{CoverTable, zero_cover, wrong_sign}
use Rattle.tsc_cover.specs.Gates.{buf_cover, not_cover, and_cover, or_cover, xor_cover}
use Rattle.tsc_net.specs.Named.{Named, NamedNode, latch_outs, no_named}
use Rattle.tsc_net.specs.Names.{text_at, has_text}
use Rattle.tsc_net.specs.NetlistOf.{drivers}
use Rattle.tsc_net.specs.Parts.{PartsOf}
use Rattle.tsc_net.specs.PartsView.{text_of}
use Rattle.gate_net.specs.declared.root.Root.{Root}
use Rattle.gate_net.specs.Realised.{one_cover}
use Rattle.gate_net.specs.Written.{named_at}

-- the nodes that came
abbrev pub added_nodes : PartsOf → PartsOf → List NamedNode
added_nodes old new = drop (length old.named.nodes) new.named.nodes

-- what the nodes that came drive
abbrev pub added_outs : PartsOf → PartsOf → List (List ℕ)
added_outs old new = map (λ n. n.out) (added_nodes old new)

-- the names that came
abbrev pub added_names : PartsOf → PartsOf → List (List ℕ)
added_names old new = drop (length old.names) new.names

-- the texts of the names of roots
abbrev pub root_texts : List (List ℕ) → List Root → List (List ℕ)
root_texts names roots = map (λ root. text_of names root.name) roots

-- nothing gives the name: it is no input, no latch gives it, and no node drives it
abbrev pub IsUndriven : Named → List ℕ → Type 0
IsUndriven N text = has_text (drivers N) text ≡ false

-- the name stood for nothing in these parts
abbrev pub IsFresh : PartsOf → List ℕ → Type 0
IsFresh p text = has_text p.names text ≡ false

-- the node drives a root's name, or one that stood for nothing in these parts
abbrev pub DrivesRootOrFresh : PartsOf → List Root → NamedNode → Type 0
DrivesRootOrFresh p roots n = Contains (root_texts p.names roots) n.out ⊎ IsFresh p n.out

-- the name stood for nothing before, and a node that came drives it
abbrev pub IsFreshOut : PartsOf → PartsOf → List ℕ → Type 0
IsFreshOut old new text = IsFresh old text × Contains (added_outs old new) text

-- each name that came is the fresh name of a node that came
abbrev pub AreFreshOuts : PartsOf → PartsOf → Type 0
AreFreshOuts old new = All (IsFreshOut old new) (added_names old new)

-- no pin of the node that reads another net than an input has the wrong sign
abbrev pub HasRightNamedSigns : Named → NamedNode → Type 0
HasRightNamedSigns N n = (pin : ℕ) → pin < length n.reads → has_text N.inputs (text_at n.reads pin) ≡ false → IsFalse (wrong_sign n.cover pin)

-- the inputs and what the latches give
abbrev pub sources : Named → List (List ℕ)
sources N = N.inputs ++ latch_outs N

-- a node that drives none of these names has the same cover and the same pins in the same order as no other node
pub record InnerDiffer (roots : List (List ℕ)) (nodes : List NamedNode) : Type 0 where
  pub distinct : (j k : ℕ) → j < length nodes → k < length nodes → has_text roots (slice_index_or nodes k no_named).out ≡ false
      → (slice_index_or nodes j no_named).cover ≡ (slice_index_or nodes k no_named).cover
      → (slice_index_or nodes j no_named).reads ≡ (slice_index_or nodes k no_named).reads → j ≡ k

-- the covers of gates, and that of a Buf
abbrev pub gate_covers : List CoverTable
gate_covers = zero_cover ∷ (one_cover ∷ (not_cover ∷ (and_cover ∷ (or_cover ∷ (xor_cover ∷ (buf_cover ∷ []))))))

-- the node has the cover of a gate or of a Buf
abbrev pub HasGateCover : NamedNode → Type 0
HasGateCover n = Contains gate_covers n.cover

-- what the node drives is one of the names
abbrev pub DrivesListed : List (List ℕ) → NamedNode → Type 0
DrivesListed names n = has_text names n.out ≡ true

-- some root needs the name: it is a root's, or a node from place lo on reads it that drives a needed name
pub data NeedsName (N : Named) (lo : ℕ) (roots : List (List ℕ)) : List ℕ → Type 0 where
  itself : (text : List ℕ) → Contains roots text → NeedsName N lo roots text
  through : (k : ℕ) (text : List ℕ) → lo ≤ k → k < length N.nodes → NeedsName N lo roots (named_at N k).out → Contains (named_at N k).reads text → NeedsName N lo roots text

-- some root needs what the node drives
abbrev pub DrivesNeeded : Named → ℕ → List (List ℕ) → NamedNode → Type 0
DrivesNeeded N lo roots n = NeedsName N lo roots n.out
