-- Netlists that are composed of gates for a word and of a checker over it: the names of their word, and what they are.
use Rattle.std.specs.Prelude.{◌≡◌, ℕ, ◌+◌, ◌^◌, ◌<◌, ◌≤◌, ◌⊎◌, true, List, [], ◌∷◌, ◌++◌, map, take, length, slice_index_or, All, Contains}
use Rattle.fault_secure.specs.Circuit.{Circuit, nets}
use Rattle.fault_secure.specs.CodePlan.{CodePlan, monitored}
use Rattle.std.specs.Fn.{iterate}
use Rattle.fault_secure.specs.Depends.{Depends, InFunction}
use Rattle.tsc_net.specs.Named.{latch_outs}
use Rattle.tsc_net.specs.Names.{text_at, has_text, place_of_text}
use Rattle.tsc_net.specs.NetlistOf.{NetlistOf}
use Rattle.tsc_net.specs.Parts.{PartsOf, fresh_of, fresh_text, with_fresh}
use Rattle.tsc_net.specs.PartsView.{IsName}
use Rattle.tsc_net.specs.declared.ids.Name.{Name}
use Rattle.gate_net.specs.Gates.{GateNetwork, AreLines, meaning, meanings}
use Rattle.gate_net.specs.Signal.{Signal}
use Rattle.gate_net.specs.Signal.Signal.{Input}
use Rattle.gate_net.specs.Realised.{AllRealise}
use Rattle.gate_net.specs.declared.line.Line.{Line}
use Rattle.code_checkers.specs.GateList.{GateList}
use Rattle.code_checkers.specs.Block.{RailsRealise}
use Rattle.code_checkers.specs.NodesOfGates.{StandsFrom, EndsInGates, EndsInChecker}
use Rattle.net_writing.specs.Names.{name_at}
use Rattle.net_writing.specs.Begun.{begun_to}
use Rattle.net_writing.specs.declared.checker_writing.RailNames.{RailNames}
use Rattle.unate_synth.specs.Roots.{IsSourceNumber}
use Rattle.unate_synth.specs.Alone.{AreAlone}
use Rattle.unate_synth.specs.UnateNetlist.{IsNarrow}
use Rattle.unate_synth.specs.declared.roots.SourceNames.{SourceNames}

-- a word's names, and after them those of the rails
abbrev pub with_rails : List Name → RailNames → List Name
with_rails word rails = word ++ (rails.first ∷ (rails.second ∷ []))

-- the names of a word and of its rails, over parts that hold only sources. No name stands twice, none is what a latch gives, a
-- rail is no input, and where a place of the word is an input, its line means that input
pub record IsNamedWord (sources : SourceNames) (p : PartsOf) (G : GateNetwork) (lines : List Line) (word : List Name) (rails : RailNames) : Type 0 where
  pub sized : length lines ≡ length word
  pub within : AreLines G lines
  pub names : All (IsName p.names) (with_rails word rails)
  pub once : (a b : ℕ) → a < length (with_rails word rails) → b < length (with_rails word rails)
      → (name_at (with_rails word rails) a).number ≡ (name_at (with_rails word rails) b).number → a ≡ b
  pub apart : All (λ name. IsSourceNumber sources name.number → name.number < sources.inputs) word
  pub first_apart : IsSourceNumber sources rails.first.number → ⊥
  pub second_apart : IsSourceNumber sources rails.second.number → ⊥
  pub inputs : (place : ℕ) (d : Line) → place < length word → (name_at word place).number < sources.inputs
      → meaning G (slice_index_or lines place d) ≡ Input (name_at word place).number

-- each latch reads a name of the word
abbrev pub LatchesRead : PartsOf → List (List ℕ) → Type 0
LatchesRead p word = All (λ l. Contains word l.reads) p.named.latches

-- the text is a fresh name over the parts, with a count less than 4,294,967,296 above the next one's
abbrev pub IsFreshName : PartsOf → List ℕ → Type 0
IsFreshName p text = (count : ℕ) × (count < (fresh_of p p.fresh).next + 2 ^ 32) × (text ≡ fresh_text (fresh_of p p.fresh).number count)

-- the netlist has the model and the sources of the parts, in order; its outputs are those that are shown, and the rails. Each
-- name of the word is a source's or a node drives it; and any other node drives a rail or a fresh name
pub record HasPartsOf (p : PartsOf) (shown hidden : List (List ℕ)) (first second : List ℕ) (N : NetlistOf) : Type 0 where
  pub model : N.model ≡ p.named.model
  pub inputs : N.circuit.inputs ≡ length p.named.inputs
  pub latches : N.circuit.latches ≡ map (λ l. record { reads = place_of_text N.names l.reads; init = l.init }) p.named.latches
  pub sources : take (length p.named.inputs + length p.named.latches) N.names ≡ p.named.inputs ++ latch_outs p.named
  pub outputs : N.circuit.outputs ≡ map (place_of_text N.names) (shown ++ (first ∷ (second ∷ [])))
  pub named : All (λ text. has_text N.names text ≡ true) ((shown ++ hidden) ++ (first ∷ (second ∷ [])))
  pub word : All (λ text. Contains (p.named.inputs ++ latch_outs p.named) text ⊎ (N.circuit.inputs + length N.circuit.latches ≤ place_of_text N.names text)) (shown ++ hidden)
  pub inner : (net : ℕ) → N.circuit.inputs + length N.circuit.latches ≤ net → net < nets N.circuit
      → Contains ((shown ++ hidden) ++ (first ∷ (second ∷ []))) (text_at N.names net) ⊎ IsFreshName p (text_at N.names net)
  pub narrow : All IsNarrow N.circuit.nodes

-- some net of the list depends on the node
abbrev pub SomeDepends : Circuit → ℕ → List ℕ → Type 0
SomeDepends N q list = (net : ℕ) × Contains list net × Depends N q net

-- before place `top` the nets of the word realise the signals, each node is one that some of them depends on, and equal gates are
-- one gate. From there on the gates of a checker stand, in order and no others, and the rails are theirs
pub record StandsOver (N : Circuit) (signals : List Signal) (made : GateList) (word : List ℕ) (first second : ℕ) : Type 0 where
  pub top : ℕ
  pub stand : AllRealise N top signals word
  pub alone : AreAlone N word top
  pub needed : (q : ℕ) → q < top → SomeDepends N q word
  pub checker : (P : CodePlan) → monitored N P ≡ word → P.rail1 ≡ first → P.rail2 ≡ second → StandsFrom N P top made × EndsInGates N P top made

-- the netlist is composed of the parts, of gates for the word's lines, and of a checker over it: a node for each gate, and a buffer
-- for each line, are the most that stand in it
pub record IsComposedOf (p : PartsOf) (G : GateNetwork) (lines : List Line) (made : GateList) (shown hidden : List (List ℕ)) (first second : List ℕ) (N : NetlistOf) : Type 0 where
  pub parts : HasPartsOf p shown hidden first second N
  pub gates : StandsOver N.circuit (meanings G lines) made (map (place_of_text N.names) (shown ++ hidden)) (place_of_text N.names first) (place_of_text N.names second)
  pub few : length N.circuit.nodes ≤ length G.gates + length lines + length made.gates

-- the same of a plan's word, with the plan's checker: before place `top` the monitored nets realise the signals, each node is of the
-- function, and equal gates are one gate. The rails realise those of the stated checker, and nothing else stands after `top`
pub record IsComposed (N : Circuit) (P : CodePlan) (signals : List Signal) : Type 0 where
  pub top : ℕ
  pub stand : AllRealise N top signals (monitored N P)
  pub alone : AreAlone N (monitored N P) top
  pub needed : (q : ℕ) → q < top → InFunction N P q
  pub rails : RailsRealise N P
  pub ends : EndsInChecker N P top

-- the parts of a network's netlist before gates are written: its nets' names, its inputs, and so many fresh names
abbrev pub fresh_parts : NetlistOf → ℕ → PartsOf
fresh_parts S count = iterate with_fresh count (begun_to S (nets S.circuit))
