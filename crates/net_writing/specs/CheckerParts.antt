-- A checker by names, as its gates are written into parts over the names of the places of its word. A place of the word has the
-- word's name there, and any other gate has a node over the names of the gates that it reads. The node drives the name that is
-- given to the gate, as to a rail, or else the next fresh one.
use Rattle.std.specs.Prelude.{◌≡◌, ℕ, ◌<◌, ◌==◌, List, [], ◌∷◌, ◌++◌, map, length, slice_index_or, Option, None, Some, if◌then◌else◌}
use Rattle.std.specs.Option.{option_map}
use Rattle.fault_secure.specs.CodePlan.{CodePlan, IsWellMade}
use Rattle.tsc_net.specs.Names.{text_at}
use Rattle.tsc_net.specs.Parts.{PartsOf, with_fresh, next_fresh, with_node}
use Rattle.tsc_net.specs.PartsView.{text_of, texts_of, IsName}
use Rattle.tsc_net.specs.declared.ids.Name.{Name}
use Rattle.code_checkers.specs.declared.gate.CheckGate.{CheckGate}
use Rattle.code_checkers.specs.declared.gate.CheckGate.TheVariants as gate
use Rattle.code_checkers.specs.Gates.{AreOrdered}
use Rattle.code_checkers.specs.GateList.{GateList, IsCheckerOf}
use Rattle.code_checkers.specs.Nodes.{cover_of, reads_of}
use Rattle.net_writing.specs.declared.checker_writing.RailNames.{RailNames}

-- parts, and the texts of the names of the gates so far
pub record GateParts : Type 0 where
  pub parts : PartsOf
  pub names : List (List ℕ)

-- parts and names of gates, as their texts
abbrev pub gate_parts : PartsOf → List Name → GateParts
gate_parts p names = record { parts = p; names = texts_of p.names names }

-- the name that a node drives: the one that is given, or else the next fresh one
abbrev pub out_text : PartsOf → Option (List ℕ) → List ℕ
out_text p None = next_fresh p
out_text p (Some text) = text

-- the parts with that name
abbrev pub with_out : PartsOf → Option (List ℕ) → PartsOf
with_out p None = with_fresh p
with_out p (Some text) = p

-- the node of one more gate: it has the gate's cover and reads the names of the gates at the places that the gate reads
unfoldable pub with_gate_node : Option (List ℕ) → CheckGate → GateParts → GateParts
with_gate_node given g so_far = record {
  parts = with_node (with_out so_far.parts given) (map (text_at so_far.names) (reads_of g)) (out_text so_far.parts given) (cover_of g);
  names = so_far.names ++ out_text so_far.parts given ∷ [];
}

-- one more gate, over the names of the places of the word
abbrev pub with_gate : List (List ℕ) → Option (List ℕ) → CheckGate → GateParts → GateParts
with_gate word given (gate.Word place) so_far = record { parts = so_far.parts; names = so_far.names ++ text_at word place ∷ [] }
with_gate word given g so_far = with_gate_node given g so_far

-- some more gates, in order; what is given to a gate goes by its place
abbrev pub with_gates : List (List ℕ) → (ℕ → Option (List ℕ)) → List CheckGate → GateParts → GateParts
with_gates word given [] so_far = so_far
with_gates word given (g ∷ gates) so_far = with_gates word given gates (with_gate word (given (length so_far.names)) g so_far)

-- the name that is given to the gate at a place: the rails have theirs, where names are given to them
abbrev pub given_name : GateList → Option RailNames → ℕ → Option Name
given_name made None place = None
given_name made (Some rails) place = if place == made.rail1 then Some rails.first else (if place == made.rail2 then Some rails.second else None)

-- and its text
abbrev pub given_text : List (List ℕ) → GateList → Option RailNames → ℕ → Option (List ℕ)
given_text texts made rails place = option_map (text_of texts) (given_name made rails place)

-- the parts with a checker, and the names of its gates
unfoldable pub with_checker : PartsOf → List (List ℕ) → GateList → Option RailNames → GateParts
with_checker p word made rails = with_gates word (given_text p.names made rails) made.gates (record { parts = p; names = [] })

-- the gate reads a place of a word of this length, or gates before this place
abbrev pub ReadsBelow : ℕ → ℕ → CheckGate → Type 0
ReadsBelow words n (gate.Word place) = place < words
ReadsBelow words n (gate.Buf a) = a < n
ReadsBelow words n (gate.Not a) = a < n
ReadsBelow words n (gate.And a b) = (a < n) × (b < n)
ReadsBelow words n (gate.Or a b) = (a < n) × (b < n)
ReadsBelow words n (gate.Xor a b) = (a < n) × (b < n)

-- the gates read places of a word of this length and earlier gates, and the rails are gates
pub record IsOver (words : ℕ) (made : GateList) : Type 0 where
  pub words_within : (place word : ℕ) → place < length made.gates → slice_index_or made.gates place (gate.Word 0) ≡ gate.Word word → word < words
  pub ordered : AreOrdered made.gates
  pub first_within : made.rail1 < length made.gates
  pub second_within : made.rail2 < length made.gates

-- the names of rails, where they are given, are names
abbrev pub AreRailNames : List (List ℕ) → Option RailNames → Type 0
AreRailNames texts None = Unit {0}
AreRailNames texts (Some rails) = IsName texts rails.first × IsName texts rails.second

-- the gates are the checker of a well-made plan, over words of this length
pub record IsCheckerOver (words : ℕ) (made : GateList) : Type 0 where
  pub plan : CodePlan
  pub well_made : IsWellMade plan
  pub is_checker : IsCheckerOf plan made
  pub over : IsOver words made
