-- The names of the tree's gates and the lines of its nodes, gate by gate.
use Rattle.std.proofs.Common.{◌≡◌, ℕ, suc, ◌*◌, List, [], ◌∷◌, length, slice_index_or, refl, ap}
use Rattle.std.specs.List.{flat_map}
use Rattle.tsc_text.specs.Written.{text_of}
use Rattle.blif_write.specs.Layout.{node_lines}
use Rattle.code_checkers.specs.declared.gate.CheckGate.{CheckGate}
use Rattle.code_checkers.specs.declared.gate.CheckGate.TheVariants as gate
use Rattle.code_checkers.specs.GateList.{GateList}
use Rattle.code_checkers.specs.CheckerNodes.{net_behind}
use Rattle.code_checkers.specs.Tree.{ReadsPairs}
use Rattle.joint_text.specs.JointNamed.{gate_names, named_gates}
use Rattle.joint_text.specs.TreeWords.{IsWithin, AreWithin}

pub gate_names-length : (prefix : List ℕ) (word : List (List ℕ)) (number : ℕ) (gates : List CheckGate) → length (gate_names prefix word number gates) ≡ length gates
gate_names-length prefix word number [] = refl
gate_names-length prefix word number (g ∷ gates) = ap suc (gate_names-length prefix word (net_behind number g) gates)

-- a tree over pairs is over the places of the pairs
pub pairs_within : (pairs : ℕ) (made : GateList) → ReadsPairs pairs made → AreWithin (2 * pairs) made.gates
pairs_within pairs made reads k h = by (slice_index_or made.gates k (gate.Word 0)) refl
  where
    by : (g : CheckGate) → slice_index_or made.gates k (gate.Word 0) ≡ g → IsWithin (2 * pairs) g
    by (gate.Word w) e = reads k w h e
    by (gate.Buf a) e = tt
    by (gate.Not a) e = tt
    by (gate.And a b) e = tt
    by (gate.Or a b) e = tt
    by (gate.Xor a b) e = tt

-- the lines of the gates from one on
abbrev pub lines_from : List (List ℕ) → List (List ℕ) → List CheckGate → List ℕ
lines_from names own gates = text_of (flat_map node_lines (named_gates names own gates))
