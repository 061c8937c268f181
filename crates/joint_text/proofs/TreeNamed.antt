-- The tree of the joint by names: the names of its gates' nets, its nodes, and its rails.
use Rattle.std.proofs.Common.{◌≡◌, ℕ, zero, suc, ◌+◌, ◌<◌, ◌≤◌, List, [], ◌∷◌, map, length, slice_index, slice_index_or, refl, sym, ap, ap₂, subst, ◌∙◌, arith}
use Rattle.std.proofs.lemmas.List.{get_or-map}
use Rattle.fault_secure.specs.Circuit.{NodeOf, gate as node_over}
use Rattle.tsc_net.specs.Named.{NamedNode}
use Rattle.tsc_net.specs.Names.{text_at}
use Rattle.tsc_net.specs.NetlistOf.{names_of, named_nodes}
use Rattle.code_checkers.specs.declared.gate.CheckGate.{CheckGate}
use Rattle.code_checkers.specs.declared.gate.CheckGate.TheVariants as gate
use Rattle.code_checkers.specs.Gates.{ReadsBelow}
use Rattle.code_checkers.specs.CheckerNodes.{net_behind, gate_nets, gate_nodes}
use Rattle.code_checkers.specs.Nodes.{cover_of, reads_of}
use Rattle.code_checkers.proofs.Sharing.{reads_more}
use Rattle.module_join.specs.JointNet.{tree_text}
use Rattle.joint_text.specs.JointNamed.{gate_names, named_gates}
use Rattle.joint_text.specs.TreeWords.{IsWithin, AreWithin}

pub gate_nets-length : (word : List ℕ) (next : ℕ) (gates : List CheckGate) → length (gate_nets word next gates) ≡ length gates
gate_nets-length word next [] = refl
gate_nets-length word next (g ∷ gates) = ap suc (gate_nets-length word (net_behind next g) gates)

-- the name of a net of a list is the name at its place
pub name_at : (names : List (List ℕ)) (nets : List ℕ) (place : ℕ) → place < length nets → text_at names (slice_index nets place) ≡ text_at (names_of names nets) place
name_at names nets place h = sym (get_or-map (text_at names) nets place 0 [] h)

-- each gate of a list is within so many places, and reads below a number
abbrev AllWithin : ℕ → List CheckGate → Type 0
AllWithin places [] = Unit {0}
AllWithin places (g ∷ gates) = IsWithin places g × AllWithin places gates

abbrev AllBelow : ℕ → List CheckGate → Type 0
AllBelow n [] = Unit {0}
AllBelow n (g ∷ gates) = ReadsBelow n g × AllBelow n gates

pub all_within : (places : ℕ) (gates : List CheckGate) → AreWithin places gates → AllWithin places gates
all_within places [] h = tt
all_within places (g ∷ gates) h = (h 0 (omega arith), all_within places gates (λ k l. h (suc k) (omega arith)))

pub all_below : (n place : ℕ) (gates : List CheckGate) → place + length gates ≤ n → ((k : ℕ) → k < length gates → ReadsBelow (place + k) (slice_index_or gates k (gate.Word 0))) → AllBelow n gates
all_below n place [] fits h = tt
all_below n place (g ∷ gates) fits h = (
  reads_more (place + 0) n g (omega arith) (h 0 (omega arith)),
  all_below n (place + 1) gates (omega arith)
      (λ k l. let e : place + suc k ≡ place + 1 + k = omega arith in subst (λ m. ReadsBelow m (slice_index_or gates k (gate.Word 0))) e (h (suc k) (omega arith))),
)

module _ (names : List (List ℕ)) (prefix : List ℕ) (word : List ℕ) where
  -- the next nets have the names of the tree's next nodes, so many of them
  abbrev pub HasTree : ℕ → ℕ → ℕ → Type 0
  HasTree next number count = (k : ℕ) → k < count → text_at names (next + k) ≡ tree_text prefix (number + k)

  first_of : (next number count : ℕ) → HasTree next number (suc count) → text_at names next ≡ tree_text prefix number
  first_of next number count has =
      let a : next + 0 ≡ next = omega arith in
      let b : number + 0 ≡ number = omega arith in
      ap (text_at names) (sym a) ∙ has 0 (omega arith) ∙ ap (tree_text prefix) b

  rest_of : (next number count : ℕ) → HasTree next number (suc count) → HasTree (next + 1) (number + 1) count
  rest_of next number count has k h =
      let a : next + 1 + k ≡ next + suc k = omega arith in
      let b : number + suc k ≡ number + 1 + k = omega arith in
      ap (text_at names) a ∙ has (suc k) (omega arith) ∙ ap (tree_text prefix) b

  -- the names of the nets of the gates
  pub nets_named : (gates : List CheckGate) (next number : ℕ) → AllWithin (length word) gates → HasTree next number (length (gate_nodes [] gates))
      → names_of names (gate_nets word next gates) ≡ gate_names prefix (names_of names word) number gates
  nets_named [] next number within has = refl
  nets_named (gate.Word p ∷ gates) next number within has = ap₂ (λ (t : List ℕ) (ts : List (List ℕ)). t ∷ ts) (name_at names word p within.0) (nets_named gates next number within.1 has)
  nets_named (gate.Buf a ∷ gates) next number within has = ap₂ (λ (t : List ℕ) (ts : List (List ℕ)). t ∷ ts) (first_of next number (length (gate_nodes [] gates)) has)
      (nets_named gates (next + 1) (number + 1) within.1 (rest_of next number (length (gate_nodes [] gates)) has))
  nets_named (gate.Not a ∷ gates) next number within has = ap₂ (λ (t : List ℕ) (ts : List (List ℕ)). t ∷ ts) (first_of next number (length (gate_nodes [] gates)) has)
      (nets_named gates (next + 1) (number + 1) within.1 (rest_of next number (length (gate_nodes [] gates)) has))
  nets_named (gate.And a b ∷ gates) next number within has = ap₂ (λ (t : List ℕ) (ts : List (List ℕ)). t ∷ ts) (first_of next number (length (gate_nodes [] gates)) has)
      (nets_named gates (next + 1) (number + 1) within.1 (rest_of next number (length (gate_nodes [] gates)) has))
  nets_named (gate.Or a b ∷ gates) next number within has = ap₂ (λ (t : List ℕ) (ts : List (List ℕ)). t ∷ ts) (first_of next number (length (gate_nodes [] gates)) has)
      (nets_named gates (next + 1) (number + 1) within.1 (rest_of next number (length (gate_nodes [] gates)) has))
  nets_named (gate.Xor a b ∷ gates) next number within has = ap₂ (λ (t : List ℕ) (ts : List (List ℕ)). t ∷ ts) (first_of next number (length (gate_nodes [] gates)) has)
      (nets_named gates (next + 1) (number + 1) within.1 (rest_of next number (length (gate_nodes [] gates)) has))

  reads_named : (nets places : List ℕ) → ((k : ℕ) → k < length places → slice_index places k < length nets) → names_of names (map (slice_index nets) places) ≡ names_of (names_of names nets) places
  reads_named nets [] low = refl
  reads_named nets (p ∷ places) low =
      ap₂ (λ (t : List ℕ) (ts : List (List ℕ)). t ∷ ts) (name_at names nets p (low 0 (omega arith))) (reads_named nets places (λ k h. low (suc k) (omega arith)))

  read_low : (n : ℕ) (g : CheckGate) → ReadsBelow n g → (k : ℕ) → k < length (reads_of g) → slice_index (reads_of g) k < n
  read_low n (gate.Word p) h k l = absurd (omega arith)
  read_low n (gate.Buf a) h zero l = h
  read_low n (gate.Buf a) h (suc k) l = absurd (omega arith)
  read_low n (gate.Not a) h zero l = h
  read_low n (gate.Not a) h (suc k) l = absurd (omega arith)
  read_low n (gate.And a b) h zero l = h.0
  read_low n (gate.And a b) h (suc zero) l = h.1
  read_low n (gate.And a b) h (suc (suc k)) l = absurd (omega arith)
  read_low n (gate.Or a b) h zero l = h.0
  read_low n (gate.Or a b) h (suc zero) l = h.1
  read_low n (gate.Or a b) h (suc (suc k)) l = absurd (omega arith)
  read_low n (gate.Xor a b) h zero l = h.0
  read_low n (gate.Xor a b) h (suc zero) l = h.1
  read_low n (gate.Xor a b) h (suc (suc k)) l = absurd (omega arith)

  -- the node of a gate, and those of the others
  one_named : (nets : List ℕ) (g : CheckGate) (next number : ℕ) (rest : List NodeOf) (named : List NamedNode) → ReadsBelow (length nets) g → text_at names next ≡ tree_text prefix number
      → named_nodes names (next + 1) rest ≡ named
      → named_nodes names next (node_over (cover_of g) (map (slice_index nets) (reads_of g)) ∷ rest)
      ≡ record { reads = names_of (names_of names nets) (reads_of g); out = tree_text prefix number; cover = cover_of g } ∷ named
  one_named nets g next number rest named below first more =
      let one : List (List ℕ) → List ℕ → NamedNode = λ reads out. record { reads = reads; out = out; cover = cover_of g } in
      ap₂ (λ (f : NamedNode) (ns : List NamedNode). f ∷ ns) (ap₂ one (reads_named nets (reads_of g) (read_low (length nets) g below)) first) more

  pub nodes_named : (nets : List ℕ) (gates : List CheckGate) (next number : ℕ) → AllBelow (length nets) gates → HasTree next number (length (gate_nodes [] gates))
      → named_nodes names next (gate_nodes nets gates) ≡ named_gates (names_of names nets) (gate_names prefix (names_of names word) number gates) gates
  nodes_named nets [] next number below has = refl
  nodes_named nets (gate.Word p ∷ gates) next number below has = nodes_named nets gates next number below.1 has
  nodes_named nets (gate.Buf a ∷ gates) next number below has = one_named nets (gate.Buf a) next number (gate_nodes nets gates) _ below.0
      (first_of next number (length (gate_nodes [] gates)) has) (nodes_named nets gates (next + 1) (number + 1) below.1 (rest_of next number (length (gate_nodes [] gates)) has))
  nodes_named nets (gate.Not a ∷ gates) next number below has = one_named nets (gate.Not a) next number (gate_nodes nets gates) _ below.0
      (first_of next number (length (gate_nodes [] gates)) has) (nodes_named nets gates (next + 1) (number + 1) below.1 (rest_of next number (length (gate_nodes [] gates)) has))
  nodes_named nets (gate.And a b ∷ gates) next number below has = one_named nets (gate.And a b) next number (gate_nodes nets gates) _ below.0
      (first_of next number (length (gate_nodes [] gates)) has) (nodes_named nets gates (next + 1) (number + 1) below.1 (rest_of next number (length (gate_nodes [] gates)) has))
  nodes_named nets (gate.Or a b ∷ gates) next number below has = one_named nets (gate.Or a b) next number (gate_nodes nets gates) _ below.0
      (first_of next number (length (gate_nodes [] gates)) has) (nodes_named nets gates (next + 1) (number + 1) below.1 (rest_of next number (length (gate_nodes [] gates)) has))
  nodes_named nets (gate.Xor a b ∷ gates) next number below has = one_named nets (gate.Xor a b) next number (gate_nodes nets gates) _ below.0
      (first_of next number (length (gate_nodes [] gates)) has) (nodes_named nets gates (next + 1) (number + 1) below.1 (rest_of next number (length (gate_nodes [] gates)) has))
