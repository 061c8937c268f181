-- The joint of parts that a text tells is one that a text tells; and it is secure where each part is.
use Rattle.std.proofs.Common.{◌≡◌, ℕ, zero, suc, ◌+◌, ◌*◌, ◌^◌, ◌<◌, ◌≤◌, Bool, true, false, nat_le, if◌then◌else◌, List, [], ◌∷◌, ◌++◌, Option, None, Some, map, drop, length, slice_index_or, All, refl, sym, ap, subst, arith, inl, inr}
use Rattle.std.specs.Fmt.{decimal}
use Rattle.std.specs.List.{list_all, range_with_len}
use Rattle.std.specs.Str.Parse.{AllDigits}
use Rattle.std.proofs.lemmas.Bool.{and_from, cases_Bool, cond-true, cond-false, le-leb}
use Rattle.std.proofs.lemmas.Fmt.{decimal_is_IsNumeral}
use Rattle.std.proofs.lemmas.Str.Parse.{digit_from_value}
use Rattle.std.proofs.lemmas.List.{length-take-le}
use Rattle.std.proofs.lemmas.List.Elements.{All-nil, All-cons, All-head, All-tail, All-append, All-map, All-take, All-drop, All-weaker, All-from_get_or}
use Rattle.std.proofs.lemmas.List.FromFn.{get_or-range_with_len, length-range_with_len}
use Rattle.fault_secure.specs.Circuit.{NodeOf, nets}
use Rattle.tsc_text.specs.Bytes.{is_allowed}
use Rattle.tsc_text.specs.Written.{is_word_byte}
use Rattle.tsc_text.proofs.Written.{Both, both, list_all-append}
use Rattle.tsc_net.specs.Limits.{most_nets}
use Rattle.tsc_net.specs.Names.{has_text, with_text}
use Rattle.tsc_net.specs.Parts.{lettered_prefix, is_taken_under, free_number_under, free_number_under_from}
use Rattle.tsc_net.proofs.NameLemmas.{length-with_text-most}
use Rattle.blif_read.specs.declared.clocks.Clock.{Clock}
use Rattle.blif_write.specs.Told.{IsWordName, IsToldNode, IsTellable, IsToldClock}
use Rattle.blif_write.proofs.RegistersTold.{registers-told}
use Rattle.code_checkers.specs.declared.gate.CheckGate.{CheckGate}
use Rattle.code_checkers.specs.declared.gate.CheckGate.TheVariants as gate
use Rattle.code_checkers.specs.CheckerNodes.{gate_nets, gate_nodes}
use Rattle.code_checkers.specs.Tree.{tree_gates}
use Rattle.joint_laws.specs.Parts.{moved_node}
use Rattle.joint_laws.specs.Joint.{JointOf}
use Rattle.joint_laws.specs.JointSecure.{IsJointCellSecure, IsJointFaultSecure}
use Rattle.register_joints.specs.SourcesSecure.{IsCellSecureForSources, IsFaultSecureForSources}
use Rattle.joint_laws.specs.JointCircuit.{latches_in, nodes_in, parts_from, nodes_of, rails_of}
use Rattle.module_join.specs.JointNet.{PlannedOf, input_names, with_texts, inputs_from, joint_inputs, joint_clock, clock_or, taken_names, joint_prefix, own_text, tree_text, latch_names, node_names, own_texts, member, joint, joint_netlist}
use Rattle.module_join.specs.JoinLaws.{ArePlanned}
use Rattle.module_join.specs.TreeNodes.{tree_made}
use Rattle.module_join.proofs.Joined.{joined, join_is_cell_secure, join_is_fault_secure, join_is_secure_for_sources, join_is_fault_secure_for_sources}
use Rattle.module_join.proofs.Taken.{length-with_control}
use Rattle.module_join.proofs.JointNames.{join_is_built, many_l, many_n}
use Rattle.joint_text.specs.JointTextLaws.{AreTellable, TellsJoint, JointTextTells, JointTextIsCellSecure, JointTextIsFaultSecure, JointTextIsSecureForSources, JointTextIsFaultSecureForSources}
use Rattle.joint_text.specs.JointText.{joint_bytes}

-- ---- how many nets

texts_most : (seen texts : List (List ℕ)) → length (with_texts seen texts) ≤ length seen + length texts
texts_most seen [] = omega arith
texts_most seen (t ∷ texts) = omega (arith, texts_most (with_text seen t) texts, length-with_text-most seen t)

-- the nets of all parts together
nets_most : (names seen : List (List ℕ)) (parts : List PlannedOf) → AreTellable parts → ArePlanned parts
    → length (inputs_from seen parts) + latches_in (map (member names) parts) + nodes_in (map (member names) parts) ≤ length seen + most_nets * length parts
nets_most names seen [] can are = omega arith
nets_most names seen (p ∷ parts) can are =
    let few = can.0.few in
    let sized = are.0.built.sized in
    let own = length-take-le p.net.circuit.inputs p.net.names (omega (arith, sized)) in
    omega (arith, few, own, texts_most seen (input_names p.net), nets_most names (with_texts seen (input_names p.net)) parts can.1 are.1)

few_nets : (parts : List PlannedOf) → 0 < length parts → length parts ≤ 64 → ArePlanned parts → AreTellable parts → nets (joint parts).circuit < 2 ^ 32
few_nets parts some few are can = omega (arith, nets_most (joint_inputs parts) [] parts can are, many_l parts some are, many_n parts some are)

few_inputs : (parts : List PlannedOf) → length parts ≤ 64 → ArePlanned parts → AreTellable parts → length (joint_inputs parts) < 2 ^ 32
few_inputs parts few are can = omega (arith, nets_most (joint_inputs parts) [] parts can are)

-- ---- the bytes of names

-- bytes of a word that a text may hold
record Fits (bytes : List ℕ) : Type 0 where
  word : list_all (is_word_byte false) bytes ≡ true
  allowed : list_all is_allowed bytes ≡ true

fits_append : (xs ys : List ℕ) → Fits xs → Fits ys → Fits (xs ++ ys)
fits_append xs ys h k = record {
  word = list_all-append (is_word_byte false) xs ys h.word k.word;
  allowed = list_all-append is_allowed xs ys h.allowed k.allowed;
}

digit_word : (b : ℕ) → 48 ≤ b → b ≤ 57 → is_word_byte false b ≡ true
digit_word b low high = grind arith

digit_allowed : (b : ℕ) → 48 ≤ b → b ≤ 57 → is_allowed b ≡ true
digit_allowed b low high = grind arith

digits_fit : (digits : List ℕ) → AllDigits 10 digits → Fits digits
digits_fit [] h = record { word = refl; allowed = refl }
digits_fit (b ∷ digits) h =
    let range = digit_from_value b h.0 in
    let rest : Fits digits = digits_fit digits h.1 in
    record {
      word = and_from (is_word_byte false b) (list_all (is_word_byte false) digits) (digit_word b (omega (arith, range)) (omega (arith, range))) rest.word;
      allowed = and_from (is_allowed b) (list_all is_allowed digits) (digit_allowed b (omega (arith, range)) (omega (arith, range))) rest.allowed;
    }

decimal_fits : (n : ℕ) → n < 2 ^ 64 → Fits (decimal n)
decimal_fits n small = digits_fit (decimal n) (decimal_is_IsNumeral n small).0.1

name_fits : (name : List ℕ) → IsWordName name → Fits name
name_fits name h =
    let parts : Both (nat_le 1 (length name)) (list_all (is_word_byte false) name) = both _ _ h.word in
    record { word = parts.right; allowed = h.allowed }

-- a byte and more of them are a name
name_is : (b : ℕ) (bytes : List ℕ) → Fits (b ∷ bytes) → IsWordName (b ∷ bytes)
name_is b bytes h =
    let some : 1 ≤ length (b ∷ bytes) = omega arith in
    record { word = and_from (nat_le 1 (length (b ∷ bytes))) (list_all (is_word_byte false) (b ∷ bytes)) (le-leb 1 (length (b ∷ bytes)) some) h.word; allowed = h.allowed }

-- the prefix, after its letter
prefix_fits : (n : ℕ) → n < 2 ^ 64 → Fits (lettered_prefix 112 n)
prefix_fits n small =
    let digits : Fits (decimal n) = decimal_fits n small in
    let letter : Fits (112 ∷ []) = record { word = refl; allowed = refl } in
    let mark : Fits (95 ∷ []) = record { word = refl; allowed = refl } in
    fits_append (112 ∷ decimal n) (95 ∷ []) (fits_append (112 ∷ []) (decimal n) letter digits) mark

own_name : (n i : ℕ) (name : List ℕ) → n < 2 ^ 64 → i < 2 ^ 64 → IsWordName name → IsWordName (own_text (lettered_prefix 112 n) i name)
own_name n i name small few h =
    let prefix : List ℕ = lettered_prefix 112 n in
    let mark : Fits (95 ∷ []) = record { word = refl; allowed = refl } in
    name_is 112 ((decimal n ++ 95 ∷ []) ++ (decimal i ++ 95 ∷ name))
    (fits_append prefix (decimal i ++ 95 ∷ name) (prefix_fits n small)
    (fits_append (decimal i) (95 ∷ name) (decimal_fits i few) (fits_append (95 ∷ []) name mark (name_fits name h))))

tree_name : (n k : ℕ) → n < 2 ^ 64 → k < 2 ^ 64 → IsWordName (tree_text (lettered_prefix 112 n) k)
tree_name n k small few =
    let letter : Fits (116 ∷ []) = record { word = refl; allowed = refl } in
    name_is 112 ((decimal n ++ 95 ∷ []) ++ 116 ∷ decimal k)
    (fits_append (lettered_prefix 112 n) (116 ∷ decimal k) (prefix_fits n small) (fits_append (116 ∷ []) (decimal k) letter (decimal_fits k few)))

-- the number of the prefix is at most that of the names
free_from : (names : List (List ℕ)) (tries number : ℕ) → free_number_under_from 112 names tries number ≤ number + tries
free_from names zero number = omega arith
free_from names (suc tries) number = by (is_taken_under 112 names number) (free_from names tries (number + 1))
  where
    by : (b : Bool) → free_number_under_from 112 names tries (number + 1) ≤ number + 1 + tries
        → (if b then free_number_under_from 112 names tries (number + 1) else number) ≤ number + suc tries
    by true rest = omega (arith, rest)
    by false rest = omega arith

-- ---- all names

all_texts : (seen texts : List (List ℕ)) → All IsWordName seen → All IsWordName texts → All IsWordName (with_texts seen texts)
all_texts seen [] h k = h
all_texts seen (t ∷ texts) h k = all_texts (with_text seen t) texts more (All-tail IsWordName t texts k)
  where
    more : All IsWordName (with_text seen t)
    more = elim (cases_Bool (has_text seen t)) [
      | inl e ↦ subst (All IsWordName) (sym (cond-true (has_text seen t) seen (seen ++ t ∷ []) e)) h
      | inr e ↦ subst (All IsWordName) (sym (cond-false (has_text seen t) seen (seen ++ t ∷ []) e))
          (All-append IsWordName seen (t ∷ []) h (All-cons IsWordName t [] (All-head IsWordName t texts k) (All-nil IsWordName)))
    ]

inputs_word : (seen : List (List ℕ)) (parts : List PlannedOf) → AreTellable parts → All IsWordName seen → All IsWordName (inputs_from seen parts)
inputs_word seen [] can h = h
inputs_word seen (p ∷ parts) can h =
    inputs_word (with_texts seen (input_names p.net)) parts can.1
    (all_texts seen (input_names p.net) h (All-take IsWordName p.net.circuit.inputs p.net.names can.0.net.names))

own_word : (n i : ℕ) (names : PlannedOf → List (List ℕ)) (parts : List PlannedOf) → n < 2 ^ 64 → i + length parts ≤ 2 ^ 64
    → ((p : PlannedOf) → IsTellable p.net → All IsWordName (names p)) → AreTellable parts → All IsWordName (own_texts (lettered_prefix 112 n) names i parts)
own_word n i names [] small few each can = All-nil IsWordName
own_word n i names (p ∷ parts) small few each can =
    All-append IsWordName (map (own_text (lettered_prefix 112 n) i) (names p)) (own_texts (lettered_prefix 112 n) names (i + 1) parts)
    (All-map IsWordName (own_text (lettered_prefix 112 n) i) (names p)
    (All-weaker IsWordName (λ name. IsWordName (own_text (lettered_prefix 112 n) i name)) (λ name h. own_name n i name small (omega arith) h) (names p) (each p can.0.net)))
    (own_word n (i + 1) names parts small (omega arith) each can.1)

tree_word : (n count : ℕ) → n < 2 ^ 64 → count ≤ 2 ^ 64 → All IsWordName (map (tree_text (lettered_prefix 112 n)) (range_with_len 0 count))
tree_word n count small few =
    All-map IsWordName (tree_text (lettered_prefix 112 n)) (range_with_len 0 count)
    (All-from_get_or (λ k. IsWordName (tree_text (lettered_prefix 112 n) k)) (range_with_len 0 count) 0 (λ k h.
    let counted = length-range_with_len 0 count in
    let at = get_or-range_with_len 0 count k 0 (omega (arith, h, counted)) in
    tree_name n (slice_index_or (range_with_len 0 count) k 0) small (omega (arith, h, counted, at, few))))

-- ---- all nodes

moved_told : (at : ℕ → ℕ) (nodes : List NodeOf) → All IsToldNode nodes → All IsToldNode (map (moved_node at) nodes)
moved_told at nodes h = All-map IsToldNode (moved_node at) nodes (All-weaker IsToldNode (λ n. IsToldNode (moved_node at n)) (λ n k. k) nodes h)

parts_told : (names : List (List ℕ)) (inputs latches past fl fn : ℕ) (parts : List PlannedOf) → AreTellable parts
    → All IsToldNode (nodes_of (parts_from inputs latches past fl fn (map (member names) parts)))
parts_told names inputs latches past fl fn [] can = All-nil IsToldNode
parts_told names inputs latches past fl fn (p ∷ parts) can =
    All-append IsToldNode _ (nodes_of (parts_from inputs latches past (fl + length p.net.circuit.latches) (fn + length p.net.circuit.nodes) (map (member names) parts)))
    (moved_told _ p.net.circuit.nodes can.0.net.each_node)
    (parts_told names inputs latches past (fl + length p.net.circuit.latches) (fn + length p.net.circuit.nodes) parts can.1)

tree_told : (nets : List ℕ) (gates : List CheckGate) → All IsToldNode (gate_nodes nets gates)
tree_told nets [] = All-nil IsToldNode
tree_told nets (gate.Word p ∷ gates) = tree_told nets gates
tree_told nets (gate.Buf a ∷ gates) = All-cons IsToldNode _ (gate_nodes nets gates) (λ _. refl) (tree_told nets gates)
tree_told nets (gate.Not a ∷ gates) = All-cons IsToldNode _ (gate_nodes nets gates) (λ _. refl) (tree_told nets gates)
tree_told nets (gate.And a b ∷ gates) = All-cons IsToldNode _ (gate_nodes nets gates) (λ _. refl) (tree_told nets gates)
tree_told nets (gate.Or a b ∷ gates) = All-cons IsToldNode _ (gate_nodes nets gates) (λ _. refl) (tree_told nets gates)
tree_told nets (gate.Xor a b ∷ gates) = All-cons IsToldNode _ (gate_nodes nets gates) (λ _. refl) (tree_told nets gates)

-- ---- the laws

tellable : (parts : List PlannedOf) → 0 < length parts → length parts ≤ 64 → ArePlanned parts → AreTellable parts → IsTellable (joint_netlist parts)
tellable parts some few are can = record { model = record { word = refl; allowed = refl }; names = names; each_node = nodes }
  where
    small : free_number_under 112 (taken_names parts) < 2 ^ 64
    small =
        let most = free_from (taken_names parts) (length (taken_names parts)) 0 in
        omega (arith, most, few_inputs parts few are can, length-with_control (joint_inputs parts) (joint_clock parts))

    names : All IsWordName (joint_netlist parts).names
    names =
        All-append IsWordName (joint_inputs parts) _ (inputs_word [] parts can (All-nil IsWordName))
        (All-append IsWordName (own_texts (joint_prefix (taken_names parts)) latch_names 0 parts) _
        (own_word (free_number_under 112 (taken_names parts)) 0 latch_names parts small (omega arith)
        (λ p w. All-take IsWordName (length p.net.circuit.latches) (drop p.net.circuit.inputs p.net.names) (All-drop IsWordName p.net.circuit.inputs p.net.names w.names)) can)
        (All-append IsWordName (own_texts (joint_prefix (taken_names parts)) node_names 0 parts) _
        (own_word (free_number_under 112 (taken_names parts)) 0 node_names parts small (omega arith)
        (λ p w. All-drop IsWordName (p.net.circuit.inputs + length p.net.circuit.latches) p.net.names w.names) can)
        (tree_word (free_number_under 112 (taken_names parts)) (tree_gates (length parts)) small (omega arith))))

    nodes : All IsToldNode (joint parts).circuit.nodes
    nodes =
        let ins = joint_inputs parts in
        let held = latches_in (map (member (joint_inputs parts)) parts) in
        let driven = nodes_in (map (member (joint_inputs parts)) parts) in
        let gates = (tree_made (length parts)).gates in
        let of_gates = gate_nets (rails_of (joint parts).parts) (length ins + held + driven) gates in
        All-append IsToldNode (nodes_of (joint parts).parts) (gate_nodes of_gates gates)
        (parts_told ins (length ins) held (length ins + held + (driven + tree_gates (length parts))) 0 0 parts can)
        (tree_told of_gates gates)

-- the clock of the joint is that of a part
told_clock : (parts : List PlannedOf) → AreTellable parts → IsToldClock (joint_clock parts)
told_clock [] can = tt
told_clock (p ∷ parts) can = by p.clock can.0.clock (told_clock parts can.1)
  where
    by : (clock : Option Clock) → IsToldClock clock → IsToldClock (joint_clock parts) → IsToldClock (clock_or clock (joint_clock parts))
    by None own later = later
    by (Some clock) own later = own

pub joint_text_tells : JointTextTells
joint_text_tells parts some few are can =
    registers-told (joint_clock parts) (joint_netlist parts) [] (join_is_built parts some are (few_nets parts some few are can)) (tellable parts some few are can)
    (told_clock parts can) (All-nil _)

-- a joint of which its text tells something
tells_joint : (Secure : JointOf → Type 0) (parts : List PlannedOf) → 0 < length parts → length parts ≤ 64 → ArePlanned parts → AreTellable parts
    → Secure (joint parts) → TellsJoint (joint_bytes parts) parts Secure
tells_joint Secure parts some few are can secure =
    let tells = joint_text_tells parts some few are can in
    record { tells = tells; is_joint = joined parts some are; circuit = ap (λ net. net.circuit) tells.told.same; secure = secure }

pub joint_text_is_cell_secure : JointTextIsCellSecure
joint_text_is_cell_secure M parts some few are can secure = tells_joint (IsJointCellSecure M) parts some few are can (join_is_cell_secure M parts some are secure)

pub joint_text_is_fault_secure : JointTextIsFaultSecure
joint_text_is_fault_secure M parts some few are can secure = tells_joint (IsJointFaultSecure M) parts some few are can (join_is_fault_secure M parts some are secure)

pub joint_text_is_secure_for_sources : JointTextIsSecureForSources
joint_text_is_secure_for_sources source parts some few are can secure =
    tells_joint (IsCellSecureForSources source) parts some few are can (join_is_secure_for_sources source parts some are secure)

pub joint_text_is_fault_secure_for_sources : JointTextIsFaultSecureForSources
joint_text_is_fault_secure_for_sources source parts some few are can secure =
    tells_joint (IsFaultSecureForSources source) parts some few are can (join_is_fault_secure_for_sources source parts some are secure)
