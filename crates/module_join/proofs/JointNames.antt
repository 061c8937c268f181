-- No two nets of the joint netlist have one name.
use Rattle.std.proofs.Common.{◌≡◌, ℕ, zero, suc, ◌+◌, ◌^◌, ◌<◌, ◌||◌, true, false, List, [], ◌∷◌, ◌++◌, map, drop, length, slice_index_or, get_or, All, Contains, refl, sym, ap, subst, ◌∙◌, append_assoc, arith}
use Rattle.std.specs.Fmt.{decimal}
use Rattle.std.specs.Char.{digit_value}
use Rattle.std.specs.Str.{bytes_eq}
use Rattle.std.specs.Str.Parse.{AllDigits}
use Rattle.std.specs.List.{list_any, range_with_len}
use Rattle.std.proofs.lemmas.Fmt.{decimal_is_IsNumeral, decimal_injective}
use Rattle.std.proofs.lemmas.Str.Parse.{digit_from_value}
use Rattle.std.proofs.Math.Seq.{take-append_seam, drop-append_seam}
use Rattle.std.proofs.lemmas.List.{length-append, length-map, length-take-le, length-drop, get_or-drop, get_or-take}
use Rattle.std.proofs.lemmas.List.Elements.{All-nil, All-cons, All-append, All-map, All-weaker, All-contains_itself}
use Rattle.std.proofs.lemmas.List.Folds.{list_any-append}
use Rattle.std.proofs.lemmas.List.FromFn.{length-map-range_with_len, get_or-map-range_with_len}
use Rattle.fault_secure.specs.Circuit.{nets}
use Rattle.tsc_net.specs.Names.{with_text, text_at, IsNumbering}
use Rattle.tsc_net.specs.Parts.{begins_with, lettered_prefix}
use Rattle.tsc_net.proofs.NameLemmas.{bytes_eq_refl, numbering-with_text}
use Rattle.tsc_net.proofs.FreshNumbers.{prefix-one}
use Rattle.code_checkers.specs.Tree.{tree_gates}
use Rattle.joint_laws.specs.JointCircuit.{latches_in, nodes_in}
use Rattle.joint_laws.proofs.JointIsJoint.{many_latches, many_nodes}
use Rattle.module_join.specs.TreeNodes.{nodes_of_tree, tree_made}
use Rattle.module_join.specs.JointNet.{PlannedOf, input_names, with_texts, inputs_from, joint_inputs, taken_names, joint_prefix, own_text, tree_text, latch_names, node_names, own_texts, member, joint, joint_netlist}
use Rattle.module_join.specs.JoinLaws.{planned, IsPlanned, ArePlanned, JoinIsBuilt, ControlIsNoNet}
use Rattle.module_join.proofs.Apart.{IsNone, Apart, apart_append, none_append, none_by_test, none_by_kinds, apart_map, numbering_of, apart_of}
use Rattle.module_join.proofs.Joined.{joined, tree}
use Rattle.module_join.proofs.Taken.{inputs_begin_otherwise, control_begins_otherwise, fails_has}

-- ---- the inputs

all_numbering : (seen texts : List (List ℕ)) → IsNumbering seen → IsNumbering (with_texts seen texts)
all_numbering seen [] h = h
all_numbering seen (t ∷ texts) h = all_numbering (with_text seen t) texts (numbering-with_text seen t h)

inputs_numbering : (seen : List (List ℕ)) (parts : List PlannedOf) → IsNumbering seen → IsNumbering (inputs_from seen parts)
inputs_numbering seen [] h = h
inputs_numbering seen (p ∷ parts) h = inputs_numbering (with_texts seen (input_names p.net)) parts (all_numbering seen (input_names p.net) h)

begins : (prefix rest : List ℕ) → begins_with prefix (prefix ++ rest) ≡ true
begins prefix rest = ap (bytes_eq prefix) (take-append_seam prefix rest) ∙ bytes_eq_refl prefix

behind : (prefix a b : List ℕ) → prefix ++ a ≡ prefix ++ b → a ≡ b
behind prefix a b e = sym (drop-append_seam prefix a) ∙ ap (drop (length prefix)) e ∙ drop-append_seam prefix b

-- ---- the texts of parts' nets

-- the same text is of the same part and of the same name
one_number : (prefix : List ℕ) (i j : ℕ) (n m : List ℕ) → i < 2 ^ 64 → j < 2 ^ 64 → own_text prefix i n ≡ own_text prefix j m → i ≡ j
one_number prefix i j n m hi hj e =
    let rest : decimal i ++ 95 ∷ n ≡ decimal j ++ 95 ∷ m = behind prefix (decimal i ++ 95 ∷ n) (decimal j ++ 95 ∷ m) e in
    let first : lettered_prefix 112 i ++ n ≡ 112 ∷ (decimal i ++ 95 ∷ n) = append_assoc (112 ∷ decimal i) (95 ∷ []) n in
    let second : lettered_prefix 112 j ++ m ≡ 112 ∷ (decimal i ++ 95 ∷ n) = append_assoc (112 ∷ decimal j) (95 ∷ []) m ∙ ap (λ l. 112 ∷ l) (sym rest) in
    prefix-one 112 i j (112 ∷ (decimal i ++ 95 ∷ n)) hi hj
    (ap (begins_with (lettered_prefix 112 i)) (sym first) ∙ begins (lettered_prefix 112 i) n)
    (ap (begins_with (lettered_prefix 112 j)) (sym second) ∙ begins (lettered_prefix 112 j) m)

one_name : (prefix : List ℕ) (i : ℕ) (n m : List ℕ) → own_text prefix i n ≡ own_text prefix i m → n ≡ m
one_name prefix i n m e =
    ap (drop 1) (behind (decimal i) (95 ∷ n) (95 ∷ m) (behind prefix (decimal i ++ 95 ∷ n) (decimal i ++ 95 ∷ m) e))

-- the text is that of a net of one of the parts, the first of which has number i
record IsOwn (prefix : List ℕ) (names : PlannedOf → List (List ℕ)) (i : ℕ) (parts : List PlannedOf) (t : List ℕ) : Type 0 where
  number : ℕ
  name : List ℕ
  within : number < length parts
  among : Contains (names (planned parts number)) name
  text : t ≡ own_text prefix (i + number) name

all_own : (prefix : List ℕ) (names : PlannedOf → List (List ℕ)) (i : ℕ) (parts : List PlannedOf) → All (IsOwn prefix names i parts) (own_texts prefix names i parts)
all_own prefix names i [] = All-nil (IsOwn prefix names i [])
all_own prefix names i (p ∷ parts) =
    All-append (IsOwn prefix names i (p ∷ parts)) (map (own_text prefix i) (names p)) (own_texts prefix names (i + 1) parts)
    (All-map (IsOwn prefix names i (p ∷ parts)) (own_text prefix i) (names p)
    (All-weaker (Contains (names p)) (λ n. IsOwn prefix names i (p ∷ parts) (own_text prefix i n)) (λ n c. here n c) (names p) (All-contains_itself (names p))))
    (All-weaker (IsOwn prefix names (i + 1) parts) (IsOwn prefix names i (p ∷ parts)) (λ t h. later t h) (own_texts prefix names (i + 1) parts) (all_own prefix names (i + 1) parts))
  where
    here : (n : List ℕ) → Contains (names p) n → IsOwn prefix names i (p ∷ parts) (own_text prefix i n)
    here n c = record { number = 0; name = n; within = omega arith; among = c; text = (let e : i ≡ i + 0 = omega arith in ap (λ k. own_text prefix k n) e) }

    later : (t : List ℕ) → IsOwn prefix names (i + 1) parts t → IsOwn prefix names i (p ∷ parts) t
    later t h = record {
      number = suc h.number;
      name = h.name;
      within = (let l = h.within in omega arith);
      among = h.among;
      text = h.text ∙ (let e : (i + 1) + h.number ≡ i + suc h.number = omega arith in ap (λ k. own_text prefix k h.name) e);
    }

-- no two of them are one, where in each part no two are
EachApart : (PlannedOf → List (List ℕ)) → List PlannedOf → Type 0
EachApart names [] = Unit {0}
EachApart names (p ∷ parts) = Apart (names p) × EachApart names parts

own_apart : (prefix : List ℕ) (names : PlannedOf → List (List ℕ)) (i : ℕ) (parts : List PlannedOf) → i + length parts < 2 ^ 64 → EachApart names parts
    → Apart (own_texts prefix names i parts)
unfolding EachApart
own_apart prefix names i [] few each = tt
own_apart prefix names i (p ∷ parts) few each =
    apart_append (map (own_text prefix i) (names p)) (own_texts prefix names (i + 1) parts)
    (apart_map (own_text prefix i) (λ a b e. one_name prefix i a b e) (names p) each.0)
    (own_apart prefix names (i + 1) parts (omega arith) each.1)
    (All-map (IsNone (own_texts prefix names (i + 1) parts)) (own_text prefix i) (names p) (All-weaker (Contains (names p)) (λ n. IsNone (own_texts prefix names (i + 1) parts) (own_text prefix i n))
    (λ n c. All-weaker (IsOwn prefix names (i + 1) parts) (λ u. own_text prefix i n ≡ u → ⊥) (λ u h e. other n u h e) (own_texts prefix names (i + 1) parts) (all_own prefix names (i + 1) parts))
    (names p) (All-contains_itself (names p))))
  where
    other : (n u : List ℕ) → IsOwn prefix names (i + 1) parts u → own_text prefix i n ≡ u → ⊥
    other n u h e =
        let l = h.within in
        let same : i ≡ (i + 1) + h.number = one_number prefix i ((i + 1) + h.number) n h.name (omega arith) (omega arith) (e ∙ h.text) in
        omega arith

-- ---- latches and nodes of one netlist

-- where all netlists are planned, so is the one at each place
pub planned_at : (parts : List PlannedOf) → ArePlanned parts → (i : ℕ) → i < length parts → IsPlanned (planned parts i)
planned_at [] are i h = absurd (omega arith)
planned_at (p ∷ parts) are zero h = are.0
planned_at (p ∷ parts) are (suc i) h = planned_at parts are.1 i (omega arith)

module _ (p : PlannedOf) (is : IsPlanned p) where
  pub length-latch_names : length (latch_names p) ≡ length p.net.circuit.latches
  length-latch_names =
      let sized = is.built.sized in
      length-take-le (length p.net.circuit.latches) (drop p.net.circuit.inputs p.net.names) (omega (arith, length-drop p.net.circuit.inputs p.net.names))

  pub length-node_names : length (node_names p) ≡ length p.net.circuit.nodes
  length-node_names =
      let sized = is.built.sized in
      length-drop (p.net.circuit.inputs + length p.net.circuit.latches) p.net.names ∙ omega arith

  pub latch_name : (l : ℕ) → l < length p.net.circuit.latches → text_at (latch_names p) l ≡ text_at p.net.names (p.net.circuit.inputs + l)
  latch_name l h = get_or-take (length p.net.circuit.latches) (drop p.net.circuit.inputs p.net.names) l [] h ∙ get_or-drop p.net.circuit.inputs p.net.names l []

  pub node_name : (j : ℕ) → text_at (node_names p) j ≡ text_at p.net.names (p.net.circuit.inputs + length p.net.circuit.latches + j)
  node_name j = get_or-drop (p.net.circuit.inputs + length p.net.circuit.latches) p.net.names j []

  latches_apart : Apart (latch_names p)
  latches_apart = apart_of (latch_names p) (record {
    distinct = λ a b la lb e.
        let sized = is.built.sized in
        let first : a < length p.net.circuit.latches = omega (arith, length-latch_names) in
        let second : b < length p.net.circuit.latches = omega (arith, length-latch_names) in
        let same : p.net.circuit.inputs + a ≡ p.net.circuit.inputs + b = is.built.numbering.distinct (p.net.circuit.inputs + a) (p.net.circuit.inputs + b) (omega arith) (omega arith)
        (sym (latch_name a first) ∙ e ∙ latch_name b second) in
        omega arith;
  })

  nodes_apart : Apart (node_names p)
  nodes_apart = apart_of (node_names p) (record {
    distinct = λ a b la lb e.
        let sized = is.built.sized in
        let base = p.net.circuit.inputs + length p.net.circuit.latches in
        let same : p.net.circuit.inputs + length p.net.circuit.latches + a ≡ p.net.circuit.inputs + length p.net.circuit.latches + b =
        is.built.numbering.distinct (p.net.circuit.inputs + length p.net.circuit.latches + a) (p.net.circuit.inputs + length p.net.circuit.latches + b)
        (omega (arith, length-node_names)) (omega (arith, length-node_names)) (sym (node_name a) ∙ e ∙ node_name b) in
        omega arith;
  })

  -- no name is a latch's and a node's
  latch_or_node : (n : List ℕ) → Contains (latch_names p) n → Contains (node_names p) n → ⊥
  latch_or_node n c d =
      let sized = is.built.sized in
      let lc = c.1 in let ld = d.1 in
      let first : c.0 < length p.net.circuit.latches = omega (arith, length-latch_names) in
      let same : p.net.circuit.inputs + c.0 ≡ p.net.circuit.inputs + length p.net.circuit.latches + d.0 =
      is.built.numbering.distinct (p.net.circuit.inputs + c.0) (p.net.circuit.inputs + length p.net.circuit.latches + d.0) (omega arith) (omega (arith, length-node_names))
      (sym (latch_name c.0 first) ∙ any_default (latch_names p) c.0 n lc ∙ c.2 ∙ sym (any_default (node_names p) d.0 n ld ∙ d.2) ∙ node_name d.0) in
      omega arith
    where
      any_default : (xs : List (List ℕ)) (k : ℕ) (d : List ℕ) → k < length xs → slice_index_or xs k [] ≡ slice_index_or xs k d
      any_default [] k d l = absurd (omega arith)
      any_default (x ∷ xs) zero d l = refl
      any_default (x ∷ xs) (suc k) d l = any_default xs k d (omega arith)

each_latch : (parts : List PlannedOf) → ArePlanned parts → EachApart latch_names parts
unfolding EachApart
each_latch [] are = tt
each_latch (p ∷ parts) are = (latches_apart p are.0, each_latch parts are.1)

each_node : (parts : List PlannedOf) → ArePlanned parts → EachApart node_names parts
unfolding EachApart
each_node [] are = tt
each_node (p ∷ parts) are = (nodes_apart p are.0, each_node parts are.1)

-- ---- the texts of the tree's nodes

record IsOfTree (prefix : List ℕ) (t : List ℕ) : Type 0 where
  number : ℕ
  text : t ≡ tree_text prefix number

tree_apart : (prefix : List ℕ) (n : ℕ) → n < 2 ^ 64 → Apart (map (tree_text prefix) (range_with_len 0 n))
tree_apart prefix n few = apart_of (map (tree_text prefix) (range_with_len 0 n)) (record {
  distinct = λ a b la lb e.
      let first : a < n = omega (arith, length-map-range_with_len (tree_text prefix) 0 n) in
      let second : b < n = omega (arith, length-map-range_with_len (tree_text prefix) 0 n) in
      decimal_injective a b (omega arith) (omega arith) (ap (drop 1) (behind prefix (116 ∷ decimal a) (116 ∷ decimal b)
      (sym (get_or-map-range_with_len (tree_text prefix) 0 n a a [] first (omega arith)) ∙ e ∙ get_or-map-range_with_len (tree_text prefix) 0 n b b [] second (omega arith))));
})

all_of_tree : (prefix : List ℕ) (ns : List ℕ) → All (IsOfTree prefix) (map (tree_text prefix) ns)
all_of_tree prefix [] = All-nil (IsOfTree prefix)
all_of_tree prefix (n ∷ ns) = All-cons (IsOfTree prefix) (tree_text prefix n) (map (tree_text prefix) ns) (record { number = n; text = refl }) (all_of_tree prefix ns)

-- a digit isn't the tree's letter
no_digit : (c : ℕ) → digit_value c < 10 → c ≡ 116 → ⊥
no_digit c d e = omega (arith, digit_from_value c d)

-- nor is the mark after the digits
no_mark : (c : ℕ) → c ≡ 95 → c ≡ 116 → ⊥
no_mark c a b = omega arith

-- digits, and what follows, don't begin with the tree's letter
no_letter : (ds r s : List ℕ) → AllDigits 10 ds → ds ++ 95 ∷ r ≡ 116 ∷ s → ⊥
no_letter [] r s digits e = no_mark 95 refl (ap (λ l. get_or l 0 0) e)
no_letter (d ∷ ds) r s digits e =
    let h : d ≡ 116 = ap (λ l. get_or l 0 0) e in no_digit d digits.0 h

own_or_tree : (prefix : List ℕ) (names : PlannedOf → List (List ℕ)) (parts : List PlannedOf) → length parts < 2 ^ 64 → (t : List ℕ)
    → IsOwn prefix names 0 parts t → IsOfTree prefix t → ⊥
own_or_tree prefix names parts few t h k =
    let l = h.within in
    no_letter (decimal (0 + h.number)) h.name (decimal k.number) (decimal_is_IsNumeral (0 + h.number) (omega arith)).0.1
    (behind prefix (decimal (0 + h.number) ++ 95 ∷ h.name) (116 ∷ decimal k.number) (sym h.text ∙ k.text))

latch_or_node_text : (prefix : List ℕ) (parts : List PlannedOf) → ArePlanned parts → length parts < 2 ^ 64 → (t : List ℕ)
    → IsOwn prefix latch_names 0 parts t → IsOwn prefix node_names 0 parts t → ⊥
latch_or_node_text prefix parts are few t h k =
    let lh = h.within in
    let lk = k.within in
    let text : own_text prefix (0 + h.number) h.name ≡ own_text prefix (0 + k.number) k.name = sym h.text ∙ k.text in
    let number : 0 + h.number ≡ 0 + k.number = one_number prefix (0 + h.number) (0 + k.number) h.name k.name (omega arith) (omega arith) text in
    let same : k.number ≡ h.number = omega arith in
    let name : h.name ≡ k.name = one_name prefix (0 + h.number) h.name k.name (text ∙ ap (λ i. own_text prefix i k.name) (sym number)) in
    latch_or_node (planned parts h.number) (planned_at parts are h.number h.within) h.name h.among
    (subst (Contains (node_names (planned parts h.number))) (sym name) (subst (λ i. Contains (node_names (planned parts i)) k.name) same k.among))

-- ---- all names

begins_own : (prefix : List ℕ) (names : PlannedOf → List (List ℕ)) (i : ℕ) (parts : List PlannedOf) (t : List ℕ) → IsOwn prefix names i parts t → begins_with prefix t ≡ true
begins_own prefix names i parts t h = ap (begins_with prefix) h.text ∙ begins prefix (decimal (i + h.number) ++ 95 ∷ h.name)

module _ (prefix : List ℕ) (parts : List PlannedOf) (n : ℕ) where
  abbrev latches : List (List ℕ)
  latches = own_texts prefix latch_names 0 parts

  abbrev nodes : List (List ℕ)
  nodes = own_texts prefix node_names 0 parts

  abbrev trees : List (List ℕ)
  trees = map (tree_text prefix) (range_with_len 0 n)

  own_latches : All (IsOwn prefix latch_names 0 parts) (own_texts prefix latch_names 0 parts)
  own_latches = all_own prefix latch_names 0 parts

  own_nodes : All (IsOwn prefix node_names 0 parts) (own_texts prefix node_names 0 parts)
  own_nodes = all_own prefix node_names 0 parts

  own_trees : All (IsOfTree prefix) (map (tree_text prefix) (range_with_len 0 n))
  own_trees = all_of_tree prefix (range_with_len 0 n)

  -- the names of all nets except the inputs begin with the prefix
  all_begin : All (λ t. begins_with prefix t ≡ true) (own_texts prefix latch_names 0 parts ++ (own_texts prefix node_names 0 parts ++ map (tree_text prefix) (range_with_len 0 n)))
  all_begin =
      All-append (λ t. begins_with prefix t ≡ true) latches (nodes ++ trees)
      (All-weaker (IsOwn prefix latch_names 0 parts) (λ t. begins_with prefix t ≡ true) (begins_own prefix latch_names 0 parts) latches own_latches)
      (All-append (λ t. begins_with prefix t ≡ true) nodes trees
      (All-weaker (IsOwn prefix node_names 0 parts) (λ t. begins_with prefix t ≡ true) (begins_own prefix node_names 0 parts) nodes own_nodes)
      (All-weaker (IsOfTree prefix) (λ t. begins_with prefix t ≡ true) (λ t h. ap (begins_with prefix) h.text ∙ begins prefix (116 ∷ decimal h.number)) trees own_trees))

  joint_apart : (inputs : List (List ℕ)) → IsNumbering inputs → All (λ t. begins_with prefix t ≡ false) inputs
      → ArePlanned parts → length parts < 2 ^ 32 → n < 2 ^ 64
      → Apart (inputs ++ (own_texts prefix latch_names 0 parts ++ (own_texts prefix node_names 0 parts ++ map (tree_text prefix) (range_with_len 0 n))))
  joint_apart inputs numbering free are few small =
      apart_append inputs (latches ++ (nodes ++ trees)) (apart_of inputs numbering)
      (apart_append latches (nodes ++ trees) (own_apart prefix latch_names 0 parts (omega arith) (each_latch parts are))
      (apart_append nodes trees (own_apart prefix node_names 0 parts (omega arith) (each_node parts are)) (tree_apart prefix n small)
      (none_by_kinds (IsOwn prefix node_names 0 parts) (IsOfTree prefix) nodes trees (own_or_tree prefix node_names parts (omega arith)) own_nodes own_trees))
      (none_append latches nodes trees
      (none_by_kinds (IsOwn prefix latch_names 0 parts) (IsOwn prefix node_names 0 parts) latches nodes (latch_or_node_text prefix parts are (omega arith)) own_latches own_nodes)
      (none_by_kinds (IsOwn prefix latch_names 0 parts) (IsOfTree prefix) latches trees (own_or_tree prefix latch_names parts (omega arith)) own_latches own_trees)))
      (none_by_test (begins_with prefix) inputs (latches ++ (nodes ++ trees)) free all_begin)

-- ---- as many names as nets

pub length-latch_texts : (inputs : List (List ℕ)) (prefix : List ℕ) (i : ℕ) (parts : List PlannedOf) → ArePlanned parts
    → length (own_texts prefix latch_names i parts) ≡ latches_in (map (member inputs) parts)
length-latch_texts inputs prefix i [] are = refl
length-latch_texts inputs prefix i (p ∷ parts) are =
    length-append (map (own_text prefix i) (latch_names p)) (own_texts prefix latch_names (i + 1) parts)
    ∙ omega (arith, length-map (latch_names p) (own_text prefix i), length-latch_names p are.0, length-latch_texts inputs prefix (i + 1) parts are.1)

pub length-node_texts : (inputs : List (List ℕ)) (prefix : List ℕ) (i : ℕ) (parts : List PlannedOf) → ArePlanned parts
    → length (own_texts prefix node_names i parts) ≡ nodes_in (map (member inputs) parts)
length-node_texts inputs prefix i [] are = refl
length-node_texts inputs prefix i (p ∷ parts) are =
    length-append (map (own_text prefix i) (node_names p)) (own_texts prefix node_names (i + 1) parts)
    ∙ omega (arith, length-map (node_names p) (own_text prefix i), length-node_names p are.0, length-node_texts inputs prefix (i + 1) parts are.1)

module _ (parts : List PlannedOf) (some : 0 < length parts) (are : ArePlanned parts) where
  -- a joint has as many latches as its parts together
  pub many_l : length (joint parts).circuit.latches ≡ latches_in (map (member (joint_inputs parts)) parts)
  many_l = many_latches (length (joint_inputs parts)) (map (member (joint_inputs parts)) parts) (tree_gates (length parts)) (nodes_of_tree (tree_made (length parts))) (tree parts some are)

  -- a joint has as many nodes as its parts and the tree together
  pub many_n : length (joint parts).circuit.nodes ≡ nodes_in (map (member (joint_inputs parts)) parts) + tree_gates (length parts)
  many_n = many_nodes (length (joint_inputs parts)) (map (member (joint_inputs parts)) parts) (tree_gates (length parts)) (nodes_of_tree (tree_made (length parts))) (tree parts some are)

  -- where the names of the inputs are few enough that the prefix is free, and the parts so few that their numbers are told apart
  pub joint_numbering : length (joint_inputs parts) + 1 < 2 ^ 32 → length parts < 2 ^ 32 → IsNumbering (joint_netlist parts).names
  joint_numbering few_inputs few_parts = numbering_of (joint_netlist parts).names
      (joint_apart (joint_prefix (taken_names parts)) parts (tree_gates (length parts)) (joint_inputs parts)
      (inputs_numbering [] parts (record { distinct = λ a b la lb e. absurd (omega arith) }))
      (inputs_begin_otherwise parts few_inputs) are few_parts (omega arith))

  -- a joint netlist has one name for each of its nets
  pub joint_sized : length (joint_netlist parts).names ≡ nets (joint parts).circuit
  joint_sized =
      let prefix = joint_prefix (taken_names parts) in
      let trees = map (tree_text (joint_prefix (taken_names parts))) (range_with_len 0 (tree_gates (length parts))) in
      length-append (joint_inputs parts) _
      ∙ ap (λ k. length (joint_inputs parts) + k)
      (length-append (own_texts prefix latch_names 0 parts) _
      ∙ ap (λ k. length (own_texts (joint_prefix (taken_names parts)) latch_names 0 parts) + k) (length-append (own_texts prefix node_names 0 parts) trees))
      ∙ omega (
        arith,
        length-latch_texts (joint_inputs parts) (joint_prefix (taken_names parts)) 0 parts are,
        length-node_texts (joint_inputs parts) (joint_prefix (taken_names parts)) 0 parts are,
        length-map-range_with_len (tree_text (joint_prefix (taken_names parts))) 0 (tree_gates (length parts)),
        many_l,
        many_n,
      )

-- in a joint netlist of fewer than 2^32 nets there is a number for the control too, since the tree has nodes
few_names : (parts : List PlannedOf) → 0 < length parts → ArePlanned parts → nets (joint parts).circuit < 2 ^ 32 → length (joint_inputs parts) + 1 < 2 ^ 32
few_names parts some are few = omega (arith, many_n parts some are)

-- the control of the joint's clock, where it is no input's name, is the name of no net
pub control_is_no_net : ControlIsNoNet
control_is_no_net parts clock some are few is input =
    let prefix = joint_prefix (taken_names parts) in
    let own = own_texts prefix latch_names 0 parts ++ (own_texts prefix node_names 0 parts ++ map (tree_text prefix) (range_with_len 0 (tree_gates (length parts)))) in
    let otherwise = control_begins_otherwise parts (few_names parts some are few) clock is in
    list_any-append (bytes_eq clock.control) (joint_inputs parts) own
    ∙ ap (λ b. b || list_any (bytes_eq clock.control) own) input
    ∙ fails_has (begins_with prefix) own clock.control otherwise (all_begin prefix parts (tree_gates (length parts)))

-- a joint netlist of fewer than 2^32 nets is one as it is built: different nets have different names
pub join_is_built : JoinIsBuilt
join_is_built parts some are few =
    let j = joined parts some are in
    let few_inputs : length (joint_inputs parts) + 1 < 2 ^ 32 = few_names parts some are few in
    let few_parts : length parts < 2 ^ 32 = omega (arith, many_n parts some are) in
    record {
      closed = j.closed;
      acyclic = j.acyclic;
      sized = joint_sized parts some are;
      numbering = joint_numbering parts some are few_inputs few_parts;
      few = few;
    }
