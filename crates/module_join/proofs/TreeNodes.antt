-- The nodes of the tree over the pairs of a word: what they read, and what they settle to.
use Rattle.std.proofs.Common.{◌≡◌, ℕ, zero, suc, ◌+◌, ◌*◌, ◌<◌, ◌≤◌, ◌&&◌, Bool, false, List, [], ◌∷◌, ◌++◌, map, length, drop, slice_index, slice_index_or, All, refl, sym, ap, ap₂, subst, ◌∙◌, inl, inr, arith}
use Rattle.std.specs.List.{list_all}
use Rattle.std.proofs.lemmas.Bool.{cases_Bool, cases_lt}
use Rattle.std.proofs.lemmas.List.{append_assoc, length-append, length-map, get_or-map, drop_all, drop_more, append-nil, get_or_push}
use Rattle.std.proofs.lemmas.List.Elements.{All-nil, All-cons}
use Rattle.std.proofs.lemmas.List.Sums.{position_or_len_is}
use Rattle.std.proofs.Math.ListN.{get_or-append}
use Rattle.tsc_bits.specs.Counting.{differ}
use Rattle.tsc_bits.proofs.Lists.{map_agrees, map-push}
use Rattle.tsc_cover.specs.Cover.{truth}
use Rattle.fault_secure.specs.Circuit.{Circuit, NodeOf, no_node, node_net, nets, bit, gate as node_over}
use Rattle.fault_secure.specs.Stretch.{StretchSettles}
use Rattle.fault_secure.proofs.GateLemmas.{node_value-gate}
use Rattle.code_checkers.specs.declared.gate.CheckGate.{CheckGate}
use Rattle.code_checkers.specs.declared.gate.CheckGate.TheVariants as gate
use Rattle.code_checkers.specs.Signal.{Signal, value, pair_differs}
use Rattle.code_checkers.specs.Signal.Signal.{Word}
use Rattle.code_checkers.specs.Gates.{signal_at, signal_of, signals_from, signals_of, meaning, ReadsBelow}
use Rattle.code_checkers.specs.GateList.{GateList}
use Rattle.code_checkers.specs.Nodes.{cover_of, reads_of}
use Rattle.code_checkers.specs.CheckerNodes.{place_of, gate_of, net_behind, gate_nets, gate_nodes}
use Rattle.code_checkers.specs.Walk.{same_signal}
use Rattle.code_checkers.specs.Tree.{word_pairs, tree_gates, tree_rail1, tree_rail2}
use Rattle.code_checkers.proofs.Gates.{length-signals_of}
use Rattle.code_checkers.proofs.Sharing.{same_signal-refl, same_signal-true}
use Rattle.code_checkers.proofs.CanonicalGates.{gates_are}
use Rattle.code_checkers.proofs.Realised.{gate_values}
use Rattle.code_checkers.proofs.TreeSize.{length-word_pairs, tree-nodes, tree-reads}
use Rattle.code_checkers.proofs.TwoRail.{tree-differs}
use Rattle.joint_laws.specs.JointCircuitLaws.{pairs_differ}
use Rattle.module_join.specs.TreeNodes.{nodes_of_tree, tree_made, TreeNodesDecide, TreeIsDetermined}

-- ---- gates and their nodes

abbrev IsWide : NodeOf → Type 0
IsWide n = n.cover.width ≡ length n.reads

all_wide : (nets : List ℕ) (gates : List CheckGate) → All (λ (n : NodeOf). n.cover.width ≡ length n.reads) (gate_nodes nets gates)
all_wide nets [] = All-nil IsWide
all_wide nets (gate.Word p ∷ gates) = all_wide nets gates
all_wide nets (gate.Buf a ∷ gates) = All-cons IsWide _ (gate_nodes nets gates) refl (all_wide nets gates)
all_wide nets (gate.Not a ∷ gates) = All-cons IsWide _ (gate_nodes nets gates) refl (all_wide nets gates)
all_wide nets (gate.And a b ∷ gates) = All-cons IsWide _ (gate_nodes nets gates) refl (all_wide nets gates)
all_wide nets (gate.Or a b ∷ gates) = All-cons IsWide _ (gate_nodes nets gates) refl (all_wide nets gates)
all_wide nets (gate.Xor a b ∷ gates) = All-cons IsWide _ (gate_nodes nets gates) refl (all_wide nets gates)

all_read_below : (n : ℕ) (g : CheckGate) → ReadsBelow n g → All (λ place. place < n) (reads_of g)
all_read_below n (gate.Word p) h = All-nil (λ place. place < n)
all_read_below n (gate.Buf a) h = All-cons (λ place. place < n) a [] h (All-nil (λ place. place < n))
all_read_below n (gate.Not a) h = All-cons (λ place. place < n) a [] h (All-nil (λ place. place < n))
all_read_below n (gate.And a b) h = All-cons (λ place. place < n) a (b ∷ []) h.0 (All-cons (λ place. place < n) b [] h.1 (All-nil (λ place. place < n)))
all_read_below n (gate.Or a b) h = All-cons (λ place. place < n) a (b ∷ []) h.0 (All-cons (λ place. place < n) b [] h.1 (All-nil (λ place. place < n)))
all_read_below n (gate.Xor a b) h = All-cons (λ place. place < n) a (b ∷ []) h.0 (All-cons (λ place. place < n) b [] h.1 (All-nil (λ place. place < n)))

-- each gate reads places before its own, the first of which is number n
abbrev OrderedFrom : ℕ → List CheckGate → Type 0
OrderedFrom n [] = Unit {0}
OrderedFrom n (g ∷ gates) = ReadsBelow n g × OrderedFrom (n + 1) gates

-- each place of the word that is among the gates is below this length
abbrev WordsBelow : ℕ → List CheckGate → Type 0
WordsBelow most [] = Unit {0}
WordsBelow most (gate.Word p ∷ gates) = (p < most) × WordsBelow most gates
WordsBelow most (_ ∷ gates) = WordsBelow most gates

ordered_from : (n : ℕ) (gates : List CheckGate) → ((i : ℕ) → i < length gates → ReadsBelow (n + i) (slice_index_or gates i (gate.Word 0))) → OrderedFrom n gates
ordered_from n [] h = tt
ordered_from n (g ∷ gates) h = (
  (let e : n + 0 ≡ n = omega arith in subst (λ k. ReadsBelow k g) e (h 0 (omega arith))),
  ordered_from (n + 1) gates (λ i l. let e : n + suc i ≡ (n + 1) + i = omega arith in
      subst (λ k. ReadsBelow k (slice_index_or gates i (gate.Word 0))) e (h (suc i) (omega arith))),
)

words_below : (most : ℕ) (gates : List CheckGate)
    → ((place word : ℕ) → place < length gates → slice_index_or gates place (gate.Word 0) ≡ gate.Word word → word < most) → WordsBelow most gates
words_below most [] h = tt
words_below most (gate.Word p ∷ gates) h = (h 0 p (omega arith) refl, words_below most gates (λ k w l e. h (suc k) w (omega arith) e))
words_below most (gate.Buf a ∷ gates) h = words_below most gates (λ k w l e. h (suc k) w (omega arith) e)
words_below most (gate.Not a ∷ gates) h = words_below most gates (λ k w l e. h (suc k) w (omega arith) e)
words_below most (gate.And a b ∷ gates) h = words_below most gates (λ k w l e. h (suc k) w (omega arith) e)
words_below most (gate.Or a b ∷ gates) h = words_below most gates (λ k w l e. h (suc k) w (omega arith) e)
words_below most (gate.Xor a b ∷ gates) h = words_below most gates (λ k w l e. h (suc k) w (omega arith) e)

length-gate_nets : (word : List ℕ) (next : ℕ) (gates : List CheckGate) → length (gate_nets word next gates) ≡ length gates
length-gate_nets word next [] = refl
length-gate_nets word next (g ∷ gates) = ap suc (length-gate_nets word (net_behind next g) gates)

-- a list from a place on
split_drop : (xs : List NodeOf) (k : ℕ) (y : NodeOf) (ys : List NodeOf) → drop k xs ≡ y ∷ ys → (k < length xs) × (slice_index_or xs k no_node ≡ y) × (drop (k + 1) xs ≡ ys)
split_drop xs k y ys e = elim (cases_lt k (length xs)) [
  | inl low ↦ (let h = sym (drop_more xs k no_node low) ∙ e in (low, ap (λ l. slice_index_or l 0 no_node) h, ap (drop 1) h))
  | inr past ↦ absurd (let h = ap length (sym (drop_all k xs past) ∙ e) in omega (arith, h))
]

module _ (word : List ℕ) where
  -- the nets of gates are those of the word and new ones
  nets_below : (gates : List CheckGate) (next most : ℕ) → WordsBelow (length word) gates → ((p : ℕ) → p < length word → slice_index word p < most)
      → next + length (gate_nodes [] gates) ≤ most → (i : ℕ) → i < length gates → slice_index (gate_nets word next gates) i < most
  nets_below [] next most words inside fits i h = absurd (omega arith)
  nets_below (gate.Word p ∷ gates) next most words inside fits zero h = inside p words.0
  nets_below (gate.Word p ∷ gates) next most words inside fits (suc i) h = nets_below gates next most words.1 inside fits i (omega arith)
  nets_below (gate.Buf a ∷ gates) next most words inside fits zero h = omega arith
  nets_below (gate.Buf a ∷ gates) next most words inside fits (suc i) h = nets_below gates (next + 1) most words inside (omega arith) i (omega arith)
  nets_below (gate.Not a ∷ gates) next most words inside fits zero h = omega arith
  nets_below (gate.Not a ∷ gates) next most words inside fits (suc i) h = nets_below gates (next + 1) most words inside (omega arith) i (omega arith)
  nets_below (gate.And a b ∷ gates) next most words inside fits zero h = omega arith
  nets_below (gate.And a b ∷ gates) next most words inside fits (suc i) h = nets_below gates (next + 1) most words inside (omega arith) i (omega arith)
  nets_below (gate.Or a b ∷ gates) next most words inside fits zero h = omega arith
  nets_below (gate.Or a b ∷ gates) next most words inside fits (suc i) h = nets_below gates (next + 1) most words inside (omega arith) i (omega arith)
  nets_below (gate.Xor a b ∷ gates) next most words inside fits zero h = omega arith
  nets_below (gate.Xor a b ∷ gates) next most words inside fits (suc i) h = nets_below gates (next + 1) most words inside (omega arith) i (omega arith)

  -- what is read at a pin of the k-th node is below its own net
  abbrev ReadsEarlier : ℕ → List NodeOf → Type 0
  ReadsEarlier next nodes = (k pin : ℕ) → k < length nodes → pin < length (slice_index_or nodes k no_node).reads
      → slice_index (slice_index_or nodes k no_node).reads pin < next + k

  one_earlier : (g : CheckGate) (nets done rest : List ℕ) (next : ℕ) (nodes : List NodeOf) → nets ≡ done ++ rest → ((i : ℕ) → i < length done → slice_index done i < next)
      → ReadsBelow (length done) g → ReadsEarlier (next + 1) nodes → ReadsEarlier next (node_over (cover_of g) (map (slice_index nets) (reads_of g)) ∷ nodes)
  one_earlier g nets done rest next nodes is low reads later zero pin h has =
      let own : pin < length (reads_of g) = omega (arith, length-map (reads_of g) (slice_index nets)) in
      let place : slice_index (reads_of g) pin < length done = all_read_below (length done) g reads pin 0 own in
      let e : slice_index (map (slice_index nets) (reads_of g)) pin ≡ slice_index done (slice_index (reads_of g) pin) =
      get_or-map (slice_index nets) (reads_of g) pin 0 0 own ∙ ap (λ l. slice_index l (slice_index (reads_of g) pin)) is ∙ get_or-append done rest 0 (slice_index (reads_of g) pin) place in
      let b = low (slice_index (reads_of g) pin) place in
      omega arith
  one_earlier g nets done rest next nodes is low reads later (suc k) pin h has = let b = later k pin (omega arith) has in omega arith

  done_more : (done : List ℕ) (net next most : ℕ) → ((i : ℕ) → i < length done → slice_index done i < next) → next ≤ most → net < most
      → (i : ℕ) → i < length (done ++ net ∷ []) → slice_index (done ++ net ∷ []) i < most
  done_more done net next most low fits new i h = elim (cases_lt i (length done)) [
    | inl before ↦ (let e = get_or-append done (net ∷ []) 0 i before in let b = low i before in omega arith)
    | inr last ↦ (let e : slice_index (done ++ net ∷ []) i ≡ net = get_or_push done net 0 i (omega (arith, length-append done (net ∷ []))) in omega arith)
  ]

  reads_earlier : (gates : List CheckGate) (nets done : List ℕ) (next : ℕ) → nets ≡ done ++ gate_nets word next gates
      → ((i : ℕ) → i < length done → slice_index done i < next) → OrderedFrom (length done) gates → WordsBelow (length word) gates
      → ((p : ℕ) → p < length word → slice_index word p < next) → ReadsEarlier next (gate_nodes nets gates)
  reads_earlier [] nets done next is low order words inside = λ k pin h has. absurd (omega arith)
  reads_earlier (gate.Word p ∷ gates) nets done next is low order words inside =
      reads_earlier gates nets (done ++ slice_index word p ∷ []) next (is ∙ sym (append_assoc done (slice_index word p ∷ []) (gate_nets word next gates)))
      (done_more done (slice_index word p) next next low (omega arith) (inside p words.0))
      (subst (λ n. OrderedFrom n gates) (sym (length-append done (slice_index word p ∷ []))) order.1) words.1 inside
  reads_earlier (g ∷ gates) nets done next is low order words inside =
      one_earlier g nets done (gate_nets word next (g ∷ gates)) next (gate_nodes nets gates) is low order.0
      (reads_earlier gates nets (done ++ next ∷ []) (next + 1) (is ∙ sym (append_assoc done (next ∷ []) (gate_nets word (next + 1) gates)))
      (done_more done next next (next + 1) low (omega arith) (omega arith))
      (subst (λ n. OrderedFrom n gates) (sym (length-append done (next ∷ []))) order.1) words
      (λ p h. let b = inside p h in omega arith))

  -- ---- what the nodes settle to

  module _ (N : Circuit) (lo : ℕ) (v : List Bool) (settles : StretchSettles N v lo (length N.nodes)) where
    gate_settles : (g : CheckGate) (nets done rest : List ℕ) (signals : List Signal) (k : ℕ) (nodes : List NodeOf) → 0 < length (reads_of g) → lo ≤ k → nets ≡ done ++ rest
        → map (bit v) done ≡ map (value (map (bit v) word)) signals → ReadsBelow (length done) g
        → drop k N.nodes ≡ node_over (cover_of g) (map (slice_index nets) (reads_of g)) ∷ nodes
        → bit v (node_net N k) ≡ value (map (bit v) word) (signal_of signals g)
    gate_settles g nets done rest signals k nodes some from is same reads at =
        let here = split_drop N.nodes k (node_over (cover_of g) (map (slice_index nets) (reads_of g))) nodes at in
        settles.nodes k from here.0
        ∙ node_value-gate N v k (cover_of g) (map (slice_index nets) (reads_of g)) here.1
        ∙ ap (truth (cover_of g)) (sym (map-map-nets (reads_of g)) ∙ map_agrees (λ place. place < length done) (λ place. bit v (slice_index nets place))
        (λ place. value (map (bit v) word) (signal_at signals place)) (λ place h. one place h) (reads_of g) (all_read_below (length done) g reads))
        ∙ gate_values (map (bit v) word) signals g some
      where
        map-map-nets : (places : List ℕ) → map (λ place. bit v (slice_index nets place)) places ≡ map (bit v) (map (slice_index nets) places)
        map-map-nets [] = refl
        map-map-nets (p ∷ places) = ap (λ l. bit v (slice_index nets p) ∷ l) (map-map-nets places)

        one : (place : ℕ) → place < length done → bit v (slice_index nets place) ≡ value (map (bit v) word) (signal_at signals place)
        one place h =
            let long : length signals ≡ length done = sym (length-map signals (value (map (bit v) word))) ∙ ap length (sym same) ∙ length-map done (bit v) in
            ap (λ l. bit v (slice_index l place)) is ∙ ap (bit v) (get_or-append done rest 0 place h)
            ∙ sym (get_or-map (bit v) done place 0 false h) ∙ ap (λ l. slice_index_or l place false) same
            ∙ get_or-map (value (map (bit v) word)) signals place (Word 0) false (omega arith)

    nets_settle : (gates : List CheckGate) (nets done : List ℕ) (signals : List Signal) (k : ℕ) → lo ≤ k → nets ≡ done ++ gate_nets word (node_net N k) gates
        → map (bit v) done ≡ map (value (map (bit v) word)) signals → OrderedFrom (length done) gates → WordsBelow (length word) gates
        → drop k N.nodes ≡ gate_nodes nets gates → map (bit v) nets ≡ map (value (map (bit v) word)) (signals_from signals gates)
    nets_settle [] nets done signals k from is same order words at = ap (map (bit v)) (is ∙ append-nil done) ∙ same
    nets_settle (gate.Word p ∷ gates) nets done signals k from is same order words at =
        nets_settle gates nets (done ++ slice_index word p ∷ []) (signals ++ Word p ∷ []) k from
        (is ∙ sym (append_assoc done (slice_index word p ∷ []) (gate_nets word (node_net N k) gates)))
        (map-push (bit v) done (slice_index word p) ∙ ap₂ (λ l b. l ++ b ∷ []) same (sym (get_or-map (bit v) word p 0 false words.0))
        ∙ sym (map-push (value (map (bit v) word)) signals (Word p)))
        (subst (λ n. OrderedFrom n gates) (sym (length-append done (slice_index word p ∷ []))) order.1) words.1 at
    nets_settle (g ∷ gates) nets done signals k from is same order words at =
        nets_settle gates nets (done ++ node_net N k ∷ []) (signals ++ signal_of signals g ∷ []) (k + 1) (omega arith)
        (is ∙ sym (append_assoc done (node_net N k ∷ []) (gate_nets word (node_net N k + 1) gates))
        ∙ ap (λ n. (done ++ node_net N k ∷ []) ++ gate_nets word n gates) (omega arith))
        (map-push (bit v) done (node_net N k)
        ∙ ap₂ (λ l b. l ++ b ∷ []) same (gate_settles g nets done (gate_nets word (node_net N k) (g ∷ gates)) signals k (gate_nodes nets gates) (omega arith) from is same order.0 at)
        ∙ sym (map-push (value (map (bit v) word)) signals (signal_of signals g)))
        (subst (λ n. OrderedFrom n gates) (sym (length-append done (node_net N k ∷ []))) order.1) words
        (split_drop N.nodes k (node_over (cover_of g) (map (slice_index nets) (reads_of g))) (gate_nodes nets gates) at).2

-- the pairs of a word from a place on
pairs_from : (n place : ℕ) (w : List Bool) → length w ≡ place + 2 * n → list_all (pair_differs w) (word_pairs place n) ≡ pairs_differ (drop place w)
pairs_from zero place w long = sym (ap pairs_differ (drop_all place w (omega arith)))
pairs_from (suc n) place w long =
    let here : drop place w ≡ bit w place ∷ (bit w (place + 1) ∷ drop (place + 2) w) =
    drop_more w place false (omega arith) ∙ ap (λ l. bit w place ∷ l) (drop_more w (place + 1) false (omega arith)
    ∙ ap (λ i. bit w (place + 1) ∷ drop i w) (omega arith)) in
    ap (λ b. differ (bit w place) (bit w (place + 1)) && b) (pairs_from n (place + 2) w (omega arith)) ∙ sym (ap pairs_differ here)

pub tree_nodes_decide : TreeNodesDecide
tree_nodes_decide pairs made some is = record {
  counted = λ word next. tree-nodes pairs made some is (gate_nets word next made.gates);
  reads = λ word next k pin inside long h has.
      reads_earlier word made.gates (gate_nets word next made.gates) [] next refl (λ i l. absurd (omega arith)) order (words word long)
      inside k pin (omega (arith, tree-nodes pairs made some is (gate_nets word next made.gates))) has;
  rails = λ word next inside long. (
    bound word next inside long made.rail1 is.first_within,
    bound word next inside long made.rail2 is.second_within,
  );
  widths = λ word next. all_wide (gate_nets word next made.gates) made.gates;
  decides = λ N lo word v long fits ends sized settles. decides N lo word v long ends settles;
}
  where
    order : OrderedFrom 0 made.gates
    order = ordered_from 0 made.gates (λ i h. let e : i ≡ 0 + i = omega arith in
        subst (λ k. ReadsBelow k (slice_index_or made.gates i (gate.Word 0))) e (is.ordered i h))

    words : (word : List ℕ) → length word ≡ 2 * pairs → WordsBelow (length word) made.gates
    words word long = words_below (length word) made.gates (λ place w h e. let b = tree-reads pairs made some is place w h e in omega arith)

    bound : (word : List ℕ) (next : ℕ) → ((place : ℕ) → place < length word → slice_index word place < next) → length word ≡ 2 * pairs
        → (i : ℕ) → i < length made.gates → slice_index (gate_nets word next made.gates) i < next + tree_gates pairs
    bound word next inside long i h =
        nets_below word made.gates next (next + tree_gates pairs) (words word long) (λ p l. let b = inside p l in omega arith)
        (omega (arith, tree-nodes pairs made some is [])) i h

    decides : (N : Circuit) (lo : ℕ) (word : List ℕ) (v : List Bool) → length word ≡ 2 * pairs
        → drop lo N.nodes ≡ (nodes_of_tree made word (node_net N lo)).nodes → StretchSettles N v lo (length N.nodes)
        → differ (bit v (nodes_of_tree made word (node_net N lo)).rail1) (bit v (nodes_of_tree made word (node_net N lo)).rail2) ≡ pairs_differ (map (bit v) word)
    decides N lo word v long ends settles =
        ap₂ differ (rail made.rail1 is.first_within (tree_rail1 pairs) is.first) (rail made.rail2 is.second_within (tree_rail2 pairs) is.second)
        ∙ tree-differs (map (bit v) word) (word_pairs 0 pairs) (omega (arith, length-word_pairs 0 pairs))
        ∙ pairs_from pairs 0 (map (bit v) word) (length-map word (bit v) ∙ omega arith)
      where
        all : map (bit v) (gate_nets word (node_net N lo) made.gates) ≡ map (value (map (bit v) word)) (signals_of made.gates)
        all = nets_settle word N lo v settles made.gates (gate_nets word (node_net N lo) made.gates) [] [] lo (omega arith) refl refl order (words word long) ends

        rail : (place : ℕ) → place < length made.gates → (s : Signal) → meaning made.gates place ≡ s
            → bit v (slice_index (gate_nets word (node_net N lo) made.gates) place) ≡ value (map (bit v) word) s
        rail place h s e =
            sym (get_or-map (bit v) (gate_nets word (node_net N lo) made.gates) place 0 false (omega (arith, length-gate_nets word (node_net N lo) made.gates)))
            ∙ ap (λ l. slice_index_or l place false) all
            ∙ get_or-map (value (map (bit v) word)) (signals_of made.gates) place (Word 0) false (omega (arith, length-signals_of made.gates))
            ∙ ap (value (map (bit v) word)) e

-- each tree over so many pairs is the stated one
pub tree_is_determined : TreeIsDetermined
tree_is_determined pairs made is = same
  where
    gates : made.gates ≡ (tree_made pairs).gates
    gates = gates_are made.gates is.ordered is.distinct ∙ ap (λ signals. map (gate_of signals) signals) is.signals

    other : (k j : ℕ) → k < length made.gates → j < k → same_signal (meaning made.gates k) (meaning made.gates j) ≡ false
    other k j within low = elim (cases_Bool (same_signal (meaning made.gates k) (meaning made.gates j))) [
      | inl alike ↦ (let e : k ≡ j = is.distinct k j within (omega arith) (same_signal-true (meaning made.gates k) (meaning made.gates j) alike) in absurd (omega arith))
      | inr apart ↦ apart
    ]

    place_is : (k : ℕ) → k < length made.gates → place_of (signals_of made.gates) (meaning made.gates k) ≡ k
    place_is k within =
        position_or_len_is (same_signal (meaning made.gates k)) (signals_of made.gates) k (Word 0) (omega (arith, length-signals_of made.gates))
        (λ j low. other k j within low) (λ _. same_signal-refl (meaning made.gates k))

    first : made.rail1 ≡ (tree_made pairs).rail1
    first = sym (place_is made.rail1 is.first_within) ∙ ap₂ place_of is.signals is.first

    second : made.rail2 ≡ (tree_made pairs).rail2
    second = sym (place_is made.rail2 is.second_within) ∙ ap₂ place_of is.signals is.second

    same : made ≡ tree_made pairs
    same = ap₂ (λ (gs : List CheckGate) (r : ℕ). let g : GateList = record { gates = gs; rail1 = r; rail2 = made.rail2 } in g) gates first
        ∙ ap (λ (r : ℕ). let g : GateList = record { gates = (tree_made pairs).gates; rail1 = (tree_made pairs).rail1; rail2 = r } in g) second
