-- How many nodes the checker of parity groups has, beside the places of its word.
use Rattle.std.specs.List.{sum_by}
use Rattle.std.proofs.Common.{◌≡◌, ℕ, ◌+◌, ◌*◌, ◌<◌, ◌≤◌, List, [], ◌∷◌, ◌++◌, map, length, All, Contains, refl, sym, subst, arith, length-append}
use Rattle.std.proofs.lemmas.List.{append-nil}
use Rattle.std.proofs.lemmas.List.Sums.{sum_by-cons, sum_by-append}
use Rattle.std.proofs.lemmas.List.Elements.{All-nil, All-cons, All-head, All-tail, All-from_get_or, Contains-get_or, Contains-append_right}
use Rattle.tsc_bits.proofs.Lists.{all_left, all_right}
use Rattle.fault_secure.specs.Circuit.{Circuit}
use Rattle.fault_secure.specs.CodePlan.{concat_places}
use Rattle.code_checkers.specs.Signal.{Signal, Pair, chain_from, chain}
use Rattle.code_checkers.specs.Signal.Signal.{Word, Buf, Not, And, Or, Xor}
use Rattle.code_checkers.specs.TwoRail.{levels}
use Rattle.code_checkers.specs.Checker.{group_pairs, pairs_of, last_pair, rail1, rail2}
use Rattle.code_checkers.specs.Gates.{signals_of}
use Rattle.code_checkers.specs.GateList.{GateList, IsCheckerOf}
use Rattle.code_checkers.specs.CheckerNodes.{gate_of, gate_node, gate_nodes, checker_signals, checker_nets, checker_nodes}
use Rattle.code_checkers.specs.Walk.{walk}
use Rattle.code_checkers.proofs.Gates.{length-signals_of}
use Rattle.code_checkers.proofs.Groups.{length-group_pairs}
use Rattle.code_checkers.proofs.TwoRail.{levels_some}
use Rattle.code_checkers.proofs.Sizes.{Parts, longer, all-longer, sides, HoldsPairs, levels-hold, head-parts, walk-stays}
use Rattle.code_checkers.proofs.TreeSize.{Differ, gate_weight, Differ-by_place, sum-within}
use Rattle.register_synth.specs.TwinChecker.{word_plan}

-- ---- signals that aren't places of the word

-- of signals no more are gates than there are
weight_low : (signals : List Signal) → sum_by gate_weight signals ≤ length signals
weight_low [] = omega arith
weight_low (s ∷ signals) = omega (arith, sum_by-cons gate_weight s signals, one s, weight_low signals)
  where
    one : (s : Signal) → gate_weight s ≤ 1
    one (Word p) = omega arith
    one (Buf a) = omega arith
    one (Not a) = omega arith
    one (And a b) = omega arith
    one (Or a b) = omega arith
    one (Xor a b) = omega arith

-- the gates of signals have a node for each that isn't a place of the word
nodes_counted : (nets : List ℕ) (all signals : List Signal) → length (gate_nodes nets (map (gate_of all) signals)) ≡ sum_by gate_weight signals
nodes_counted nets all [] = refl
nodes_counted nets all (s ∷ signals) =
    omega (
      arith,
      length-append (gate_node nets (gate_of all s)) (gate_nodes nets (map (gate_of all) signals)),
      own s,
      sum_by-cons gate_weight s signals,
      nodes_counted nets all signals,
    )
  where
    own : (s : Signal) → length (gate_node nets (gate_of all s)) ≡ gate_weight s
    own (Word p) = refl
    own (Buf a) = refl
    own (Not a) = refl
    own (And a b) = refl
    own (Or a b) = refl
    own (Xor a b) = refl

-- ---- the parts of the pairs

-- the parts of a chain that goes on over places
chain_parts : Signal → List ℕ → List Signal
chain_parts made [] = []
chain_parts made (p ∷ places) = Word p ∷ (Xor made (Word p) ∷ chain_parts (Xor made (Word p)) places)

-- the parts of a group's chain; without places it is the first bit of the word
group_parts : List ℕ → List Signal
group_parts [] = Word 0 ∷ []
group_parts (p ∷ places) = Word p ∷ chain_parts (Word p) places

-- the parts of the pairs of groups
pairs_parts : ℕ → List (List ℕ) → List Signal
pairs_parts check [] = []
pairs_parts check (group ∷ groups) = group_parts group ++ Word check ∷ pairs_parts (check + 1) groups

-- a chain that goes on has a gate for each place
chain_weight : (made : Signal) (places : List ℕ) → sum_by gate_weight (chain_parts made places) ≡ length places
unfolding chain_parts
chain_weight made [] = refl
chain_weight made (p ∷ places) =
    omega (
      arith,
      sum_by-cons gate_weight (Word p) (Xor made (Word p) ∷ chain_parts (Xor made (Word p)) places),
      sum_by-cons gate_weight (Xor made (Word p)) (chain_parts (Xor made (Word p)) places),
      chain_weight (Xor made (Word p)) places,
    )

-- a group's chain has a gate less than it has places
group_weight : (group : List ℕ) → 0 < length group → sum_by gate_weight (group_parts group) + 1 ≡ length group
unfolding group_parts
group_weight [] some = absurd (omega arith)
group_weight (p ∷ places) some = omega (arith, sum_by-cons gate_weight (Word p) (chain_parts (Word p) places), chain_weight (Word p) places)

-- the chains of groups have a gate less for each group than there are places
pairs_weight : (check : ℕ) (groups : List (List ℕ)) → All (λ group. 0 < length group) groups
    → sum_by gate_weight (pairs_parts check groups) + length groups ≡ length (concat_places groups)
unfolding pairs_parts
pairs_weight check [] filled = omega arith
pairs_weight check (group ∷ groups) filled =
    omega (
      arith,
      sum_by-append gate_weight (group_parts group) (Word check ∷ pairs_parts (check + 1) groups),
      sum_by-cons gate_weight (Word check) (pairs_parts (check + 1) groups),
      group_weight group (All-head (λ group. 0 < length group) group groups filled),
      pairs_weight (check + 1) groups (All-tail (λ group. 0 < length group) group groups filled),
      length-append group (concat_places groups),
    )

module _ (L : List Signal) where
  -- a list that has the parts of a chain has each part of it
  chain_in : (made : Signal) (places : List ℕ) → Parts L made → All (Contains L) (chain_parts made places) → Parts L (chain_from Xor made (map Word places))
  unfolding chain_parts
  chain_in made [] has all = has
  chain_in made (p ∷ places) has all =
      let rest = All-tail (Contains L) (Word p) (Xor made (Word p) ∷ chain_parts (Xor made (Word p)) places) all in
      chain_in (Xor made (Word p)) places (
        All-head (Contains L) (Xor made (Word p)) (chain_parts (Xor made (Word p)) places) rest,
        has,
        All-head (Contains L) (Word p) (Xor made (Word p) ∷ chain_parts (Xor made (Word p)) places) all,
      )
      (All-tail (Contains L) (Xor made (Word p)) (chain_parts (Xor made (Word p)) places) rest)

  -- and so of a group's chain
  group_in : (group : List ℕ) → All (Contains L) (group_parts group) → Parts L (chain Xor (map Word group))
  unfolding group_parts
  group_in [] all = All-head (Contains L) (Word 0) [] all
  group_in (p ∷ places) all = chain_in (Word p) places (All-head (Contains L) (Word p) (chain_parts (Word p) places) all) (All-tail (Contains L) (Word p) (chain_parts (Word p) places) all)

  -- and of the sides of the pairs
  pairs_in : (check : ℕ) (groups : List (List ℕ)) → All (Contains L) (pairs_parts check groups) → All (Parts L) (sides (group_pairs check groups))
  unfolding pairs_parts
  pairs_in check [] all = All-nil (Parts L)
  pairs_in check (group ∷ groups) all =
      let later = all_right (Contains L) (group_parts group) (Word check ∷ pairs_parts (check + 1) groups) all in
      All-cons (Parts L) (chain Xor (map Word group)) (Word check ∷ sides (group_pairs (check + 1) groups))
      (group_in group (all_left (Contains L) (group_parts group) (Word check ∷ pairs_parts (check + 1) groups) all))
      (All-cons (Parts L) (Word check) (sides (group_pairs (check + 1) groups)) (All-head (Contains L) (Word check) (pairs_parts (check + 1) groups) later)
      (pairs_in (check + 1) groups (All-tail (Contains L) (Word check) (pairs_parts (check + 1) groups) later)))

-- a list has each of its own
own_all : (L : List Signal) → All (Contains L) L
own_all L = All-from_get_or (Contains L) L (Word 0) (λ i h. Contains-get_or L i (Word 0) h)

-- ---- the checker

-- a list that has each part of both rails, with so few gates
record HasRails (T : Circuit) (groups : List (List ℕ)) : Type 0 where
  list : List Signal
  few : sum_by gate_weight list + 4 ≤ length (concat_places groups) + 5 * length groups
  first : Parts list (rail1 (word_plan T groups 0 0))
  second : Parts list (rail2 (word_plan T groups 0 0))

-- the parts of the pairs, the gates of the tree over them, and the rails
has_rails : (T : Circuit) (groups : List (List ℕ)) → All (λ group. 0 < length group) groups → 0 < length groups → HasRails T groups
has_rails T groups filled some =
    let check : ℕ = length T.outputs in
    let P : List Pair = pairs_of (word_plan T groups 0 0) in
    let same : group_pairs (length T.outputs) groups ++ [] ≡ group_pairs (length T.outputs) groups = append-nil (group_pairs (length T.outputs) groups) in
    let sized : length P ≡ length groups = omega (arith, length-append (group_pairs (length T.outputs) groups) [], length-group_pairs (length T.outputs) groups) in
    let parts : List Signal = pairs_parts check groups in
    let L : List Signal = Word 0 ∷ parts in
    let start : Parts L (Word 0) = (0, omega arith, refl) in
    let own : All (Parts L) (sides P) = subst (λ (pairs : List Pair). All (Parts L) (sides pairs)) (sym same) (pairs_in L check groups (All-tail (Contains L) (Word 0) parts (own_all L))) in
    let h : HoldsPairs L (6 * length P) (levels (length P) P)
    = levels-hold (length P) L (6 * length P) P (record { more = []; few = omega arith; all = all-longer L [] (sides P) own }) in
    let M : List Signal = L ++ h.more in
    let last = head-parts M (levels (length P) P) (longer L h.more (Word 0) start) h.all in
    let one : Signal = rail1 (word_plan T groups 0 0) in
    let two : Signal = rail2 (word_plan T groups 0 0) in
    let N : List Signal = one ∷ (two ∷ []) in
    let few = h.few in
    record {
      list = M ++ N;
      few = omega (
        arith,
        sum_by-append gate_weight M N,
        sum_by-append gate_weight L h.more,
        sum_by-cons gate_weight (Word 0) parts,
        pairs_weight check groups filled,
        weight_low h.more,
        weight_low N,
        levels_some (length P) P (omega arith),
        few,
        sized,
      );
      first = (Contains-append_right M N one (0, omega arith, refl), longer M N (last_pair (word_plan T groups 0 0)).first last.0);
      second = (Contains-append_right M N two (1, omega arith, refl), longer M N (last_pair (word_plan T groups 0 0)).second last.1);
    }

-- the checker of groups has a node for each place but the first of a group, six for each cell of its tree, and two for the rails
pub group_nodes : (T : Circuit) (groups : List (List ℕ)) (word : List ℕ) (next : ℕ) (made : GateList) → All (λ group. 0 < length group) groups → 0 < length groups
    → IsCheckerOf (word_plan T groups 0 0) made
    → length (checker_nodes (word_plan T groups 0 0) word next) + 4 ≤ length (concat_places groups) + 5 * length groups
unfolding checker_signals
group_nodes T groups word next made filled some is =
    let has = has_rails T groups filled some in
    let L : List Signal = has.list in
    let one : Signal = rail1 (word_plan T groups 0 0) in
    let two : Signal = rail2 (word_plan T groups 0 0) in
    let walked : All (Contains L) (walk two (walk one [])) = walk-stays L two (walk one []) has.second (walk-stays L one [] has.first (All-nil (Contains L))) in
    let sized : length (signals_of made.gates) ≡ length made.gates = length-signals_of made.gates in
    let apart : Differ (walk two (walk one []))
    = subst Differ is.signals (Differ-by_place (signals_of made.gates) (λ i k lt lt' e. is.distinct i k (omega (arith, lt, sized)) (omega (arith, lt', sized)) e)) in
    let few = has.few in
    omega (
      arith,
      nodes_counted (checker_nets (word_plan T groups 0 0) word next) (checker_signals (word_plan T groups 0 0)) (checker_signals (word_plan T groups 0 0)),
      sum-within gate_weight (walk two (walk one [])) L apart walked,
      few,
    )
