-- The outputs of a twin: the own ones differ where the source's do and stand before the checker, and the rails are two nets of its checker.
use Rattle.std.proofs.Common.{◌≡◌, ℕ, zero, suc, ◌+◌, ◌<◌, ◌≤◌, inl, inr, List, [], ◌∷◌, ◌++◌, map, length, slice_index, All, refl, sym, ◌∙◌, ap, ap₂, subst, arith, length-append}
use Rattle.std.specs.List.{range_with_len}
use Rattle.std.proofs.lemmas.Bool.{cases_lt}
use Rattle.std.proofs.lemmas.List.{append-nil, get_or-map, get_or-append-add, get_or_append_left, length-map}
use Rattle.std.proofs.lemmas.List.Elements.{All-append, All-cons, All-from_get_or, All-head, All-nil, All-tail, Contains-get_or}
use Rattle.std.proofs.lemmas.List.FromFn.{get_or-range_with_len, length-range_with_len}
use Rattle.tsc_bits.specs.Lists.{AreApart}
use Rattle.fault_secure.specs.Circuit.{Circuit, nets}
use Rattle.fault_secure.specs.Closed.{IsClosed}
use Rattle.fault_secure.specs.CodePlan.{CodePlan}
use Rattle.code_checkers.specs.declared.gate.CheckGate.{CheckGate}
use Rattle.code_checkers.specs.declared.gate.CheckGate.TheVariants as gate
use Rattle.code_checkers.specs.Signal.{Signal, Pair, chain, chain_from}
use Rattle.code_checkers.specs.Signal.Signal.{Word, Buf, Xor}
use Rattle.code_checkers.specs.Gates.{meaning}
use Rattle.code_checkers.specs.GateList.{GateList, IsCheckerOf}
use Rattle.code_checkers.specs.Checker.{group_pairs, last_pair, pairs_of}
use Rattle.code_checkers.specs.CheckerNodes.{gate_nets, rail1_net, rail2_net}
use Rattle.code_checkers.proofs.CanonicalGates.{checker_gates_are, rail1_place, rail2_place}
use Rattle.net_writing.proofs.RailsDiffer.{ArePairsApart, IsApart, rail1_no_word, rail2_no_word, tree_apart}
use Rattle.parity_synth.proofs.RailNets.{IsNoWord, nets_rise}
use Rattle.register_laws.specs.RegisterStructure.Reaches.{own}
use Rattle.register_laws.specs.Twin.{renamed}
use Rattle.register_synth.specs.Kept.{AreKept, kept_net, kept_part, kept_place}
use Rattle.register_synth.specs.RegisterGroups.{AreRegisterGroups}
use Rattle.register_synth.specs.TwinNet.{own_net, copied_net, twin_checks, twin_covers}
use Rattle.register_synth.specs.TwinCircuit.{showing, twin_circuit, twin_next, twin_rail1, twin_rail2, twin_word, watched_groups, watched_word, with_watch}
use Rattle.register_synth.proofs.KeptPart.{IsKeptNet, is_kept, kept_back, kept_within}
use Rattle.register_synth.proofs.PartGroups.{grouping}
use Rattle.register_synth.proofs.TwinMade.{IsGrouping, own_high, own_low}

-- ---- the rails are different nets of the checker

-- a chain of more than one signal is no place of the word
chain_no_word : (a b : Signal) (signals : List Signal) (place : ℕ) → chain_from Xor (Xor a b) signals ≡ Word place → ⊥
chain_no_word a b [] place e = cc
chain_no_word a b (c ∷ signals) place e = chain_no_word (Xor a b) c signals place e

-- the chain of a group is another signal than a place after its own
group_apart : (group : List ℕ) (check : ℕ) → 0 < length group → All (λ place. place < check) group → chain Xor (map Word group) ≡ Word check → ⊥
group_apart [] check some within e = absurd (omega arith)
group_apart (place ∷ []) check some within e =
    let low : place < check = All-head (λ (n : ℕ). n < check) place [] within in
    let same : place ≡ check = cc in
    absurd (omega arith)
group_apart (place ∷ (other ∷ group)) check some within e = chain_no_word (Word place) (Word other) (map Word group) check e

-- the pairs of groups of places before the checks are apart
groups_apart : (outputs check : ℕ) (groups : List (List ℕ)) → outputs ≤ check → All (λ group. 0 < length group) groups → All (λ group. All (λ place. place < outputs) group) groups
    → ArePairsApart (group_pairs check groups)
groups_apart outputs check [] low filled within = tt
groups_apart outputs check (group ∷ groups) low filled within = (
  group_apart group check (All-head (λ (g : List ℕ). 0 < length g) group groups filled)
      (λ k d there. (let b = All-head (λ (g : List ℕ). All (λ place. place < outputs) g) group groups within k d there in omega arith)),
  groups_apart outputs (check + 1) groups (omega arith) (All-tail (λ (g : List ℕ). 0 < length g) group groups filled)
      (All-tail (λ (g : List ℕ). All (λ place. place < outputs) g) group groups within),
)

pairs_counted : (check : ℕ) (groups : List (List ℕ)) → length (group_pairs check groups) ≡ length groups
pairs_counted check [] = refl
pairs_counted check (group ∷ groups) = ap suc (pairs_counted (check + 1) groups)

-- a gate that is no place of the word has the net of the checker's first node, or a later one
pub net_low : (word : List ℕ) (next : ℕ) (gates : List CheckGate) (k : ℕ) → k < length gates → IsNoWord gates k → next ≤ slice_index (gate_nets word next gates) k
net_low word zero gates k there other = omega arith
net_low word (suc next) gates k there other =
    let up : next < slice_index (gate_nets word (next + 1) gates) k = nets_rise word next (gate.Buf 0 ∷ gates) 0 (suc k) (omega arith) (omega arith) no_word other in
    let e : next + 1 ≡ suc next = omega arith in
    let low : next < slice_index (gate_nets word (suc next) gates) k = subst (λ n. next < slice_index (gate_nets word n gates) k) e up in
    omega (arith, low)
  where
    no_word : (place : ℕ) → gate.Buf 0 ≡ gate.Word place → ⊥
    no_word place e = cc

module _ (P : CodePlan) (made : GateList) (is : IsCheckerOf P made) (word : List ℕ) (next : ℕ) where
  first_is : rail1_net P word next ≡ slice_index (gate_nets word next made.gates) made.rail1
  first_is = ap₂ (λ gates place. slice_index (gate_nets word next gates) place) (sym (checker_gates_are P made is)) (sym (rail1_place P made is))

  second_is : rail2_net P word next ≡ slice_index (gate_nets word next made.gates) made.rail2
  second_is = ap₂ (λ gates place. slice_index (gate_nets word next gates) place) (sym (checker_gates_are P made is)) (sym (rail2_place P made is))

  -- both rails are nets of the checker
  pub first_behind : next ≤ rail1_net P word next
  first_behind = omega (arith, first_is, net_low word next made.gates made.rail1 is.first_within (rail1_no_word P made is))

  pub second_behind : next ≤ rail2_net P word next
  second_behind = omega (arith, second_is, net_low word next made.gates made.rail2 is.second_within (rail2_no_word P made is))

  -- and two of them
  pub rail_nets_apart : IsApart (last_pair P) → rail1_net P word next ≡ rail2_net P word next → ⊥
  rail_nets_apart apart same = elim (cases_lt made.rail1 made.rail2) [
    | inl low ↦ (
        let up = nets_rise word next made.gates made.rail1 made.rail2 low is.second_within (rail1_no_word P made is) (rail2_no_word P made is) in
        absurd (omega (arith, up, first_is, second_is, same)))
    | inr high ↦ elim (cases_lt made.rail2 made.rail1) [
      | inl low ↦ (
          let up = nets_rise word next made.gates made.rail2 made.rail1 low is.first_within (rail2_no_word P made is) (rail1_no_word P made is) in
          absurd (omega (arith, up, first_is, second_is, same)))
      | inr neither ↦ one_place (omega arith)
    ]
  ]
    where
      inner : (p : Pair) → Buf p.first ≡ Buf p.second → p.first ≡ p.second
      inner p e = cc

      one_place : made.rail1 ≡ made.rail2 → ⊥
      one_place e = apart (inner (last_pair P) (sym is.first ∙ ap (meaning made.gates) e ∙ is.second))

-- ---- the last pair of a twin's checker is apart

-- of some outputs there is a group
some_group : (outputs : ℕ) (groups : List (List ℕ)) → 0 < outputs → IsGrouping outputs groups → 0 < length groups
some_group outputs [] some are = absurd (let e = are.once 0 some in cc)
some_group outputs (group ∷ groups) some are = omega arith

-- the group of the watch beside the others
watch_filled : (outputs watched : ℕ) (groups : List (List ℕ)) → All (λ group. 0 < length group) groups → All (λ group. 0 < length group) (with_watch outputs watched groups)
watch_filled outputs zero groups all = all
watch_filled outputs (suc more) groups all =
    All-append (λ (group : List ℕ). 0 < length group) groups (range_with_len outputs (suc more) ∷ []) all
    (All-cons (λ (group : List ℕ). 0 < length group) (range_with_len outputs (suc more)) [] (omega arith) (All-nil (λ (group : List ℕ). 0 < length group)))

watch_within : (outputs watched : ℕ) (groups : List (List ℕ)) → All (λ group. All (λ place. place < outputs + watched) group) groups
    → All (λ group. All (λ place. place < outputs + watched) group) (with_watch outputs watched groups)
watch_within outputs zero groups all = all
watch_within outputs (suc more) groups all =
    All-append (λ (group : List ℕ). All (λ place. place < outputs + suc more) group) groups (range_with_len outputs (suc more) ∷ []) all
    (All-cons (λ (group : List ℕ). All (λ place. place < outputs + suc more) group) (range_with_len outputs (suc more)) []
    (All-from_get_or (λ place. place < outputs + suc more) (range_with_len outputs (suc more)) 0 each)
    (All-nil (λ (group : List ℕ). All (λ place. place < outputs + suc more) group)))
  where
    each : (k : ℕ) → k < length (range_with_len outputs (suc more)) → slice_index (range_with_len outputs (suc more)) k < outputs + suc more
    each k h =
        let low : k < suc more = omega (arith, h, length-range_with_len outputs (suc more)) in
        let at : slice_index (range_with_len outputs (suc more)) k ≡ outputs + k = get_or-range_with_len outputs (suc more) k 0 low in
        omega (arith, at, low)

watch_some : (outputs watched : ℕ) (groups : List (List ℕ)) → 0 < length groups → 0 < length (with_watch outputs watched groups)
watch_some outputs zero groups some = some
watch_some outputs (suc more) groups some = omega (arith, some, length-append groups (range_with_len outputs (suc more) ∷ []))

module _ (T : Circuit) (groups : List (List ℕ)) (watched : ℕ) (are : IsGrouping (length T.outputs) groups) (some : 0 < length T.outputs) where
  shown_counted : length (showing watched T).outputs ≡ length T.outputs + watched
  shown_counted = omega (arith, length-append T.outputs (range_with_len T.inputs watched), length-range_with_len T.inputs watched)

  pairs_are : pairs_of (watched_word watched T groups) ≡ group_pairs (length (showing watched T).outputs) (watched_groups watched T groups)
  pairs_are = append-nil (group_pairs (length (showing watched T).outputs) (watched_groups watched T groups))

  pub last_pair_apart : IsApart (last_pair (watched_word watched T groups))
  last_pair_apart =
      tree_apart (pairs_of (watched_word watched T groups))
      (subst (λ (pairs : List Pair). 0 < length pairs) (sym pairs_are)
      (omega (arith, pairs_counted (length (showing watched T).outputs) (watched_groups watched T groups), watch_some (length T.outputs) watched groups (some_group (length T.outputs) groups some are))))
      (subst ArePairsApart (sym pairs_are)
      (groups_apart (length T.outputs + watched) (length (showing watched T).outputs) (watched_groups watched T groups) (omega (arith, shown_counted))
      (watch_filled (length T.outputs) watched groups are.filled)
      (watch_within (length T.outputs) watched groups
      (All-from_get_or (λ (group : List ℕ). All (λ place. place < length T.outputs + watched) group) groups []
      (λ i h k d there. (let low = are.each_within i k d there in omega (arith, low)))))))

  -- ---- the own nets stand before the checker

  own_before : (n : ℕ) → n < nets T → own_net T n < twin_next watched T groups
  own_before n h =
      let one : length (map (renamed (own_net T)) T.nodes) ≡ length T.nodes = length-map T.nodes (renamed (own_net T)) in
      let first = length-append (map (renamed (own_net T)) T.nodes) (map (renamed (copied_net T)) T.nodes) in
      let second = length-append (twin_covers T) (twin_checks (showing watched T) (watched_groups watched T groups)) in
      elim (cases_lt n (T.inputs + length T.latches)) [
        | inl low ↦ omega (arith, own_low T n low, one, first, second)
        | inr high ↦ omega (arith, own_high T n high, one, first, second, h)
      ]

  own_once : (n m : ℕ) → own_net T n ≡ own_net T m → n ≡ m
  own_once n m e = elim (cases_lt n (T.inputs + length T.latches)) [
    | inl low ↦ elim (cases_lt m (T.inputs + length T.latches)) [
      | inl here ↦ omega (arith, own_low T n low, own_low T m here)
      | inr there ↦ absurd (omega (arith, own_low T n low, own_high T m there))
    ]
    | inr high ↦ elim (cases_lt m (T.inputs + length T.latches)) [
      | inl here ↦ absurd (omega (arith, own_high T n high, own_low T m here))
      | inr there ↦ omega (arith, own_high T n high, own_high T m there)
    ]
  ]

-- ---- the outputs

module _ (S : Circuit) (registers covers : List ℕ) (groups : List (List ℕ)) (watched : ℕ) (made : GateList) (closed : IsClosed S) (kept : AreKept S registers covers)
    (are : AreRegisterGroups S groups) (is : IsCheckerOf (watched_word watched (kept_part S registers covers) groups) made) where
  abbrev T : Circuit
  T = kept_part S registers covers

  abbrev outs : List ℕ
  outs = map (own_net (kept_part S registers covers)) (map (kept_net S registers covers) S.outputs)

  abbrev rails : List ℕ
  rails = twin_rail1 watched (kept_part S registers covers) groups ∷ twin_rail2 watched (kept_part S registers covers) groups ∷ []

  part_counted : length (kept_part S registers covers).outputs ≡ length S.outputs
  part_counted = length-map S.outputs (kept_net S registers covers)

  outs_counted : length outs ≡ length S.outputs
  outs_counted = length-map (map (kept_net S registers covers) S.outputs) (own_net (kept_part S registers covers)) ∙ part_counted

  part_grouping : IsGrouping (length (kept_part S registers covers).outputs) groups
  part_grouping = subst (λ n. IsGrouping n groups) (sym part_counted) (grouping S groups are)

  part_some : 0 < length (kept_part S registers covers).outputs
  part_some = let some = closed.some_output in omega (arith, some, part_counted)

  -- an output is kept
  shown_kept : (i : ℕ) → i < length S.outputs → IsKeptNet S registers covers (slice_index S.outputs i)
  shown_kept i h =
      is_kept S registers covers kept (slice_index S.outputs i) (closed.outputs i 0 h)
      (record { root = slice_index S.outputs i; is_root = Contains-get_or S.outputs i 0 h; reaches = own (slice_index S.outputs i) refl })

  -- the outputs of the twin
  shown_own : (i : ℕ) → i < length S.outputs → slice_index (outs ++ rails) i ≡ own_net (kept_part S registers covers) (kept_net S registers covers (slice_index S.outputs i))
  shown_own i h =
      get_or_append_left outs rails 0 i (omega (arith, h, outs_counted))
      ∙ get_or-map (own_net (kept_part S registers covers)) (map (kept_net S registers covers) S.outputs) i 0 0 (omega (arith, h, part_counted))
      ∙ ap (own_net (kept_part S registers covers)) (get_or-map (kept_net S registers covers) S.outputs i 0 0 h)

  shown_first : slice_index (outs ++ rails) (length S.outputs) ≡ twin_rail1 watched (kept_part S registers covers) groups
  shown_first = ap (slice_index (outs ++ rails)) (let e : length S.outputs ≡ length outs + 0 = omega (arith, outs_counted) in e) ∙ get_or-append-add outs rails 0 0

  shown_second : slice_index (outs ++ rails) (length S.outputs + 1) ≡ twin_rail2 watched (kept_part S registers covers) groups
  shown_second = ap (slice_index (outs ++ rails)) (let e : length S.outputs + 1 ≡ length outs + 1 = omega (arith, outs_counted) in e) ∙ get_or-append-add outs rails 1 0

  shown_before : (i : ℕ) → i < length S.outputs → slice_index (outs ++ rails) i < twin_next watched (kept_part S registers covers) groups
  shown_before i h =
      subst (λ n. n < twin_next watched (kept_part S registers covers) groups) (sym (shown_own i h))
      (own_before (kept_part S registers covers) groups watched part_grouping part_some (kept_net S registers covers (slice_index S.outputs i))
      (kept_within S registers covers kept (slice_index S.outputs i) (shown_kept i h)))

  rail1_behind : twin_next watched (kept_part S registers covers) groups ≤ twin_rail1 watched (kept_part S registers covers) groups
  rail1_behind =
      first_behind (watched_word watched (kept_part S registers covers) groups) made is (twin_word watched (kept_part S registers covers) groups) (twin_next watched (kept_part S registers covers) groups)

  rail2_behind : twin_next watched (kept_part S registers covers) groups ≤ twin_rail2 watched (kept_part S registers covers) groups
  rail2_behind =
      second_behind (watched_word watched (kept_part S registers covers) groups) made is (twin_word watched (kept_part S registers covers) groups) (twin_next watched (kept_part S registers covers) groups)

  -- the two rails of a twin are two nets
  pub twin_rails_apart : twin_rail1 watched (kept_part S registers covers) groups ≡ twin_rail2 watched (kept_part S registers covers) groups → ⊥
  twin_rails_apart =
      rail_nets_apart (watched_word watched (kept_part S registers covers) groups) made is (twin_word watched (kept_part S registers covers) groups) (twin_next watched (kept_part S registers covers) groups)
      (last_pair_apart (kept_part S registers covers) groups watched part_grouping part_some)

  -- nets of two outputs of the source have two own nets
  own_apart : (a b : ℕ) → a < length S.outputs → b < length S.outputs → slice_index (outs ++ rails) a ≡ slice_index (outs ++ rails) b → slice_index S.outputs a ≡ slice_index S.outputs b
  own_apart a b h k e =
      let same : kept_net S registers covers (slice_index S.outputs a) ≡ kept_net S registers covers (slice_index S.outputs b)
      = own_once (kept_part S registers covers) groups watched part_grouping part_some (kept_net S registers covers (slice_index S.outputs a)) (kept_net S registers covers (slice_index S.outputs b))
      (sym (shown_own a h) ∙ e ∙ shown_own b k) in
      sym (kept_back S registers covers kept (slice_index S.outputs a) (shown_kept a h)) ∙ ap (kept_place S registers covers).net same
      ∙ kept_back S registers covers kept (slice_index S.outputs b) (shown_kept b k)

  -- no net stands twice among the outputs of a twin, where none does among those of the source
  pub outputs_apart : AreApart S.outputs → AreApart (twin_circuit watched (kept_part S registers covers) groups).outputs
  outputs_apart apart a b less low same = elim (cases_lt b (length S.outputs)) [
    | inl shown ↦ apart a b less shown (own_apart a b (omega (arith, less, shown)) shown same)
    | inr behind ↦ elim (cases_lt b (length S.outputs + 1)) [
      | inl first ↦ (
          let at : b ≡ length S.outputs = omega (arith, behind, first) in
          let before = shown_before a (omega (arith, less, at)) in
          let is_rail : slice_index (outs ++ rails) b ≡ twin_rail1 watched (kept_part S registers covers) groups = ap (slice_index (outs ++ rails)) at ∙ shown_first in
          absurd (omega (arith, before, is_rail, same, rail1_behind)))
      | inr second ↦ (
          let counted : length (outs ++ rails) ≡ length outs + 2 = length-append outs rails in
          let at : b ≡ length S.outputs + 1 = omega (arith, second, low, counted, outs_counted) in
          let is_rail : slice_index (outs ++ rails) b ≡ twin_rail2 watched (kept_part S registers covers) groups = ap (slice_index (outs ++ rails)) at ∙ shown_second in
          elim (cases_lt a (length S.outputs)) [
            | inl shown ↦ (let before = shown_before a shown in absurd (omega (arith, before, is_rail, same, rail2_behind)))
            | inr rail ↦ (
                let here : a ≡ length S.outputs = omega (arith, rail, less, at) in
                twin_rails_apart (sym shown_first ∙ sym (ap (slice_index (outs ++ rails)) here) ∙ same ∙ is_rail))
          ])
    ]
  ]
