-- How many nodes the twin that is made of a source has.
use Rattle.std.specs.List.{range_with_len}
use Rattle.std.proofs.Common.{◌≡◌, ℕ, zero, suc, ◌+◌, ◌<◌, ◌≤◌, inl, inr, List, [], ◌∷◌, length, slice_index, All, sym, subst, arith, length-append}
use Rattle.std.proofs.lemmas.Bool.{cases_lt}
use Rattle.std.proofs.lemmas.List.{length-map}
use Rattle.std.proofs.lemmas.List.Elements.{All-head, All-tail}
use Rattle.tsc_bits.proofs.Below.{all_below, few_below}
use Rattle.tsc_bits.proofs.Pigeonhole.{pigeonhole}
use Rattle.fault_secure.specs.Circuit.{Circuit, node}
use Rattle.fault_secure.specs.CodePlan.{concat_places}
use Rattle.parity_code.proofs.GroupStands.{checks_sized}
use Rattle.register_laws.specs.Twin.{renamed}
use Rattle.register_synth.specs.Kept.{AreThose, IsKeptCover, kept_net, kept_part}
use Rattle.register_synth.specs.TwinNet.{copied_net, widened, twin_covers, twin_checks}
use Rattle.register_synth.specs.TwinCircuit.{showing, with_watch, watched_groups, twin_logic, twin_word, twin_next, FewCovers}
use Rattle.register_synth.proofs.TwinMade.{IsGrouping, covers_counted}
use Rattle.register_synth.proofs.PartGroups.{grouping}
use Rattle.register_synth.proofs.WatchedGroups.{watched_grouping}
use Rattle.register_synth.proofs.WatchedChecks.{watched_counted}
use Rattle.register_synth.proofs.WatchedTwin.{twin_checker}
use Rattle.register_synth.proofs.GroupGates.{group_nodes}

-- a rising list of numbers below n has at most n
pub those_few : (P : ℕ → Type 0) (n : ℕ) (places : List ℕ) → AreThose P places → ((k : ℕ) → k < length places → slice_index places k < n) → length places ≤ n
those_few P n places those below = pigeonhole (length places) n (slice_index places) below once
  where
    once : (i k : ℕ) → i < length places → k < length places → slice_index places i ≡ slice_index places k → i ≡ k
    once i k h h' e = elim (cases_lt i k) [
      | inl before ↦ (let up = those.rising i k before h' in absurd (omega arith))
      | inr behind ↦ elim (cases_lt k i) [
        | inl after ↦ (let up = those.rising k i after h in absurd (omega arith))
        | inr same ↦ omega arith
      ]
    ]

-- the places of a grouping are no more than its outputs
places_few : (outputs : ℕ) (groups : List (List ℕ)) → IsGrouping outputs groups → length (concat_places groups) ≤ outputs
places_few outputs groups g = omega (arith, all_below outputs (concat_places groups) g.within, few_below outputs (concat_places groups) g.once)

-- groups that aren't empty are no more than their places
groups_few : (groups : List (List ℕ)) → All (λ group. 0 < length group) groups → length groups ≤ length (concat_places groups)
groups_few [] filled = omega arith
groups_few (group ∷ groups) filled =
    omega (
      arith,
      All-head (λ group. 0 < length group) group groups filled,
      groups_few groups (All-tail (λ group. 0 < length group) group groups filled),
      length-append group (concat_places groups),
    )

-- where there is an output there is a group
group_some : (outputs : ℕ) (groups : List (List ℕ)) → IsGrouping outputs groups → 0 < outputs → 0 < length groups
group_some outputs [] g some = absurd (let one = g.once 0 some in omega arith)
group_some outputs (group ∷ groups) g some = omega arith

-- a watch adds at most one group
with_watch_few : (outputs watched : ℕ) (groups : List (List ℕ)) → (length groups ≤ length (with_watch outputs watched groups)) × (length (with_watch outputs watched groups) ≤ length groups + 1)
with_watch_few outputs zero groups = (omega arith, omega arith)
with_watch_few outputs (suc more) groups = let e = length-append groups (range_with_len outputs (suc more) ∷ []) in (omega arith, omega arith)

-- the nodes before the checker: both copies of the covers, and one for each place of the groups
logic_few : (watched : ℕ) (T : Circuit) (groups : List (List ℕ)) → length (twin_logic watched T groups) ≡ length T.nodes + length T.nodes + length (concat_places (watched_groups watched T groups))
logic_few watched T groups =
    let wide : Circuit = showing watched T in
    omega (
      arith,
      length-append (twin_covers T) (twin_checks wide (watched_groups watched T groups)),
      covers_counted T,
      checks_sized (widened wide) (widened wide) (copied_net T) (λ j. omega arith) (watched_groups watched T groups) (length T.nodes + length T.nodes),
    )

-- the twin has few nodes
pub few_covers : FewCovers
few_covers S registers covers groups watched made closed acyclic kept are checker =
    let T : Circuit = kept_part S registers covers in
    let outputs : length T.outputs ≡ length S.outputs = length-map S.outputs (kept_net S registers covers) in
    let nodes : length T.nodes ≡ length covers = length-map covers (λ j. renamed (kept_net S registers covers) (node S j)) in
    let own : IsGrouping (length T.outputs) groups = subst (λ n. IsGrouping n groups) (sym outputs) (grouping S groups are) in
    let all : IsGrouping (length (showing watched T).outputs) (watched_groups watched T groups) = watched_grouping watched T groups own in
    let some : 0 < length groups = group_some (length T.outputs) groups own (omega (arith, closed.some_output)) in
    let more = with_watch_few (length T.outputs) watched groups in
    omega (
      arith,
      length-append (twin_logic watched T groups) (twin_checker watched T groups),
      logic_few watched T groups,
      group_nodes (showing watched T) (watched_groups watched T groups) (twin_word watched T groups) (twin_next watched T groups) made all.filled (omega (arith, more.0)) checker,
      watched_counted T watched groups,
      places_few (length T.outputs) groups own,
      groups_few groups own.filled,
      those_few (IsKeptCover S) (length S.nodes) covers kept.each_cover (λ k h. (kept.each_cover.sound k h).0),
      more.1,
    )
