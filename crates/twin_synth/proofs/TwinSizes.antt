-- How large the twin of a small source is.
use Rattle.std.specs.List.{range_with_len}
use Rattle.std.proofs.Common.{◌≡◌, ℕ, zero, suc, ◌+◌, ◌-◌, ◌*◌, ◌<◌, ◌≤◌, ◌^◌, inl, inr, List, [], ◌∷◌, ◌++◌, map, length, slice_index, slice_index_or, All, refl, sym, ap, ◌∙◌, subst, arith, length-append}
use Rattle.std.proofs.lemmas.List.{length-map}
use Rattle.std.proofs.lemmas.List.FromFn.{length-range_with_len}
use Rattle.std.proofs.lemmas.List.Elements.{All-nil, All-cons, All-append, All-head, All-tail, All-from_get_or}
use Rattle.tsc_bits.proofs.Below.{all_below, few_below}
use Rattle.fault_secure.specs.Circuit.{Circuit, nets}
use Rattle.fault_secure.specs.Closed.{IsClosed}
use Rattle.fault_secure.specs.CodePlan.{concat_places}
use Rattle.fault_secure.specs.Size.{literal_count, rows}
use Rattle.tsc_net.specs.PlanView.{net_numbers}
use Rattle.tsc_net.specs.declared.ids.NetId.{NetId}
use Rattle.parity_code.specs.GroupChecks.{group_check_nets}
use Rattle.register_synth.specs.Kept.{AreKept, kept_net, kept_part}
use Rattle.register_synth.specs.RegisterGroups.{AreRegisterGroups}
use Rattle.register_synth.specs.TwinCircuit.{showing, with_watch, watched_groups, twin_circuit}
use Rattle.register_synth.proofs.TwinMade.{IsGrouping}
use Rattle.register_synth.proofs.PartGroups.{grouping}
use Rattle.register_synth.proofs.WatchedGroups.{watched_grouping, stretch_below}
use Rattle.register_synth.proofs.WatchedChecks.{watched_counted}
use Rattle.twin_synth.specs.inner.Composed.{IsShownGrouping, has_room}
use Rattle.twin_synth.specs.inner.Planned.{IsSmallSource, IsWatchCount, IsMadeTwin}
use Rattle.twin_synth.proofs.TwinNames.{kept_few}

-- as many outputs as numbers of them
pub outputs_long : (C : Circuit) (outputs : List NetId) → net_numbers outputs ≡ C.outputs → length outputs ≡ length C.outputs
outputs_long C outputs are = sym (length-map outputs (λ (n : NetId). n.number)) ∙ ap (λ (l : List ℕ). length l) are

-- groups that aren't empty are no more than their places
groups_few : (groups : List (List ℕ)) → All (λ group. 0 < length group) groups → length groups ≤ length (concat_places groups)
groups_few [] filled = omega arith
groups_few (group ∷ groups) filled =
    omega (
      arith,
      All-head (λ group. 0 < length group) group groups filled,
      groups_few groups (All-tail (λ group. 0 < length group) group groups filled),
      length-append group (concat_places groups),
    )

-- where there is an output there is a group
group_some : (outputs : ℕ) (groups : List (List ℕ)) → IsGrouping outputs groups → 0 < outputs → 0 < length groups
group_some outputs [] g some = absurd (let one = g.once 0 some in omega arith)
group_some outputs (group ∷ groups) g some = omega arith

-- the nets of checks are below the end of their nodes
pub check_nets_low : (first most : ℕ) (groups : List (List ℕ)) (base : ℕ) → All (λ group. 0 < length group) groups → first + (base + length (concat_places groups)) < most
    → All (λ net. net < most) (group_check_nets first groups base)
check_nets_low first most [] base filled low = All-nil (λ net. net < most)
check_nets_low first most (group ∷ groups) base filled low =
    let long = length-append group (concat_places groups) in
    let some = All-head (λ group. 0 < length group) group groups filled in
    All-cons (λ net. net < most) (first + (base + length group - 1)) (group_check_nets first groups (base + length group)) (omega (arith, long, some, low))
    (check_nets_low first most groups (base + length group) (All-tail (λ group. 0 < length group) group groups filled) (omega (arith, long, low)))

-- and so are those of a watch
pub watch_low : (first watched after most : ℕ) (list : List ℕ) → list ≡ range_with_len first watched ++ (after - 1) ∷ [] → first + watched < most → after < most → All (λ net. net < most) list
watch_low first watched after most list is low small =
    subst (All (λ net. net < most)) (sym is)
    (All-append (λ net. net < most) (range_with_len first watched) ((after - 1) ∷ []) (stretch_below first watched most (omega arith))
    (All-cons (λ net. net < most) (after - 1) [] (omega arith) (All-nil (λ net. net < most))))

-- a small source has few nets
pub source_nets : (C : Circuit) → IsSmallSource C → nets C + 1 < 2 ^ 32
source_nets C sized =
    let small : C.inputs + 3 * (literal_count C + rows C + length C.nodes + 1) ≤ 1048576 = sized.small in
    omega (arith, small, sized.latches)

-- its twin too
pub made_low : (C : Circuit) (registers covers : List ℕ) (groups : List (List ℕ)) (watched : ℕ) → IsSmallSource C → AreKept C registers covers → IsWatchCount watched registers
    → IsMadeTwin C registers covers groups watched → C.inputs + (length registers + length registers) + length (twin_circuit watched (kept_part C registers covers) groups).nodes < 2 ^ 32
made_low C registers covers groups watched sized kept count made =
    let small : C.inputs + 3 * (literal_count C + rows C + length C.nodes + 1) ≤ 1048576 = sized.small in
    let few = kept_few C registers covers kept in
    let fits : watched ≤ length registers = elim count [ inl none ↦ omega arith | inr every ↦ omega arith ] in
    omega (arith, small, few.0, fits, sized.latches, sized.few, made.few)

module _ (C : Circuit) (registers covers : List ℕ) (groups : List (List ℕ)) (watched : ℕ) (closed : IsClosed C) (sized : IsSmallSource C) (kept : AreKept C registers covers)
    (are : AreRegisterGroups C groups) (count : IsWatchCount watched registers) where
  grouped : IsGrouping (length C.outputs) groups
  grouped = grouping C groups are

  pub filled : All (λ group. 0 < length group) groups
  filled = grouped.filled

  pub within : All (λ place. place < length C.outputs) (concat_places groups)
  within = grouped.within

  pub watch_fits : watched ≤ length registers
  watch_fits = elim count [ inl none ↦ omega arith | inr every ↦ omega arith ]

  pub watch_few : watched ≤ 16384
  watch_few = (let few = kept_few C registers covers kept in omega (arith, watch_fits, few.0, sized.latches))

  pub places_few : length (concat_places groups) ≤ length C.outputs
  places_few = omega (arith, all_below (length C.outputs) (concat_places groups) (grouping C groups are).within, few_below (length C.outputs) (concat_places groups) (grouping C groups are).once)

  pub few_groups : length groups ≤ 64
  few_groups = omega (arith, groups_few groups (grouping C groups are).filled, places_few, sized.few)

  pub some_group : 0 < length groups
  some_group = group_some (length C.outputs) groups (grouping C groups are) (omega (arith, closed.some_output))

  pub source_low : (C.inputs ≤ 1048576) × (length C.nodes ≤ 349525)
  source_low = (let small : C.inputs + 3 * (literal_count C + rows C + length C.nodes + 1) ≤ 1048576 = sized.small in (omega (arith, small), omega (arith, small)))

  -- the groups of what is shown
  pub shown_grouping : (all : List (List ℕ)) → all ≡ with_watch (length C.outputs) watched groups → IsShownGrouping (length C.outputs + watched) all
  shown_grouping all is =
      let whole : IsGrouping (length (showing watched C).outputs) (watched_groups watched C groups) = watched_grouping watched C groups (grouping C groups are) in
      let long : length (showing watched C).outputs ≡ length C.outputs + watched = omega (arith, length-append C.outputs (range_with_len C.inputs watched), length-range_with_len C.inputs watched) in
      subst (IsShownGrouping (length C.outputs + watched)) (sym is) (record {
        filled = whole.filled;
        within = All-from_get_or (All (λ place. place < length C.outputs + watched)) (watched_groups watched C groups) []
            (λ i h. subst (λ n. All (λ place. place < n) (slice_index_or (watched_groups watched C groups) i [])) long (whole.each_within i));
      })

  -- there is room
  pub shown_room : (all : List (List ℕ)) → all ≡ with_watch (length C.outputs) watched groups → has_room C registers covers all
  shown_room all is =
      let long : length (concat_places all) ≡ length (concat_places groups) + watched = ap (λ (gs : List (List ℕ)). length (concat_places gs)) is ∙ watched_counted C watched groups in
      let few = kept_few C registers covers kept in
      omega (arith, long, few.0, few.1, watch_few, places_few, sized.few, sized.latches, source_low.0, source_low.1)

  -- and for the nets before the checker
  pub twin_room : C.inputs + (length registers + length registers) + (length covers + length covers + length (concat_places groups) + watched) < 2 ^ 32
  twin_room =
      let few = kept_few C registers covers kept in
      omega (arith, few.0, few.1, watch_few, places_few, sized.few, sized.latches, source_low.0, source_low.1)
