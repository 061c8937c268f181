-- Every group of a twin and its watch are odd exactly where every group is of the twin that shows its registers too.
use Rattle.std.specs.List.{range_with_len}
use Rattle.std.proofs.Common.{◌≡◌, ℕ, zero, suc, ◌+◌, ◌<◌, ◌≤◌, inl, inr, Bool, List, [], ◌∷◌, ◌++◌, map, length, slice_index, slice_index_or, All, IsTrue, refl, sym, ap, ap₂, ◌∙◌, subst, arith, length-append}
use Rattle.std.proofs.lemmas.Bool.{cases_lt}
use Rattle.std.proofs.lemmas.List.{map-append, map-id, get_or_append_left, get_or_at}
use Rattle.std.proofs.lemmas.List.Elements.{All-nil, All-cons, All-head, All-from_get_or}
use Rattle.std.proofs.lemmas.Simd.{map-map}
use Rattle.tsc_bits.specs.Counting.{odd}
use Rattle.tsc_bits.proofs.Lists.{map_agrees}
use Rattle.fault_secure.specs.Circuit.{Circuit, bit}
use Rattle.fault_secure.specs.Closed.{IsClosed}
use Rattle.fault_secure.specs.CodePlan.{members, bits_at}
use Rattle.fault_secure.proofs.PlanSizes.{length-members_from}
use Rattle.net_cones.proofs.MemberPlaces.{member_at}
use Rattle.parity_code.specs.ParityFunction.{outputs_at}
use Rattle.parity_code.proofs.GroupStands.{checks_paired}
use Rattle.register_laws.specs.RegisterPlan.{front as front_bits, IsOdd}
use Rattle.register_synth.specs.TwinNet.{own_net, widened, twin_check_nets, twin_plan, BeginsAsTwin}
use Rattle.register_synth.specs.TwinCircuit.{showing, watched_groups, twin_rail1, twin_rail2, twin_circuit, twin_watches, watched_plan, watch_check}
use Rattle.register_synth.proofs.TwinMade.{IsGrouping, own_low, output_bit, check_bit}
use Rattle.register_synth.proofs.WatchedGroups.{first_groups, watched_grouping, closed_showing, shown_output, shown_registers, stretch_below}
use Rattle.register_synth.proofs.WatchedChecks.{twin_check_nets_are, watch_check_is}
use Rattle.register_synth.proofs.WatchedTwin.{wide_twin, begins_wide, begins_own}

-- the nets of a group: those of its outputs, and then its check's
abbrev pub group_nets : Circuit → List (List ℕ) → ℕ → List ℕ
group_nets T groups i = map (own_net T) (outputs_at T (slice_index_or groups i [])) ++ slice_index (twin_check_nets T groups) i ∷ []

-- each group is odd
EachOdd : Circuit → List (List ℕ) → List Bool → Type 0
EachOdd T groups v = (i : ℕ) → i < length groups → IsTrue (odd (bits_at v (group_nets T groups i)))

module _ (T N : Circuit) (groups : List (List ℕ)) (rail1 rail2 : ℕ) (closed : IsClosed T) (begins : BeginsAsTwin T N groups rail1 rail2) (grouping : IsGrouping (length T.outputs) groups) (v : List Bool) where
  member_bits : (i : ℕ) → i < length groups
      → bits_at (front_bits N (twin_plan T groups rail1 rail2) v) (slice_index_or groups i [] ++ (length T.outputs + i) ∷ []) ≡ bits_at v (group_nets T groups i)
  member_bits i h =
      map-append (bit (front_bits N (twin_plan T groups rail1 rail2) v)) (slice_index_or groups i []) ((length T.outputs + i) ∷ [])
      ∙ ap₂ (λ (bits : List Bool) (b : Bool). bits ++ b ∷ [])
      (map_agrees (λ place. place < length T.outputs) (bit (front_bits N (twin_plan T groups rail1 rail2) v)) (λ place. bit v (own_net T (slice_index T.outputs place)))
      (λ place low. output_bit T N groups rail1 rail2 closed begins grouping v place low) (slice_index_or groups i []) (grouping.each_within i)
      ∙ sym (map-map (bit v) (own_net T) (outputs_at T (slice_index_or groups i [])) ∙ map-map (λ n. bit v (own_net T n)) (slice_index T.outputs) (slice_index_or groups i [])))
      (check_bit T N groups rail1 rail2 closed begins grouping v i h)
      ∙ sym (map-append (bit v) (map (own_net T) (outputs_at T (slice_index_or groups i []))) (slice_index (twin_check_nets T groups) i ∷ []))

  -- the groups of a plan are odd where each is
  groups_odd : EachOdd T groups v → All (λ group. IsTrue (odd (bits_at (front_bits N (twin_plan T groups rail1 rail2) v) group))) (members (twin_plan T groups rail1 rail2).plan)
  unfolding EachOdd
  groups_odd each = All-from_get_or (λ group. IsTrue (odd (bits_at (front_bits N (twin_plan T groups rail1 rail2) v) group))) (members (twin_plan T groups rail1 rail2).plan) []
      (λ i h.
      let low : i < length groups = omega (arith, h, length-members_from (length T.outputs) groups) in
      ap (λ group. odd (bits_at (front_bits N (twin_plan T groups rail1 rail2) v) group)) (member_at (length T.outputs) groups i low) ∙ ap odd (member_bits i low) ∙ each i low)

  each_odd : All (λ group. IsTrue (odd (bits_at (front_bits N (twin_plan T groups rail1 rail2) v) group))) (members (twin_plan T groups rail1 rail2).plan) → EachOdd T groups v
  unfolding EachOdd
  each_odd all i h =
      sym (ap (λ group. odd (bits_at (front_bits N (twin_plan T groups rail1 rail2) v) group)) (member_at (length T.outputs) groups i h) ∙ ap odd (member_bits i h))
      ∙ all i [] (omega (arith, h, length-members_from (length T.outputs) groups))

-- ---- the groups with that of the watch

-- the first groups have the same nets
first_nets : (watched : ℕ) (T : Circuit) (groups : List (List ℕ)) → IsGrouping (length T.outputs) groups → (i : ℕ) → i < length groups
    → group_nets (showing watched T) (watched_groups watched T groups) i ≡ group_nets T groups i
first_nets watched T groups grouping i h =
    ap₂ (λ (places : List ℕ) (check : ℕ). map (own_net T) places ++ check ∷ [])
    (ap (outputs_at (showing watched T)) (first_groups (length T.outputs) watched groups i h)
    ∙ map_agrees (λ place. place < length T.outputs) (slice_index (showing watched T).outputs) (slice_index T.outputs) (shown_output T watched) (slice_index_or groups i []) (grouping.each_within i))
    (ap (λ ns. slice_index ns i) (twin_check_nets_are T watched groups)
    ∙ get_or_append_left (twin_check_nets T groups) _ 0 i (omega (arith, h, checks_paired (widened T).inputs groups (length T.nodes + length T.nodes))))

-- the last has the own registers and the check of the watch
watch_nets : (more : ℕ) (T : Circuit) (groups : List (List ℕ)) → suc more ≤ length T.latches
    → group_nets (showing (suc more) T) (watched_groups (suc more) T groups) (length groups) ≡ range_with_len T.inputs (suc more) ++ watch_check (suc more) T groups ∷ []
watch_nets more T groups fits =
    ap₂ (λ (places : List ℕ) (check : ℕ). places ++ check ∷ [])
    (ap (λ places. map (own_net T) (outputs_at (showing (suc more) T) places)) (get_or_at groups (range_with_len (length T.outputs) (suc more)) [] [] (length groups) refl)
    ∙ ap (map (own_net T)) (shown_registers T (suc more))
    ∙ map_agrees (λ n. n < T.inputs + length T.latches) (own_net T) (λ n. n) (λ n h. own_low T n h) (range_with_len T.inputs (suc more))
    (stretch_below T.inputs (suc more) (T.inputs + length T.latches) (omega arith))
    ∙ map-id (range_with_len T.inputs (suc more)))
    (ap (λ ns. slice_index ns (length groups)) (twin_check_nets_are T (suc more) groups ∙ ap (λ ns. twin_check_nets T groups ++ ns) (watch_check_is T more groups))
    ∙ get_or_at (twin_check_nets T groups) (watch_check (suc more) T groups) [] 0 (length groups) (checks_paired (widened T).inputs groups (length T.nodes + length T.nodes)))

first_odd : (watched : ℕ) (T : Circuit) (groups : List (List ℕ)) (v : List Bool) → IsGrouping (length T.outputs) groups
    → EachOdd (showing watched T) (watched_groups watched T groups) v → EachOdd T groups v
unfolding EachOdd
first_odd watched T groups v grouping each i h =
    subst (λ nets. IsTrue (odd (bits_at v nets))) (first_nets watched T groups grouping i h) (each i (longer watched))
  where
    longer : (watched : ℕ) → i < length (watched_groups watched T groups)
    longer zero = h
    longer (suc more) = omega (arith, h, length-append groups (range_with_len (length T.outputs) (suc more) ∷ []))

watch_odd : (watched : ℕ) (T : Circuit) (groups : List (List ℕ)) (v : List Bool) → watched ≤ length T.latches
    → EachOdd (showing watched T) (watched_groups watched T groups) v → All (λ nets. IsTrue (odd (bits_at v nets))) (twin_watches watched T groups)
unfolding EachOdd
watch_odd zero T groups v fits each = All-nil (λ nets. IsTrue (odd (bits_at v nets)))
watch_odd (suc more) T groups v fits each =
    All-cons (λ nets. IsTrue (odd (bits_at v nets))) (range_with_len T.inputs (suc more) ++ watch_check (suc more) T groups ∷ []) []
    (subst (λ nets. IsTrue (odd (bits_at v nets))) (watch_nets more T groups fits)
    (each (length groups) (omega (arith, length-append groups (range_with_len (length T.outputs) (suc more) ∷ [])))))
    (All-nil (λ nets. IsTrue (odd (bits_at v nets))))

all_odd : (watched : ℕ) (T : Circuit) (groups : List (List ℕ)) (v : List Bool) → watched ≤ length T.latches → IsGrouping (length T.outputs) groups
    → EachOdd T groups v → All (λ nets. IsTrue (odd (bits_at v nets))) (twin_watches watched T groups) → EachOdd (showing watched T) (watched_groups watched T groups) v
unfolding EachOdd
all_odd zero T groups v fits grouping each watch i h = subst (λ nets. IsTrue (odd (bits_at v nets))) (sym (first_nets zero T groups grouping i h)) (each i h)
all_odd (suc more) T groups v fits grouping each watch i h = elim (cases_lt i (length groups)) [
  | inl old ↦ subst (λ nets. IsTrue (odd (bits_at v nets))) (sym (first_nets (suc more) T groups grouping i old)) (each i old)
  | inr new ↦ (
      let here : length groups ≡ i = omega (arith, h, length-append groups (range_with_len (length T.outputs) (suc more) ∷ [])) in
      subst (λ k. IsTrue (odd (bits_at v (group_nets (showing (suc more) T) (watched_groups (suc more) T groups) k)))) here
      (subst (λ nets. IsTrue (odd (bits_at v nets))) (sym (watch_nets more T groups fits))
      (All-head (λ nets. IsTrue (odd (bits_at v nets))) (range_with_len T.inputs (suc more) ++ watch_check (suc more) T groups ∷ []) [] watch)))
]

module _ (watched : ℕ) (T : Circuit) (groups : List (List ℕ)) (closed : IsClosed T) (grouping : IsGrouping (length T.outputs) groups) (fits : watched ≤ length T.latches) (v : List Bool) where
  -- where the groups are odd that have the registers too, the twin's groups are odd, and its watch
  pub odd_from_wide : IsOdd (wide_twin watched T groups) (twin_plan (showing watched T) (watched_groups watched T groups) (twin_rail1 watched T groups) (twin_rail2 watched T groups)) v
      → IsOdd (twin_circuit watched T groups) (watched_plan watched T groups) v
  odd_from_wide is =
      let each = each_odd (showing watched T) (wide_twin watched T groups) (watched_groups watched T groups) (twin_rail1 watched T groups) (twin_rail2 watched T groups)
      (closed_showing T watched fits closed) (begins_wide watched T groups) (watched_grouping watched T groups grouping) v is.groups in
      record {
        groups = groups_odd T (twin_circuit watched T groups) groups (twin_rail1 watched T groups) (twin_rail2 watched T groups) closed (begins_own watched T groups grouping.within) grouping v
            (first_odd watched T groups v grouping each);
        watched = watch_odd watched T groups v fits each;
      }

  -- and back
  pub odd_to_wide : IsOdd (twin_circuit watched T groups) (watched_plan watched T groups) v
      → IsOdd (wide_twin watched T groups) (twin_plan (showing watched T) (watched_groups watched T groups) (twin_rail1 watched T groups) (twin_rail2 watched T groups)) v
  odd_to_wide is = record {
    groups = groups_odd (showing watched T) (wide_twin watched T groups) (watched_groups watched T groups) (twin_rail1 watched T groups) (twin_rail2 watched T groups)
        (closed_showing T watched fits closed) (begins_wide watched T groups) (watched_grouping watched T groups grouping) v
        (all_odd watched T groups v fits grouping
        (each_odd T (twin_circuit watched T groups) groups (twin_rail1 watched T groups) (twin_rail2 watched T groups) closed (begins_own watched T groups grouping.within) grouping v is.groups) is.watched);
    watched = All-nil (λ nets. IsTrue (odd (bits_at v nets)));
  }
