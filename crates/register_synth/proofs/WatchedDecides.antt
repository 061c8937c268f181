-- The checker of a twin with its watch decides: the rails differ exactly where every group is odd, and the watch.
use Rattle.std.specs.List.{range_with_len}
use Rattle.std.proofs.Common.{◌≡◌, ℕ, zero, suc, ◌+◌, ◌<◌, ◌≤◌, inl, inr, Bool, List, [], ◌∷◌, ◌++◌, map, length, Contains, sym, ap, ◌∙◌, subst, arith}
use Rattle.std.proofs.lemmas.List.{append-nil, map-append, map-id}
use Rattle.std.proofs.lemmas.List.Elements.{Contains-append_left, Contains-append_right, Contains-append_cases}
use Rattle.tsc_bits.proofs.Lists.{map_agrees}
use Rattle.fault_secure.specs.Circuit.{Circuit, pin_net}
use Rattle.fault_secure.specs.Closed.{IsClosed}
use Rattle.fault_secure.specs.CodePlan.{concat_places}
use Rattle.fault_secure.specs.Depends.{Depends}
use Rattle.fault_secure.specs.Depends.Depends.{itself, through}
use Rattle.code_checkers.specs.GateList.{GateList, IsCheckerOf}
use Rattle.parity_code.specs.GroupChecks.{group_check_nets}
use Rattle.register_laws.specs.RegisterStructure.{IsNeeded, IsLogic, IsOfRegisterChecker, RegisterCheckerSettles, DecidesGroups}
use Rattle.register_synth.specs.TwinNet.{own_net, widened, twin_check_nets, twin_plan}
use Rattle.register_synth.specs.TwinCircuit.{showing, with_watch, watched_groups, watched_word, twin_rail1, twin_rail2, twin_circuit, twin_watches, watched_plan, watch_check}
use Rattle.register_synth.proofs.TwinMade.{IsGrouping, own_low, front_are}
use Rattle.register_synth.proofs.TwinDecides.{twin_decides}
use Rattle.register_synth.proofs.WatchedGroups.{watched_grouping, closed_showing, stretch_below}
use Rattle.register_synth.proofs.WatchedChecks.{twin_check_nets_are, watch_from, watch_check_is}
use Rattle.register_synth.proofs.WatchedTwin.{wide_twin, begins_wide, begins_own, wide_checker}
use Rattle.register_synth.proofs.WatchedOdd.{odd_from_wide, odd_to_wide}

-- what depends on what does so whatever is shown
to_shown : (N : Circuit) (outputs : List ℕ) (q net : ℕ) → Depends N q net → Depends (record N { outputs = outputs }) q net
to_shown N outputs q _ (itself net h e) = itself net h e
to_shown N outputs q _ (through net j pin h e l r) = through net j pin h e l (to_shown N outputs q (pin_net N j pin) r)

from_shown : (N : Circuit) (outputs : List ℕ) (q net : ℕ) → Depends (record N { outputs = outputs }) q net → Depends N q net
from_shown N outputs q _ (itself net h e) = itself net h e
from_shown N outputs q _ (through net j pin h e l r) = through net j pin h e l (from_shown N outputs q (pin_net N j pin) r)

-- the nets of the outputs, the registers and the checks
abbrev all_nets : ℕ → Circuit → List (List ℕ) → List ℕ
all_nets watched T groups = map (own_net T) (showing watched T).outputs ++ twin_check_nets (showing watched T) (watched_groups watched T groups)

-- a net of the outputs and the checks is one of them
of_front : (watched : ℕ) (T : Circuit) (groups : List (List ℕ)) (net : ℕ) → Contains (map (own_net T) T.outputs ++ twin_check_nets T groups) net → Contains (all_nets watched T groups) net
of_front watched T groups net c = elim (Contains-append_cases (map (own_net T) T.outputs) (twin_check_nets T groups) net c) [
  | inl output ↦ Contains-append_left (map (own_net T) (showing watched T).outputs) (twin_check_nets (showing watched T) (watched_groups watched T groups)) net
      (subst (λ ns. Contains ns net) (sym (map-append (own_net T) T.outputs (range_with_len T.inputs watched)))
      (Contains-append_left (map (own_net T) T.outputs) (map (own_net T) (range_with_len T.inputs watched)) net output))
  | inr check ↦ Contains-append_right (map (own_net T) (showing watched T).outputs) (twin_check_nets (showing watched T) (watched_groups watched T groups)) net
      (subst (λ ns. Contains ns net) (sym (twin_check_nets_are T watched groups))
      (Contains-append_left (twin_check_nets T groups) (group_check_nets (widened T).inputs (with_watch (length T.outputs) watched []) (watch_from T watched groups)) net check))
]

-- and so is a watched net
of_watch : (watched : ℕ) (T : Circuit) (groups : List (List ℕ)) (net : ℕ) → watched ≤ length T.latches → Contains (concat_places (twin_watches watched T groups)) net → Contains (all_nets watched T groups) net
of_watch zero T groups net fits c = absurd (nothing c)
  where
    nothing : Contains {X = ℕ} [] net → ⊥
    nothing (k, h, e) = omega arith
of_watch (suc more) T groups net fits c =
    elim (Contains-append_cases (range_with_len T.inputs (suc more)) (watch_check (suc more) T groups ∷ []) net
    (subst (λ ns. Contains ns net) (append-nil (range_with_len T.inputs (suc more) ++ watch_check (suc more) T groups ∷ [])) c)) [
      | inl register ↦ Contains-append_left (map (own_net T) (showing (suc more) T).outputs) (twin_check_nets (showing (suc more) T) (watched_groups (suc more) T groups)) net
          (subst (λ ns. Contains ns net) (sym (map-append (own_net T) T.outputs (range_with_len T.inputs (suc more))))
          (Contains-append_right (map (own_net T) T.outputs) (map (own_net T) (range_with_len T.inputs (suc more))) net
          (subst (λ ns. Contains ns net) (sym registers) register)))
      | inr check ↦ Contains-append_right (map (own_net T) (showing (suc more) T).outputs) (twin_check_nets (showing (suc more) T) (watched_groups (suc more) T groups)) net
          (subst (λ ns. Contains ns net) (sym (twin_check_nets_are T (suc more) groups ∙ ap (λ ns. twin_check_nets T groups ++ ns) (watch_check_is T more groups)))
          (Contains-append_right (twin_check_nets T groups) (watch_check (suc more) T groups ∷ []) net check))
    ]
  where
    registers : map (own_net T) (range_with_len T.inputs (suc more)) ≡ range_with_len T.inputs (suc more)
    registers =
        map_agrees (λ n. n < T.inputs + length T.latches) (own_net T) (λ n. n) (λ n h. own_low T n h) (range_with_len T.inputs (suc more))
        (stretch_below T.inputs (suc more) (T.inputs + length T.latches) (omega arith))
        ∙ map-id (range_with_len T.inputs (suc more))

module _ (watched : ℕ) (T : Circuit) (groups : List (List ℕ)) (made : GateList) (closed : IsClosed T) (grouping : IsGrouping (length T.outputs) groups)
    (fits : watched ≤ length T.latches) (checker : IsCheckerOf (watched_word watched T groups) made) where
  abbrev rail1 : ℕ
  rail1 = twin_rail1 watched T groups

  abbrev rail2 : ℕ
  rail2 = twin_rail2 watched T groups

  abbrev shown : List ℕ
  shown = map (own_net T) (showing watched T).outputs ++ twin_rail1 watched T groups ∷ twin_rail2 watched T groups ∷ []

  wide_closed : IsClosed (showing watched T)
  wide_closed = closed_showing T watched fits closed

  all_grouping : IsGrouping (length (showing watched T).outputs) (watched_groups watched T groups)
  all_grouping = watched_grouping watched T groups grouping

  to_wide : (net : ℕ) → Contains (all_nets watched T groups) net
      → IsNeeded (wide_twin watched T groups) (twin_plan (showing watched T) (watched_groups watched T groups) rail1 rail2) net
  to_wide net c = inl (subst (λ ns. Contains ns net)
      (sym (front_are (showing watched T) (wide_twin watched T groups) (watched_groups watched T groups) rail1 rail2 wide_closed (begins_wide watched T groups) all_grouping)) c)

  needed : (net : ℕ) → IsNeeded (twin_circuit watched T groups) (watched_plan watched T groups) net
      → IsNeeded (wide_twin watched T groups) (twin_plan (showing watched T) (watched_groups watched T groups) rail1 rail2) net
  needed net (inl c) =
      to_wide net (of_front watched T groups net
      (subst (λ ns. Contains ns net) (front_are T (twin_circuit watched T groups) groups rail1 rail2 closed (begins_own watched T groups grouping.within) grouping) c))
  needed net (inr (inl c)) = to_wide net (of_watch watched T groups net fits c)
  needed net (inr (inr c)) = inr (inr c)

  logic : (q : ℕ) → IsLogic (twin_circuit watched T groups) (watched_plan watched T groups) q
      → IsLogic (wide_twin watched T groups) (twin_plan (showing watched T) (watched_groups watched T groups) rail1 rail2) q
  logic q is = record { net = is.net; needed = needed is.net is.needed; depends = to_shown (twin_circuit watched T groups) shown q is.net is.depends }

  of_checker : (q : ℕ) → IsOfRegisterChecker (wide_twin watched T groups) (twin_plan (showing watched T) (watched_groups watched T groups) rail1 rail2) q
      → IsOfRegisterChecker (twin_circuit watched T groups) (watched_plan watched T groups) q
  of_checker q is = record {
    depends = elim is.depends [
      | inl first ↦ inl (from_shown (twin_circuit watched T groups) shown q rail1 first)
      | inr second ↦ inr (from_shown (twin_circuit watched T groups) shown q rail2 second)
    ];
    outside = λ is_logic. is.outside (logic q is_logic);
  }

  settles : (v : List Bool) → RegisterCheckerSettles (twin_circuit watched T groups) (watched_plan watched T groups) v
      → RegisterCheckerSettles (wide_twin watched T groups) (twin_plan (showing watched T) (watched_groups watched T groups) rail1 rail2) v
  settles v settled = record { settles = λ q h is. settled.settles q h (of_checker q is) }

  -- the checker decides
  pub watched_decides : DecidesGroups (twin_circuit watched T groups) (watched_plan watched T groups)
  watched_decides = record {
    decides = λ v settled.
        let wide = twin_decides (showing watched T) (wide_twin watched T groups) (watched_groups watched T groups) rail1 rail2 made wide_closed (begins_wide watched T groups) all_grouping
        (wide_checker watched T groups made closed grouping fits checker) in
        let law = wide.decides v (settles v settled) in (
          λ differ. odd_from_wide watched T groups closed grouping fits v (law.0 differ),
          λ is. law.1 (odd_to_wide watched T groups closed grouping fits v is),
        );
  }
