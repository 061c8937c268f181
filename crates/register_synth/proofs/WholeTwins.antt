-- The twin that is made of a source is whole: closed, a twin of what is kept of the source, and secure for it; and its watch hears.
use Rattle.std.specs.List.{range_with_len}
use Rattle.std.proofs.Common.{◌≡◌, ℕ, zero, suc, ◌<◌, ◌≤◌, inl, inr, Bool, List, [], length, All, refl, sym, ◌∙◌, subst, arith}
use Rattle.std.proofs.lemmas.List.{length-map}
use Rattle.std.proofs.lemmas.List.Elements.{All-nil, All-cons}
use Rattle.fault_secure.specs.Circuit.{Circuit, latch, nets, bit}
use Rattle.fault_secure.specs.StuckAt.{NoFault}
use Rattle.fault_secure.specs.Closed.{IsClosed}
use Rattle.fault_secure.specs.Settle.{Settles, Acyclic}
use Rattle.code_checkers.specs.GateList.{GateList, IsCheckerOf}
use Rattle.register_laws.specs.RegisterPlan.{IsOdd, IsWatchList, IsRegisterPlanOf}
use Rattle.register_laws.specs.Twin.{IsTwin}
use Rattle.register_laws.specs.Watch.{IsWatchOf}
use Rattle.register_laws.proofs.TwinsSecure.{twins_are_secure, twins_are_fault_secure}
use Rattle.register_laws.proofs.PartRuns.{secure_for_the_whole, fault_secure_for_the_whole}
use Rattle.register_laws.proofs.WatchParity.{watch_is_heard}
use Rattle.register_synth.specs.Kept.{kept_net, kept_part, kept_place, renamed_latch}
use Rattle.register_synth.specs.TwinNet.{own_net, copied_net, own_place, copied_place}
use Rattle.register_synth.specs.TwinLaws.{AreGroupsApart}
use Rattle.register_synth.specs.TwinCircuit.{showing, watched_groups, watched_word, twin_rail1, twin_rail2, twin_circuit, twin_watches, watched_plan, watch_check, WatchHears, TwinsAreWhole}
use Rattle.register_synth.proofs.KeptPart.{kept_is_part}
use Rattle.register_synth.proofs.PartGroups.{grouping, groups_apart_in_part}
use Rattle.register_synth.proofs.TwinMade.{IsGrouping, is_odd, checks_settle, is_twin_watching}
use Rattle.register_synth.proofs.TwinFront.{begun_plan}
use Rattle.register_synth.proofs.WatchedGroups.{watched_grouping, closed_showing}
use Rattle.register_synth.proofs.WatchedChecks.{watched_counted}
use Rattle.register_synth.proofs.WatchedTwin.{wide_twin, begins_wide, begins_own}
use Rattle.register_synth.proofs.WatchedOdd.{odd_from_wide}
use Rattle.register_synth.proofs.WatchedDecides.{watched_decides}
use Rattle.register_synth.proofs.WatchFollows.{watch_is, watch_list}
use Rattle.register_synth.proofs.WholeClosed.{whole_acyclic, rails, top_low, whole_closed}

-- what is watched is of the netlist
watches_of : (watched : ℕ) (T : Circuit) (groups : List (List ℕ)) → IsClosed T → IsGrouping (length T.outputs) groups → (0 < watched → watched ≡ length T.latches)
    → All (IsWatchList (twin_circuit watched T groups)) (twin_watches watched T groups)
watches_of zero T groups closed grouping all = All-nil (IsWatchList (twin_circuit zero T groups))
watches_of (suc more) T groups closed grouping all =
    All-cons (IsWatchList (twin_circuit (suc more) T groups)) _ [] (watch_list more T groups closed grouping (all (omega arith))) (All-nil (IsWatchList (twin_circuit (suc more) T groups)))

-- where there is a watch it is one
watch_of : (watched : ℕ) (T : Circuit) (groups : List (List ℕ)) → IsClosed T → IsGrouping (length T.outputs) groups → (0 < watched → watched ≡ length T.latches) → 0 < watched
    → IsWatchOf T (twin_circuit watched T groups) (watched_plan watched T groups) (own_place T) (copied_place T) (range_with_len 0 watched) (watch_check watched T groups)
watch_of zero T groups closed grouping all some = absurd (omega arith)
watch_of (suc more) T groups closed grouping all some = watch_is more T groups closed grouping (all (omega arith))

module _ (watched : ℕ) (T : Circuit) (groups : List (List ℕ)) (made : GateList) (closed : IsClosed T) (acyclic : Acyclic T) (grouping : IsGrouping (length T.outputs) groups)
    (apart : AreGroupsApart T groups) (all : 0 < watched → watched ≡ length T.latches) (fits : watched ≤ length T.latches) (checker : IsCheckerOf (watched_word watched T groups) made) where
  abbrev rail1 : ℕ
  rail1 = twin_rail1 watched T groups

  abbrev rail2 : ℕ
  rail2 = twin_rail2 watched T groups

  abbrev N : Circuit
  N = twin_circuit watched T groups

  -- where both copies are alike the groups are odd, and the watch
  foretold : (x s : ℕ → Bool) (v : List Bool) → Settles N NoFault x s v → ((n : ℕ) → n < nets T → bit v (own_net T n) ≡ bit v (copied_net T n)) → IsOdd N (watched_plan watched T groups) v
  foretold x s v settles alike =
      odd_from_wide watched T groups closed grouping fits v
      (is_odd (showing watched T) (wide_twin watched T groups) (watched_groups watched T groups) rail1 rail2 (closed_showing T watched fits closed) (begins_wide watched T groups)
      (watched_grouping watched T groups grouping) v
      (checks_settle (showing watched T) (wide_twin watched T groups) (watched_groups watched T groups) rail1 rail2 (closed_showing T watched fits closed) (begins_wide watched T groups)
      (watched_grouping watched T groups grouping) x s v (record { sized = settles.sized; inputs = settles.inputs; latches = settles.latches; nodes = settles.nodes }))
      alike)

  -- it is a twin
  pub whole_twin : IsTwin T (twin_circuit watched T groups) (watched_plan watched T groups) (own_place T) (copied_place T)
  whole_twin =
      is_twin_watching T N groups rail1 rail2 closed (begins_own watched T groups grouping.within) grouping (twin_watches watched T groups) acyclic
      (whole_acyclic watched T groups made closed acyclic grouping fits checker) apart foretold (watched_decides watched T groups made closed grouping fits checker)

  -- its plan is of it
  pub whole_plan : IsRegisterPlanOf (twin_circuit watched T groups) (watched_plan watched T groups)
  whole_plan =
      let in_nets = rails watched T groups made closed acyclic grouping fits checker in
      record {
        parity = refl;
        version = refl;
        stateless = refl;
        plan_of = begun_plan T N groups rail1 rail2 closed (begins_own watched T groups grouping.within) grouping
            (omega (arith, top_low watched T groups made closed acyclic grouping fits checker, watched_counted T watched groups)) in_nets.0 in_nets.1;
        watched = watches_of watched T groups closed grouping all;
      }

  -- and its watch hears
  pub whole_hears : 0 < watched → WatchHears watched T groups
  whole_hears some v settles drivers odd =
      watch_is_heard T N (watched_plan watched T groups) (own_place T) (copied_place T) (range_with_len 0 watched) (watch_check watched T groups) v
      (watched_decides watched T groups made closed grouping fits checker) (watch_of watched T groups closed grouping all some) settles drivers odd

-- the twin that is made of a source is whole
pub twins_are_whole : TwinsAreWhole
twins_are_whole S registers covers groups watched made closed acyclic few kept are some checker =
    let part = kept_is_part S registers covers closed acyclic kept in
    let apart = groups_apart_in_part S registers covers groups closed acyclic kept are in
    let fit : IsGrouping (length (kept_part S registers covers).outputs) groups
    = subst (λ n. IsGrouping n groups) (sym (length-map S.outputs (kept_net S registers covers))) (grouping S groups are) in
    let count : length (kept_part S registers covers).latches ≡ length registers = length-map registers (λ l. renamed_latch (kept_net S registers covers) (latch S l)) in
    let all : 0 < watched → watched ≡ length (kept_part S registers covers).latches = elim some [ inl none ↦ λ h. absurd (omega arith) | inr every ↦ λ h. every ∙ sym count ] in
    let fits : watched ≤ length (kept_part S registers covers).latches = elim some [ inl none ↦ omega arith | inr every ↦ omega arith ] in
    let twin = whole_twin watched (kept_part S registers covers) groups made part.closed part.acyclic fit apart all fits checker in
    record {
      closed = whole_closed watched (kept_part S registers covers) groups made part.closed part.acyclic fit fits checker;
      twin = record {
        part = part;
        twin = twin;
        planned = whole_plan watched (kept_part S registers covers) groups made part.closed part.acyclic fit apart all fits checker;
        secure = secure_for_the_whole (kept_part S registers covers) S (twin_circuit watched (kept_part S registers covers) groups) (watched_plan watched (kept_part S registers covers) groups) (kept_place S registers covers) part acyclic
            (twins_are_secure (kept_part S registers covers) (twin_circuit watched (kept_part S registers covers) groups) (watched_plan watched (kept_part S registers covers) groups)
            (own_place (kept_part S registers covers)) (copied_place (kept_part S registers covers)) twin);
        fault_secure = fault_secure_for_the_whole (kept_part S registers covers) S (twin_circuit watched (kept_part S registers covers) groups) (watched_plan watched (kept_part S registers covers) groups) (kept_place S registers covers) part acyclic
            (twins_are_fault_secure (kept_part S registers covers) (twin_circuit watched (kept_part S registers covers) groups) (watched_plan watched (kept_part S registers covers) groups)
            (own_place (kept_part S registers covers)) (copied_place (kept_part S registers covers)) twin);
      };
      watches = watch_of watched (kept_part S registers covers) groups part.closed fit all;
      hears = whole_hears watched (kept_part S registers covers) groups made part.closed part.acyclic fit apart all fits checker;
    }
