-- The whole twin of a source, by the numbers of its nets: two copies of its covers and registers, the checks, and the checker; and its plan.
-- Its registers may be watched: `watched` says how many of them are, all or none.
use Rattle.std.specs.Prelude.{◌≡◌, ℕ, zero, suc, ◌+◌, ◌-◌, ◌*◌, ◌<◌, ◌≤◌, ◌⊎◌, Bool, List, [], ◌∷◌, ◌++◌, map, length, IsTrue}
use Rattle.std.specs.List.{range_with_len}
use Rattle.tsc_bits.specs.Counting.{odd}
use Rattle.fault_secure.specs.Circuit.{Circuit, NodeOf}
use Rattle.fault_secure.specs.Closed.{IsClosed}
use Rattle.fault_secure.specs.Settle.{Acyclic}
use Rattle.fault_secure.specs.CodePlan.{CodePlan, RailsAgree, concat_places}
use Rattle.code_checkers.specs.GateList.{GateList, IsCheckerOf}
use Rattle.code_checkers.specs.CheckerNodes.{checker_nodes, rail1_net, rail2_net}
use Rattle.register_laws.specs.RegisterPlan.{RegisterPlan}
use Rattle.register_laws.specs.RegisterStructure.{RegisterCheckerSettles}
use Rattle.register_laws.specs.Watch.{DriversSettle, IsWatchOf, differences}
use Rattle.register_synth.specs.Kept.{AreKept, kept_part, kept_place}
use Rattle.register_synth.specs.RegisterGroups.{AreRegisterGroups}
use Rattle.register_synth.specs.TwinNet.{own_net, own_place, copied_place, twin_latches, twin_covers, widened, twin_checks, twin_check_nets, twin_plan}
use Rattle.register_synth.specs.TwinChecker.{word_plan, IsTwinOfPart}

-- the source as one that shows its first registers too, so many of them, after its outputs
abbrev pub showing : ℕ → Circuit → Circuit
showing watched T = record T { outputs = T.outputs ++ range_with_len T.inputs watched }

-- the groups of so many outputs, and one more of the registers that are shown after these, where there are some
abbrev pub with_watch : ℕ → ℕ → List (List ℕ) → List (List ℕ)
with_watch outputs zero groups = groups
with_watch outputs (suc more) groups = groups ++ range_with_len outputs (suc more) ∷ []

abbrev pub watched_groups : ℕ → Circuit → List (List ℕ) → List (List ℕ)
watched_groups watched T groups = with_watch (length T.outputs) watched groups

-- the nodes before the checker: the covers of both copies, and the checks of the groups, that of the watch as the last
abbrev pub twin_logic : ℕ → Circuit → List (List ℕ) → List NodeOf
twin_logic watched T groups = twin_covers T ++ twin_checks (showing watched T) (watched_groups watched T groups)

-- what the checker reads: the own outputs, the own registers that are watched, and the checks
abbrev pub twin_word : ℕ → Circuit → List (List ℕ) → List ℕ
twin_word watched T groups = map (own_net T) (showing watched T).outputs ++ twin_check_nets (showing watched T) (watched_groups watched T groups)

-- the plan of this word, on whose rails the gates of its checker don't depend
abbrev pub watched_word : ℕ → Circuit → List (List ℕ) → CodePlan
watched_word watched T groups = word_plan (showing watched T) (watched_groups watched T groups) 0 0

-- the net of the checker's first node
abbrev pub twin_next : ℕ → Circuit → List (List ℕ) → ℕ
twin_next watched T groups = (widened T).inputs + length (twin_logic watched T groups)

-- the rails
abbrev pub twin_rail1 : ℕ → Circuit → List (List ℕ) → ℕ
twin_rail1 watched T groups = rail1_net (watched_word watched T groups) (twin_word watched T groups) (twin_next watched T groups)

abbrev pub twin_rail2 : ℕ → Circuit → List (List ℕ) → ℕ
twin_rail2 watched T groups = rail2_net (watched_word watched T groups) (twin_word watched T groups) (twin_next watched T groups)

-- the netlist
abbrev pub twin_circuit : ℕ → Circuit → List (List ℕ) → Circuit
twin_circuit watched T groups = record {
  inputs = T.inputs;
  latches = twin_latches T;
  nodes = twin_logic watched T groups ++ checker_nodes (watched_word watched T groups) (twin_word watched T groups) (twin_next watched T groups);
  outputs = map (own_net T) T.outputs ++ twin_rail1 watched T groups ∷ twin_rail2 watched T groups ∷ [];
}

-- the check of the watch of so many registers: the last node before the checker
abbrev pub watch_check : ℕ → Circuit → List (List ℕ) → ℕ
watch_check watched T groups = (widened T).inputs + (length T.nodes + length T.nodes + length (concat_places groups) + watched - 1)

-- what is watched together: the own registers, and then the check of the watch; nothing where no register is watched
abbrev pub twin_watches : ℕ → Circuit → List (List ℕ) → List (List ℕ)
twin_watches zero T groups = []
twin_watches (suc more) T groups = (range_with_len T.inputs (suc more) ++ watch_check (suc more) T groups ∷ []) ∷ []

-- the plan of the netlist
abbrev pub watched_plan : ℕ → Circuit → List (List ℕ) → RegisterPlan
watched_plan watched T groups = record {
  plan = (twin_plan T groups (twin_rail1 watched T groups) (twin_rail2 watched T groups)).plan;
  watches = twin_watches watched T groups;
}

-- the rails agree wherever an odd number of the watched registers differs from their copies, and the nodes of the checker and of the check of
-- the watch settle
abbrev pub WatchHears : ℕ → Circuit → List (List ℕ) → Type 0
WatchHears watched T groups = (v : List Bool) → RegisterCheckerSettles (twin_circuit watched T groups) (watched_plan watched T groups) v
    → DriversSettle (twin_circuit watched T groups) (watch_check watched T groups) v
    → IsTrue (odd (differences (twin_circuit watched T groups) (own_place T) (copied_place T) (range_with_len 0 watched) v))
    → RailsAgree (watched_plan watched T groups).plan v

-- the twin over a part T of S is closed, is a twin of this part with its plan, and so is secure for S; and its watch, if it has one, hears
pub record IsWholeTwin (S T : Circuit) (registers covers : List ℕ) (groups : List (List ℕ)) (watched : ℕ) : Type 0 where
  pub closed : IsClosed (twin_circuit watched T groups)
  pub twin : IsTwinOfPart S T (twin_circuit watched T groups) (watched_plan watched T groups) (kept_place S registers covers) (own_place T) (copied_place T)
  pub watches : 0 < watched → IsWatchOf T (twin_circuit watched T groups) (watched_plan watched T groups) (own_place T) (copied_place T) (range_with_len 0 watched)
      (watch_check watched T groups)
  pub hears : 0 < watched → WatchHears watched T groups

-- the source is closed, has no ring and at most 64 outputs. The twin of what is kept of it, over the source's groups, with all registers watched
-- or none, is such a twin. `made` is the gates of its checker
abbrev pub TwinsAreWhole : Type 0
TwinsAreWhole = (S : Circuit) (registers covers : List ℕ) (groups : List (List ℕ)) (watched : ℕ) (made : GateList) → IsClosed S → Acyclic S
    → length S.outputs ≤ 64 → AreKept S registers covers → AreRegisterGroups S groups → (watched ≡ 0) ⊎ (watched ≡ length registers)
    → IsCheckerOf (watched_word watched (kept_part S registers covers) groups) made
    → IsWholeTwin S (kept_part S registers covers) registers covers groups watched

-- how many covers such a twin has at most: some of the outputs and groups beside both copies, and for a watch two for each register and five
abbrev pub FewCovers : Type 0
FewCovers = (S : Circuit) (registers covers : List ℕ) (groups : List (List ℕ)) (watched : ℕ) (made : GateList) → IsClosed S → Acyclic S
    → AreKept S registers covers → AreRegisterGroups S groups → IsCheckerOf (watched_word watched (kept_part S registers covers) groups) made
    → length (twin_circuit watched (kept_part S registers covers) groups).nodes ≤ 2 * length S.nodes + 7 * length S.outputs + (2 * watched + 5)
