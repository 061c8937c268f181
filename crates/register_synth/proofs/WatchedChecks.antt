-- The checks of a twin's groups, and then that of its watch.
use Rattle.std.specs.List.{range_with_len}
use Rattle.std.proofs.Common.{◌≡◌, ℕ, zero, suc, ◌+◌, ◌-◌, ◌<◌, List, [], ◌∷◌, ◌++◌, map, length, slice_index, All, refl, sym, ap, ap₂, ◌∙◌, arith, length-append}
use Rattle.std.proofs.lemmas.List.{append_assoc}
use Rattle.std.proofs.lemmas.List.FromFn.{length-range_with_len}
use Rattle.tsc_bits.proofs.Lists.{map_agrees, all_left, all_right}
use Rattle.fault_secure.specs.Circuit.{Circuit, NodeOf}
use Rattle.fault_secure.specs.CodePlan.{concat_places}
use Rattle.parity_code.specs.GroupChecks.{group_checks, group_check_nets}
use Rattle.parity_code.specs.ParityCircuit.{parity_nodes}
use Rattle.parity_code.specs.ParityFunction.{outputs_at}
use Rattle.register_synth.specs.TwinNet.{copied_net, widened, twin_checks, twin_check_nets}
use Rattle.register_synth.specs.TwinCircuit.{showing, with_watch, watched_groups, watch_check}
use Rattle.register_synth.proofs.WatchedGroups.{concat_push, watch_last, shown_output}

-- checks of groups, and then of others
checks_joined : (C : Circuit) (net : ℕ → ℕ) (groups others : List (List ℕ)) (from : ℕ)
    → group_checks C net (groups ++ others) from ≡ group_checks C net groups from ++ group_checks C net others (from + length (concat_places groups))
checks_joined C net [] others from = ap (group_checks C net others) (let e : from ≡ from + 0 = omega arith in e)
checks_joined C net (group ∷ groups) others from =
    let first : List NodeOf = parity_nodes C.inputs from (map net (outputs_at C group)) in
    ap (λ (rest : List NodeOf). parity_nodes C.inputs from (map net (outputs_at C group)) ++ rest)
    (checks_joined C net groups others (from + length group)
    ∙ ap (λ (k : ℕ). group_checks C net groups (from + length group) ++ group_checks C net others k)
    (let e : from + length group + length (concat_places groups) ≡ from + length (group ++ concat_places groups) = omega (arith, length-append group (concat_places groups)) in e))
    ∙ sym (append_assoc first (group_checks C net groups (from + length group)) (group_checks C net others (from + length (group ++ concat_places groups))))

nets_joined : (inputs : ℕ) (groups others : List (List ℕ)) (from : ℕ)
    → group_check_nets inputs (groups ++ others) from ≡ group_check_nets inputs groups from ++ group_check_nets inputs others (from + length (concat_places groups))
nets_joined inputs [] others from = ap (group_check_nets inputs others) (let e : from ≡ from + 0 = omega arith in e)
nets_joined inputs (group ∷ groups) others from =
    ap (λ (rest : List ℕ). (inputs + (from + length group - 1)) ∷ rest)
    (nets_joined inputs groups others (from + length group)
    ∙ ap (λ (k : ℕ). group_check_nets inputs groups (from + length group) ++ group_check_nets inputs others k)
    (let e : from + length group + length (concat_places groups) ≡ from + length (group ++ concat_places groups) = omega (arith, length-append group (concat_places groups)) in e))

module _ (T : Circuit) (watched : ℕ) where
  -- the checks of groups of the outputs are the same where registers are shown too
  checks_same : (net : ℕ → ℕ) (groups : List (List ℕ)) (from : ℕ) → All (λ place. place < length T.outputs) (concat_places groups)
      → group_checks (widened (showing watched T)) net groups from ≡ group_checks (widened T) net groups from
  checks_same net [] from within = refl
  checks_same net (group ∷ groups) from within =
      ap₂ (λ (nets : List ℕ) (rest : List NodeOf). parity_nodes (widened T).inputs from (map net nets) ++ rest)
      (map_agrees (λ place. place < length T.outputs) (slice_index (showing watched T).outputs) (slice_index T.outputs) (shown_output T watched) group
      (all_left (λ place. place < length T.outputs) group (concat_places groups) within))
      (checks_same net groups (from + length group) (all_right (λ place. place < length T.outputs) group (concat_places groups) within))

  module _ (groups : List (List ℕ)) where
    -- where the nodes of the watch begin
    abbrev pub watch_from : ℕ
    watch_from = length T.nodes + length T.nodes + length (concat_places groups)

    -- the nodes of the check of the watch
    abbrev pub watch_nodes : List NodeOf
    watch_nodes = group_checks (widened (showing watched T)) (copied_net T) (with_watch (length T.outputs) watched []) watch_from

    -- the checks are those of the groups, and then the watch's
    pub twin_checks_are : All (λ place. place < length T.outputs) (concat_places groups)
        → twin_checks (showing watched T) (watched_groups watched T groups) ≡ twin_checks T groups ++ watch_nodes
    twin_checks_are within =
        ap (λ gs. group_checks (widened (showing watched T)) (copied_net T) gs (length T.nodes + length T.nodes)) (watch_last (length T.outputs) watched groups)
        ∙ checks_joined (widened (showing watched T)) (copied_net T) groups (with_watch (length T.outputs) watched []) (length T.nodes + length T.nodes)
        ∙ ap (λ nodes. nodes ++ watch_nodes) (checks_same (copied_net T) groups (length T.nodes + length T.nodes) within)

    -- and so are their nets
    pub twin_check_nets_are : twin_check_nets (showing watched T) (watched_groups watched T groups)
        ≡ twin_check_nets T groups ++ group_check_nets (widened T).inputs (with_watch (length T.outputs) watched []) watch_from
    twin_check_nets_are =
        ap (λ gs. group_check_nets (widened T).inputs gs (length T.nodes + length T.nodes)) (watch_last (length T.outputs) watched groups)
        ∙ nets_joined (widened T).inputs groups (with_watch (length T.outputs) watched []) (length T.nodes + length T.nodes)

-- how many places the groups have with that of the watch
pub watched_counted : (T : Circuit) (watched : ℕ) (groups : List (List ℕ)) → length (concat_places (watched_groups watched T groups)) ≡ length (concat_places groups) + watched
watched_counted T zero groups = omega arith
watched_counted T (suc more) groups =
    omega (
      arith,
      ap length (concat_push groups (range_with_len (length T.outputs) (suc more))),
      length-append (concat_places groups) (range_with_len (length T.outputs) (suc more)),
      length-range_with_len (length T.outputs) (suc more),
    )

-- the check of the watch stands after those of the groups
pub watch_check_is : (T : Circuit) (more : ℕ) (groups : List (List ℕ))
    → group_check_nets (widened T).inputs (with_watch (length T.outputs) (suc more) []) (watch_from T (suc more) groups) ≡ watch_check (suc more) T groups ∷ []
watch_check_is T more groups =
    ap (λ (n : ℕ). ((widened T).inputs + (length T.nodes + length T.nodes + length (concat_places groups) + n - 1)) ∷ []) (length-range_with_len (length T.outputs) (suc more))
