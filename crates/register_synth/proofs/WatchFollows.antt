-- The check of the watch is what its chain makes of the copied registers, so that the watch is one.
use Rattle.std.specs.List.{range_with_len}
use Rattle.std.proofs.Common.{◌≡◌, ℕ, suc, ◌+◌, ◌<◌, ◌≤◌, inl, inr, Bool, not, List, [], ◌∷◌, ◌++◌, map, length, slice_index, refl, sym, ap, ◌∙◌, subst, arith, length-append}
use Rattle.std.proofs.lemmas.Bool.{cases_lt}
use Rattle.std.proofs.lemmas.List.{append-nil, append_assoc, length-map, ext_get_or}
use Rattle.std.proofs.lemmas.List.FromFn.{length-range_with_len, get_or-range_with_len, get_or-map-range_with_len, length-map-range_with_len}
use Rattle.std.proofs.lemmas.List.Elements.{All-nil, All-cons, All-from_get_or}
use Rattle.std.proofs.lemmas.Simd.{map-map}
use Rattle.tsc_cover.specs.Gates.{not_cover}
use Rattle.tsc_bits.specs.Counting.{odd}
use Rattle.tsc_bits.proofs.Lists.{map_agrees}
use Rattle.fault_secure.specs.Circuit.{Circuit, NodeOf, node, node_net, nets, latch_net, bit, gate}
use Rattle.fault_secure.specs.Closed.{IsClosed}
use Rattle.fault_secure.specs.CodePlan.{concat_places}
use Rattle.fault_secure.specs.Depends.{Depends}
use Rattle.fault_secure.specs.Depends.Depends.{itself, through}
use Rattle.fault_secure.specs.Stretch.{StretchSettles}
use Rattle.parity_code.specs.Chain.{IsChain}
use Rattle.parity_code.specs.ParityCircuit.{chain_nodes, chain_end, parity_nodes, StandAt}
use Rattle.parity_code.specs.ParityFunction.{outputs_at}
use Rattle.parity_code.proofs.ParityCircuit.{stand_left, stand_right, chain_stands, length-chain_nodes}
use Rattle.parity_code.proofs.GroupStands.{checks_sized, checks_foretell}
use Rattle.register_laws.specs.RegisterPlan.{IsWatchList}
use Rattle.register_laws.specs.Watch.{DriversSettle, WatchSettles, IsWatchOf, register_nets}
use Rattle.register_synth.specs.TwinNet.{copied_net, own_place, copied_place, widened, twin_covers, twin_checks}
use Rattle.register_synth.specs.TwinCircuit.{showing, twin_circuit, twin_logic, twin_rail1, twin_rail2, watched_plan, watch_check}
use Rattle.register_synth.proofs.TwinMade.{IsGrouping, covers_counted, first_net, latches_counted, copied_latch}
use Rattle.register_synth.proofs.GatesStand.{all_stand}
use Rattle.register_synth.proofs.WatchedGroups.{once_in, stretch_below, shown_registers}
use Rattle.register_synth.proofs.WatchedChecks.{watch_from, watch_nodes, twin_checks_are, watch_check_is}
use Rattle.register_synth.proofs.WatchedTwin.{twin_checker, begins_own}

-- ---- what a check depends on

module _ (N : Circuit) where
  -- the end of a chain depends on what the net does that it starts with
  chain_depends : (q from made : ℕ) (ns : List ℕ) (last : ℕ) → from + length ns ≤ length N.nodes → IsChain N from made ns last → Depends N q made → Depends N q last
  chain_depends q from made [] last fits is d = subst (Depends N q) (sym is) d
  chain_depends q from made (n ∷ ns) last fits is d =
      let reads : (node N from).reads ≡ made ∷ (n ∷ []) = ap (λ (m : NodeOf). m.reads) is.0 in
      chain_depends q (suc from) (node_net N from) ns last (omega arith) is.1
      (through (node_net N from) from 0 (omega arith) refl (omega (arith, ap length reads)) (subst (λ list. Depends N q (slice_index list 0)) (sym reads) d))

  -- and on each of its nodes
  chain_nodes_depend : (q from made : ℕ) (ns : List ℕ) (last : ℕ) → from + length ns ≤ length N.nodes → IsChain N from made ns last → from ≤ q → q < from + length ns → Depends N q last
  chain_nodes_depend q from made [] last fits is low high = absurd (omega arith)
  chain_nodes_depend q from made (n ∷ ns) last fits is low high = elim (cases_lt from q) [
    | inl later ↦ chain_nodes_depend q (suc from) (node_net N from) ns last (omega arith) is.1 (omega arith) (omega arith)
    | inr here ↦ chain_depends q (suc from) (node_net N from) ns last (omega arith) is.1 (itself (node_net N from) (omega arith) (ap (node_net N) (let e : from ≡ q = omega arith in e)))
  ]

  -- a check depends on each of its nodes
  check_depends : (inputs : ℕ) → ((j : ℕ) → node_net N j ≡ inputs + j) → (from first : ℕ) (rest : List ℕ) → StandAt N from (parity_nodes inputs from (first ∷ rest))
      → (q : ℕ) → from ≤ q → q < from + length rest + 1 → Depends N q (node_net N (from + length rest))
  check_depends inputs nets from first rest stand q low high = elim (cases_lt q (from + length rest)) [
    | inl chain ↦ through (node_net N (from + length rest)) (from + length rest) 0 (omega (arith, negation.fits)) refl (omega (arith, ap length reads))
        (subst (λ list. Depends N q (slice_index list 0)) (sym reads)
        (chain_nodes_depend q from first rest (chain_end inputs from first rest) (omega (arith, negation.fits)) chained low chain))
    | inr end ↦ itself (node_net N (from + length rest)) (omega (arith, negation.fits)) (ap (node_net N) (let e : from + length rest ≡ q = omega arith in e))
  ]
    where
      chained : IsChain N from first rest (chain_end inputs from first rest)
      chained = chain_stands N inputs nets from first rest (stand_left N from (chain_nodes inputs from first rest) (gate not_cover (chain_end inputs from first rest ∷ []) ∷ []) stand)

      negation : StandAt N (from + length rest) (gate not_cover (chain_end inputs from first rest ∷ []) ∷ [])
      negation =
          subst (λ k. StandAt N (from + k) (gate not_cover (chain_end inputs from first rest ∷ []) ∷ [])) (length-chain_nodes inputs from first rest)
          (stand_right N from (chain_nodes inputs from first rest) (gate not_cover (chain_end inputs from first rest ∷ []) ∷ []) stand)

      reads : (node N (from + length rest)).reads ≡ chain_end inputs from first rest ∷ []
      reads = ap (λ (n : NodeOf). n.reads) (ap (node N) (let e : from + length rest ≡ from + length rest + 0 = omega arith in e) ∙ negation.each 0 (omega arith))

-- ---- the watch

-- numbers from a place on, by those from 0 on
range_shift : (a n : ℕ) → range_with_len a n ≡ map (λ l. a + l) (range_with_len 0 n)
range_shift a n =
    ext_get_or 0 (range_with_len a n) (map (λ l. a + l) (range_with_len 0 n)) (length-range_with_len a n ∙ sym (length-map-range_with_len (λ l. a + l) 0 n))
    (λ i h.
    let low : i < n = omega (arith, h, length-range_with_len a n) in
    get_or-range_with_len a n i 0 low ∙ sym (get_or-map-range_with_len (λ l. a + l) 0 n i i 0 low (omega arith)))

module _ (more : ℕ) (T : Circuit) (groups : List (List ℕ)) (closed : IsClosed T) (grouping : IsGrouping (length T.outputs) groups) (all : suc more ≡ length T.latches) where
  abbrev N : Circuit
  N = twin_circuit (suc more) T groups

  abbrev from : ℕ
  from = watch_from T (suc more) groups

  abbrev places : List ℕ
  places = range_with_len (length T.outputs) (suc more)

  net_at : (j : ℕ) → node_net N j ≡ (widened T).inputs + j
  net_at = first_net T N groups (twin_rail1 (suc more) T groups) (twin_rail2 (suc more) T groups) closed (begins_own (suc more) T groups grouping.within)

  -- the nodes of the watch stand after the checks of the groups
  watch_stands : StandAt N from (watch_nodes T (suc more) groups)
  watch_stands =
      subst (λ k. StandAt N k (watch_nodes T (suc more) groups))
      (let e : 0 + length (twin_covers T ++ twin_checks T groups) ≡ from
      = omega (
        arith,
        length-append (twin_covers T) (twin_checks T groups),
        covers_counted T,
        checks_sized (widened T) N (copied_net T) net_at groups (length T.nodes + length T.nodes),
      ) in e)
      (stand_right N 0 (twin_covers T ++ twin_checks T groups) (watch_nodes T (suc more) groups)
      (subst (StandAt N 0)
      (ap (λ nodes. twin_covers T ++ nodes) (twin_checks_are T (suc more) groups grouping.within) ∙ sym (append_assoc (twin_covers T) (twin_checks T groups) (watch_nodes T (suc more) groups)))
      (stand_left N 0 (twin_logic (suc more) T groups) (twin_checker (suc more) T groups) (all_stand N))))

  watch_fits : from + suc more ≤ length N.nodes
  watch_fits =
      omega (
        arith,
        watch_stands.fits,
        checks_sized (widened (showing (suc more) T)) N (copied_net T) net_at (places ∷ []) from,
        ap length (append-nil places),
        length-range_with_len (length T.outputs) (suc more),
      )

  check_at : watch_check (suc more) T groups ≡ node_net N (from + more)
  check_at = omega (arith, net_at (from + more))

  -- the check depends on each of them
  watch_depends : (q : ℕ) → from ≤ q → q < from + suc more → Depends N q (watch_check (suc more) T groups)
  watch_depends q low high =
      let rest : List ℕ = map (copied_net T) (outputs_at (showing (suc more) T) (range_with_len (length T.outputs + 1) more)) in
      let count : length (map (copied_net T) (outputs_at (showing (suc more) T) (range_with_len (length T.outputs + 1) more))) ≡ more
      = length-map (outputs_at (showing (suc more) T) (range_with_len (length T.outputs + 1) more)) (copied_net T)
      ∙ length-map (range_with_len (length T.outputs + 1) more) (slice_index (showing (suc more) T).outputs) ∙ length-range_with_len (length T.outputs + 1) more in
      subst (Depends N q) (ap (λ k. node_net N (from + k)) count ∙ sym check_at)
      (check_depends N (widened T).inputs net_at from (copied_net T (slice_index (showing (suc more) T).outputs (length T.outputs))) rest
      (subst (StandAt N from) (append-nil (parity_nodes (widened T).inputs from (map (copied_net T) (outputs_at (showing (suc more) T) places)))) watch_stands)
      q low (omega (arith, high, count)))

  settles : (v : List Bool) → DriversSettle N (watch_check (suc more) T groups) v → StretchSettles N v from (from + length (concat_places (places ∷ [])))
  settles v drivers = record {
    nodes = λ j low high.
        let inside : j < from + suc more = omega (arith, high, ap length (append-nil places), length-range_with_len (length T.outputs) (suc more)) in
        drivers.settles j (omega (arith, inside, watch_fits)) (watch_depends j low inside);
  }

  -- the copied registers
  copies_are : map (copied_net T) (outputs_at (showing (suc more) T) places) ≡ register_nets N (copied_place T) (range_with_len 0 (suc more))
  copies_are =
      ap (map (copied_net T)) (shown_registers T (suc more) ∙ range_shift T.inputs (suc more))
      ∙ map-map (copied_net T) (λ l. T.inputs + l) (range_with_len 0 (suc more))
      ∙ map_agrees (λ l. l < length T.latches) (λ l. copied_net T (T.inputs + l)) (λ l. latch_net N (length T.latches + l))
      (λ l h. omega (arith, copied_latch T (T.inputs + l) (omega arith) (omega arith))) (range_with_len 0 (suc more)) (stretch_below 0 (suc more) (length T.latches) (omega arith))

  follows : (v : List Bool) → DriversSettle N (watch_check (suc more) T groups) v → WatchSettles N (copied_place T) (range_with_len 0 (suc more)) (watch_check (suc more) T groups) v
  follows v drivers =
      ap (bit v) (sym (ap (λ ns. slice_index ns 0) (watch_check_is T more groups)))
      ∙ checks_foretell (widened (showing (suc more) T)) N (copied_net T) net_at v (places ∷ []) from
      (All-cons (λ group. 0 < length group) places [] (omega (arith, length-range_with_len (length T.outputs) (suc more))) (All-nil (λ group. 0 < length group)))
      watch_stands (settles v drivers) 0 (omega arith)
      ∙ ap (λ ns. not (odd (map (bit v) ns))) copies_are

  -- the twin's watch is one
  pub watch_is : IsWatchOf T (twin_circuit (suc more) T groups) (watched_plan (suc more) T groups) (own_place T) (copied_place T) (range_with_len 0 (suc more)) (watch_check (suc more) T groups)
  watch_is = record {
    listed = (0, omega arith, ap (λ ns. ns ++ watch_check (suc more) T groups ∷ []) (range_shift T.inputs (suc more)));
    within = stretch_below 0 (suc more) (length T.latches) (omega arith);
    once = λ l h. once_in l 0 (suc more) (omega arith) (omega arith);
    apart = λ l k low high e. omega arith;
    follows = follows;
  }

  -- and its list is of the netlist
  pub watch_list : IsWatchList (twin_circuit (suc more) T groups) (range_with_len T.inputs (suc more) ++ watch_check (suc more) T groups ∷ [])
  watch_list = record {
    registers = range_with_len T.inputs (suc more);
    check = watch_check (suc more) T groups;
    parts = refl;
    latches = All-from_get_or (λ net. (N.inputs ≤ net) × (net < N.inputs + length N.latches)) (range_with_len T.inputs (suc more)) 0 at;
    once = λ a b low high e. (
        let many = length-range_with_len T.inputs (suc more) in
        omega (arith, many, get_or-range_with_len T.inputs (suc more) a 0 (omega (arith, many)), get_or-range_with_len T.inputs (suc more) b 0 (omega (arith, many))));
    inside = omega (arith, check_at, watch_fits);
  }
    where
      counted : length N.latches ≡ length T.latches + length T.latches
      counted = latches_counted T N groups (twin_rail1 (suc more) T groups) (twin_rail2 (suc more) T groups) closed (begins_own (suc more) T groups grouping.within)

      at : (i : ℕ) → i < length (range_with_len T.inputs (suc more)) → (N.inputs ≤ slice_index (range_with_len T.inputs (suc more)) i) × (slice_index (range_with_len T.inputs (suc more)) i < N.inputs + length N.latches)
      at i h =
          let low : i < suc more = omega (arith, h, length-range_with_len T.inputs (suc more)) in
          let is = get_or-range_with_len T.inputs (suc more) i 0 low in
          (omega (arith, is), omega (arith, is, counted))
