-- The plan of a twin, and what is promised of it.
use Rattle.std.specs.List.{range_with_len}
use Rattle.std.proofs.Common.{◌≡◌, ℕ, zero, suc, ◌+◌, ◌-◌, ◌<◌, ◌≤◌, inl, inr, if◌then◌else◌, Bool, true, false, List, [], ◌∷◌, ◌++◌, map, length, slice_index, Option, refl, sym, ap, ap₂, ◌∙◌, subst, arith, length-append}
use Rattle.std.proofs.lemmas.List.{length-map, get_or-append-add}
use Rattle.fault_secure.specs.Circuit.{Circuit, nets}
use Rattle.fault_secure.specs.Closed.{IsClosed}
use Rattle.fault_secure.specs.CodePlan.{CodePlan, concat_places}
use Rattle.tsc_net.specs.NetlistOf.{NetlistOf}
use Rattle.blif_read.specs.declared.clocks.Clock.{Clock}
use Rattle.parity_synth.specs.CheckedNet.{plan_over}
use Rattle.parity_synth.specs.Planning.{AreGrouped}
use Rattle.parity_code.specs.GroupChecks.{group_check_nets}
use Rattle.register_laws.specs.RegisterPlan.{RegisterPlan}
use Rattle.register_synth.specs.Kept.{AreKept, kept_net, kept_part}
use Rattle.register_synth.specs.RegisterGroups.{AreRegisterGroups}
use Rattle.register_synth.specs.TwinNet.{own_net, widened, twin_check_nets}
use Rattle.register_synth.specs.TwinCircuit.{twin_rail1, twin_rail2, twin_circuit, twin_watches, watched_plan, IsWholeTwin}
use Rattle.register_synth.proofs.PartGroups.{grouping}
use Rattle.blif_write.specs.RegisterText.{lists_of}
use Rattle.twin_synth.specs.TwinNetlist.{twin_netlist, register_plan, watched_of, IsTwinNetlist}
use Rattle.twin_synth.specs.inner.Planned.{IsWatchCount, IsMadeTwin, watch_over}
use Rattle.twin_synth.proofs.TwinCopies.{counted_latches, counted_nodes}
use Rattle.twin_synth.proofs.TwinComposed.{latches_twice}

-- the groups are those of a plan
pub plan_groups : (C : Circuit) (groups : List (List ℕ)) (outputs : ℕ) → AreRegisterGroups C groups → outputs ≡ length C.outputs → AreGrouped outputs groups
plan_groups C groups outputs are long =
    let g = grouping C groups are in
    subst (λ n. AreGrouped n groups) (sym long) (record { filled = g.filled; within = g.within; once = g.once })

-- how many registers are watched
pub watched_is : (watching : Bool) (registers : List ℕ) (n watched : ℕ) → n ≡ length registers → watched ≡ (if watching then n else 0) → watched ≡ watched_of watching registers
watched_is true registers n watched e is = is ∙ e
watched_is false registers n watched e is = is

pub count_is : (watching : Bool) (registers : List ℕ) (n watched : ℕ) → n ≡ length registers → watched ≡ (if watching then n else 0) → IsWatchCount watched registers
count_is true registers n watched e is = inr (is ∙ e)
count_is false registers n watched e is = inl is

module _ (S : NetlistOf) (registers covers : List ℕ) (groups : List (List ℕ)) (watched : ℕ) where
  abbrev T : Circuit
  T = kept_part S.circuit registers covers

  outs_counted : length (map (own_net T) T.outputs) ≡ length S.circuit.outputs
  outs_counted = length-map T.outputs (own_net T) ∙ length-map S.circuit.outputs (kept_net S.circuit registers covers)

  -- the rails stand after the outputs
  pub outputs_counted : length (twin_circuit watched T groups).outputs ≡ length S.circuit.outputs + 2
  outputs_counted =
      omega (arith, outs_counted, length-append (map (own_net T) T.outputs) (twin_rail1 watched T groups ∷ twin_rail2 watched T groups ∷ []))

  pub rail_at : (k : ℕ) → slice_index (twin_circuit watched T groups).outputs (length S.circuit.outputs + k) ≡ slice_index (twin_rail1 watched T groups ∷ twin_rail2 watched T groups ∷ []) k
  rail_at k =
      ap (λ n. slice_index (twin_circuit watched T groups).outputs (n + k)) (sym outs_counted)
      ∙ get_or-append-add (map (own_net T) T.outputs) (twin_rail1 watched T groups ∷ twin_rail2 watched T groups ∷ []) k 0

  pub first_rail : slice_index (twin_circuit watched T groups).outputs (length S.circuit.outputs) ≡ twin_rail1 watched T groups
  first_rail = ap (slice_index (twin_circuit watched T groups).outputs) (let e : length S.circuit.outputs ≡ length S.circuit.outputs + 0 = omega arith in e) ∙ rail_at 0

  pub second_rail : slice_index (twin_circuit watched T groups).outputs (length S.circuit.outputs + 1) ≡ twin_rail2 watched T groups
  second_rail = rail_at 1

  -- the plan over the numbers of the code
  pub plan_is : (outputs first base : ℕ) (outs : List ℕ) → outputs ≡ length S.circuit.outputs → first ≡ S.circuit.inputs + (length registers + length registers) → base ≡ length covers + length covers
      → outs ≡ (twin_circuit watched T groups).outputs
      → plan_over outputs (group_check_nets first groups base) groups (slice_index outs outputs) (slice_index outs (outputs + 1))
      ≡ plan_over (length S.circuit.outputs) (twin_check_nets T groups) groups (twin_rail1 watched T groups) (twin_rail2 watched T groups)
  plan_is outputs first base outs long a b is =
      let head : first ≡ (widened T).inputs = omega (arith, a, counted_latches S.circuit registers covers) in
      let from : base ≡ length T.nodes + length T.nodes = omega (arith, b, counted_nodes S.circuit registers covers) in
      ap (λ (os : List ℕ). plan_over outputs (group_check_nets first groups base) groups (slice_index os outputs) (slice_index os (outputs + 1))) is
      ∙ ap (λ (n : ℕ). plan_over n (group_check_nets first groups base) groups (slice_index (twin_circuit watched T groups).outputs n) (slice_index (twin_circuit watched T groups).outputs (n + 1))) long
      ∙ ap₂ (λ (n m : ℕ). plan_over (length S.circuit.outputs) (group_check_nets n groups m) groups (slice_index (twin_circuit watched T groups).outputs (length S.circuit.outputs))
      (slice_index (twin_circuit watched T groups).outputs (length S.circuit.outputs + 1))) head from
      ∙ ap₂ (λ (r q : ℕ). plan_over (length S.circuit.outputs) (twin_check_nets T groups) groups r q) first_rail second_rail

-- what is watched
watches_are : (C : Circuit) (registers covers : List ℕ) (groups : List (List ℕ)) (watched : ℕ)
    → lists_of (watch_over C.inputs watched (C.inputs + (length registers + length registers) + (length covers + length covers + length (concat_places groups) + watched)))
    ≡ twin_watches watched (kept_part C registers covers) groups
watches_are C registers covers groups zero = refl
watches_are C registers covers groups (suc more) =
    let T : Circuit = kept_part C registers covers in
    let same : C.inputs + (length registers + length registers) + (length covers + length covers + length (concat_places groups) + suc more) - 1
    ≡ (widened T).inputs + (length T.nodes + length T.nodes + length (concat_places groups) + suc more - 1)
    = omega (arith, counted_latches C registers covers, counted_nodes C registers covers) in
    ap (λ (n : ℕ). (range_with_len C.inputs (suc more) ++ n ∷ []) ∷ []) same

module _ (S : NetlistOf) (clock : Option Clock) (watching : Bool) (registers covers : List ℕ) (groups : List (List ℕ)) (watched : ℕ) (N : NetlistOf) (P : CodePlan) (watch : List ℕ) where
  -- the promise
  pub promise : AreKept S.circuit registers covers → AreRegisterGroups S.circuit groups → watched ≡ watched_of watching registers → N ≡ twin_netlist S clock registers covers groups watched
      → IsMadeTwin S.circuit registers covers groups watched
      → P ≡ plan_over (length S.circuit.outputs) (twin_check_nets (kept_part S.circuit registers covers) groups) groups (twin_rail1 watched (kept_part S.circuit registers covers) groups)
      (twin_rail2 watched (kept_part S.circuit registers covers) groups)
      → watch ≡ watch_over S.circuit.inputs watched (S.circuit.inputs + (length registers + length registers) + (length covers + length covers + length (concat_places groups) + watched))
      → IsTwinNetlist S clock watching N P watch
  promise kept are counted net made plan watches = record {
    registers = registers;
    covers = covers;
    groups = groups;
    kept = kept;
    grouped = are;
    net = net ∙ ap (twin_netlist S clock registers covers groups) counted;
    plan = planned ∙ ap (λ (w : ℕ). watched_plan w (kept_part S.circuit registers covers) groups) counted;
    latches = ap (λ (p : CodePlan). p.latches) plan;
    whole = subst (λ w. IsWholeTwin S.circuit (kept_part S.circuit registers covers) registers covers groups w) counted made.whole;
    few = (let few = made.few in let same : length N.circuit.nodes ≡ length (twin_circuit watched (kept_part S.circuit registers covers) groups).nodes = ap (λ (M : NetlistOf). length M.circuit.nodes) net in
        omega (arith, few, same, counted));
  }
    where
      part : length (kept_part S.circuit registers covers).outputs ≡ length S.circuit.outputs
      part = length-map S.circuit.outputs (kept_net S.circuit registers covers)

      latches_are : length N.circuit.latches ≡ length (kept_part S.circuit registers covers).latches + length (kept_part S.circuit registers covers).latches
      latches_are = ap (λ (M : NetlistOf). length M.circuit.latches) net ∙ latches_twice (kept_part S.circuit registers covers)

      planned : register_plan (length N.circuit.latches) P watch ≡ watched_plan watched (kept_part S.circuit registers covers) groups
      planned =
          ap₂ (λ (p : CodePlan) (list : List ℕ). register_plan (length N.circuit.latches) p list) plan watches
          ∙ ap₂ (λ (n : ℕ) (lists : List (List ℕ)). let p : RegisterPlan = record {
            plan = record (plan_over (length S.circuit.outputs) (twin_check_nets (kept_part S.circuit registers covers) groups) groups (twin_rail1 watched (kept_part S.circuit registers covers) groups)
                (twin_rail2 watched (kept_part S.circuit registers covers) groups)) { latches = n };
            watches = lists;
          } in p) latches_are (watches_are S.circuit registers covers groups watched)
          ∙ ap (λ (n : ℕ). let p : RegisterPlan = record {
            plan = record (plan_over n (twin_check_nets (kept_part S.circuit registers covers) groups) groups (twin_rail1 watched (kept_part S.circuit registers covers) groups)
                (twin_rail2 watched (kept_part S.circuit registers covers) groups)) {
                  latches = length (kept_part S.circuit registers covers).latches + length (kept_part S.circuit registers covers).latches;
                };
            watches = twin_watches watched (kept_part S.circuit registers covers) groups;
          } in p) (sym part)
