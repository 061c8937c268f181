-- The steps of writing a duplex netlist: what is composed, and that it is the stated netlist, of few covers.
use Rattle.std.proofs.Common.{◌≡◌, ℕ, ◌+◌, ◌*◌, ◌^◌, ◌<◌, ◌≤◌, List, length, sym, ◌∙◌, ap, subst, arith}
use Rattle.std.proofs.lemmas.List.{length-map}
use Rattle.fault_secure.specs.Circuit.{nets}
use Rattle.fault_secure.specs.CodePlan.{concat_places}
use Rattle.fault_secure.specs.Size.{network_size}
use Rattle.tsc_bits.specs.Lists.{AreApart}
use Rattle.tsc_net.specs.NetlistOf.{NetlistOf, IsBuilt}
use Rattle.tsc_net.specs.Order.{fan_ins, evaluation_order, IsOrder}
use Rattle.tsc_net.specs.Parts.{PartsOf}
use Rattle.tsc_net.specs.PartsView.{text_of, texts_of}
use Rattle.tsc_net.specs.declared.ids.Name.{Name}
use Rattle.parity_code.specs.FirstFit.{AreFirstFit, first_fit_groups}
use Rattle.parity_code.specs.Predictors.{with_copies, copy_text}
use Rattle.parity_code.proofs.PredictorParts.{fresh_names_count}
use Rattle.code_checkers.specs.GateList.{GateList, IsCheckerOf}
use Rattle.code_checkers.specs.Within.{ReadsWord}
use Rattle.parity_synth.proofs.Bounded.{square_large}
use Rattle.parity_synth.proofs.Room.{cone_few, nodes_within, gates_few}
use Rattle.parity_synth.specs.CheckedNet.{kept_places, plan_of}
use Rattle.duplex_synth.specs.DuplexNet.{duplex_checks, duplex_circuit, duplex_bound}
use Rattle.duplex_synth.specs.Duplexable.{IsDuplexable}
use Rattle.parity_code.specs.SharedParts.{with_shared, shared_texts}
use Rattle.duplex_synth.proofs.CheckSteps.{checks_count, texts_count}
use Rattle.parity_synth.proofs.DraftExact.{nodes_few}
use Rattle.duplex_synth.proofs.DuplexDraft.{duplex_draft, cone, logic_sized, counted, is_draft}

-- how many names the copy and the checks have
pub shared_count : (S : NetlistOf) (kept : List ℕ) (groups : List (List ℕ)) (p : PartsOf) → length (with_shared S kept groups p).names ≡ length p.names + (length kept + length (concat_places groups))
unfolding with_copies
shared_count S kept groups p = omega (arith, checks_count S.circuit (copy_text S kept p) groups (with_copies S kept p), fresh_names_count (length kept) p)

-- there is a check for each group
pub shared_paired : (S : NetlistOf) (kept : List ℕ) (groups : List (List ℕ)) (p : PartsOf) (texts : List (List ℕ)) (checks : List Name) → texts_of texts checks ≡ shared_texts S kept groups p → length checks ≡ length groups
shared_paired S kept groups p texts checks are = sym (length-map checks (text_of texts)) ∙ ap length are ∙ texts_count S.circuit (copy_text S kept p) groups (with_copies S kept p)

-- a source with its groups and the gates of their checker has a duplex netlist
pub is_duplexable : (S : NetlistOf) (groups : List (List ℕ)) (places : List ℕ) (made : GateList) → IsBuilt S → length S.circuit.latches ≡ 0 → length S.circuit.outputs ≤ 64 → AreApart S.circuit.outputs
    → S.circuit.inputs + 3 * network_size S.circuit ≤ 1048576 → places ≡ evaluation_order (fan_ins S.circuit) → IsOrder (fan_ins S.circuit) places → AreFirstFit S.circuit groups → groups ≡ first_fit_groups S.circuit
    → IsCheckerOf (plan_of S.circuit (duplex_checks S.circuit) 0 0) made → ReadsWord (plan_of S.circuit (duplex_checks S.circuit) 0 0) made → IsDuplexable S made
is_duplexable S groups places made checked none few once small is whole fit are gates words = record {
  checked = checked;
  none = none;
  few = few;
  once = once;
  small = small;
  order = subst (IsOrder (fan_ins S.circuit)) is whole;
  fit = subst (AreFirstFit S.circuit) are fit;
  gates = gates;
  words = words;
}

module _ (S : NetlistOf) (made : GateList) (h : IsDuplexable S made) where
  -- there is room for the names
  pub names_room : (kept : List ℕ) (groups : List (List ℕ)) → kept ≡ kept_places S.circuit → groups ≡ first_fit_groups S.circuit
      → nets S.circuit + (length kept + length (concat_places groups)) + length made.gates < 2 ^ 32
  names_room kept groups same are =
      let room = (is_draft S made h).room in
      omega (arith, room, logic_sized S made h, ap (λ (list : List ℕ). length list) same, ap (λ (gs : List (List ℕ)). length (concat_places gs)) are)

  -- the netlist has few covers
  pub nodes_bounded : length (duplex_circuit S.circuit).nodes ≤ duplex_bound S.circuit
  nodes_bounded =
      omega (
        arith,
        nodes_few (duplex_draft S made) (is_draft S made h),
        logic_sized S made h,
        counted S made h,
        gates_few S.circuit (duplex_checks S.circuit) made h.gates h.fit,
        cone_few S.circuit S.circuit.outputs (kept_places S.circuit) (cone S made h),
        nodes_within S.circuit,
        square_large (length S.circuit.outputs),
      )
