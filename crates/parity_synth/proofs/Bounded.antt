-- A parity netlist has few nodes: at most one for each of the source, for each of them and each output in the predictors, and for each
-- gate of the checker, which are as many as a few for each output.
use Rattle.std.proofs.Common.{◌≡◌, ℕ, ◌+◌, ◌*◌, ◌^◌, ◌≤◌, List, length, sym, ◌∙◌, ap, subst, arith}
use Rattle.std.proofs.Math.Nat.{pow-suc, pow-zero}
use Rattle.std.proofs.lemmas.Nat.{mul-le}
use Rattle.fault_secure.specs.Size.{network_size}
use Rattle.tsc_net.specs.NetlistOf.{NetlistOf}
use Rattle.parity_code.specs.FirstFit.{first_fit_groups}
use Rattle.parity_code.proofs.PredictorsCounted.{predictors_counted}
use Rattle.code_checkers.specs.GateList.{GateList}
use Rattle.parity_synth.specs.CheckedNet.{kept_places}
use Rattle.parity_synth.specs.ParityNet.{parity_groups, parity_checks, parity_nodes, parity_netlist}
use Rattle.parity_synth.proofs.DraftExact.{nodes_few}
use Rattle.parity_synth.proofs.ParityDraft.{IsComposable, parity_draft, is_draft}
use Rattle.parity_synth.proofs.Room.{cone_few, ends_at, nodes_within, places_counted, gates_few}

-- a square is no less than its side
pub square_large : (n : ℕ) → n + 1 ≤ (n + 1) ^ 2
square_large n =
    let none : (n + 1) ^ 0 ≡ 1 = pow-zero (n + 1) in
    let side : (n + 1) ^ 1 ≡ n + 1 = pow-suc (n + 1) 0 ∙ ap (λ (m : ℕ). m * (n + 1)) none ∙ (let e : 1 * (n + 1) ≡ n + 1 = omega arith in e) in
    let square : (n + 1) ^ 2 ≡ (n + 1) * (n + 1) = pow-suc (n + 1) 1 ∙ ap (λ (m : ℕ). m * (n + 1)) side in
    omega (arith, square)

module _ (S : NetlistOf) (made : GateList) (h : IsComposable S made) where
  pub nodes_bounded : length (parity_nodes S.circuit) ≤ 4 * ((length (first_fit_groups S.circuit) + 2) * network_size S.circuit + S.circuit.inputs + 16 * (length S.circuit.outputs + 1) ^ 2)
  nodes_bounded =
      let size = nodes_within S.circuit in
      let copies : length (first_fit_groups S.circuit) * length S.circuit.nodes ≤ length (first_fit_groups S.circuit) * network_size S.circuit
      = mul-le (length (first_fit_groups S.circuit)) (length S.circuit.nodes) (length (first_fit_groups S.circuit)) (network_size S.circuit) (omega arith) size in
      omega (
        arith,
        nodes_few (parity_draft S made) (is_draft S made h),
        cone_few S.circuit S.circuit.outputs (kept_places S.circuit) h.cone,
        size,
        copies,
        places_counted S.circuit (first_fit_groups S.circuit) h.fit,
        predictors_counted S.circuit (parity_groups S.circuit) (length (kept_places S.circuit)) h.cones,
        ends_at S.circuit (first_fit_groups S.circuit) (length (kept_places S.circuit)) h.cones,
        gates_few S.circuit (parity_checks S.circuit) made h.gates h.fit,
        square_large (length S.circuit.outputs),
      )

  -- and so the netlist, over groups that are named otherwise
  pub netlist_bounded : (N : NetlistOf) (groups : List (List ℕ)) → N ≡ parity_netlist S → groups ≡ first_fit_groups S.circuit
      → length N.circuit.nodes ≤ 4 * ((length groups + 2) * network_size S.circuit + S.circuit.inputs + 16 * (length S.circuit.outputs + 1) ^ 2)
  netlist_bounded N groups is same =
      subst (λ (gs : List (List ℕ)). length N.circuit.nodes ≤ 4 * ((length gs + 2) * network_size S.circuit + S.circuit.inputs + 16 * (length S.circuit.outputs + 1) ^ 2)) (sym same)
      (subst (λ (k : ℕ). k ≤ 4 * ((length (first_fit_groups S.circuit) + 2) * network_size S.circuit + S.circuit.inputs + 16 * (length S.circuit.outputs + 1) ^ 2))
      (sym (ap (λ (M : NetlistOf). length M.circuit.nodes) is)) nodes_bounded)
