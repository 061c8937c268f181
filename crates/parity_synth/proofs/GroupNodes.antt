-- The predictors of groups by names, over the numbers of names: each of them, as one copy with one check over it, and the checks.
use Rattle.std.proofs.Common.{◌≡◌, ℕ, ◌+◌, ◌-◌, ◌<◌, ◌≤◌, List, [], ◌∷◌, ◌++◌, map, length, slice_index, All, refl, sym, ◌∙◌, ap, ap₂, subst, arith, length-append}
use Rattle.std.proofs.lemmas.List.Elements.{All-nil, All-cons, All-head, All-tail}
use Rattle.fault_secure.specs.Closed.{IsClosed}
use Rattle.tsc_net.specs.Names.{text_at}
use Rattle.tsc_net.specs.NetlistOf.{NetlistOf}
use Rattle.tsc_net.specs.Parts.{PartsOf, fresh_text}
use Rattle.net_cones.specs.ConeMarks.{cone_of}
use Rattle.parity_code.specs.Copy.{IsCopied}
use Rattle.parity_code.specs.ParityFunction.{outputs_at}
use Rattle.parity_code.specs.ParityCircuit.{IsGroupCone, predictor_nodes, all_predictors, check_nets}
use Rattle.parity_code.specs.Predictors.{with_predictor, with_predictors, last_name, check_texts, predictors_size}
use Rattle.parity_code.specs.SharedParts.{with_shared}
use Rattle.parity_code.proofs.OutputsCopied.{outputs_copied}
use Rattle.parity_code.proofs.ParityCircuit.{length-predictor_nodes}
use Rattle.parity_code.proofs.PredictorsForetell.{predictor_shared}
use Rattle.parity_synth.specs.ParityNet.{group_cone_of}
use Rattle.parity_synth.proofs.FreshOrder.{IsFreshAt, adds_none}
use Rattle.parity_synth.proofs.PredictorNodes.{Writes, writes_fresh, writes_joined}
use Rattle.parity_synth.proofs.SharedNodes.{shared_written, shared_numbered}

module _ (S : NetlistOf) (net : List ℕ → ℕ) (number kept last : ℕ) (none : length S.circuit.latches ≡ 0) (closed : IsClosed S.circuit)
    (inputs : (i : ℕ) → i < S.circuit.inputs → net (text_at S.names i) ≡ i)
    (fresh : (k : ℕ) → k < last → net (fresh_text number k) ≡ S.circuit.inputs + (kept + k)) where
  module _ (group : List ℕ) (is : IsGroupCone S.circuit (group_cone_of S.circuit group)) (count : ℕ) (p : PartsOf) (at : IsFreshAt number count p)
      (room : count + (length (cone_of S.circuit (outputs_at S.circuit group)) + length group) ≤ last) where
    enough : count + (length (cone_of S.circuit (outputs_at S.circuit group)) + length (group ++ [])) ≤ last
    enough = omega (arith, room, length-append group [])

    filled : All (λ (g : List ℕ). 0 < length g) (group ∷ [])
    filled = All-cons (λ (g : List ℕ). 0 < length g) group [] is.filled (All-nil (λ (g : List ℕ). 0 < length g))

    copied : All (λ g. All (IsCopied S.circuit (cone_of S.circuit (outputs_at S.circuit group))) (outputs_at S.circuit g)) (group ∷ [])
    copied =
        All-cons (λ g. All (IsCopied S.circuit (cone_of S.circuit (outputs_at S.circuit group))) (outputs_at S.circuit g)) group []
        (outputs_copied S.circuit none closed (cone_of S.circuit (outputs_at S.circuit group)) group is.cone is.within)
        (All-nil (λ g. All (IsCopied S.circuit (cone_of S.circuit (outputs_at S.circuit group))) (outputs_at S.circuit g)))

    -- the predictor of a group is written
    pub predictor_written : Writes net number count p (with_predictor S group p) (predictor_nodes S.circuit (cone_of S.circuit (outputs_at S.circuit group)) group (kept + count))
    unfolding with_predictor
    predictor_written =
        subst (Writes net number count p (with_shared S (cone_of S.circuit (outputs_at S.circuit group)) (group ∷ []) p)) (predictor_shared S.circuit (cone_of S.circuit (outputs_at S.circuit group)) group (kept + count))
        (shared_written S net number kept last none closed inputs fresh (outputs_at S.circuit group) (cone_of S.circuit (outputs_at S.circuit group)) is.cone (group ∷ []) filled copied count p at enough)

    -- and the last of its names has the number of its check
    pub predictor_check : net (last_name (with_predictor S group p)) ≡ S.circuit.inputs + (kept + count + length (cone_of S.circuit (outputs_at S.circuit group)) + length group - 1)
    unfolding with_predictor
    predictor_check =
        ap (λ (list : List ℕ). slice_index list 0)
        (shared_numbered S net number kept last none closed inputs fresh (outputs_at S.circuit group) (cone_of S.circuit (outputs_at S.circuit group)) is.cone (group ∷ []) filled copied count p at enough)

  -- the predictors of groups are written
  pub predictors_written : (groups : List (List ℕ)) (count : ℕ) (p : PartsOf) → All (IsGroupCone S.circuit) (map (group_cone_of S.circuit) groups) → IsFreshAt number count p → count + predictors_size S.circuit groups ≤ last
      → Writes net number count p (with_predictors S groups p) (all_predictors S.circuit (map (group_cone_of S.circuit) groups) (kept + count))
  predictors_written [] count p all at room = record { added = []; adds = adds_none number count p at; are = refl }
  predictors_written (group ∷ groups) count p all at room =
      let size = length (cone_of S.circuit (outputs_at S.circuit group)) + length group in
      let is = All-head (IsGroupCone S.circuit) (group_cone_of S.circuit group) (map (group_cone_of S.circuit) groups) all in
      let one = predictor_written group is count p at (omega arith) in
      let counted = length-predictor_nodes S.circuit (cone_of S.circuit (outputs_at S.circuit group)) group (kept + count) is.filled in
      let behind = subst (λ (n : ℕ). IsFreshAt number (count + n) (with_predictor S group p)) counted
      (writes_fresh net number count p (with_predictor S group p) (predictor_nodes S.circuit (cone_of S.circuit (outputs_at S.circuit group)) group (kept + count)) one) in
      let rest = predictors_written groups (count + size) (with_predictor S group p) (All-tail (IsGroupCone S.circuit) (group_cone_of S.circuit group) (map (group_cone_of S.circuit) groups) all) behind (omega arith) in
      let from : kept + (count + size) ≡ kept + count + size = omega arith in
      writes_joined net number count (count + size) p (with_predictor S group p) (with_predictors S groups (with_predictor S group p))
      (predictor_nodes S.circuit (cone_of S.circuit (outputs_at S.circuit group)) group (kept + count)) (all_predictors S.circuit (map (group_cone_of S.circuit) groups) (kept + count + size))
      (ap (λ (n : ℕ). count + n) (sym counted)) one
      (subst (λ (b : ℕ). Writes net number (count + size) (with_predictor S group p) (with_predictors S groups (with_predictor S group p)) (all_predictors S.circuit (map (group_cone_of S.circuit) groups) b)) from rest)

  -- and the numbers of their checks are the stated nets
  pub checks_are : (groups : List (List ℕ)) (count : ℕ) (p : PartsOf) → All (IsGroupCone S.circuit) (map (group_cone_of S.circuit) groups) → IsFreshAt number count p → count + predictors_size S.circuit groups ≤ last
      → map net (check_texts S groups p) ≡ check_nets S.circuit.inputs (map (group_cone_of S.circuit) groups) (kept + count)
  checks_are [] count p all at room = refl
  checks_are (group ∷ groups) count p all at room =
      let size = length (cone_of S.circuit (outputs_at S.circuit group)) + length group in
      let is = All-head (IsGroupCone S.circuit) (group_cone_of S.circuit group) (map (group_cone_of S.circuit) groups) all in
      let one = predictor_written group is count p at (omega arith) in
      let counted = length-predictor_nodes S.circuit (cone_of S.circuit (outputs_at S.circuit group)) group (kept + count) is.filled in
      let behind = subst (λ (n : ℕ). IsFreshAt number (count + n) (with_predictor S group p)) counted
      (writes_fresh net number count p (with_predictor S group p) (predictor_nodes S.circuit (cone_of S.circuit (outputs_at S.circuit group)) group (kept + count)) one) in
      let rest = checks_are groups (count + size) (with_predictor S group p) (All-tail (IsGroupCone S.circuit) (group_cone_of S.circuit group) (map (group_cone_of S.circuit) groups) all) behind (omega arith) in
      let here : net (last_name (with_predictor S group p)) ≡ S.circuit.inputs + (kept + count + size - 1) = predictor_check group is count p at (omega arith) ∙ omega arith in
      let from : kept + (count + size) ≡ kept + count + size = omega arith in
      ap₂ (λ (n : ℕ) (list : List ℕ). n ∷ list) here (rest ∙ ap (check_nets S.circuit.inputs (map (group_cone_of S.circuit) groups)) from)
