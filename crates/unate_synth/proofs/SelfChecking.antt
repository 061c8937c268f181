-- A composed netlist with a plan is self-checking for its network.
use Rattle.std.proofs.Common.{◌≡◌, ℕ, ◌+◌, Bool, List, [], ◌∷◌, ◌++◌, take, drop, length, refl, sym, ◌∙◌, ap, ap₂, subst, append-nil, length-append, arith, ◌-◌}
use Rattle.std.proofs.lemmas.List.{length-map, map-append, length-take-le, take-map, take-append-drop, take_all}
use Rattle.std.proofs.lemmas.List.Elements.{All-take, All-drop}
use Rattle.std.specs.List.{AllZip}
use Rattle.fault_secure.specs.Circuit.{Circuit}
use Rattle.fault_secure.specs.Closed.{IsClosed}
use Rattle.fault_secure.specs.Settle.{Acyclic}
use Rattle.mofn_code.specs.CheckBits.{check_bits}
use Rattle.fault_secure.specs.CodePlan.{CodePlan, IsWellMade, IsPlanOf, IsChecked, monitored, word, outputs_of, checks_of}
use Rattle.fault_secure.specs.Logic.Logic.{Network}
use Rattle.gate_net.specs.Signal.{Signal, values}
use Rattle.gate_net.specs.Gates.{GateNetwork, meanings, line_value, line_values}
use Rattle.gate_net.specs.declared.line.Line.{Line}
use Rattle.gate_net.specs.Realised.{AllRealise, RealisesRoot, NegatesInputs}
use Rattle.gate_net.proofs.Kept.{values_of_meanings}
use Rattle.gate_net.proofs.Realised.{all_values}
use Rattle.unate_synth.specs.UnateNetlist.{IsUnateFunction, HasStatedChecks}
use Rattle.code_checkers.specs.SelfChecking.{IsSelfChecking}
use Rattle.unate_synth.specs.UnateLines.{AreUnateLines}
use Rattle.unate_synth.specs.Composed.{IsComposed}
use Rattle.unate_synth.proofs.StatedChecks.{checks_sized, stated_checked, width_of}
use Rattle.unate_synth.proofs.UnateJoin.{self_checking as unate_is_checking, no_nets}

-- lists that match end to end match at the front and at the back
module _ {A B : Type 0} (R : A → B → Type 0) where
  zip_front : (xs : List A) (ms ns : List B) → AllZip R xs (ms ++ ns) → AllZip R (take (length ms) xs) ms
  zip_front xs [] ns zip = tt
  zip_front [] (m ∷ ms) ns zip = absurd zip
  zip_front (x ∷ xs) (m ∷ ms) ns zip = (zip.0, zip_front xs ms ns zip.1)

  zip_back : (xs : List A) (ms ns : List B) → AllZip R xs (ms ++ ns) → AllZip R (drop (length ms) xs) ns
  zip_back xs [] ns zip = zip
  zip_back [] (m ∷ ms) ns zip = absurd zip
  zip_back (x ∷ xs) (m ∷ ms) ns zip = zip_back xs ms ns zip.1

  zip_length : (xs : List A) (ms : List B) → AllZip R xs ms → length xs ≡ length ms
  zip_length [] [] zip = refl
  zip_length [] (m ∷ ms) zip = absurd zip
  zip_length (x ∷ xs) [] zip = absurd zip
  zip_length (x ∷ xs) (m ∷ ms) zip = let e : length xs ≡ length ms = zip_length xs ms zip.1 in omega arith

module _ (C N : Circuit) (P : CodePlan) (hi : ℕ) (G : GateNetwork) (lines : List Line) (latchless : length N.latches ≡ 0) (sized : P.outputs ≡ length C.outputs)
    (made : IsWellMade P) (plan : IsPlanOf N P) (unate : AreUnateLines C P.code G lines) (stand : AllRealise N hi (meanings G lines) (monitored N P)) where
  signals : List Signal
  signals = meanings G lines

  outs : List ℕ
  outs = take P.outputs N.outputs

  outs_counted : length outs ≡ P.outputs
  unfolding outs
  outs_counted = length-take-le P.outputs N.outputs (let e : length N.outputs ≡ P.outputs + 2 = plan.outputs in omega arith)

  watched : monitored N P ≡ outs ++ P.checks
  unfolding outs
  watched = ap (λ nets. (take P.outputs N.outputs ++ P.checks) ++ nets) (no_nets N latchless) ∙ append-nil (take P.outputs N.outputs ++ P.checks)

  both_stand : AllRealise N hi signals (outs ++ P.checks)
  unfolding signals
  both_stand = subst (AllRealise N hi (meanings G lines)) watched stand

  total : P.outputs + length P.checks ≡ length lines
  unfolding signals
  total =
      let long : length (meanings G lines) ≡ length (outs ++ P.checks) = zip_length (RealisesRoot N hi) (meanings G lines) (outs ++ P.checks) both_stand in
      let many : length (meanings G lines) ≡ length lines = length-map lines _ in
      let parts : length (outs ++ P.checks) ≡ length outs + length P.checks = length-append outs P.checks in
      let front : length outs ≡ P.outputs = outs_counted in omega arith

  values_are : (x s : ℕ → Bool) → values x s signals ≡ line_values G x s lines
  unfolding signals
  values_are x s = sym (values_of_meanings G x s lines)

  joined : (x s : ℕ → Bool) → values x s (take P.outputs signals) ++ values x s (drop P.outputs signals) ≡ line_values G x s lines
  joined x s = sym (map-append _ (take P.outputs signals) (drop P.outputs signals)) ∙ ap (values x s) (take-append-drop P.outputs signals) ∙ values_are x s

  -- after the outputs the lines have the stated checks of the outputs
  checks_are : (x s : ℕ → Bool) → drop P.outputs (line_values G x s lines) ≡ check_bits P.code (length P.checks) (take P.outputs (line_values G x s lines))
  checks_are x s =
      let many : length lines - length C.outputs ≡ length P.checks = omega (arith, total, sized) in
      ap (λ n. drop n (line_values G x s lines)) sized ∙ unate.checks x s
      ∙ ap₂ (λ m n. check_bits P.code m (take n (line_values G x s lines))) many (sym sized)

  lines_checked : (x s : ℕ → Bool) → IsChecked P.code P (line_values G x s lines)
  lines_checked x s =
      let bits : List Bool = line_values G x s lines in
      let ys : List Bool = take P.outputs bits in
      let front : length ys ≡ P.outputs = length-take-le P.outputs bits (omega (arith, total, length-map lines (line_value G x s))) in
      let width = width_of P.code P unate.unordered made.shape in
      subst (IsChecked P.code P)
      (append-nil (ys ++ check_bits P.code (length P.checks) ys) ∙ ap (λ cs. ys ++ cs) (sym (checks_are x s)) ∙ take-append-drop P.outputs bits)
      (stated_checked P.code P ys [] unate.unordered front width.0)

  -- so the checks are the stated ones of the outputs, where the netlist settles
  pub stated_checks : HasStatedChecks N P
  stated_checks x s v settles =
      let bits : List Bool = line_values G x s lines in
      let is : word N P v ≡ bits = all_values N hi x s v (meanings G lines) (monitored N P) settles stand ∙ sym (values_of_meanings G x s lines) in
      let rest : length (drop P.outputs bits) ≡ length P.checks = ap length (checks_are x s) ∙ checks_sized P.code (length P.checks) (take P.outputs bits) unate.unordered in
      ap (λ w. checks_of P w) is ∙ take_all (length P.checks) (drop P.outputs bits) (omega (arith, rest)) ∙ checks_are x s
      ∙ ap (λ w. check_bits P.code (length P.checks) (outputs_of P w)) (sym is)

  pub unate_function : IsUnateFunction C N P hi
  unfolding outs signals
  unate_function = record {
    code = unate.unordered;
    latchless = latchless;
    outputs = take P.outputs signals;
    checks = drop P.outputs signals;
    outputs_stand = subst (λ n. AllRealise N hi (take n signals) outs) outs_counted (zip_front (RealisesRoot N hi) signals outs P.checks both_stand);
    checks_stand = subst (λ n. AllRealise N hi (drop n signals) P.checks) outs_counted (zip_back (RealisesRoot N hi) signals outs P.checks both_stand);
    outputs_negate = All-take NegatesInputs P.outputs signals unate.negate;
    checks_negate = All-drop NegatesInputs P.outputs signals unate.negate;
    answers = λ x s t v settles.
        sym (take-map _ P.outputs signals) ∙ ap (take P.outputs) (values_are x s) ∙ ap (λ n. take n (line_values G x s lines)) sized ∙ unate.answers x s t v settles;
    checked = λ x s. subst (IsChecked P.code P) (sym (joined x s)) (lines_checked x s);
  }

-- a netlist that is composed of gates for a network's lines is self-checking
pub self_checking : (C N : Circuit) (P : CodePlan) (G : GateNetwork) (lines : List Line) → Acyclic C → Acyclic N → IsClosed N → IsWellMade P → IsPlanOf N P → length N.latches ≡ 0 → P.outputs ≡ length C.outputs
    → AreUnateLines C P.code G lines → IsComposed N P (meanings G lines) → IsSelfChecking (Network C) N P
self_checking C N P G lines source acyclic closed well plan latchless sized unate c =
    unate_is_checking C N P c.top source acyclic closed well plan (unate_function C N P c.top G lines latchless sized well plan unate c.stand) c.rails
