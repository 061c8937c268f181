-- What the lines of outputs and checks are, after their negations were pushed to the inputs.
use Rattle.std.proofs.Common.{◌≡◌, ℕ, ◌+◌, ◌-◌, Bool, false, List, [], ◌∷◌, ◌++◌, map, take, drop, length, sym, ◌∙◌, ap, ap₂, length-append, arith}
use Rattle.std.proofs.lemmas.List.{length-map, map-append}
use Rattle.std.proofs.lemmas.List.Elements.{recursion_from_All}
use Rattle.std.specs.List.{AllByRecursion}
use Rattle.fault_secure.specs.Circuit.{Circuit, bit}
use Rattle.fault_secure.specs.StuckAt.StuckAt.{NoFault}
use Rattle.fault_secure.specs.Settle.{Settles, Acyclic}
use Rattle.fault_secure.specs.OneRun.{HasOneValuation}
use Rattle.fault_secure.proofs.OneRun.{one_valuation}
use Rattle.fault_secure.specs.declared.code.Code.{Code}
use Rattle.fault_secure.specs.declared.code.Code.TheVariants.{Parity, Berger, MOutOfN}
use Rattle.mofn_code.specs.CheckBits.{check_bits}
use Rattle.fault_secure.specs.CodePlan.{IsUnorderedCode}
use Rattle.tsc_bits.specs.Counting.{zeros}
use Rattle.tsc_bits.specs.Thermometer.{thermo}
use Rattle.tsc_bits.proofs.Lists.{front, back}
use Rattle.tsc_bits.proofs.Thermometers.{thermo_length}
use Rattle.gate_net.specs.declared.line.Line.{Line}
use Rattle.gate_net.specs.Gates.{GateNetwork, IsHashed, AreLines, IsLine, meaning, meanings, line_value, line_values}
use Rattle.gate_net.specs.NetLines.{MeanInputs}
use Rattle.gate_net.specs.Growth.{Grows}
use Rattle.gate_net.specs.Negations.{NegatesOnlyInputs}
use Rattle.gate_net.proofs.Kept.{values_kept}
use Rattle.gate_net.proofs.Signs.{lines_negate}
use Rattle.push_negations.specs.NormalForm.{phases_of}
use Rattle.push_negations.specs.Pushed.{HaveValues}
use Rattle.unate_synth.specs.UnateLines.{ComputesChecks, AreWordLines, AreUnateLines}

-- what is known of checks whatever the code
grown_checks : (code : Code) (old new : GateNetwork) (outputs checks : List Line) → ComputesChecks code old new outputs checks → Grows old new
grown_checks Parity old new outputs checks made = absurd made
grown_checks Berger old new outputs checks made = made.grows
grown_checks MOutOfN old new outputs checks made = made.grows

unordered : (code : Code) (old new : GateNetwork) (outputs checks : List Line) → ComputesChecks code old new outputs checks → IsUnorderedCode code
unordered Parity old new outputs checks made = absurd made
unordered Berger old new outputs checks made = tt
unordered MOutOfN old new outputs checks made = tt

-- the checks have the values of those that are stated of the outputs' values
check_values : (code : Code) (old new : GateNetwork) (outputs checks : List Line) (x s : ℕ → Bool) → ComputesChecks code old new outputs checks
    → line_values new x s checks ≡ check_bits code (length checks) (line_values old x s outputs)
check_values Parity old new outputs checks x s made = absurd made
check_values Berger old new outputs checks x s made = made.values x s
check_values MOutOfN old new outputs checks x s made =
    let bits : List Bool = line_values old x s outputs in
    let many : length outputs ≡ length checks =
    sym (thermo_length (length outputs) (zeros bits)) ∙ ap length (sym (made.values x s)) ∙ length-map checks (line_value new x s) in
    made.values x s ∙ ap (λ n. thermo n (zeros bits)) many

-- without latches the state bits are free
any_state : (C : Circuit) (x s t : ℕ → Bool) (v : List Bool) → length C.latches ≡ 0 → Settles C NoFault x t v → Settles C NoFault x s v
any_state C x s t v none settles = record { sized = settles.sized; inputs = settles.inputs; latches = λ l lt. absurd (omega arith); nodes = settles.nodes }

-- there is a line for each output
pub lines_counted : (C : Circuit) (first : GateNetwork) (outputs : List Line) → Acyclic C
    → ((x s : ℕ → Bool) (v : List Bool) → Settles C NoFault x s v → line_values first x s outputs ≡ map (bit v) C.outputs) → length outputs ≡ length C.outputs
lines_counted C first outputs acyclic values =
    let one : HasOneValuation C NoFault (λ _. false) (λ _. false) = one_valuation C NoFault (λ _. false) (λ _. false) acyclic in
    sym (length-map outputs (line_value first (λ _. false) (λ _. false)))
    ∙ ap length (values (λ _. false) (λ _. false) one.valuation one.settles)
    ∙ length-map C.outputs (bit one.valuation)

module _ (C : Circuit) (code : Code) (first grown pushed : GateNetwork) (outputs word lines : List Line) (none : length C.latches ≡ 0) (acyclic : Acyclic C)
    (within : AreLines first outputs) (values : (x s : ℕ → Bool) (v : List Bool) → Settles C NoFault x s v → line_values first x s outputs ≡ map (bit v) C.outputs)
    (made : AreWordLines code first grown outputs word) (count : length lines ≡ length word) (kept : HaveValues grown word pushed lines) where
  grows : Grows first grown
  grows = grown_checks code first grown outputs made.checks made.computes

  -- there is a line for each output
  as_many : length outputs ≡ length C.outputs
  as_many = lines_counted C first outputs acyclic values

  -- the values of the word are those of the outputs and of the checks
  parted : (x s : ℕ → Bool) → line_values pushed x s lines ≡ line_values first x s outputs ++ line_values grown x s made.checks
  parted x s =
      kept x s
      ∙ ap (line_values grown x s) made.joined
      ∙ map-append (line_value grown x s) outputs made.checks
      ∙ ap (λ bits. bits ++ line_values grown x s made.checks) (values_kept first grown x s outputs grows within)

  answered : (x s t : ℕ → Bool) (v : List Bool) → Settles C NoFault x t v → take (length C.outputs) (line_values pushed x s lines) ≡ map (bit v) C.outputs
  answered x s t v settles =
      let sized : length (line_values first x s outputs) ≡ length C.outputs = length-map outputs (line_value first x s) ∙ as_many in
      ap (take (length C.outputs)) (parted x s)
      ∙ front (length C.outputs) (line_values first x s outputs) (line_values grown x s made.checks) sized
      ∙ values x s v (any_state C x s t v none settles)

  -- after the outputs stand their checks
  stated : (x s : ℕ → Bool) → drop (length C.outputs) (line_values pushed x s lines)
      ≡ check_bits code (length lines - length C.outputs) (take (length C.outputs) (line_values pushed x s lines))
  stated x s =
      let ys : List Bool = line_values first x s outputs in
      let cs : List Bool = line_values grown x s made.checks in
      let sized : length ys ≡ length C.outputs = length-map outputs (line_value first x s) ∙ as_many in
      let long : length word ≡ length outputs + length made.checks = ap length made.joined ∙ length-append outputs made.checks in
      let many : length made.checks ≡ length lines - length C.outputs = omega (arith, as_many, long, count) in
      ap (drop (length C.outputs)) (parted x s)
      ∙ back (length C.outputs) ys cs sized
      ∙ check_values code first grown outputs made.checks x s made.computes
      ∙ ap₂ (λ n bits. check_bits code n bits) many (sym (ap (take (length C.outputs)) (parted x s) ∙ front (length C.outputs) ys cs sized))

  pub unate_lines : IsHashed pushed → NegatesOnlyInputs pushed → AreLines pushed lines → AreUnateLines C code pushed lines
  unate_lines sound negates there = record {
    unordered = unordered code first grown outputs made.checks made.computes;
    negate = lines_negate pushed lines sound negates there;
    answers = answered;
    checks = stated;
  }

-- the line of an output that is an input means that input still, where the word was pushed to negation normal form
module _ (C : Circuit) (G H K : GateNetwork) (grows : Grows G H) where
  kept_inputs_by : (nets : List ℕ) (outputs checks made : List Line) → AllByRecursion (IsLine G) outputs → MeanInputs C G nets outputs
      → meanings K made ≡ map (λ signal. (phases_of signal).positive) (meanings H (outputs ++ checks)) → MeanInputs C K nets (take (length nets) made)
  kept_inputs_by [] [] checks made all mean same = tt
  kept_inputs_by [] (line ∷ outputs) checks made all mean same = absurd mean
  kept_inputs_by (net ∷ nets) [] checks made all mean same = absurd mean
  kept_inputs_by (net ∷ nets) (line ∷ outputs) checks [] all mean same = cc
  kept_inputs_by (net ∷ nets) (line ∷ outputs) checks (top ∷ made) all mean same =
      let head : meaning K top ≡ (phases_of (meaning H line)).positive = cc in
      let rest : meanings K made ≡ map (λ signal. (phases_of signal).positive) (meanings H (outputs ++ checks)) = cc in (
        (λ low. head ∙ ap (λ signal. (phases_of signal).positive) (grows.keeps line all.0 ∙ mean.0 low)),
        kept_inputs_by nets outputs checks made all.1 mean.1 rest,
      )

  pub kept_inputs : (nets : List ℕ) (outputs checks word made : List Line) → AreLines G outputs → MeanInputs C G nets outputs → word ≡ outputs ++ checks
      → meanings K made ≡ map (λ signal. (phases_of signal).positive) (meanings H word) → MeanInputs C K nets (take (length nets) made)
  kept_inputs nets outputs checks word made lines mean joined same =
      kept_inputs_by nets outputs checks made (recursion_from_All (IsLine G) outputs lines) mean (same ∙ ap (λ list. map (λ signal. (phases_of signal).positive) (meanings H list)) joined)
