-- The rails of a self-checking netlist are two nets, and no output before them is one; so its outputs differ where those do.
use Rattle.std.proofs.Common.{◌≡◌, ◌<◌, inl, inr, ◌+◌, ℕ, [], ◌++◌, take, length, slice_index, Contains, sym, ◌∙◌, ap, subst, arith, get_or-take, length-take-le}
use Rattle.std.proofs.lemmas.Bool.{cases_lt}
use Rattle.std.proofs.lemmas.List.Elements.{Contains-get_or, Contains-append_left}
use Rattle.fault_secure.specs.Circuit.{Circuit, bit}
use Rattle.fault_secure.specs.StuckAt.{NoFault}
use Rattle.fault_secure.specs.Run.{init_state}
use Rattle.fault_secure.specs.CodePlan.{CodePlan, monitored, next_nets}
use Rattle.fault_secure.specs.Depends.Depends.{itself}
use Rattle.fault_secure.specs.Logic.{Logic, reset_of}
use Rattle.fault_secure.specs.OneRun.{HasOneValuation}
use Rattle.fault_secure.specs.Structure.{IsDrivenOutside}
use Rattle.fault_secure.proofs.OneRun.{one_valuation}
use Rattle.code_checkers.specs.SelfChecking.{IsSelfChecking}
use Rattle.tsc_bits.specs.Lists.{AreApart}

module _ (M : Logic) (N : Circuit) (P : CodePlan) (is : IsSelfChecking M N P) where
  -- the two rails differ, since they do where the word is a codeword, as it is in the first step
  pub rails_apart : P.rail1 ≡ P.rail2 → ⊥
  rails_apart same =
      let one : HasOneValuation N NoFault (bit []) (bit (init_state N)) = one_valuation N NoFault (bit []) (bit (init_state N)) is.structure.acyclic in
      let codeword = is.follows.codewords (reset_of M) (init_state N) [] one.valuation is.follows.starts one.settles in
      let decides = is.structure.checker.decides one.valuation (record { settles = λ q there inside. one.settles.nodes q there }) in
      decides.1 codeword (ap (bit one.valuation) same)

  -- what a node outside the function drives is no monitored net
  unmonitored : (net : ℕ) → IsDrivenOutside N P net → Contains (monitored N P) net → ⊥
  unmonitored net driven has = driven.outside (record { net = net; monitors = has; depends = itself net driven.is_node driven.drives })

  -- there are the plan's outputs, and two more
  counted : length (take P.outputs N.outputs) ≡ P.outputs
  counted = let c = is.structure.plan_of.outputs in length-take-le {A = ℕ} P.outputs N.outputs (omega (arith, c))

  -- an output before the rails is monitored
  output_monitored : (a : ℕ) → a < P.outputs → Contains (monitored N P) (slice_index N.outputs a)
  output_monitored a low =
      let at : slice_index (take P.outputs N.outputs) a ≡ slice_index N.outputs a = get_or-take P.outputs N.outputs a 0 low in
      let here : Contains (take P.outputs N.outputs) (slice_index N.outputs a) = subst (Contains (take P.outputs N.outputs)) at (Contains-get_or (take P.outputs N.outputs) a 0 (omega (arith, low, counted))) in
      Contains-append_left (take P.outputs N.outputs ++ P.checks) (next_nets N) (slice_index N.outputs a) (Contains-append_left (take P.outputs N.outputs) P.checks (slice_index N.outputs a) here)

  -- a rail is no output before them
  rail_apart : (a net : ℕ) → a < P.outputs → IsDrivenOutside N P net → slice_index N.outputs a ≡ net → ⊥
  rail_apart a net low driven same = unmonitored net driven (subst (Contains (monitored N P)) same (output_monitored a low))

  -- so all outputs differ where these do
  pub outputs_apart : AreApart (take P.outputs N.outputs) → AreApart N.outputs
  outputs_apart apart a b less low same = elim (cases_lt b P.outputs) [
    | inl own ↦ (
        let lower : a < P.outputs = omega (arith, less, own) in
        apart a b less (omega (arith, own, counted)) (get_or-take P.outputs N.outputs a 0 lower ∙ same ∙ sym (get_or-take P.outputs N.outputs b 0 own)))
    | inr behind ↦ elim (cases_lt b (P.outputs + 1)) [
      | inl first ↦ (
          let at : b ≡ P.outputs = omega (arith, behind, first) in
          rail_apart a P.rail1 (omega (arith, less, at)) is.structure.rails.first (same ∙ ap (slice_index N.outputs) at ∙ is.structure.plan_of.rail1))
      | inr second ↦ (
          let sized = is.structure.plan_of.outputs in
          let at : b ≡ P.outputs + 1 = omega (arith, second, low, sized) in
          elim (cases_lt a P.outputs) [
            | inl own ↦ rail_apart a P.rail2 own is.structure.rails.second (same ∙ ap (slice_index N.outputs) at ∙ is.structure.plan_of.rail2)
            | inr rail ↦ (
                let here : a ≡ P.outputs = omega (arith, rail, less, at) in
                rails_apart (sym is.structure.plan_of.rail1 ∙ sym (ap (slice_index N.outputs) here) ∙ same ∙ ap (slice_index N.outputs) at ∙ is.structure.plan_of.rail2))
          ])
    ]
  ]
