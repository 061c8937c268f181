use Rattle.std.proofs.Common.{◌≡◌, ◌∙◌, ℕ, ◌+◌, ◌-◌, List, length, ap, refl, sym, subst, arith}
use Rattle.std.proofs.lemmas.List.{length-map}
use Rattle.std.proofs.lemmas.List.FromFn.{length-map-range_with_len}
use Rattle.fault_secure.specs.declared.code.Code.{Code}
use Rattle.fault_secure.specs.CodePlan.{HasWidth, IsUnorderedCode}
use Rattle.fault_secure.specs.Logic.Logic.{Network}
use Rattle.tsc_net.specs.declared.ids.NetId.{NetId}
use Rattle.tsc_net.specs.Names.{place_of_text}
use Rattle.tsc_net.specs.NetlistOf.{IsBuilt}
use Rattle.tsc_net.specs.PlanView.{net_numbers}
use Rattle.code_checkers.specs.GateList.{IsCheckerOf}
use Rattle.code_checkers.specs.SelfChecking.{IsSelfChecking}
use Rattle.code_checkers.proofs.Sizes.{checker-few}
use Rattle.code_checkers.proofs.SizedWords.{same_sizes, checker_of}
use Rattle.net_writing.specs.CheckerParts.{IsCheckerOver}
use Rattle.unate_synth.specs.UnateLines.{AreUnateLines}
use Rattle.unate_synth.specs.UnateNetlist.{IsUnateNetlist, fresh_name}
use Rattle.unate_synth.proofs.Exact.{check_named, planned}
use Rattle.unate_synth.proofs.PlanLemmas.{latchless}
use Rattle.unate_synth.proofs.Sizes.{few-checks, netlist-few}
use Rattle.unate_synth.proofs.StatedChecks.{width_of}
use Rattle.unate_synth.proofs.synthesis.planned.Goals as goal
use Rattle.unate_synth.proofs.synthesis.planned.Goals.{In_ok-plan}

-- as many nets as numbers
counted : (nets : List NetId) (list : List ℕ) → net_numbers nets ≡ list → length nets ≡ length list
counted nets list are = sym (length-map nets (λ net. net.number)) ∙ ap length are

pub unordered_checker-requires-clause-plan : goal.unordered_checker-requires-clause-plan
unordered_checker-requires-clause-plan c =
    let C = c.args.source.now.circuit in
    let outputs = counted c.outputs-outputs.result.now C.outputs c.outputs-outputs.ensures.outputs in
    let count : length c.args.made.now.outputs - length C.outputs ≡ c.len.result - length c.outputs-outputs.result.now = omega (arith, outputs, c.len.ensures.count) in
    let width = subst (HasWidth c.args.code _) count (subst (λ (n : ℕ). HasWidth c.args.code n (length c.args.made.now.outputs - length C.outputs)) (sym outputs) c.requires.width) in
    latchless _ (omega (arith, outputs, c.nets-source.ensures.checked.closed.some_output)) (omega (arith, outputs, c.requires.few)) width refl refl

pub network_netlist-requires-clause-few : goal.network_netlist-requires-clause-few
network_netlist-requires-clause-few c =
    omega (arith, few-checks c.args.code _ _ c.requires.width c.requires.few, counted _ _ c.outputs-outputs.ensures.outputs, c.len.ensures.count)

pub network_netlist-requires-clause-gates : goal.network_netlist-requires-clause-gates
network_netlist-requires-clause-gates c =
    let shown = length c.outputs-outputs.result.now in
    let total : shown + (c.len.result - shown) + 0 ≡ length c.args.made.now.outputs = omega (arith, counted _ _ c.outputs-outputs.ensures.outputs, c.len.ensures.count, c.requires.longer) in
    subst (λ (n : ℕ). IsCheckerOver n c.in_ok-gates.gates) total c.in_ok-gates.ensures.over

pub plan_of-requires-clause-width : goal.plan_of-requires-clause-width
plan_of-requires-clause-width c =
    let C = c.args.source.now.circuit in
    let count : length c.args.made.now.outputs - length C.outputs ≡ c.len.result - length c.outputs-outputs.result.now = omega (arith, counted _ _ c.outputs-outputs.ensures.outputs, c.len.ensures.count) in
    subst (HasWidth c.args.code (length C.outputs)) count c.requires.width

pub plan_of-requires-clause-named : goal.plan_of-requires-clause-named
plan_of-requires-clause-named c = check_named c.args.source.now c.in_ok-net.net _ c.in_ok-net.ensures.net.parts

-- the plan has as many checks as there are
checks_counted : (c : In_ok-plan) → length c.in_ok-plan.plan.checks ≡ c.len.result - length c.outputs-outputs.result.now
checks_counted c = ap length c.in_ok-plan.ensures.checks ∙ length-map-range_with_len (λ (k : ℕ). place_of_text c.in_ok-net.net.names (fresh_name c.args.source.now k)) 0 _

unordered : (c : In_ok-plan) → IsUnorderedCode c.in_ok-plan.plan.code
unordered c = subst IsUnorderedCode (sym c.in_ok-plan.ensures.code) c.requires.unordered

-- so the gates are its checker
is_checker : (c : In_ok-plan) → IsCheckerOf c.in_ok-plan.plan c.in_ok-gates.gates
is_checker c =
    let P = c.in_ok-plan.plan in
    let outputs = c.in_ok-plan.ensures.outputs ∙ sym (counted _ _ c.outputs-outputs.ensures.outputs) in
    checker_of _ _ P c.in_ok-gates.gates (same_sizes P _ c.in_ok-plan.ensures.code outputs (checks_counted c) c.in_ok-plan.ensures.latchless c.in_ok-plan.ensures.weightless)
    (width_of P.code P (unordered c) c.in_ok-plan.ensures.well_made.shape).1 c.in_ok-gates.ensures.made

-- the netlist with the plan is a unate netlist, and self-checking
whole : (c : In_ok-plan)
    → IsUnateNetlist c.args.source.now c.in_ok-net.net c.in_ok-plan.plan × IsSelfChecking (Network c.args.source.now.circuit) c.in_ok-net.net.circuit c.in_ok-plan.plan
whole c =
    planned c.args.source.now c.in_ok-net.net c.in_ok-plan.plan c.args.made.now.gates c.args.made.now.outputs c.in_ok-gates.gates _ c.nets-source.ensures.checked (subst IsBuilt c.net.view_is c.net.invariant.checked)
    c.requires.combinational c.in_ok-net.ensures.net c.in_ok-plan.ensures.outputs c.in_ok-plan.ensures.checks c.in_ok-plan.ensures.rails c.in_ok-plan.ensures.latchless c.in_ok-plan.ensures.version (unordered c)
    c.in_ok-plan.ensures.well_made (is_checker c) (omega (arith, few-checks c.args.code _ _ c.requires.width c.requires.few, counted _ _ c.outputs-outputs.ensures.outputs, c.len.ensures.count))
    (subst (λ (code : Code). AreUnateLines c.args.source.now.circuit code c.args.made.now.gates c.args.made.now.outputs) (sym c.in_ok-plan.ensures.code) c.requires.unate)

pub returns : goal.returns
returns c = record {
  secure = (whole (goal.at.returns c).In_ok-plan).1;
  exact = (whole (goal.at.returns c).In_ok-plan).0;
  code = c.in_ok-plan.ensures.code;
  few =
      netlist-few c.args.source.now.circuit c.args.code c.in_ok-plan.plan (length c.args.made.now.gates.gates) (length c.args.made.now.outputs) (length c.in_ok-gates.gates.gates) _ (length c.in_ok-net.net.circuit.nodes)
      c.in_ok-plan.ensures.code c.requires.unordered c.in_ok-plan.ensures.outputs (omega (arith, checks_counted (goal.at.returns c).In_ok-plan, counted _ _ c.outputs-outputs.ensures.outputs, c.len.ensures.count)) c.in_ok-plan.ensures.latchless
      c.requires.width c.nets-source.ensures.checked.closed.some_output c.requires.few c.requires.gates (omega (arith, c.requires.longer)) (checker-few c.in_ok-plan.plan c.in_ok-gates.gates (is_checker (goal.at.returns c).In_ok-plan)) c.in_ok-net.ensures.net.few;
}
