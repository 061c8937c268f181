use Rattle.std.proofs.Common.{◌≡◌, ℕ, ◌*◌, length, ap, sym, ◌∙◌, subst}
use Rattle.std.proofs.lemmas.List.{length-map}
use Rattle.std.proofs.lemmas.List.FromFn.{length-map-range_with_len}
use Rattle.fault_secure.specs.CodePlan.{HasWidth}
use Rattle.tsc_net.specs.Names.{place_of_text}
use Rattle.tsc_net.specs.Parts.{fresh_text}
use Rattle.tsc_net.specs.PlanView.{net_numbers}
use Rattle.net_writing.specs.Rails.{EndsInRails}
use Rattle.machine_synth.proofs.synthesis.plan_of.Goals as goal

pub machine_plan-requires-clause-width : goal.machine_plan-requires-clause-width
machine_plan-requires-clause-width c =
    let checks : length c.as_slice.result.now ≡ c.args.count =
    ap length c.as_slice.ensures.whole ∙ sym (length-map c.in_ok-checks.checks _) ∙ ap length c.in_ok-checks.ensures.nets
    ∙ length-map-range_with_len (λ (k : ℕ). place_of_text c.args.net.now.names (fresh_text c.args.number k)) (2 * c.args.codes.now.n) c.args.count in
    subst (HasWidth c.args.code c.args.machine.now.table.outputs) (sym checks) c.requires.width

pub returns-clause-checks : goal.returns-clause-checks
returns-clause-checks c = c.in_ok-plan.ensures.checks ∙ ap net_numbers c.as_slice.ensures.whole ∙ c.in_ok-checks.ensures.nets

pub returns-clause-rails : goal.returns-clause-rails
returns-clause-rails c =
    let outputs = c.args.net.now.circuit.outputs in
    let P = c.in_ok-plan.plan in
    let shown : P.outputs ≡ c.outputs.result = c.in_ok-plan.ensures.plan.outputs ∙ sym c.outputs.ensures.outputs in
    subst (λ (m : ℕ). EndsInRails outputs m P.rail1 P.rail2) (sym shown)
    (subst (λ (m : ℕ). EndsInRails outputs c.outputs.result P.rail1 m) (sym c.in_ok-plan.ensures.second)
    (subst (λ (m : ℕ). EndsInRails outputs c.outputs.result m c.rails_of-rails.result.1.number) (sym c.in_ok-plan.ensures.first) c.rails_of-rails.ensures.rails))
