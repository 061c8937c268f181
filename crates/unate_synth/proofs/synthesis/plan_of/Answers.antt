use Rattle.std.proofs.Common.{◌≡◌, ℕ, map, length, ap, ap₂, ◌∙◌, sym, subst, arith}
use Rattle.std.specs.List.{range_with_len}
use Rattle.std.proofs.lemmas.List.{length-map}
use Rattle.std.proofs.lemmas.List.FromFn.{length-map-range_with_len}
use Rattle.fault_secure.specs.CodePlan.{HasWidth}
use Rattle.tsc_net.specs.Names.{has_text, place_of_text}
use Rattle.tsc_net.specs.Parts.{fresh_text}
use Rattle.tsc_net.specs.PlanView.{net_numbers}
use Rattle.net_writing.specs.Rails.{EndsInRails}
use Rattle.unate_synth.proofs.Sizes.{few-checks}
use Rattle.unate_synth.proofs.synthesis.plan_of.Goals as goal

pub fresh_nets-requires-clause-named : goal.fresh_nets-requires-clause-named
fresh_nets-requires-clause-named c =
    λ k low. ap₂ (λ (n m : ℕ). has_text c.args.net.now.names (fresh_text n m)) c.in_ok-number.ensures.number (omega arith) ∙ c.requires.named k low

pub fresh_nets-requires-clause-few : goal.fresh_nets-requires-clause-few
fresh_nets-requires-clause-few c = let few = few-checks c.args.code _ _ c.requires.width c.requires.few in omega (arith, few)

pub unate_plan-requires-clause-width : goal.unate_plan-requires-clause-width
unate_plan-requires-clause-width c =
    let S = c.args.source.now.circuit in
    let outputs : length c.outputs-outputs.result.now ≡ length S.outputs = sym (length-map c.outputs-outputs.result.now _) ∙ ap length c.outputs-outputs.ensures.outputs in
    let checks : length c.as_slice.result.now ≡ c.args.count =
    ap length c.as_slice.ensures.whole ∙ sym (length-map c.in_ok-checks.checks _) ∙ ap length c.in_ok-checks.ensures.nets
    ∙ length-map-range_with_len (λ (k : ℕ). place_of_text c.args.net.now.names (fresh_text c.in_ok-number.number k)) 0 c.args.count in
    subst (λ (n : ℕ). HasWidth c.args.code n (length c.as_slice.result.now)) (sym outputs) (subst (HasWidth c.args.code (length S.outputs)) (sym checks) c.requires.width)

pub returns-clause-checks : goal.returns-clause-checks
returns-clause-checks c =
    let N = c.args.net.now in
    c.in_ok-plan.ensures.checks ∙ ap net_numbers c.as_slice.ensures.whole ∙ c.in_ok-checks.ensures.nets
    ∙ ap (λ (n : ℕ). map (λ (k : ℕ). place_of_text N.names (fresh_text n k)) (range_with_len 0 c.args.count)) c.in_ok-number.ensures.number

pub returns-clause-rails : goal.returns-clause-rails
returns-clause-rails c =
    let outputs = c.args.net.now.circuit.outputs in
    let P = c.in_ok-plan.plan in
    let shown = length c.outputs-outputs.result.now in
    subst (λ (n : ℕ). EndsInRails outputs n P.rail1 P.rail2) (sym c.in_ok-plan.ensures.outputs)
    (subst (λ (n : ℕ). EndsInRails outputs shown P.rail1 n) (sym c.in_ok-plan.ensures.second)
    (subst (λ (n : ℕ). EndsInRails outputs shown n c.rails_of-rails.result.1.number) (sym c.in_ok-plan.ensures.first) c.rails_of-rails.ensures.rails))
