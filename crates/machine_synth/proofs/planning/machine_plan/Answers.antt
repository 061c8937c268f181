use Rattle.std.proofs.Common.{◌≡◌, length, map, refl, sym, ◌∙◌, ap, subst, arith}
use Rattle.std.proofs.lemmas.List.{length-map}
use Rattle.tsc_bits.specs.Bits.{bits_of}
use Rattle.fault_secure.specs.CodePlan.{HasWidth, IsUnorderedCode}
use Rattle.machine_synth.proofs.Plans.{made_plan, plan_well_made}
use Rattle.machine_synth.proofs.planning.machine_plan.Goals as goal

pub invariant_of-result : goal.invariant_of-result
invariant_of-result c =
    let M = c.args.machine.now.table in
    let same = c.in_ok-states.ensures.same in
    let is = c.requires.codes in
    let checks : length (map (λ net. net.number) c.in_ok-from_slice.field-0) ≡ length c.args.checks.now = length-map c.in_ok-from_slice.field-0 (λ net. net.number) ∙ ap length c.in_ok-from_slice.ensures.same in
    let width : HasWidth c.args.code c.outputs-outputs.result (length (map (λ net. net.number) c.in_ok-from_slice.field-0)) =
    subst (HasWidth c.args.code c.outputs-outputs.result) (sym checks) (subst (λ n. HasWidth c.args.code n (length c.args.checks.now)) (sym c.outputs-outputs.ensures.outputs) c.requires.width) in
    record {
      well_made =
          plan_well_made M _ (made_plan M c.args.codes.now _ is refl c.requires.unordered c.outputs-outputs.ensures.outputs width (ap (map (λ group. group.places)) c.new.ensures.empty)
          (ap (λ s. s.width) same ∙ is.width) refl (ap (λ s. map (bits_of s.width) s.words) same ∙ ap (λ n. map (bits_of n) c.args.codes.now.words.words) is.width))
          (omega (arith, c.reset-reset.ensures.is_state)) (omega (arith, c.outputs-outputs.ensures.some)) c.outputs-outputs.ensures.few;
      same_checks = λ e. absurd (subst IsUnorderedCode e c.requires.unordered);
    }

pub returns-clause-well_made : goal.returns-clause-well_made
returns-clause-well_made c =
    let M = c.args.machine.now.table in
    let same = c.in_ok-states.ensures.same in
    let is = c.requires.codes in
    let checks : length (map (λ net. net.number) c.in_ok-from_slice.field-0) ≡ length c.args.checks.now = length-map c.in_ok-from_slice.field-0 (λ net. net.number) ∙ ap length c.in_ok-from_slice.ensures.same in
    let width : HasWidth c.args.code c.outputs-outputs.result (length (map (λ net. net.number) c.in_ok-from_slice.field-0)) =
    subst (HasWidth c.args.code c.outputs-outputs.result) (sym checks) (subst (λ n. HasWidth c.args.code n (length c.args.checks.now)) (sym c.outputs-outputs.ensures.outputs) c.requires.width) in
    plan_well_made M _ (made_plan M c.args.codes.now _ is refl c.requires.unordered c.outputs-outputs.ensures.outputs width (ap (map (λ group. group.places)) c.new.ensures.empty)
    (ap (λ s. s.width) same ∙ is.width) refl (ap (λ s. map (bits_of s.width) s.words) same ∙ ap (λ n. map (bits_of n) c.args.codes.now.words.words) is.width))
    (omega (arith, c.reset-reset.ensures.is_state)) (omega (arith, c.outputs-outputs.ensures.some)) c.outputs-outputs.ensures.few
