use Rattle.std.proofs.Common.{◌≡◌, ◌+◌, ◌-◌, length, get_or, map, ap, sym, subst, ◌∙◌}
use Rattle.tsc_bits.specs.Bits.{bits_of}
use Rattle.fault_secure.specs.CodePlan.{IsWellMade, CodePlan}
use Rattle.tsc_net.specs.PlanView.{net_numbers}
use Rattle.tsc_net.specs.declared.plan.Group.{Group}
use Rattle.blif_read.specs.Planned.{AreWide}
use Rattle.blif_read.specs.PlanText.{bits_of_word, code_in, seen_circuit, seen_net, source_outputs, state_words, weight_of}
use Rattle.blif_read.proofs.PlanMade.{keeps_all, are_wide, plan_put, well_made, KeepsAll}
use Rattle.fault_secure.specs.CodePlan.{IsPlanOf}
use Rattle.blif_read.proofs.PlanOf.{plan_is_of, seen_groups}
use Rattle.blif_read.proofs.plan_reading.put_together.Goals as goal
use Rattle.tsc_net.proofs.NetNumbers.{numbers_counted}

pub states-requires-clause-sized : goal.states-requires-clause-sized
states-requires-clause-sized c =
    let lines = c.args.section.now in
    let keeps : KeepsAll c.args.code lines (seen_net c.args.lists c.args.net.now) = keeps_all c.args.code lines (seen_net c.args.lists c.args.net.now) c.requires.right in
    subst (λ n. AreWide n (state_words lines)) (sym c.seen_latches.ensures.count)
    (are_wide (length (seen_circuit c.args.lists c.args.net.now.circuit).latches) (weight_of (state_words lines)) (state_words lines) keeps.fit.alike)

pub invariant_of-result : goal.invariant_of-result
invariant_of-result c =
    let lines = c.args.section.now in
    let head = c.args.head.now in
    let net = seen_net c.args.lists c.args.net.now in
    let states = c.in_ok-states.states in
    let keeps : KeepsAll (code_in head) lines net = subst (λ code. KeepsAll code lines net) c.requires.code (keeps_all c.args.code lines net c.requires.right) in
    let count : length c.outputs.result.now - 2 ≡ source_outputs net = ap (λ n. n - 2) (numbers_counted c.outputs.result.now net.circuit.outputs c.outputs.ensures.outputs) in
    let same = plan_put head lines net c.args.code c.version_of-version.result (length c.outputs.result.now - 2) states.width c.weight-weight.result
    c.output_at-rail1.result.number c.output_at-rail2.result.number (net_numbers c.args.draft.checks) (map (λ (group : Group). group.places) c.args.draft.groups)
    (map (bits_of states.width) states.words)
    c.version_of-version.ensures.version c.requires.code count c.requires.checks (c.requires.groups ∙ sym (seen_groups c.args.lists c.args.code c.args.net.now lines)) (c.in_ok-states.ensures.width ∙ c.seen_latches.ensures.count)
    c.weight-weight.ensures.weight
    (subst (λ w. map (bits_of w) states.words ≡ map bits_of_word (state_words lines)) (sym c.in_ok-states.ensures.width) c.in_ok-states.ensures.words)
    (c.output_at-rail1.ensures.number ∙ ap (λ k. get_or net.circuit.outputs k 0) count)
    (c.output_at-rail2.ensures.number ∙ ap (λ k. get_or net.circuit.outputs (k + 1) 0) count) in
    record {
      well_made = subst (λ (P : CodePlan). IsWellMade P) (sym same) (well_made head lines net c.requires.planned keeps);
      same_checks = c.requires.same;
    }

pub returns-clause-of_net : goal.returns-clause-of_net
returns-clause-of_net c =
    let lines = c.args.section.now in
    let head = c.args.head.now in
    let net = seen_net c.args.lists c.args.net.now in
    let states = c.in_ok-states.states in
    let keeps : KeepsAll (code_in head) lines net = subst (λ code. KeepsAll code lines net) c.requires.code (keeps_all c.args.code lines net c.requires.right) in
    let count : length c.outputs.result.now - 2 ≡ source_outputs net = ap (λ n. n - 2) (numbers_counted c.outputs.result.now net.circuit.outputs c.outputs.ensures.outputs) in
    let same = plan_put head lines net c.args.code c.version_of-version.result (length c.outputs.result.now - 2) states.width c.weight-weight.result
    c.output_at-rail1.result.number c.output_at-rail2.result.number (net_numbers c.args.draft.checks) (map (λ (group : Group). group.places) c.args.draft.groups)
    (map (bits_of states.width) states.words)
    c.version_of-version.ensures.version c.requires.code count c.requires.checks (c.requires.groups ∙ sym (seen_groups c.args.lists c.args.code c.args.net.now lines)) (c.in_ok-states.ensures.width ∙ c.seen_latches.ensures.count)
    c.weight-weight.ensures.weight
    (subst (λ w. map (bits_of w) states.words ≡ map bits_of_word (state_words lines)) (sym c.in_ok-states.ensures.width) c.in_ok-states.ensures.words)
    (c.output_at-rail1.ensures.number ∙ ap (λ k. get_or net.circuit.outputs k 0) count)
    (c.output_at-rail2.ensures.number ∙ ap (λ k. get_or net.circuit.outputs (k + 1) 0) count) in
    subst (λ (P : CodePlan). IsPlanOf net.circuit P) (sym same)
    (plan_is_of c.args.lists head lines c.args.net.now c.requires.planned keeps c.requires.known c.nets-nets.ensures.checked)

pub returns-clause-plan : goal.returns-clause-plan
returns-clause-plan c =
    let lines = c.args.section.now in
    let head = c.args.head.now in
    let net = seen_net c.args.lists c.args.net.now in
    let states = c.in_ok-states.states in
    let keeps : KeepsAll (code_in head) lines net = subst (λ code. KeepsAll code lines net) c.requires.code (keeps_all c.args.code lines net c.requires.right) in
    let count : length c.outputs.result.now - 2 ≡ source_outputs net = ap (λ n. n - 2) (numbers_counted c.outputs.result.now net.circuit.outputs c.outputs.ensures.outputs) in
    let same = plan_put head lines net c.args.code c.version_of-version.result (length c.outputs.result.now - 2) states.width c.weight-weight.result
    c.output_at-rail1.result.number c.output_at-rail2.result.number (net_numbers c.args.draft.checks) (map (λ (group : Group). group.places) c.args.draft.groups)
    (map (bits_of states.width) states.words)
    c.version_of-version.ensures.version c.requires.code count c.requires.checks (c.requires.groups ∙ sym (seen_groups c.args.lists c.args.code c.args.net.now lines)) (c.in_ok-states.ensures.width ∙ c.seen_latches.ensures.count)
    c.weight-weight.ensures.weight
    (subst (λ w. map (bits_of w) states.words ≡ map bits_of_word (state_words lines)) (sym c.in_ok-states.ensures.width) c.in_ok-states.ensures.words)
    (c.output_at-rail1.ensures.number ∙ ap (λ k. get_or net.circuit.outputs k 0) count)
    (c.output_at-rail2.ensures.number ∙ ap (λ k. get_or net.circuit.outputs (k + 1) 0) count) in
    same
