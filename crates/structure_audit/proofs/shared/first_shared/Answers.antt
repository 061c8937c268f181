use Rattle.std.proofs.Common.{◌≡◌, ◌≤◌, map, length, ap, arith}
use Rattle.std.proofs.lemmas.List.{length-map}
use Rattle.fault_secure.specs.CodePlan.{CodePlan}
use Rattle.tsc_net.specs.declared.plan.Group.{Group}
use Rattle.structure_audit.proofs.AnswerLemmas.{suits_parity, clear_more, none_here}
use Rattle.structure_audit.proofs.shared.first_shared.Goals as goal

pub loop-group-preserved : goal.loop-group-preserved
loop-group-preserved c =
    clear_more c.args.net.now.circuit c.args.plan.now c.loop-group.group c.loop-group.invariant
    (none_here c.args.net.now.circuit c.args.plan.now c.loop-group.group c.in_ok-shared.field-0 c.in_default.not-Some c.in_ok-shared.ensures.answer)

pub returns : goal.returns
returns c =
    let all : length (map (λ (k : Group). k.places) c.plan.inside.groups) ≡ length c.plan.inside.groups = length-map c.plan.inside.groups (λ (k : Group). k.places) in
    let same : length (map (λ (k : Group). k.places) c.plan.inside.groups) ≡ length c.args.plan.now.groups = ap (λ (P : CodePlan). length P.groups) c.plan.view_is in
    let count = c.len-group-end.ensures.count in
    let past = c.loop-group-test.false in
    let groups : length c.args.plan.now.groups ≤ c.loop-group.group = omega arith in
    record { answer = suits_parity c.args.net.now.circuit c.args.plan.now c.requires.parity c.requires.latchless c.loop-group.group groups c.loop-group.invariant }
