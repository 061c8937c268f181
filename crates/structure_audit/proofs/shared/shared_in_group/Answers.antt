use Rattle.std.proofs.Common.{◌≡◌, ◌+◌, ◌<◌, length, All, sym, ◌∙◌, ap, subst, arith}
use Rattle.std.proofs.lemmas.List.{length-map}
use Rattle.std.proofs.lemmas.List.Elements.{All-weaker}
use Rattle.fault_secure.specs.CodePlan.{IsWellMade, monitored}
use Rattle.tsc_net.specs.PlanView.{net_numbers}
use Rattle.tsc_net.specs.declared.ids.NetId.{NetId}
use Rattle.structure_audit.specs.StructureReason.{places_of}
use Rattle.structure_audit.proofs.GroupPlaces.{few_groups, places_within, places_few}
use Rattle.structure_audit.proofs.AnswerLemmas.{no_pair, first_shared_in, not_some}
use Rattle.structure_audit.proofs.shared.shared_in_group.Goals as goal
use Rattle.fault_secure.proofs.PlanSizes.{monitored_count}

pub line_places-requires-clause-few : goal.line_places-requires-clause-few
line_places-requires-clause-few c = few_groups c.args.plan.now (subst IsWellMade c.plan.view_is c.plan.invariant.well_made) c.requires.parity

pub first_pair-requires : goal.first_pair-requires
first_pair-requires c =
    let made : IsWellMade c.args.plan.now = subst IsWellMade c.plan.view_is c.plan.invariant.well_made in
    record { below = subst (All (λ place. place < 128)) (sym (c.as_slice-places.ensures.whole ∙ c.in_ok-held.ensures.places)) (places_few c.args.plan.now made c.requires.parity c.args.group c.requires.group) }

pub shared_node-requires-clause-within : goal.shared_node-requires-clause-within
shared_node-requires-clause-within c =
    let made : IsWellMade c.args.plan.now = subst IsWellMade c.plan.view_is c.plan.invariant.well_made in
    let all = places_within c.args.plan.now made c.requires.parity c.args.group c.requires.group in
    let count : length (net_numbers c.args.word.now) ≡ length c.args.word.now = length-map c.args.word.now (λ (n : NetId). n.number) in
    let same : length (net_numbers c.args.word.now) ≡ length (monitored c.args.net.now.circuit c.args.plan.now) = ap length c.requires.word in
    let whole = monitored_count c.args.net.now.circuit c.args.plan.now c.requires.plan in
    subst (All (λ place. place < length c.args.word.now)) (sym (c.as_slice-places.ensures.whole ∙ c.in_ok-held.ensures.places))
    (All-weaker (λ place. place < c.args.plan.now.outputs + length c.args.plan.now.checks) (λ place. place < length c.args.word.now) (λ place low. omega arith) (places_of c.args.plan.now c.args.group) all)

pub returns-in-Some : goal.returns-in-Some
returns-in-Some c =
    let made : IsWellMade c.args.plan.now = subst IsWellMade c.plan.view_is c.plan.invariant.well_made in
    record {
      answer = first_shared_in c.args.net.now.circuit c.args.plan.now c.args.masks.now c.args.group c.requires.masks made c.requires.parity c.requires.plan c.requires.group c.as_slice-places.result.now c.in-Some.pair
          c.shared_node.result.first.number c.shared_node.result.second.number c.shared_node.result.node.number (c.as_slice-places.ensures.whole ∙ c.in_ok-held.ensures.places) c.in-Some.ensures.first
          (c.shared_node.ensures.answer c.args.plan.now c.requires.word c.requires.masks);
    }

pub returns : goal.returns
returns c =
    let made : IsWellMade c.args.plan.now = subst IsWellMade c.plan.view_is c.plan.invariant.well_made in
    record {
      answer = no_pair c.args.net.now.circuit c.args.plan.now c.args.masks.now c.args.group c.requires.masks made c.requires.parity c.requires.plan c.requires.group c.as_slice-places.result.now
          (c.as_slice-places.ensures.whole ∙ c.in_ok-held.ensures.places)
          (not_some c.args.masks.now c.as_slice-places.result.now c.first_pair.result c.in_default.not-Some c.first_pair.ensures.first);
    }
