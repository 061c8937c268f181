use Rattle.std.proofs.Common.{length, sym, ◌∙◌, ap, ap₂, subst}
use Rattle.fault_secure.specs.Circuit.{Circuit}
use Rattle.fault_secure.specs.Closed.{IsClosed}
use Rattle.fault_secure.specs.Logic.Logic.{Network}
use Rattle.tsc_net.specs.NetlistOf.{NetlistOf, netlist_of}
use Rattle.tsc_net.specs.Parts.{PartsOf}
use Rattle.code_checkers.specs.SelfChecking.{IsSelfChecking}
use Rattle.net_building.specs.Sound.{IsSound}
use Rattle.parity_code.specs.FirstFit.{first_fit_groups}
use Rattle.parity_synth.specs.CheckedNet.{kept_places}
use Rattle.parity_synth.specs.ParityNet.{parity_checks, parity_plan}
use Rattle.parity_synth.specs.Composed.{composed_parts}
use Rattle.parity_synth.proofs.Bounded.{netlist_bounded}
use Rattle.parity_synth.proofs.PlanningLemmas.{first_fit_grouped}
use Rattle.parity_synth.proofs.ParityDraft.{parity_draft, is_composable, checks_paired, is_draft}
use Rattle.parity_synth.proofs.DraftSound.{composed_sound}
use Rattle.parity_synth.proofs.DraftExact.{composed_exact, composed_secure}
use Rattle.parity_synth.proofs.WrittenSteps.{over_groups}
use Rattle.parity_synth.proofs.composing.written.Goals as goal

pub composed-requires-clause-groups : goal.composed-requires-clause-groups
composed-requires-clause-groups c = first_fit_grouped c.args.source.now.circuit c.args.grouping.now c.requires.fit

pub composed-requires-clause-gates : goal.composed-requires-clause-gates
composed-requires-clause-gates c =
    over_groups c.args.source.now.circuit (parity_checks c.args.source.now.circuit) c.args.grouping.now c.args.gates.now
    (checks_paired c.args.source.now.circuit (first_fit_groups c.args.source.now.circuit) (length (kept_places c.args.source.now.circuit)) ∙ ap length (sym c.requires.groups)) c.requires.gates c.requires.over

pub built-requires : goal.built-requires
built-requires c =
    let whole = is_composable c.args.source.now c.args.grouping.now c.order-order.result.now c.args.gates.now c.nets-nets.ensures.checked c.requires.combinational c.requires.few c.requires.once c.order-order.ensures.order c.order-order.ensures.whole
    c.requires.fit c.requires.groups c.requires.gates c.requires.over c.requires.room in
    let are = c.in_ok-parts.ensures.parts ∙ ap₂ (λ kept groups. composed_parts c.args.source.now kept groups c.args.gates.now) c.requires.kept c.requires.groups in
    record { sound = subst (λ (p : PartsOf). IsSound p.named) (sym are) (composed_sound (parity_draft c.args.source.now c.args.gates.now) (is_draft c.args.source.now c.args.gates.now whole)) }

pub returns-clause-exact : goal.returns-clause-exact
returns-clause-exact c =
    let whole = is_composable c.args.source.now c.args.grouping.now c.order-order.result.now c.args.gates.now c.nets-nets.ensures.checked c.requires.combinational c.requires.few c.requires.once c.order-order.ensures.order c.order-order.ensures.whole
    c.requires.fit c.requires.groups c.requires.gates c.requires.over c.requires.room in
    let are = c.in_ok-parts.ensures.parts ∙ ap₂ (λ kept groups. composed_parts c.args.source.now kept groups c.args.gates.now) c.requires.kept c.requires.groups in
    c.in_ok-net.ensures.exact ∙ ap (λ (p : PartsOf). netlist_of p.named) are ∙ composed_exact (parity_draft c.args.source.now c.args.gates.now) (is_draft c.args.source.now c.args.gates.now whole)

pub returns-clause-secure : goal.returns-clause-secure
returns-clause-secure c =
    let whole = is_composable c.args.source.now c.args.grouping.now c.order-order.result.now c.args.gates.now c.nets-nets.ensures.checked c.requires.combinational c.requires.few c.requires.once c.order-order.ensures.order c.order-order.ensures.whole
    c.requires.fit c.requires.groups c.requires.gates c.requires.over c.requires.room in
    let are = c.in_ok-parts.ensures.parts ∙ ap₂ (λ kept groups. composed_parts c.args.source.now kept groups c.args.gates.now) c.requires.kept c.requires.groups in
    let net = ap (λ (N : NetlistOf). N.circuit) (c.in_ok-net.ensures.exact ∙ ap (λ (p : PartsOf). netlist_of p.named) are) in
    subst (λ (N : Circuit). IsSelfChecking (Network c.args.source.now.circuit) N (parity_plan c.args.source.now.circuit)) (sym net)
    (composed_secure (parity_draft c.args.source.now c.args.gates.now) (is_draft c.args.source.now c.args.gates.now whole) (subst IsClosed net c.nets-net.ensures.checked.closed))

pub returns-clause-few : goal.returns-clause-few
returns-clause-few c =
    let whole = is_composable c.args.source.now c.args.grouping.now c.order-order.result.now c.args.gates.now c.nets-nets.ensures.checked c.requires.combinational c.requires.few c.requires.once c.order-order.ensures.order c.order-order.ensures.whole
    c.requires.fit c.requires.groups c.requires.gates c.requires.over c.requires.room in
    let are = c.in_ok-parts.ensures.parts ∙ ap₂ (λ kept groups. composed_parts c.args.source.now kept groups c.args.gates.now) c.requires.kept c.requires.groups in
    netlist_bounded c.args.source.now c.args.gates.now whole c.in_ok-net.net c.args.grouping.now
    (c.in_ok-net.ensures.exact ∙ ap (λ (p : PartsOf). netlist_of p.named) are ∙ composed_exact (parity_draft c.args.source.now c.args.gates.now) (is_draft c.args.source.now c.args.gates.now whole)) c.requires.groups
