use Rattle.std.proofs.Common.{◌≡◌, ◌+◌, List, map, length, sym, ◌∙◌, ap, subst, arith}
use Rattle.fault_secure.specs.Circuit.{nets}
use Rattle.tsc_net.specs.Parts.{PartsOf}
use Rattle.tsc_net.specs.PartsView.{text_of, texts_of}
use Rattle.tsc_net.specs.declared.ids.Name.{Name}
use Rattle.parity_code.specs.Predictors.{node_by, with_nodes, with_predictors, check_texts}
use Rattle.parity_code.specs.PredictorSteps.{name_at}
use Rattle.net_writing.specs.Begun.{AreOwnNames}
use Rattle.net_writing.specs.CheckerParts.{IsOver}
use Rattle.net_writing.proofs.OwnNames.{own_named}
use Rattle.parity_code.proofs.PredictorParts.{names_longer}
use Rattle.parity_synth.proofs.Begun.{groups_within, checks_count, predictors_count, own_nameable, own_names_count, composed_are}
use Rattle.parity_synth.proofs.composing.composed.Goals as goal

pub add_nodes-requires-clause-nameable : goal.add_nodes-requires-clause-nameable
add_nodes-requires-clause-nameable c =
    own_nameable c.args.source.now c.nets-nets.ensures.checked c.args.kept.now c.requires.cone c.as_slice.result.now
    (subst (AreOwnNames (nets c.args.source.now.circuit)) (sym c.as_slice.ensures.whole) c.in_ok-names.ensures.names) c.begin.new.parts c.in_ok-names.ensures.begun

pub add_predictors-requires-clause-within : goal.add_predictors-requires-clause-within
add_predictors-requires-clause-within c = groups_within (length c.args.source.now.circuit.outputs) c.args.grouping.now c.requires.groups

pub add_predictors-requires-clause-room : goal.add_predictors-requires-clause-room
add_predictors-requires-clause-room c =
    let count = own_names_count c.args.source.now c.nets-nets.ensures.checked c.args.kept.now c.requires.cone c.as_slice.result.now
    (subst (AreOwnNames (nets c.args.source.now.circuit)) (sym c.as_slice.ensures.whole) c.in_ok-names.ensures.names) c.begin.new.parts c.add_nodes.new.parts
    c.in_ok-names.ensures.begun c.in_ok-add_nodes.ensures.added in
    omega (arith, count, c.requires.room)

pub add_checked-requires-clause-names : goal.add_checked-requires-clause-names
add_checked-requires-clause-names c =
    let own = subst (AreOwnNames (nets c.args.source.now.circuit)) (sym c.as_slice-2.ensures.whole) c.in_ok-names.ensures.names in
    let count = own_names_count c.args.source.now c.nets-nets.ensures.checked c.args.kept.now c.requires.cone c.as_slice.result.now
    (subst (AreOwnNames (nets c.args.source.now.circuit)) (sym c.as_slice.ensures.whole) c.in_ok-names.ensures.names) c.begin.new.parts c.add_nodes.new.parts
    c.in_ok-names.ensures.begun c.in_ok-add_nodes.ensures.added in
    let longer = names_longer c.add_nodes.new.parts c.add_predictors.new.parts c.in_ok-checks.ensures.grows in
    own_named (nets c.args.source.now.circuit) c.as_slice-2.result.now c.add_predictors.new.parts.names own (omega (arith, count, longer))

pub add_checked-requires-clause-gates : goal.add_checked-requires-clause-gates
add_checked-requires-clause-gates c =
    let count = ap length c.as_slice-3.ensures.whole ∙ checks_count c.args.source.now c.args.grouping.now c.add_nodes.new.parts c.add_predictors.new.parts.names c.in_ok-checks.checks c.in_ok-checks.ensures.checks in
    subst (λ n. IsOver (length c.args.source.now.circuit.outputs + n) c.args.gates.now) (sym count) c.requires.gates

pub add_checked-requires-clause-room : goal.add_checked-requires-clause-room
add_checked-requires-clause-room c =
    let count = own_names_count c.args.source.now c.nets-nets.ensures.checked c.args.kept.now c.requires.cone c.as_slice.result.now
    (subst (AreOwnNames (nets c.args.source.now.circuit)) (sym c.as_slice.ensures.whole) c.in_ok-names.ensures.names) c.begin.new.parts c.add_nodes.new.parts
    c.in_ok-names.ensures.begun c.in_ok-add_nodes.ensures.added in
    let more = ap (λ (p : PartsOf). length p.names) c.in_ok-checks.ensures.added ∙ predictors_count c.args.source.now c.args.grouping.now c.add_nodes.new.parts in
    omega (arith, count, more, c.requires.room)

pub returns : goal.returns
returns c =
    let same : c.as_slice.result.now ≡ c.as_slice-2.result.now = c.as_slice.ensures.whole ∙ sym c.as_slice-2.ensures.whole in
    record {
      parts = composed_are c.args.source.now c.nets-nets.ensures.checked c.args.kept.now c.requires.cone c.as_slice-2.result.now
          (subst (AreOwnNames (nets c.args.source.now.circuit)) (sym c.as_slice-2.ensures.whole) c.in_ok-names.ensures.names) (with_predictors c.args.source.now c.args.grouping.now) (check_texts c.args.source.now c.args.grouping.now)
          c.begin.new.parts c.add_nodes.new.parts c.add_predictors.new.parts c.add_checked.new.parts c.as_slice-3.result.now c.args.gates.now c.in_ok-names.ensures.begun
          (c.in_ok-add_nodes.ensures.added ∙ ap (λ (names : List Name). with_nodes c.begin.new.parts (map (node_by c.args.source.now.circuit (λ n. text_of c.begin.new.parts.names (name_at names n))) c.args.kept.now)) same)
          c.in_ok-checks.ensures.grows c.in_ok-checks.ensures.added (ap (texts_of c.add_predictors.new.parts.names) c.as_slice-3.ensures.whole ∙ c.in_ok-checks.ensures.checks) c.in_ok-add_checked.ensures.added;
    }
