use Rattle.std.proofs.Common.{◌≡◌, ℕ, List, All, map, length, sym, ◌∙◌, ap, subst, arith}
use Rattle.fault_secure.specs.Circuit.{Circuit}
use Rattle.fault_secure.specs.Closed.{IsClosed}
use Rattle.tsc_net.specs.NetlistOf.{NetlistOf}
use Rattle.tsc_net.specs.Parts.{PartsOf}
use Rattle.tsc_net.specs.PartsView.{text_of, texts_of, IsName}
use Rattle.tsc_net.specs.declared.ids.Name.{Name}
use Rattle.tsc_net.proofs.ResultLemmas.{ok_so, on_ok_so}
use Rattle.net_cones.specs.Cones.{IsCone}
use Rattle.parity_code.specs.Predictors.{with_fresh_names, with_nodes, node_by}
use Rattle.parity_code.specs.PredictorSteps.{name_at, NamesCopy, IsNameable}
use Rattle.parity_code.specs.SharedParts.{with_group_checks, group_check_texts}
use Rattle.duplex_synth.proofs.CheckSteps.{CopyMade, made_nameable, made_named, made_count, made_shared, made_texts}
use Rattle.duplex_synth.proofs.shared.add_shared.Goals as goal

-- the copy, as it was made
made : (S : NetlistOf) (kept : List ℕ) (p q : PartsOf) (names : List Name) → length S.circuit.latches ≡ 0 → IsClosed S.circuit → IsCone S.circuit S.circuit.outputs kept
    → NamesCopy S kept p q names → q ≡ with_fresh_names (length kept) p → CopyMade S kept p q names
made S kept p q names none closed is copy fresh = record { latchless = none; closed = closed; is_cone = is; copy = copy; fresh = fresh }

-- the nodes that were added, over the names themselves
added_at : (C : Circuit) (q r : PartsOf) (names slice : List Name) (kept : List ℕ) → slice ≡ names → r ≡ with_nodes q (map (node_by C (λ n. text_of q.names (name_at slice n))) kept)
    → r ≡ with_nodes q (map (node_by C (λ n. text_of q.names (name_at names n))) kept)
added_at C q r names slice kept same added = added ∙ ap (λ (list : List Name). with_nodes q (map (node_by C (λ n. text_of q.names (name_at list n))) kept)) same

pub add_nodes-requires-clause-nameable : goal.add_nodes-requires-clause-nameable
add_nodes-requires-clause-nameable c =
    let copy = made c.args.net.now c.args.kept.now c.args.parts.now c.copy_names.new.parts c.in_ok-names.names.items c.requires.combinational c.nets-nets.ensures.checked.closed c.requires.cone c.in_ok-names.ensures.names
    c.in_ok-names.ensures.parts in
    subst (λ (list : List Name). All (IsNameable c.args.net.now.circuit c.copy_names.new.parts.names list) c.args.kept.now) (sym c.deref.ensures.value)
    (made_nameable c.args.net.now c.args.kept.now c.args.parts.now c.copy_names.new.parts c.in_ok-names.names.items copy)

pub add_checks-requires-clause-named : goal.add_checks-requires-clause-named
add_checks-requires-clause-named c =
    let copy = made c.args.net.now c.args.kept.now c.args.parts.now c.copy_names.new.parts c.in_ok-names.names.items c.requires.combinational c.nets-nets.ensures.checked.closed c.requires.cone c.in_ok-names.ensures.names
    c.in_ok-names.ensures.parts in
    let added = added_at c.args.net.now.circuit c.copy_names.new.parts c.add_nodes.new.parts c.in_ok-names.names.items c.deref.result.now c.args.kept.now c.deref.ensures.value c.in_ok-add_nodes.ensures.added in
    subst (λ (list : List Name). All (λ net. IsName c.add_nodes.new.parts.names (name_at list net)) c.args.net.now.circuit.outputs) (sym c.deref-2.ensures.value)
    (made_named c.args.net.now c.args.kept.now c.args.parts.now c.copy_names.new.parts c.in_ok-names.names.items copy c.add_nodes.new.parts added)

pub add_checks-requires-clause-room : goal.add_checks-requires-clause-room
add_checks-requires-clause-room c =
    let copy = made c.args.net.now c.args.kept.now c.args.parts.now c.copy_names.new.parts c.in_ok-names.names.items c.requires.combinational c.nets-nets.ensures.checked.closed c.requires.cone c.in_ok-names.ensures.names
    c.in_ok-names.ensures.parts in
    let added = added_at c.args.net.now.circuit c.copy_names.new.parts c.add_nodes.new.parts c.in_ok-names.names.items c.deref.result.now c.args.kept.now c.deref.ensures.value c.in_ok-add_nodes.ensures.added in
    omega (arith, made_count c.args.net.now c.args.kept.now c.args.parts.now c.copy_names.new.parts c.in_ok-names.names.items copy c.add_nodes.new.parts added, c.requires.room)

pub returns-clause-added : goal.returns-clause-added
returns-clause-added c =
    let copy = made c.args.net.now c.args.kept.now c.args.parts.now c.copy_names.new.parts c.in_ok-names.names.items c.requires.combinational c.nets-nets.ensures.checked.closed c.requires.cone c.in_ok-names.ensures.names
    c.in_ok-names.ensures.parts in
    let added = added_at c.args.net.now.circuit c.copy_names.new.parts c.add_nodes.new.parts c.in_ok-names.names.items c.deref.result.now c.args.kept.now c.deref.ensures.value c.in_ok-add_nodes.ensures.added in
    on_ok_so
    (λ is. made_shared c.args.net.now c.args.kept.now c.args.parts.now c.copy_names.new.parts c.in_ok-names.names.items copy c.add_nodes.new.parts added c.args.groups.now c.add_checks.new.parts c.requires.within
    (is ∙ ap (λ (list : List Name). with_group_checks c.args.net.now.circuit (λ net. text_of c.add_nodes.new.parts.names (name_at list net)) c.args.groups.now c.add_nodes.new.parts) c.deref-2.ensures.value)) c.add_checks.result
    c.add_checks.ensures.added

pub returns-clause-checks : goal.returns-clause-checks
returns-clause-checks c =
    let copy = made c.args.net.now c.args.kept.now c.args.parts.now c.copy_names.new.parts c.in_ok-names.names.items c.requires.combinational c.nets-nets.ensures.checked.closed c.requires.cone c.in_ok-names.ensures.names
    c.in_ok-names.ensures.parts in
    let added = added_at c.args.net.now.circuit c.copy_names.new.parts c.add_nodes.new.parts c.in_ok-names.names.items c.deref.result.now c.args.kept.now c.deref.ensures.value c.in_ok-add_nodes.ensures.added in
    ok_so
    (λ (checks : List Name) is. made_texts c.args.net.now c.args.kept.now c.args.parts.now c.copy_names.new.parts c.in_ok-names.names.items copy c.add_nodes.new.parts added c.args.groups.now (texts_of c.add_checks.new.parts.names checks) c.requires.within
    (is ∙ ap (λ (list : List Name). group_check_texts c.args.net.now.circuit (λ net. text_of c.add_nodes.new.parts.names (name_at list net)) c.args.groups.now c.add_nodes.new.parts) c.deref-2.ensures.value)) c.add_checks.result
    c.add_checks.ensures.checks
