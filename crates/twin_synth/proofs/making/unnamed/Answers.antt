use Rattle.std.proofs.Common.{◌≡◌, ℕ, ◌+◌, ◌<◌, List, ◌∙◌, ap, length, All, subst, sym, arith}
use Rattle.std.proofs.lemmas.List.{length-map}
use Rattle.fault_secure.specs.CodePlan.{concat_places}
use Rattle.register_synth.specs.Kept.{kept_net, kept_part}
use Rattle.register_synth.specs.TwinCircuit.{with_watch}
use Rattle.register_synth.proofs.WholeTwins.{twins_are_whole}
use Rattle.register_synth.proofs.FewCovers.{few_covers}
use Rattle.twin_synth.specs.inner.Composed.{circuit_over, nameless}
use Rattle.twin_synth.proofs.TwinRails.{outputs_apart}
use Rattle.twin_synth.proofs.TwinSizes.{outputs_long, filled, within, watch_few, places_few, few_groups, some_group, shown_grouping, shown_room}
use Rattle.twin_synth.proofs.making.unnamed.Goals as goal

pub groups_with_watch-requires : goal.groups_with_watch-requires
groups_with_watch-requires c =
    let C = c.args.source.now.circuit in
    let few = watch_few C c.args.kept.now.registers c.args.kept.now.covers c.args.groups.now c.args.watched c.nets-nets.ensures.checked.closed c.requires.sized c.requires.kept c.requires.grouped c.requires.watched in
    record { few = omega (arith, few, outputs_long C c.outputs-outputs.result.now c.outputs-outputs.ensures.outputs, c.requires.sized.few) }

pub twin_gates-requires-clause-some : goal.twin_gates-requires-clause-some
twin_gates-requires-clause-some c =
    some_group c.args.source.now.circuit c.args.kept.now.registers c.args.kept.now.covers c.args.groups.now c.args.watched c.nets-nets.ensures.checked.closed c.requires.sized c.requires.kept c.requires.grouped c.requires.watched

pub twin_gates-requires-clause-filled : goal.twin_gates-requires-clause-filled
twin_gates-requires-clause-filled c =
    filled c.args.source.now.circuit c.args.kept.now.registers c.args.kept.now.covers c.args.groups.now c.args.watched c.nets-nets.ensures.checked.closed c.requires.sized c.requires.kept c.requires.grouped c.requires.watched

pub twin_gates-requires-clause-few : goal.twin_gates-requires-clause-few
twin_gates-requires-clause-few c =
    let C = c.args.source.now.circuit in
    let few = watch_few C c.args.kept.now.registers c.args.kept.now.covers c.args.groups.now c.args.watched c.nets-nets.ensures.checked.closed c.requires.sized c.requires.kept c.requires.grouped c.requires.watched in
    let low = few_groups C c.args.kept.now.registers c.args.kept.now.covers c.args.groups.now c.args.watched c.nets-nets.ensures.checked.closed c.requires.sized c.requires.kept c.requires.grouped c.requires.watched in
    omega (arith, few, low, outputs_long C c.outputs-outputs.result.now c.outputs-outputs.ensures.outputs, c.requires.sized.few)

pub push_twin-requires-clause-grouped : goal.push_twin-requires-clause-grouped
push_twin-requires-clause-grouped c =
    let C = c.args.source.now.circuit in
    let long = outputs_long C c.outputs-outputs.result.now c.outputs-outputs.ensures.outputs in
    shown_grouping C c.args.kept.now.registers c.args.kept.now.covers c.args.groups.now c.args.watched c.nets-nets.ensures.checked.closed c.requires.sized c.requires.kept c.requires.grouped c.requires.watched
    c.in_ok-all.all (c.in_ok-all.ensures.groups ∙ ap (λ (gs : List (List ℕ)). with_watch (length c.outputs-outputs.result.now) c.args.watched gs) c.as_slice.ensures.whole
    ∙ ap (λ (n : ℕ). with_watch n c.args.watched c.args.groups.now) long)

pub push_twin-requires-clause-room : goal.push_twin-requires-clause-room
push_twin-requires-clause-room c =
    let C = c.args.source.now.circuit in
    let long = outputs_long C c.outputs-outputs.result.now c.outputs-outputs.ensures.outputs in
    shown_room C c.args.kept.now.registers c.args.kept.now.covers c.args.groups.now c.args.watched c.nets-nets.ensures.checked.closed c.requires.sized c.requires.kept c.requires.grouped c.requires.watched
    c.in_ok-all.all (c.in_ok-all.ensures.groups ∙ ap (λ (gs : List (List ℕ)). with_watch (length c.outputs-outputs.result.now) c.args.watched gs) c.as_slice.ensures.whole
    ∙ ap (λ (n : ℕ). with_watch n c.args.watched c.args.groups.now) long)

pub push_twin-requires-clause-words : goal.push_twin-requires-clause-words
push_twin-requires-clause-words c place word low is =
    let C = c.args.source.now.circuit in
    let long = outputs_long C c.outputs-outputs.result.now c.outputs-outputs.ensures.outputs in
    let inside = within C c.args.kept.now.registers c.args.kept.now.covers c.args.groups.now c.args.watched c.nets-nets.ensures.checked.closed c.requires.sized c.requires.kept c.requires.grouped c.requires.watched in
    let same = c.in_ok-all.ensures.groups ∙ ap (λ (gs : List (List ℕ)). with_watch (length c.outputs-outputs.result.now) c.args.watched gs) c.as_slice.ensures.whole in
    let below = c.in_ok-gates.ensures.words (subst (λ n. All (λ place. place < n) (concat_places c.args.groups.now)) (sym long) inside) place word low is in
    omega (arith, below, long, ap (λ (gs : List (List ℕ)). length gs) same)

pub push_twin-requires-clause-few : goal.push_twin-requires-clause-few
push_twin-requires-clause-few c =
    let C = c.args.source.now.circuit in
    let few = watch_few C c.args.kept.now.registers c.args.kept.now.covers c.args.groups.now c.args.watched c.nets-nets.ensures.checked.closed c.requires.sized c.requires.kept c.requires.grouped c.requires.watched in
    let low = few_groups C c.args.kept.now.registers c.args.kept.now.covers c.args.groups.now c.args.watched c.nets-nets.ensures.checked.closed c.requires.sized c.requires.kept c.requires.grouped c.requires.watched in
    let places = places_few C c.args.kept.now.registers c.args.kept.now.covers c.args.groups.now c.args.watched c.nets-nets.ensures.checked.closed c.requires.sized c.requires.kept c.requires.grouped c.requires.watched in
    omega (arith, few, low, places, c.requires.sized.few, c.in_ok-gates.ensures.few)

pub returns-clause-net : goal.returns-clause-net
returns-clause-net c =
    let C = c.args.source.now.circuit in
    let long = outputs_long C c.outputs-outputs.result.now c.outputs-outputs.ensures.outputs in
    let part = length-map C.outputs (kept_net C c.args.kept.now.registers c.args.kept.now.covers) in
    c.in_ok-push_twin.ensures.pushed
    ∙ ap (λ (gs : List (List ℕ)). nameless c.args.source.now (circuit_over c.args.watched (kept_part c.args.source.now.circuit c.args.kept.now.registers c.args.kept.now.covers) gs))
    (c.in_ok-all.ensures.groups ∙ ap (λ (gs : List (List ℕ)). with_watch (length c.outputs-outputs.result.now) c.args.watched gs) c.as_slice.ensures.whole
    ∙ ap (λ (n : ℕ). with_watch n c.args.watched c.args.groups.now) (long ∙ sym part))

pub returns-clause-made : goal.returns-clause-made
returns-clause-made c =
    let C = c.args.source.now.circuit in
    let long = outputs_long C c.outputs-outputs.result.now c.outputs-outputs.ensures.outputs in
    let part = length-map C.outputs (kept_net C c.args.kept.now.registers c.args.kept.now.covers) in
    let checker = c.in_ok-gates.ensures.made (kept_part c.args.source.now.circuit c.args.kept.now.registers c.args.kept.now.covers) (part ∙ sym long) in
    let built = c.nets-nets.ensures.checked in
    record {
      whole = twins_are_whole C c.args.kept.now.registers c.args.kept.now.covers c.args.groups.now c.args.watched c.in_ok-gates.gates built.closed built.acyclic c.requires.sized.few c.requires.kept
          c.requires.grouped c.requires.watched checker;
      few = few_covers C c.args.kept.now.registers c.args.kept.now.covers c.args.groups.now c.args.watched c.in_ok-gates.gates built.closed built.acyclic c.requires.kept c.requires.grouped checker;
      apart = outputs_apart C c.args.kept.now.registers c.args.kept.now.covers c.args.groups.now c.args.watched c.in_ok-gates.gates built.closed c.requires.kept c.requires.grouped checker c.requires.once;
    }
