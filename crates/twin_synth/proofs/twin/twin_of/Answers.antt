use Rattle.std.proofs.Common.{◌≡◌, ℕ, ◌+◌, ◌∙◌, List, ap, length, arith}
use Rattle.fault_secure.specs.CodePlan.{concat_places}
use Rattle.twin_synth.proofs.TwinSizes.{outputs_long, twin_room}
use Rattle.twin_synth.proofs.TwinPlanned.{plan_groups}
use Rattle.twin_synth.proofs.twin.twin_of.Goals as goal

pub overflow_add-first : goal.overflow_add-first
overflow_add-first c =
    let room = twin_room c.args.source.now.circuit c.args.kept.now.registers c.args.kept.now.covers c.args.groups.now c.args.watched c.nets-nets.ensures.checked.closed c.requires.sized c.requires.kept c.requires.grouped c.requires.watched in
    omega (arith, room, c.len.ensures.count, c.len-2.ensures.count)

pub overflow_add-first-2 : goal.overflow_add-first-2
overflow_add-first-2 c =
    let room = twin_room c.args.source.now.circuit c.args.kept.now.registers c.args.kept.now.covers c.args.groups.now c.args.watched c.nets-nets.ensures.checked.closed c.requires.sized c.requires.kept c.requires.grouped c.requires.watched in
    omega (arith, room, c.inputs-inputs.ensures.count, c.len.ensures.count, c.len-2.ensures.count)

pub overflow_add-base : goal.overflow_add-base
overflow_add-base c =
    let room = twin_room c.args.source.now.circuit c.args.kept.now.registers c.args.kept.now.covers c.args.groups.now c.args.watched c.nets-nets.ensures.checked.closed c.requires.sized c.requires.kept c.requires.grouped c.requires.watched in
    omega (arith, room, c.len-3.ensures.count, c.len-4.ensures.count)

pub place_count-requires : goal.place_count-requires
place_count-requires c =
    let room = twin_room c.args.source.now.circuit c.args.kept.now.registers c.args.kept.now.covers c.args.groups.now c.args.watched c.nets-nets.ensures.checked.closed c.requires.sized c.requires.kept c.requires.grouped c.requires.watched in
    let same = ap (λ (gs : List (List ℕ)). length (concat_places gs)) c.as_slice.ensures.whole in
    record { room = omega (arith, room, same) }

pub overflow_add-after : goal.overflow_add-after
overflow_add-after c =
    let room = twin_room c.args.source.now.circuit c.args.kept.now.registers c.args.kept.now.covers c.args.groups.now c.args.watched c.nets-nets.ensures.checked.closed c.requires.sized c.requires.kept c.requires.grouped c.requires.watched in
    let places = c.place_count.ensures.count ∙ ap (λ (gs : List (List ℕ)). length (concat_places gs)) c.as_slice.ensures.whole in
    omega (arith, room, c.len-3.ensures.count, c.len-4.ensures.count, places)

pub overflow_add-after-2 : goal.overflow_add-after-2
overflow_add-after-2 c =
    let room = twin_room c.args.source.now.circuit c.args.kept.now.registers c.args.kept.now.covers c.args.groups.now c.args.watched c.nets-nets.ensures.checked.closed c.requires.sized c.requires.kept c.requires.grouped c.requires.watched in
    let places = c.place_count.ensures.count ∙ ap (λ (gs : List (List ℕ)). length (concat_places gs)) c.as_slice.ensures.whole in
    omega (arith, room, c.len-3.ensures.count, c.len-4.ensures.count, places)

pub overflow_add-after-3 : goal.overflow_add-after-3
overflow_add-after-3 c =
    let room = twin_room c.args.source.now.circuit c.args.kept.now.registers c.args.kept.now.covers c.args.groups.now c.args.watched c.nets-nets.ensures.checked.closed c.requires.sized c.requires.kept c.requires.grouped c.requires.watched in
    let places = c.place_count.ensures.count ∙ ap (λ (gs : List (List ℕ)). length (concat_places gs)) c.as_slice.ensures.whole in
    omega (arith, room, c.inputs-inputs.ensures.count, c.len.ensures.count, c.len-2.ensures.count, c.len-3.ensures.count, c.len-4.ensures.count, places)

pub twin_plan-requires-clause-groups : goal.twin_plan-requires-clause-groups
twin_plan-requires-clause-groups c =
    plan_groups c.args.source.now.circuit c.args.groups.now (length c.outputs-outputs.result.now) c.requires.grouped
    (outputs_long c.args.source.now.circuit c.outputs-outputs.result.now c.outputs-outputs.ensures.outputs)

pub twin_plan-requires-clause-room : goal.twin_plan-requires-clause-room
twin_plan-requires-clause-room c =
    let room = twin_room c.args.source.now.circuit c.args.kept.now.registers c.args.kept.now.covers c.args.groups.now c.args.watched c.nets-nets.ensures.checked.closed c.requires.sized c.requires.kept c.requires.grouped c.requires.watched in
    omega (arith, room, c.inputs-inputs.ensures.count, c.len.ensures.count, c.len-2.ensures.count, c.len-3.ensures.count, c.len-4.ensures.count)

pub watch_nets-requires-clause-few : goal.watch_nets-requires-clause-few
watch_nets-requires-clause-few c =
    let room = twin_room c.args.source.now.circuit c.args.kept.now.registers c.args.kept.now.covers c.args.groups.now c.args.watched c.nets-nets.ensures.checked.closed c.requires.sized c.requires.kept c.requires.grouped c.requires.watched in
    omega (arith, room, c.inputs-inputs.ensures.count)

pub watch_nets-requires-clause-small : goal.watch_nets-requires-clause-small
watch_nets-requires-clause-small c =
    let room = twin_room c.args.source.now.circuit c.args.kept.now.registers c.args.kept.now.covers c.args.groups.now c.args.watched c.nets-nets.ensures.checked.closed c.requires.sized c.requires.kept c.requires.grouped c.requires.watched in
    let places = c.place_count.ensures.count ∙ ap (λ (gs : List (List ℕ)). length (concat_places gs)) c.as_slice.ensures.whole in
    omega (arith, room, c.inputs-inputs.ensures.count, c.len.ensures.count, c.len-2.ensures.count, c.len-3.ensures.count, c.len-4.ensures.count, places)
