use Rattle.std.proofs.Common.{ap, ◌∙◌, map}
use Rattle.twin_synth.proofs.WatchGates.{groups_filled, checker_made, words_within, gates_few}
use Rattle.twin_synth.proofs.gates.twin_gates.Goals as goal

pub group_checker-requires-clause-filled : goal.group_checker-requires-clause-filled
group_checker-requires-clause-filled c =
    groups_filled c.args.outputs c.args.watched c.args.grouping.now c.as_slice.result.now
    (ap (map (λ group. group.places)) c.as_slice.ensures.whole ∙ c.in_ok-groups.ensures.places) c.requires.filled

pub returns-clause-made : goal.returns-clause-made
returns-clause-made c =
    checker_made c.args.outputs c.args.watched c.args.grouping.now _ c.in_ok-gates.gates
    (ap (map (λ group. group.places)) c.as_slice.ensures.whole ∙ c.in_ok-groups.ensures.places) c.in_ok-gates.ensures.made

pub returns-clause-words : goal.returns-clause-words
returns-clause-words c =
    words_within c.args.outputs c.args.watched c.args.grouping.now _ c.in_ok-gates.gates
    (ap (map (λ group. group.places)) c.as_slice.ensures.whole ∙ c.in_ok-groups.ensures.places) c.requires.some c.in_ok-gates.ensures.made

pub returns-clause-few : goal.returns-clause-few
returns-clause-few c =
    gates_few c.args.outputs c.args.watched c.args.grouping.now _ c.in_ok-gates.gates
    (ap (map (λ group. group.places)) c.as_slice.ensures.whole ∙ c.in_ok-groups.ensures.places) c.in_ok-gates.ensures.made
