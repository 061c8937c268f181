use Rattle.std.proofs.Common.{◌≡◌, length, ap, sym, ◌∙◌, arith}
use Rattle.std.proofs.lemmas.List.{length-map}
use Rattle.question_text.specs.Nodes.{end_from}
use Rattle.question_text.specs.Failing.{cells_end}
use Rattle.question_text.specs.Whole.{right_first, failing_first, outputs_first}
use Rattle.question_text.proofs.Ends.{firsts_rise}
use Rattle.question_text.proofs.numbers.numbers_of.Goals as goal

pub copy_from-requires : goal.copy_from-requires
copy_from-requires c =
    let C = c.args.source.now.circuit in
    let rise = firsts_rise C c.args.net.now.circuit c.args.groups.now in
    let first = ap (λ n. end_from n C.nodes) c.inputs.ensures.count in
    record { room = omega (arith, first, rise.0, rise.1, rise.2, c.requires.room) }

pub copy_from-requires-2 : goal.copy_from-requires-2
copy_from-requires-2 c =
    let C = c.args.source.now.circuit in
    let N = c.args.net.now.circuit in
    let rise = firsts_rise C N c.args.groups.now in
    let end : c.in_ok-of_source.of_source.end ≡ right_first C N = c.in_ok-of_source.ensures.end ∙ ap (λ n. end_from n C.nodes) c.inputs.ensures.count in
    let first = ap (λ n. end_from n N.nodes) end in
    record { room = omega (arith, first, rise.0, rise.1, rise.2, c.requires.room) }

pub failing_from-requires : goal.failing_from-requires
failing_from-requires c =
    let C = c.args.source.now.circuit in
    let N = c.args.net.now.circuit in
    let rise = firsts_rise C N c.args.groups.now in
    let end : c.in_ok-of_source.of_source.end ≡ right_first C N = c.in_ok-of_source.ensures.end ∙ ap (λ n. end_from n C.nodes) c.inputs.ensures.count in
    let next : c.in_ok-of_right.of_right.end ≡ failing_first C N = c.in_ok-of_right.ensures.end ∙ ap (λ n. end_from n N.nodes) end in
    let first = ap (λ n. cells_end 0 n N.nodes) next in
    record { room = omega (arith, first, rise.0, rise.1, rise.2, c.requires.room) }

pub overflow_cast-first : goal.overflow_cast-first
overflow_cast-first c =
    let C = c.args.source.now.circuit in
    let rise = firsts_rise C c.args.net.now.circuit c.args.groups.now in
    let count : length c.outputs.result.now ≡ length C.outputs = sym (length-map c.outputs.result.now (λ net. net.number)) ∙ ap length c.outputs.ensures.outputs in
    omega (arith, count, rise.2, c.requires.room)

pub overflow_add-first : goal.overflow_add-first
overflow_add-first c =
    let C = c.args.source.now.circuit in
    let N = c.args.net.now.circuit in
    let rise = firsts_rise C N c.args.groups.now in
    let end : c.in_ok-of_source.of_source.end ≡ right_first C N = c.in_ok-of_source.ensures.end ∙ ap (λ n. end_from n C.nodes) c.inputs.ensures.count in
    let next : c.in_ok-of_right.of_right.end ≡ failing_first C N = c.in_ok-of_right.ensures.end ∙ ap (λ n. end_from n N.nodes) end in
    let last : c.in_ok-of_failing.of_failing.end ≡ outputs_first C N = c.in_ok-of_failing.ensures.end ∙ ap (λ n. cells_end 0 n N.nodes) next in
    let count : length c.outputs.result.now ≡ length C.outputs = sym (length-map c.outputs.result.now (λ net. net.number)) ∙ ap length c.outputs.ensures.outputs in
    omega (arith, count, last, rise.2, c.requires.room)
