use Rattle.std.proofs.Common.{◌+◌, ◌∙◌, length, ap, arith}
use Rattle.std.specs.List.{range_with_len}
use Rattle.std.proofs.lemmas.List.FromFn.{length-range_with_len}
use Rattle.twin_synth.proofs.TableSteps.{registers_within, covers_within, nets_within, table_made}
use Rattle.twin_synth.proofs.tables.table.Goals as goal

pub place_numbers-requires-clause-within : goal.place_numbers-requires-clause-within
place_numbers-requires-clause-within c =
    let C = c.args.source.now.circuit in
    let long = ap length c.in_ok-numbers.ensures.numbers ∙ length-range_with_len 0 c.nets.result in
    nets_within c.args.registers.now c.inputs-inputs.result (length C.latches) _ (omega (arith, long, c.inputs-inputs.ensures.count, c.nets.ensures.count))
    (registers_within C c.args.registers.now c.args.covers.now c.requires.kept)

pub place_numbers-requires-clause-low : goal.place_numbers-requires-clause-low
place_numbers-requires-clause-low c =
    let long = ap length c.in_ok-numbers.ensures.numbers ∙ length-range_with_len 0 c.nets.result in
    omega (arith, long, c.inputs-inputs.ensures.few, c.nets.ensures.count)

pub place_numbers-requires-2-clause-within : goal.place_numbers-requires-2-clause-within
place_numbers-requires-2-clause-within c =
    let C = c.args.source.now.circuit in
    let long = ap length c.in_ok-numbers.ensures.numbers ∙ length-range_with_len 0 c.nets.result in
    let placed = c.place_numbers.ensures.placed in
    nets_within c.args.covers.now (c.inputs-inputs.result + c.latches.result) (length C.nodes) _
    (omega (arith, long, placed.sized, c.inputs-inputs.ensures.count, c.latches.ensures.count, c.nets.ensures.count))
    (covers_within C c.args.registers.now c.args.covers.now c.requires.kept)

pub place_numbers-requires-2-clause-low : goal.place_numbers-requires-2-clause-low
place_numbers-requires-2-clause-low c =
    let long = ap length c.in_ok-numbers.ensures.numbers ∙ length-range_with_len 0 c.nets.result in
    let placed = c.place_numbers.ensures.placed in
    omega (arith, long, placed.sized, c.inputs-inputs.ensures.few, c.nets.ensures.count)

pub returns : goal.returns
returns c = record {
  table = table_made c.args.source.now.circuit c.args.registers.now c.args.covers.now c.args.first_register c.args.first_cover c.inputs-inputs.result c.latches.result
      c.in_ok-numbers.numbers c.place_numbers.new.numbers c.place_numbers-2.new.numbers c.requires.kept c.inputs-inputs.ensures.count c.latches.ensures.count
      (c.in_ok-numbers.ensures.numbers ∙ ap (range_with_len 0) c.nets.ensures.count) c.place_numbers.ensures.placed c.place_numbers-2.ensures.placed;
}
