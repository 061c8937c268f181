use Rattle.std.proofs.Common.{◌≤◌, ◌*◌, ◌^◌, length, ap, ◌∙◌, arith}
use Rattle.mapping_reading.specs.Pins.{at_of}
use Rattle.mapping_audit.proofs.Trying.{block_given, block_missed, all_given}
use Rattle.mapping_audit.proofs.values.first_missed.Goals as goal

pub loop-block-preserved : goal.loop-block-preserved
loop-block-preserved c = record {
  zeros = c.missed_from-missed.ensures.zeros;
  given = block_given c.args.plain.now.circuit c.args.mapped.now.circuit (at_of c.args.mapped.now.circuit c.args.moved.now) c.args.gates.now c.args.node c.loop-block.block c.missed_from-missed.result
      c.missed_from-missed.ensures.given c.loop-block.invariant.given c.first_one.result c.in_default.not-Some c.first_one.ensures.first;
}

pub returns-in-Some-clause-first : goal.returns-in-Some-clause-first
returns-in-Some-clause-first c =
    block_missed c.args.plain.now.circuit c.args.mapped.now.circuit (at_of c.args.mapped.now.circuit c.args.moved.now) c.args.gates.now c.args.node c.loop-block.block c.missed_from-missed.result
    c.missed_from-missed.ensures.given c.loop-block.invariant.given c.in-Some.at c.in-Some.ensures.first

pub returns-clause-first : goal.returns-clause-first
returns-clause-first c =
    let past : c.width_of-most.result ≤ 64 * c.loop-block.block = omega (arith, c.loop-block-test.false) in
    all_given c.args.plain.now.circuit c.args.mapped.now.circuit (at_of c.args.mapped.now.circuit c.args.moved.now) c.args.gates.now c.args.node c.loop-block.block c.width_of-most.result
    (c.width_of-most.ensures.width ∙ ap (λ pins. 2 ^ length pins) c.requires.pins) past c.loop-block.invariant.given
