use Rattle.std.proofs.Common.{sym, ◌∙◌}
use Rattle.tsc_bits.specs.Bits.{bit_worth}
use Rattle.state_code.proofs.OverInputs.{over_twice}
use Rattle.state_code.proofs.Matched.{literal_made}
use Rattle.state_code.proofs.matching.with_literal.Goals as goal

pub returns-in_err-line-clause-grown : goal.returns-in_err-line-clause-grown
returns-in_err-line-clause-grown c = over_twice c.args.gates.now c.input_line.new.gates c.both.new.gates c.in_ok-wanted.ensures.grown (c.both.ensures.over_inputs)

pub returns-clause-computes : goal.returns-clause-computes
returns-clause-computes c =
    literal_made c.args.gates.now c.input_line.new.gates c.both.new.gates c.args.made c.in_ok-wanted.wanted c.in_ok-line.line
    (bit_worth c.args.place c.args.row.care) c.bit_at-2.result (bit_worth c.args.place c.args.row.value) c.args.input
    c.requires.made c.in_ok-wanted.ensures.computes c.in_ok-line.ensures.computes (sym c.bit_at.ensures.bit ∙ c.if-not-bit_at.false) c.bit_at-2.ensures.bit

pub returns-clause-grown : goal.returns-clause-grown
returns-clause-grown c = over_twice c.args.gates.now c.input_line.new.gates c.both.new.gates c.in_ok-wanted.ensures.grown (c.both.ensures.over_inputs)
