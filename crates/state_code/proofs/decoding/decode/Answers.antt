use Rattle.state_code.specs.Lines.{foreign_to_decode}
use Rattle.state_code.proofs.Without.{without_twice, decode_adds_no_negation}
use Rattle.state_code.proofs.decoding.decode.Goals as goal

pub returns-in_err-lines-clause-only : goal.returns-in_err-lines-clause-only
returns-in_err-lines-clause-only c = (without_twice foreign_to_decode c.args.gates.now c.state_lines.new.gates c.word_lines.new.gates c.in_ok-bits.ensures.grown c.in_err-lines.ensures.grown).none

pub returns-in_err-lines-clause-positive : goal.returns-in_err-lines-clause-positive
returns-in_err-lines-clause-positive c = decode_adds_no_negation c.args.gates.now c.word_lines.new.gates (without_twice foreign_to_decode c.args.gates.now c.state_lines.new.gates c.word_lines.new.gates c.in_ok-bits.ensures.grown c.in_err-lines.ensures.grown)

pub returns-clause-only : goal.returns-clause-only
returns-clause-only c = (without_twice foreign_to_decode c.args.gates.now c.state_lines.new.gates c.word_lines.new.gates c.in_ok-bits.ensures.grown c.in_ok-lines.ensures.grown).none

pub returns-clause-positive : goal.returns-clause-positive
returns-clause-positive c = decode_adds_no_negation c.args.gates.now c.word_lines.new.gates (without_twice foreign_to_decode c.args.gates.now c.state_lines.new.gates c.word_lines.new.gates c.in_ok-bits.ensures.grown c.in_ok-lines.ensures.grown)
