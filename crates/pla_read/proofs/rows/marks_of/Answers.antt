-- One character more, and all of them.
use Rattle.std.proofs.Common.{arith}
use Rattle.pla_read.proofs.RowNumbers.{marks_all, marks_more, marks_room}
use Rattle.pla_read.proofs.rows.marks_of.Goals as goal

pub with_bit-number-requires : goal.with_bit-number-requires
with_bit-number-requires c = record {
  room = marks_room c.args.read c.args.mark c.args.word.now c.loop-character.character-index c.loop-character.number c.loop-character.invariant
      c.loop-character-test.true c.requires.room;
}

pub loop-character-preserved : goal.loop-character-preserved
loop-character-preserved c =
    marks_more c.args.read c.args.mark c.args.word.now c.loop-character.character-index c.loop-character.number c.with_bit-number.result 0 c.says.result
    c.loop-character.invariant c.loop-character-test.true c.with_bit-number.ensures.number c.says.ensures.says

pub returns : goal.returns
returns c = record {
  bits = marks_all c.args.read c.args.mark c.args.word.now c.loop-character.character-index c.loop-character.number c.loop-character.invariant (omega arith);
}
