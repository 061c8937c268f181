-- The numbers of a row's words.
use Rattle.pla_read.proofs.RowNumbers.{row_fits, row_is}
use Rattle.pla_read.proofs.rows.row_at.Goals as goal

pub returns-clause-row : goal.returns-clause-row
returns-clause-row c =
    row_is c.args.heading c.args.line.now c.requires.shape c.word.result.now c.word-marks.result.now c.word.ensures.word c.word-marks.ensures.word
    c.pattern-input.result c.marks_of-ones.result c.marks_of-free.result c.pattern-input.ensures.literals c.marks_of-ones.ensures.bits c.marks_of-free.ensures.bits

pub returns-clause-fit : goal.returns-clause-fit
returns-clause-fit c =
    row_fits c.args.heading c.args.line.now c.requires.shape c.word.result.now c.word-marks.result.now c.word.ensures.word c.word-marks.ensures.word
    c.pattern-input.result c.marks_of-ones.result c.marks_of-free.result c.pattern-input.ensures.fit
