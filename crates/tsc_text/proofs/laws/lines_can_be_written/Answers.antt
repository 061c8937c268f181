use Rattle.tsc_text.proofs.ReadWords.{lines_of-written}
use Rattle.tsc_text.proofs.laws.lines_can_be_written.Goals as goal

pub returns : goal.returns
returns c = record { written = λ text. lines_of-written text }
