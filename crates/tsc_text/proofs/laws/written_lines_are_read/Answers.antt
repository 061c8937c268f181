use Rattle.tsc_text.proofs.Written.{lines_from-text, lines_of-text_of}
use Rattle.tsc_text.proofs.laws.written_lines_are_read.Goals as goal

pub returns : goal.returns
returns c = record { read = λ lines h. lines_of-text_of lines h; followed = λ lines number rest h. lines_from-text lines h number rest }
