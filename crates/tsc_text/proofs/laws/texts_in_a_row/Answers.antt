use Rattle.tsc_text.proofs.JoinedTexts.{lines_of-append}
use Rattle.tsc_text.proofs.laws.texts_in_a_row.Goals as goal

pub returns : goal.returns
returns c = record { lines = λ first second h. lines_of-append first second h }
