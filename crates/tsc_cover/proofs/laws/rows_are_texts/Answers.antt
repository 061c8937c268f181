use Rattle.tsc_cover.proofs.Row.{same_row}
use Rattle.tsc_cover.proofs.Text.{is_row_text-text_of_literals, literals_of_text-text_of_literals, text_of_literals-literals_of_text}
use Rattle.tsc_cover.proofs.laws.rows_are_texts.Goals as goal

pub returns : goal.returns
returns c = record {
  shape = is_row_text-text_of_literals;
  read = literals_of_text-text_of_literals;
  written = text_of_literals-literals_of_text;
  same = same_row;
}
