use Rattle.std.proofs.Common.{◌≡◌, take, true}
use Rattle.tsc_cover.specs.Cover.{literals}
use Rattle.tsc_cover.specs.Row.{IsRow}
use Rattle.tsc_cover.specs.Text.{literals_of_text, is_row_text}
use Rattle.tsc_cover.proofs.texts.row_of.Given as goal

abbrev pub invariant-loop-character : goal.invariant-loop-character
invariant-loop-character l = record {
  made : literals l.character-index l.row.care l.row.value ≡ literals_of_text (take l.character-index l.text);
  fit : IsRow l.character-index l.row;
  read : is_row_text (take l.character-index l.text) ≡ true;
}
