use Rattle.std.proofs.Common.{sym, ◌∙◌, ap₂, ap}
use Rattle.tsc_cover.specs.Row.{literal}
use Rattle.tsc_cover.specs.Text.{character_of}
use Rattle.tsc_cover.proofs.Row.{literal_at-literals}
use Rattle.tsc_cover.proofs.texts.char_at.Goals as goal

pub returns : goal.returns
returns c = record {
  character =
      c.character.ensures.character
      ∙ ap character_of
      (ap₂ literal c.bit_at.ensures.bit c.bit_at-2.ensures.bit
      ∙ sym (literal_at-literals c.args.width c.args.row.now.care c.args.row.now.value c.args.pin c.requires.below));
}
