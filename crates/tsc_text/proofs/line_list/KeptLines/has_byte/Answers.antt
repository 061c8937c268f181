use Rattle.std.proofs.Common.{ap, sym, ◌∙◌}
use Rattle.tsc_text.specs.Row.{KeptLine, Mark}
use Rattle.tsc_text.proofs.JumpLines.{line-below, line-seen}
use Rattle.tsc_text.proofs.line_list.KeptLines.has_byte.Goals as goal

pub get-requires : goal.get-requires
get-requires c = line-below c.self.inside.jumps c.self.inside.marks c.args.self.now c.args.line c.self.view_is c.requires

pub returns : goal.returns
returns c = record {
  byte =
      c.has_byte.ensures.byte ∙ ap (λ (mark : Mark). mark.has_byte) c.get.ensures.item
      ∙ sym (ap (λ (line : KeptLine). line.mark.has_byte) (line-seen c.self.inside.jumps c.self.inside.marks c.args.self.now c.args.line c.get.result.now c.self.view_is c.requires));
}
