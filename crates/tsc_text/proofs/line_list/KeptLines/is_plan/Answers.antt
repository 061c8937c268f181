use Rattle.std.proofs.Common.{ap, sym, ◌∙◌}
use Rattle.tsc_text.specs.Row.{KeptLine, Mark}
use Rattle.tsc_text.proofs.JumpLines.{line-below, line-seen}
use Rattle.tsc_text.proofs.line_list.KeptLines.is_plan.Goals as goal

pub get-requires : goal.get-requires
get-requires c = line-below c.self.inside.jumps c.self.inside.marks c.args.self.now c.args.line c.self.view_is c.requires

pub returns : goal.returns
returns c = record {
  plan =
      c.is_plan.ensures.plan ∙ ap (λ (mark : Mark). mark.is_plan) c.get.ensures.item
      ∙ sym (ap (λ (line : KeptLine). line.mark.is_plan) (line-seen c.self.inside.jumps c.self.inside.marks c.args.self.now c.args.line c.get.result.now c.self.view_is c.requires));
}
