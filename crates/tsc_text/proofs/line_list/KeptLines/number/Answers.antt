use Rattle.std.proofs.Common.{◌<◌, false, List, ap, arith, length, sym, ◌∙◌}
use Rattle.tsc_text.specs.declared.jumps.Jump.{Jump}
use Rattle.tsc_text.specs.Jumps.{jump_at, number_behind}
use Rattle.tsc_text.specs.Row.{KeptLine, Mark}
use Rattle.tsc_text.proofs.JumpLines.{line-below, line-seen}
use Rattle.tsc_text.proofs.line_list.KeptLines.number.Goals as goal

pub number_behind-requires-clause-few : goal.number_behind-requires-clause-few
number_behind-requires-clause-few c =
    let below : c.args.line < length c.self.inside.marks = line-below c.self.inside.jumps c.self.inside.marks c.args.self.now c.args.line c.self.view_is c.requires in
    omega (arith, c.self.invariant.few)

pub returns : goal.returns
returns c =
    let s = c.self.inside in
    let line = c.args.line in
    let none : Mark = record { is_plan = false; has_byte = false; past = 0 } in
    record {
      number = c.number_behind.ensures.number ∙ ap (λ (j : Jump). number_behind j line) (c.jump_at.ensures.jump ∙ ap (λ (js : List Jump). jump_at js line) c.as_slice.ensures.whole)
          ∙ sym (ap (λ (line : KeptLine). line.number) (line-seen s.jumps s.marks c.args.self.now line none c.self.view_is c.requires));
    }
