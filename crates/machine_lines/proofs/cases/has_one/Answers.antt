use Rattle.std.proofs.Common.{◌∙◌, sym}
use Rattle.machine_lines.proofs.Words.{output_bit, check_bit, next_bit}
use Rattle.machine_lines.proofs.cases.has_one.Goals as goal

pub returns-then-place-outputs : goal.returns-then-place-outputs
returns-then-place-outputs c =
    let W = c.args.widths in
    let case = c.args.case.now in
    record { bit = c.bit_at.ensures.bit ∙ sym (output_bit W.outputs W.checks W.bits case.outputs case.check case.next c.args.place c.if-place-outputs.true) }

pub returns-then-place-checked : goal.returns-then-place-checked
returns-then-place-checked c =
    let W = c.args.widths in
    let case = c.args.case.now in
    record { bit = c.bit_at-then-place-checked.ensures.bit ∙ sym (check_bit W.outputs W.checks W.bits case.outputs case.check case.next c.args.place c.if-place-outputs.false c.if-place-checked.true) }

pub returns : goal.returns
returns c =
    let W = c.args.widths in
    let case = c.args.case.now in
    record { bit = c.bit_at-2.ensures.bit ∙ sym (next_bit W.outputs W.checks W.bits case.outputs case.check case.next c.args.place c.if-place-checked.false c.requires.within) }
