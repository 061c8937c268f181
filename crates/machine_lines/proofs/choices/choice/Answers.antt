use Rattle.std.proofs.Common.{◌∙◌, sym, length, arith}
use Rattle.std.proofs.lemmas.Bool.{eqb-true, eqb-false}
use Rattle.machine_lines.proofs.Choosing.{choice_none, choice_made, chosen_decoded, chosen_lines, choice_room, choice_few}
use Rattle.machine_lines.proofs.choices.choice.Goals as goal

pub returns-then-is_empty-clause-computes : goal.returns-then-is_empty-clause-computes
returns-then-is_empty-clause-computes c =
    choice_none c.args.widths c.args.gates.now c.args.place c.args.cases.now c.as_slice-chosen.result.now c.args.zero c.requires.zero (c.as_slice-chosen.ensures.value ∙ c.in_ok-held.ensures.cases)
    (eqb-true (length c.as_slice-chosen.result.now) 0 (sym c.is_empty.ensures ∙ c.if-is_empty.true))

pub select-requires-clause-decoded : goal.select-requires-clause-decoded
select-requires-clause-decoded c =
    chosen_decoded c.args.widths c.args.gates.now c.args.place c.args.cases.now c.as_slice-chosen.result.now c.in_ok-decoded.decoded c.requires.cases (c.as_slice-chosen.ensures.value ∙ c.in_ok-held.ensures.cases) c.in_ok-decoded.ensures.lines

pub select-requires-clause-per_state : goal.select-requires-clause-per_state
select-requires-clause-per_state c =
    chosen_lines c.args.widths c.args.gates.now c.args.place c.args.cases.now c.as_slice-chosen.result.now c.in_ok-lines.lines c.requires.cases (c.as_slice-chosen.ensures.value ∙ c.in_ok-held.ensures.cases) c.in_ok-lines.ensures.lines

pub select-requires-clause-room : goal.select-requires-clause-room
select-requires-clause-room c =
    omega (arith, c.requires.room, choice_room c.args.widths c.args.gates.now c.args.place c.args.cases.now c.as_slice-chosen.result.now c.in_ok-lines.lines (c.as_slice-chosen.ensures.value ∙ c.in_ok-held.ensures.cases) c.in_ok-lines.ensures.lines)

pub returns-in_err-line-clause-few : goal.returns-in_err-line-clause-few
returns-in_err-line-clause-few c =
    omega (
      arith,
      c.select.ensures.few,
      choice_few c.args.widths c.args.gates.now c.args.place c.args.cases.now c.as_slice-chosen.result.now c.in_ok-lines.lines (c.as_slice-chosen.ensures.value ∙ c.in_ok-held.ensures.cases) c.in_ok-lines.ensures.lines
          (eqb-false (length c.as_slice-chosen.result.now) 0 (sym c.is_empty.ensures ∙ c.if-is_empty.false)),
    )

pub returns-clause-computes : goal.returns-clause-computes
returns-clause-computes c =
    choice_made c.args.widths c.args.gates.now c.select.new.gates c.args.place c.args.cases.now c.as_slice-chosen.result.now c.in_ok-decoded.decoded c.in_ok-lines.lines c.in_ok-line.line
    (c.as_slice-chosen.ensures.value ∙ c.in_ok-held.ensures.cases) c.in_ok-decoded.ensures.lines c.in_ok-lines.ensures.lines c.in_ok-line.ensures.selected

pub returns-clause-few : goal.returns-clause-few
returns-clause-few c =
    omega (
      arith,
      c.select.ensures.few,
      choice_few c.args.widths c.args.gates.now c.args.place c.args.cases.now c.as_slice-chosen.result.now c.in_ok-lines.lines (c.as_slice-chosen.ensures.value ∙ c.in_ok-held.ensures.cases) c.in_ok-lines.ensures.lines
          (eqb-false (length c.as_slice-chosen.result.now) 0 (sym c.is_empty.ensures ∙ c.if-is_empty.false)),
    )
