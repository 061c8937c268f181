use Rattle.std.proofs.Common.{length, count_by, ◌∙◌, arith}
use Rattle.state_code.specs.Lines.{rows_at, may_answer}
use Rattle.state_code.proofs.OverInputs.{over_twice}
use Rattle.state_code.proofs.Matched.{rows_most, count_table, rows_kept, other_kept, rows_apply, none_apply}
use Rattle.state_code.proofs.matching.row_lines.Goals as goal

pub matching_lines-requires-clause-room : goal.matching_lines-requires-clause-room
matching_lines-requires-clause-room c =
    let M = c.args.machine.now.table in
    let most = rows_most (count_by (may_answer c.args.state) c.rows-rows.result.now) (length (rows_at M c.args.state)) c.inputs-inputs.result M.inputs (count_table M c.args.state c.rows-rows.result.now c.rows-rows.ensures.rows) c.inputs-inputs.ensures.inputs in
    omega (arith, most, c.requires.room)

pub returns-in_err-lines-clause-few : goal.returns-in_err-lines-clause-few
returns-in_err-lines-clause-few c =
    let M = c.args.machine.now.table in
    let most = rows_most (count_by (may_answer c.args.state) c.rows-rows.result.now) (length (rows_at M c.args.state)) c.inputs-inputs.result M.inputs (count_table M c.args.state c.rows-rows.result.now c.rows-rows.ensures.rows) c.inputs-inputs.ensures.inputs in
    omega (arith, most, c.in_err-lines.ensures.few)

pub other_line-requires-clause-room : goal.other_line-requires-clause-room
other_line-requires-clause-room c =
    let M = c.args.machine.now.table in
    let most = rows_most (count_by (may_answer c.args.state) c.rows-rows.result.now) (length (rows_at M c.args.state)) c.inputs-inputs.result M.inputs (count_table M c.args.state c.rows-rows.result.now c.rows-rows.ensures.rows) c.inputs-inputs.ensures.inputs in
    omega (arith, most, c.in_ok-lines.ensures.few, c.requires.room)

pub returns-in_err-other-clause-stateless : goal.returns-in_err-other-clause-stateless
returns-in_err-other-clause-stateless c = (over_twice c.args.gates.now c.matching_lines.new.gates c.other_line.new.gates c.in_ok-lines.ensures.grown c.in_err-other.ensures.grown).none

pub returns-in_err-other-clause-signs : goal.returns-in_err-other-clause-signs
returns-in_err-other-clause-signs c = (over_twice c.args.gates.now c.matching_lines.new.gates c.other_line.new.gates c.in_ok-lines.ensures.grown c.in_err-other.ensures.grown).signs

pub returns-in_err-other-clause-few : goal.returns-in_err-other-clause-few
returns-in_err-other-clause-few c =
    let M = c.args.machine.now.table in
    let most = rows_most (count_by (may_answer c.args.state) c.rows-rows.result.now) (length (rows_at M c.args.state)) c.inputs-inputs.result M.inputs (count_table M c.args.state c.rows-rows.result.now c.rows-rows.ensures.rows) c.inputs-inputs.ensures.inputs in
    omega (arith, most, c.in_ok-lines.ensures.few, c.in_err-other.ensures.few)

pub returns-clause-stateless : goal.returns-clause-stateless
returns-clause-stateless c = (over_twice c.args.gates.now c.matching_lines.new.gates c.other_line.new.gates c.in_ok-lines.ensures.grown c.in_ok-other.ensures.grown).none

pub returns-clause-signs : goal.returns-clause-signs
returns-clause-signs c = (over_twice c.args.gates.now c.matching_lines.new.gates c.other_line.new.gates c.in_ok-lines.ensures.grown c.in_ok-other.ensures.grown).signs

pub returns-clause-few : goal.returns-clause-few
returns-clause-few c =
    let M = c.args.machine.now.table in
    let most = rows_most (count_by (may_answer c.args.state) c.rows-rows.result.now) (length (rows_at M c.args.state)) c.inputs-inputs.result M.inputs (count_table M c.args.state c.rows-rows.result.now c.rows-rows.ensures.rows) c.inputs-inputs.ensures.inputs in
    omega (arith, most, c.in_ok-lines.ensures.few, c.in_ok-other.ensures.few)

pub returns-clause-rows : goal.returns-clause-rows
returns-clause-rows c =
    rows_kept c.args.machine.now.table c.args.state c.rows-rows.result.now c.rows-rows.ensures.rows c.args.gates.now c.matching_lines.new.gates c.other_line.new.gates c.inputs-inputs.result c.in_ok-lines.lines c.inputs-inputs.ensures.inputs
    c.in_ok-lines.ensures.lines c.in_ok-other.ensures.grown.grows

pub returns-clause-other : goal.returns-clause-other
returns-clause-other c =
    other_kept c.args.machine.now.table c.args.state c.rows-rows.result.now c.rows-rows.ensures.rows c.args.gates.now c.matching_lines.new.gates c.other_line.new.gates c.inputs-inputs.result c.in_ok-other.other c.inputs-inputs.ensures.inputs
    c.in_ok-lines.ensures.grown.grows c.in_ok-other.ensures.computes

pub returns-clause-count : goal.returns-clause-count
returns-clause-count c = c.in_ok-lines.ensures.count ∙ count_table c.args.machine.now.table c.args.state c.rows-rows.result.now c.rows-rows.ensures.rows

pub returns-clause-applies : goal.returns-clause-applies
returns-clause-applies c = rows_apply c.args.gates.now c.other_line.new.gates c.args.machine.now.table c.args.state c.in_ok-lines.lines (returns-clause-rows c)

pub returns-clause-nothing : goal.returns-clause-nothing
returns-clause-nothing c = none_apply c.args.gates.now c.other_line.new.gates c.args.machine.now.table c.args.state c.in_ok-other.other (returns-clause-other c)
