use Rattle.std.proofs.Common.{◌+◌, ◌*◌, false, [], length, sym, ap, subst, arith}
use Rattle.std.proofs.lemmas.List.Elements.{All-from_recursion}
use Rattle.tsc_net.specs.MachineView.{no_row}
use Rattle.gate_net.specs.Gates.{IsLine, AreLines, line_values}
use Rattle.state_code.proofs.OverInputs.{over_none, over_twice}
use Rattle.state_code.proofs.Matched.{rows_few, rows_more, row_pushed, rows_done}
use Rattle.state_code.proofs.matching.matching_lines.Goals as goal

pub add_row-requires-clause-room : goal.add_row-requires-clause-room
add_row-requires-clause-room c =
    let few = rows_few c.args.state c.args.rows.now c.loop-row.row-index no_row (3 * c.args.inputs + 1) c.loop-row-test.true in
    omega (arith, few.0, few.1, c.loop-row.invariant.few, c.requires.room)

pub returns-in_err-add_row-clause-grown : goal.returns-in_err-add_row-clause-grown
returns-in_err-add_row-clause-grown c = over_twice c.args.gates.now c.loop-row.gates c.add_row.new.gates c.loop-row.invariant.grown c.in_err-add_row.ensures.grown

pub returns-in_err-add_row-clause-few : goal.returns-in_err-add_row-clause-few
returns-in_err-add_row-clause-few c =
    let few = rows_few c.args.state c.args.rows.now c.loop-row.row-index no_row (3 * c.args.inputs + 1) c.loop-row-test.true in
    omega (arith, few.0, few.1, c.loop-row.invariant.few, c.in_err-add_row.ensures.few)

pub loop-row-init : goal.loop-row-init
loop-row-init c =
    let start = c.args.gates.now in
    record {
      values = λ x s. ap (line_values start x s) c.new-lines.ensures.empty;
      within = subst (AreLines start) (sym c.new-lines.ensures.empty) (All-from_recursion (IsLine start) [] tt);
      count = ap length c.new-lines.ensures.empty;
      grown = over_none start;
      few = omega arith;
    }

pub loop-row-preserved : goal.loop-row-preserved
loop-row-preserved c =
    let start = c.args.gates.now in
    let here = c.loop-row.gates in
    let new = c.add_row.new.gates in
    let rows = c.args.rows.now in
    let i = c.loop-row.row-index in
    let before = c.loop-row.invariant in
    let few = rows_few c.args.state rows i no_row (3 * c.args.inputs + 1) c.loop-row-test.true in
    let pushed = row_pushed start here new c.args.inputs c.args.state rows i no_row c.loop-row.lines c.add_row.new.lines before.grown.grows c.loop-row-test.true before.values c.in_ok-add_row.ensures.lines in
    record {
      values = pushed.values;
      within = pushed.within;
      count = omega (arith, before.count, c.in_ok-add_row.ensures.count, rows_more c.args.state rows i no_row c.loop-row-test.true);
      grown = over_twice start here new before.grown c.in_ok-add_row.ensures.grown;
      few = omega (arith, few.0, before.few, c.in_ok-add_row.ensures.few);
    }

pub returns-clause-lines : goal.returns-clause-lines
returns-clause-lines c =
    let loop = c.loop-row.invariant in
    rows_done c.args.gates.now c.loop-row.gates c.args.inputs c.args.state c.args.rows.now c.loop-row.row-index c.loop-row.lines loop.grown.grows loop.within c.loop-row-test.false loop.values
