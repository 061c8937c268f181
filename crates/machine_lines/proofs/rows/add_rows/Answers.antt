use Rattle.std.proofs.Common.{false}
use Rattle.tsc_net.specs.MachineView.{no_row}
use Rattle.gate_net.specs.declared.line.Line.{Line}
use Rattle.machine_lines.specs.Cases.{row_word}
use Rattle.machine_lines.proofs.CaseLists.{row_adds, rows_added}
use Rattle.machine_lines.proofs.rows.add_rows.Goals as goal

abbrev no_line : Line
no_line = record { number = 0 }

pub loop-place-preserved : goal.loop-place-preserved
loop-place-preserved c =
    row_adds c.args.widths c.args.cases.now c.loop-place.cases c.push.new.self c.args.decoded c.args.lines.now c.args.rows.now (row_word c.args.code c.args.widths c.args.codes.now.words.words) c.loop-place.place no_line no_row c.case_of-case.result
    c.loop-place.invariant c.requires.sized c.loop-place-test.true c.in_ok-push.ensures.ok c.case_of-case.ensures.decoded c.case_of-case.ensures.line c.case_of-case.ensures.word

pub returns : goal.returns
returns c =
    record {
      adds = rows_added c.args.widths c.args.cases.now c.loop-place.cases c.args.decoded c.args.lines.now c.args.rows.now (row_word c.args.code c.args.widths c.args.codes.now.words.words) c.loop-place.place
          c.loop-place.invariant c.requires.sized c.loop-place-test.false;
    }
