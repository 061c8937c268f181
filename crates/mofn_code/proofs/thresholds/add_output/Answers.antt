use Rattle.mofn_code.proofs.Rows.{row_of_output}
use Rattle.mofn_code.proofs.thresholds.add_output.Goals as goal

pub returns-clause-added : goal.returns-clause-added
returns-clause-added c =
    row_of_output c.args.gates.now c.zero_line.new.gates c.add_row.new.gates c.args.row.now c.in_ok-next.next.items c.args.output c.in_ok-zero.zero
    c.requires.row c.in_ok-zero.ensures.zero c.in_ok-next.ensures.added
