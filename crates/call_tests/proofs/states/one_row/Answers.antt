use Rattle.std.proofs.Common.{List, length, sym, ◌∙◌, ap, subst}
use Rattle.std.specs.Prelude.{All}
use Rattle.tsc_net.specs.MachineView.{MachineOf, machine_of, transitions_of, IsMachineRow}
use Rattle.tsc_net.specs.Overlap.{AreConsistent}
use Rattle.tsc_net.specs.declared.machine.MachineRow.{MachineRow}
use Rattle.state_code.specs.Lines.{rows_at}
use Rattle.call_tests.proofs.TestMachine.{row_fits, row_consistent}
use Rattle.call_tests.proofs.states.one_row.Goals as goal

pub of-requires-clause-rows : goal.of-requires-clause-rows
of-requires-clause-rows c = subst (λ (rows : List MachineRow). All (IsMachineRow 1 1 1 0) rows) (sym c.in_ok-rows.ensures.same) row_fits

pub of-requires-clause-consistent : goal.of-requires-clause-consistent
of-requires-clause-consistent c = subst (λ (rows : List MachineRow). AreConsistent (transitions_of 1 1 rows)) (sym c.in_ok-rows.ensures.same) row_consistent

pub returns-clause-rows : goal.returns-clause-rows
returns-clause-rows c =
    ap (λ (m : MachineOf). length (rows_at m.table 0)) c.of.ensures.machine
    ∙ ap (λ (rows : List MachineRow). length (rows_at (machine_of 1 1 1 0 rows).table 0)) c.in_ok-rows.ensures.same
