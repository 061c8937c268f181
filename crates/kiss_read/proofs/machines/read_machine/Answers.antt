-- The refusal of a table whose rows and reset state name states is that of a conflict.
use Rattle.std.proofs.Common.{IfErr, sym, subst, ◌∙◌}
use Rattle.kiss_read.specs.Refusal.{IsRefusedBy}
use Rattle.kiss_read.proofs.TableRefused.{table_refused}
use Rattle.kiss_read.proofs.machines.read_machine.Goals as goal

pub returns-clause-refused : goal.returns-clause-refused
returns-clause-refused c =
    subst (λ refusal. IfErr c.checked.result (IsRefusedBy refusal))
    (sym (table_refused c.args.section.now c.args.states.now (record { inputs = c.args.inputs; outputs = c.args.outputs; reset = c.in-Ok.reset }) c.in-Ok-read_rows.rows
    c.requires.states c.in-Ok.ensures.reset c.in-Ok-read_rows.ensures.rows (λ e. c.if-len-eq0.false (c.len.ensures.count ∙ e)) c.in-Ok.ensures.sound))
    c.checked.ensures.refused
