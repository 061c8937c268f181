use Rattle.std.proofs.Common.{◌<◌, length, All, sym, ap, ◌∙◌, subst, arith}
use Rattle.tsc_net.specs.Order.{fan_ins, evaluation_order}
use Rattle.diagrams.proofs.Waits.{same_error}
use Rattle.circuit_diagrams.specs.NetRows.{NetsStand}
use Rattle.circuit_diagrams.proofs.Lists.{written_back}
use Rattle.circuit_diagrams.proofs.circuits.filled_rows.Goals as goal

pub returns-in-Ok-fill_rows-clause-inside : goal.returns-in-Ok-fill_rows-clause-inside
returns-in-Ok-fill_rows-clause-inside c =
    subst (All (λ row. row < length c.fill_rows.new.diagrams.rows))
    (sym (written_back c.fill_rows.new.rows c.in-Ok.rows.items c.in-Ok.rows.len (omega arith) (c.in-Ok-fill_rows.ensures.sized ∙ ap length c.deref_mut.ensures.value))) c.in-Ok-fill_rows.ensures.inside

pub returns-in-Ok-fill_rows-clause-stand : goal.returns-in-Ok-fill_rows-clause-stand
returns-in-Ok-fill_rows-clause-stand c = λ v vals.
    subst (NetsStand c.fill_rows.new.diagrams c.args.net.now.circuit v c.args.marks.now (evaluation_order (fan_ins c.args.net.now.circuit)) (length (evaluation_order (fan_ins c.args.net.now.circuit))))
    (sym (written_back c.fill_rows.new.rows c.in-Ok.rows.items c.in-Ok.rows.len (omega arith) (c.in-Ok-fill_rows.ensures.sized ∙ ap length c.deref_mut.ensures.value))) (c.in-Ok-fill_rows.ensures.stand v vals)

pub returns-in-Err-fill_rows-clause-short : goal.returns-in-Err-fill_rows-clause-short
returns-in-Err-fill_rows-clause-short c = λ spent v vals. c.in-Err-fill_rows.ensures.short (same_error c.in-Err-fill_rows.e _ spent) v vals
