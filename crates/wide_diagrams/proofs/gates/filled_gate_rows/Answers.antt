use Rattle.std.proofs.Common.{◌<◌, length, All, sym, ap, ◌∙◌, subst, arith}
use Rattle.code_checkers.specs.Gates.{signals_of}
use Rattle.circuit_diagrams.proofs.Lists.{written_back}
use Rattle.diagrams.proofs.Waits.{same_error}
use Rattle.wide_diagrams.specs.GateRows.{SignalsStand}
use Rattle.wide_diagrams.proofs.gates.filled_gate_rows.Goals as goal

pub returns-in-Ok-gate_rows-clause-inside : goal.returns-in-Ok-gate_rows-clause-inside
returns-in-Ok-gate_rows-clause-inside c =
    subst (All (λ row. row < length c.gate_rows.new.diagrams.rows))
    (sym (written_back c.gate_rows.new.rows c.in-Ok.rows.items c.in-Ok.rows.len (omega arith) (c.in-Ok-gate_rows.ensures.sized ∙ ap length c.deref_mut.ensures.value))) c.in-Ok-gate_rows.ensures.inside

pub returns-in-Ok-gate_rows-clause-stand : goal.returns-in-Ok-gate_rows-clause-stand
returns-in-Ok-gate_rows-clause-stand c = λ ws P.
    subst (SignalsStand c.gate_rows.new.diagrams ws (signals_of c.args.gates.now.gates) (length c.args.gates.now.gates))
    (sym (written_back c.gate_rows.new.rows c.in-Ok.rows.items c.in-Ok.rows.len (omega arith) (c.in-Ok-gate_rows.ensures.sized ∙ ap length c.deref_mut.ensures.value))) (c.in-Ok-gate_rows.ensures.stand ws P)

pub returns-in-Err-gate_rows-clause-short : goal.returns-in-Err-gate_rows-clause-short
returns-in-Err-gate_rows-clause-short c = λ spent ws kept P needed. c.in-Err-gate_rows.ensures.short (same_error c.in-Err-gate_rows.e _ spent) ws kept P needed
