-- The first row that answers, and the reset state where none does.
use Rattle.std.proofs.Common.{◌≡◌, ◌<◌, ◌^◌, Some, None, find, subst, ap, ◌∙◌}
use Rattle.tsc_bits.specs.Bits.{bits_of}
use Rattle.fault_secure.specs.Logic.{answering, next_of_rows, outputs_of_rows}
use Rattle.tsc_net.specs.MachineView.{MachineOf, row_applies}
use Rattle.tsc_net.proofs.MachineLemmas.{first_answers, none_answers}
use Rattle.tsc_net.proofs.machine.Machine.answer.Goals as goal

pub returns-in-Some : goal.returns-in-Some
returns-in-Some c =
    let m = c.self.inside in
    let q = c.args.state in
    let x = c.args.input in
    let found : Some c.in-Some.row.now ≡ find (row_applies q x) m.rows =
    c.in-Some.ensures.first ∙ ap (find (row_applies q x)) c.as_slice.ensures.whole in
    let a = first_answers m.inputs m.outputs m.states m.reset m.rows c.self.invariant q x c.in-Some.row.now found in
    let given = c.in-Some.row.now.outputs in
    let next = c.in-Some.row.now.next in
    record {
      outputs = subst (λ (v : MachineOf). bits_of v.table.outputs given ≡ outputs_of_rows v.table (answering v.table q (bits_of v.table.inputs x))) c.self.view_is a.chosen;
      next = subst (λ (v : MachineOf). next ≡ next_of_rows v.table (answering v.table q (bits_of v.table.inputs x))) c.self.view_is a.goes;
      narrow = subst (λ (v : MachineOf). given < 2 ^ v.table.outputs) c.self.view_is a.narrow;
      is_state = subst (λ (v : MachineOf). next < v.table.states) c.self.view_is a.is_state;
    }

pub returns-in-None : goal.returns-in-None
returns-in-None c =
    let m = c.self.inside in
    let q = c.args.state in
    let x = c.args.input in
    let found : None ≡ find (row_applies q x) m.rows =
    c.in-None.ensures.first ∙ ap (find (row_applies q x)) c.as_slice.ensures.whole in
    let a = none_answers m.inputs m.outputs m.states m.reset m.rows c.self.invariant q x found in
    let next = m.reset in
    record {
      outputs = subst (λ (v : MachineOf). bits_of v.table.outputs 0 ≡ outputs_of_rows v.table (answering v.table q (bits_of v.table.inputs x))) c.self.view_is a.chosen;
      next = subst (λ (v : MachineOf). next ≡ next_of_rows v.table (answering v.table q (bits_of v.table.inputs x))) c.self.view_is a.goes;
      narrow = subst (λ (v : MachineOf). 0 < 2 ^ v.table.outputs) c.self.view_is a.narrow;
      is_state = subst (λ (v : MachineOf). next < v.table.states) c.self.view_is a.is_state;
    }
