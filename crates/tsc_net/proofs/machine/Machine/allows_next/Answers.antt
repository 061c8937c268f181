-- Another state than the chosen one is allowed where no row that answers names one.
use Rattle.std.proofs.Common.{◌≡◌, not, ◌&&◌, inl, inr, sym, ap, ◌∙◌}
use Rattle.std.specs.List.{list_any}
use Rattle.tsc_bits.specs.Bits.{bits_of}
use Rattle.fault_secure.specs.Logic.{answering, is_free_next}
use Rattle.tsc_net.specs.MachineView.{row_applies}
use Rattle.tsc_net.proofs.MachineLemmas.{unnamed_next}
use Rattle.tsc_net.proofs.machine.Machine.allows_next.Goals as goal

pub returns-else-next-answer : goal.returns-else-next-answer
returns-else-next-answer c =
    let m = c.self.inside in
    let q = c.args.state in
    let x = c.args.input in
    let names : c.names_next.result ≡ list_any (λ row. row_applies q x row && row.named) m.rows =
    c.names_next.ensures.names ∙ ap (list_any (λ row. row_applies q x row && row.named)) c.as_slice.ensures.whole in
    let free : is_free_next 2 (answering c.args.self.now.table q (bits_of c.args.self.now.table.inputs x)) ≡ not c.names_next.result =
    unnamed_next m.inputs m.outputs m.states m.reset m.rows c.args.self.now c.self.view_is c.self.invariant q x c.names_next.result names in
    record {
      allowed = (
        λ unnamed. inr (free ∙ unnamed, c.requires.next),
        λ allowed. elim allowed [
          | inl chosen ↦ absurd (c.if-next-answer.false (chosen ∙ sym c.answer-answer.ensures.next))
          | inr other ↦ sym free ∙ other.0
        ],
      );
    }
