-- No specified output is another than the chosen one.
use Rattle.std.proofs.Common.{◌≡◌, ℕ, ◌&&◌, ap, ◌∙◌}
use Rattle.std.specs.List.{list_any}
use Rattle.tsc_bits.specs.Bits.{bit_worth}
use Rattle.tsc_net.specs.MachineView.{row_applies}
use Rattle.tsc_net.proofs.MachineLemmas.{wrong_outputs}
use Rattle.tsc_net.proofs.machine.Machine.allows_outputs.Goals as goal

pub returns : goal.returns
returns c =
    let m = c.self.inside in
    let q = c.args.state in
    let x = c.args.input in
    let rows_are = c.as_slice.ensures.whole in
    let here : (k : ℕ) → bit_worth k c.specified.result ≡ list_any (λ row. row_applies q x row && bit_worth k row.care) m.rows =
    λ k. c.specified.ensures.specified k ∙ ap (list_any (λ row. row_applies q x row && bit_worth k row.care)) rows_are in
    record {
      allowed = wrong_outputs m.inputs m.outputs m.states m.reset m.rows c.args.self.now c.self.view_is c.self.invariant q x
          c.answer-answer.result.outputs c.args.outputs c.specified.result c.answer-answer.ensures.outputs here;
    }
