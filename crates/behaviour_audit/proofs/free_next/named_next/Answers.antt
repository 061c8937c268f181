use Rattle.std.proofs.Common.{◌≡◌, ◌<◌, ℕ, ◌+◌, ◌/◌, ◌%◌, ◌^◌, true, false, get_or, sym, ap, ◌∙◌, arith, subst}
use Rattle.std.proofs.lemmas.List.Elements.{All-weaker}
use Rattle.tsc_net.specs.MachineView.{row_applies, IsMachineRow, no_row}
use Rattle.tsc_net.specs.declared.machine.MachineRow.{MachineRow}
use Rattle.behaviour_audit.proofs.LaneLemmas.{zeros_more}
use Rattle.behaviour_audit.proofs.AllowLemmas.{any_row, machine_frees}
use Rattle.behaviour_audit.proofs.free_next.named_next.Goals as goal

pub loop-row-init : goal.loop-row-init
loop-row-init c = record { unnamed = λ k few zero_ j below. absurd (omega arith) }

pub named_by-named-requires-clause-narrow : goal.named_by-named-requires-clause-narrow
named_by-named-requires-clause-narrow c =
    let row = get_or c.rows-row-items.result.now c.loop-row.row-index no_row in
    subst (λ (n : ℕ). row.input.care < 2 ^ n) (sym c.inputs.ensures.inputs) (c.rows-row-items.ensures.fit c.loop-row.row-index no_row c.loop-row-test.true).input

pub loop-row-preserved : goal.loop-row-preserved
loop-row-preserved c =
    let M = c.args.machine.now.table in
    let rows = c.rows-row-items.result.now in
    let i = c.loop-row.row-index in
    record {
      unnamed = zeros_more
          (λ (k j : ℕ). (d : MachineRow) → row_applies ((c.args.base + k) / 2 ^ M.inputs) ((c.args.base + k) % 2 ^ M.inputs) (get_or rows j d) ≡ true → (get_or rows j d).named ≡ false)
          c.loop-row.named c.named_by-named.result i c.loop-row.invariant.unnamed
          (λ k few zero_.
          any_row rows i c.loop-row-test.true
          (λ (r : MachineRow). row_applies ((c.args.base + k) / 2 ^ M.inputs) ((c.args.base + k) % 2 ^ M.inputs) r ≡ true → r.named ≡ false)
          (λ applied.
          c.named_by-named.ensures.named k few zero_
          (ap (λ (n : ℕ). row_applies ((c.args.base + k) / 2 ^ n) ((c.args.base + k) % 2 ^ n) (get_or rows i no_row)) c.inputs.ensures.inputs ∙ applied)));
    }

pub returns : goal.returns
returns c =
    let M = c.args.machine.now.table in
    record {
      free = λ k few zero_.
          machine_frees M (c.args.base + k) c.rows-row-items.result.now c.rows-row-items.ensures.rows
          (All-weaker (IsMachineRow M.inputs M.outputs M.states M.reset) (λ (row : MachineRow). row.input.care < 2 ^ M.inputs) (λ row is. is.input) c.rows-row-items.result.now c.rows-row-items.ensures.fit)
          (λ j below. c.loop-row.invariant.unnamed k few zero_ j (omega arith));
    }
