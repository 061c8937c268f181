use Rattle.std.proofs.Common.{◌≡◌, ◌<◌, ℕ, ◌+◌, ◌/◌, ◌%◌, ◌^◌, true, length, get_or, sym, ap, ◌∙◌, arith, not, take, subst}
use Rattle.std.proofs.lemmas.List.{take_all, length-map}
use Rattle.std.proofs.lemmas.List.Elements.{All-weaker}
use Rattle.std.specs.List.{list_any}
use Rattle.tsc_bits.specs.Bits.{bit_worth}
use Rattle.tsc_net.specs.MachineView.{row_applies, IsMachineRow, no_row}
use Rattle.tsc_net.specs.declared.machine.MachineRow.{MachineRow}
use Rattle.code_lanes.specs.Lanes.{column}
use Rattle.behaviour_audit.specs.Lanes.{Fits, asked_under}
use Rattle.code_lanes.proofs.LaneLemmas.{neither}
use Rattle.behaviour_audit.proofs.LaneLemmas.{zeros_more}
use Rattle.behaviour_audit.proofs.AllowLemmas.{answered_more, any_row, machine_allows}
use Rattle.behaviour_audit.proofs.machine_lanes.wrong_answers.Goals as goal
use Rattle.tsc_bits.proofs.Bits.{bit_worth-zero}

pub loop-row-init : goal.loop-row-init
loop-row-init c = record { answered = λ k few. bit_worth-zero k; fits = λ k few zero_ j below. absurd (omega arith) }

pub answered_by-points-requires-clause-narrow : goal.answered_by-points-requires-clause-narrow
answered_by-points-requires-clause-narrow c =
    let row = get_or c.rows-row-items.result.now c.loop-row.row-index no_row in
    subst (λ (n : ℕ). row.input.care < 2 ^ n) (sym c.inputs.ensures.inputs) (c.rows-row-items.ensures.fit c.loop-row.row-index no_row c.loop-row-test.true).input

pub loop-row-preserved : goal.loop-row-preserved
loop-row-preserved c =
    let M = c.args.machine.now.table in
    let rows = c.rows-row-items.result.now in
    let i = c.loop-row.row-index in
    let outputs = c.args.outputs.now in
    let row = get_or rows i no_row in
    record {
      answered = λ k few.
          answered_more (row_applies ((c.args.base + k) / 2 ^ M.inputs) ((c.args.base + k) % 2 ^ M.inputs)) rows i k c.loop-row.answered c.answered_by-points.result c.loop-row-test.true
          (c.loop-row.invariant.answered k few)
          (c.answered_by-points.ensures.bits k few ∙ ap (λ (n : ℕ). row_applies ((c.args.base + k) / 2 ^ n) ((c.args.base + k) % 2 ^ n) row) c.inputs.ensures.inputs);
      fits = zeros_more
          (λ (k j : ℕ). (d : MachineRow) → row_applies ((c.args.base + k) / 2 ^ M.inputs) ((c.args.base + k) % 2 ^ M.inputs) (get_or rows j d) ≡ true
          → Fits (length outputs) (column k outputs) (asked_under c.args.version (get_or rows j d).care) (get_or rows j d).outputs)
          c.loop-row.wrong c.misfits_at-wrong.result i c.loop-row.invariant.fits
          (λ k few zero_.
          any_row rows i c.loop-row-test.true
          (λ (r : MachineRow). row_applies ((c.args.base + k) / 2 ^ M.inputs) ((c.args.base + k) % 2 ^ M.inputs) r ≡ true
          → Fits (length outputs) (column k outputs) (asked_under c.args.version r.care) r.outputs)
          (λ applied.
          subst (λ (asked : ℕ). Fits (length outputs) (column k outputs) asked row.outputs) c.asked.ensures.asked
          (c.misfits_at-wrong.ensures.fits k few zero_
          (c.answered_by-points.ensures.bits k few ∙ (ap (λ (n : ℕ). row_applies ((c.args.base + k) / 2 ^ n) ((c.args.base + k) % 2 ^ n) row) c.inputs.ensures.inputs ∙ applied)))));
    }

pub returns : goal.returns
returns c =
    let M = c.args.machine.now.table in
    let rows = c.rows-row-items.result.now in
    let outputs = c.args.outputs.now in
    record {
      allowed = λ k few zero_.
          let parts = (neither k c.loop-row.wrong c.misfits_at.result).0 zero_ in
          let all : take c.loop-row.row-index rows ≡ rows = take_all c.loop-row.row-index rows (omega arith) in
          machine_allows M c.args.version (c.args.base + k) rows (column k outputs) c.states-states.ensures.sound c.rows-row-items.ensures.rows
          (All-weaker (IsMachineRow M.inputs M.outputs M.states M.reset) (λ (row : MachineRow). row.input.care < 2 ^ M.inputs) (λ row is. is.input) rows c.rows-row-items.ensures.fit)
          (omega arith) (length-map outputs (bit_worth k) ∙ c.requires.sized)
          (subst (λ (n : ℕ). (j : ℕ) → j < length rows → (d : MachineRow) → row_applies ((c.args.base + k) / 2 ^ M.inputs) ((c.args.base + k) % 2 ^ M.inputs) (get_or rows j d) ≡ true
          → Fits n (column k outputs) (asked_under c.args.version (get_or rows j d).care) (get_or rows j d).outputs) c.requires.sized
          (λ j below. c.loop-row.invariant.fits k few parts.0 j (omega arith)))
          (λ none.
          subst (λ (n : ℕ). Fits n (column k outputs) (asked_under c.args.version 0) 0) c.requires.sized
          (subst (λ (asked : ℕ). Fits (length outputs) (column k outputs) asked 0) c.asked-2.ensures.asked
          (c.misfits_at.ensures.fits k few parts.1
          (c.negated.ensures.bits k few ∙ ap not (c.loop-row.invariant.answered k few ∙ (ap (list_any (row_applies ((c.args.base + k) / 2 ^ M.inputs) ((c.args.base + k) % 2 ^ M.inputs))) all ∙ none))))));
    }
