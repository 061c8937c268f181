use Rattle.std.proofs.Common.{◌≡◌, ◌<◌, ℕ, ◌+◌, ◌/◌, ◌%◌, ◌^◌, true, get_or, Some, sym, ap, ◌∙◌, arith, not, take, subst}
use Rattle.std.proofs.lemmas.List.{take_all}
use Rattle.std.proofs.lemmas.List.Elements.{All-weaker}
use Rattle.std.specs.List.{list_any}
use Rattle.fault_secure.specs.FaultSecure.{state_at}
use Rattle.tsc_net.specs.MachineView.{row_applies, IsMachineRow, no_row}
use Rattle.tsc_net.specs.declared.machine.MachineRow.{MachineRow}
use Rattle.code_lanes.specs.Lanes.{column}
use Rattle.code_lanes.proofs.LaneLemmas.{neither}
use Rattle.behaviour_audit.proofs.LaneLemmas.{zeros_more}
use Rattle.behaviour_audit.proofs.AllowLemmas.{answered_more, any_row, machine_goes}
use Rattle.behaviour_audit.proofs.next_lanes.wrong_next_states.Goals as goal
use Rattle.tsc_bits.proofs.Bits.{bit_worth-zero}

pub loop-row-init : goal.loop-row-init
loop-row-init c = record { answered = λ k few. bit_worth-zero k; goes = λ k few zero_ j below. absurd (omega arith) }

pub answered_by-points-requires-clause-narrow : goal.answered_by-points-requires-clause-narrow
answered_by-points-requires-clause-narrow c =
    let row = get_or c.rows-row-items.result.now c.loop-row.row-index no_row in
    subst (λ (n : ℕ). row.input.care < 2 ^ n) (sym c.inputs.ensures.inputs) (c.rows-row-items.ensures.fit c.loop-row.row-index no_row c.loop-row-test.true).input

pub other_words_at-wrong-requires-clause-state : goal.other_words_at-wrong-requires-clause-state
other_words_at-wrong-requires-clause-state c =
    let row = get_or c.rows-row-items.result.now c.loop-row.row-index no_row in
    subst (λ (n : ℕ). row.next < n) (sym c.requires.states) (c.rows-row-items.ensures.fit c.loop-row.row-index no_row c.loop-row-test.true).next

pub other_words_at-requires-clause-state : goal.other_words_at-requires-clause-state
other_words_at-requires-clause-state c =
    subst (λ (n : ℕ). c.reset.result < n) (sym c.requires.states) c.reset.ensures.is_state

pub loop-row-preserved : goal.loop-row-preserved
loop-row-preserved c =
    let M = c.args.machine.now.table in
    let P = c.args.plan.now in
    let rows = c.rows-row-items.result.now in
    let i = c.loop-row.row-index in
    let next = c.args.next.now in
    let row = get_or rows i no_row in
    record {
      answered = λ k few.
          answered_more (row_applies ((c.args.base + k) / 2 ^ M.inputs) ((c.args.base + k) % 2 ^ M.inputs)) rows i k c.loop-row.answered c.answered_by-points.result c.loop-row-test.true
          (c.loop-row.invariant.answered k few)
          (c.answered_by-points.ensures.bits k few ∙ ap (λ (n : ℕ). row_applies ((c.args.base + k) / 2 ^ n) ((c.args.base + k) % 2 ^ n) row) c.inputs.ensures.inputs);
      goes = zeros_more
          (λ (k j : ℕ). (d : MachineRow) → row_applies ((c.args.base + k) / 2 ^ M.inputs) ((c.args.base + k) % 2 ^ M.inputs) (get_or rows j d) ≡ true
          → state_at P (column k next) ≡ Some (get_or rows j d).next)
          c.loop-row.wrong c.other_words_at-wrong.result i c.loop-row.invariant.goes
          (λ k few zero_.
          any_row rows i c.loop-row-test.true
          (λ (r : MachineRow). row_applies ((c.args.base + k) / 2 ^ M.inputs) ((c.args.base + k) % 2 ^ M.inputs) r ≡ true → state_at P (column k next) ≡ Some r.next)
          (λ applied.
          c.other_words_at-wrong.ensures.word k few zero_
          (c.answered_by-points.ensures.bits k few ∙ (ap (λ (n : ℕ). row_applies ((c.args.base + k) / 2 ^ n) ((c.args.base + k) % 2 ^ n) row) c.inputs.ensures.inputs ∙ applied))));
    }

pub returns : goal.returns
returns c =
    let M = c.args.machine.now.table in
    let P = c.args.plan.now in
    let rows = c.rows-row-items.result.now in
    let next = c.args.next.now in
    record {
      chosen = λ k few zero_.
          let parts = (neither k c.loop-row.wrong c.other_words_at.result).0 zero_ in
          let all : take c.loop-row.row-index rows ≡ rows = take_all c.loop-row.row-index rows (omega arith) in
          machine_goes M (c.args.base + k) rows (λ (n : ℕ). state_at P (column k next) ≡ Some n) c.rows-row-items.ensures.rows
          (All-weaker (IsMachineRow M.inputs M.outputs M.states M.reset) (λ (row : MachineRow). row.input.care < 2 ^ M.inputs) (λ row is. is.input) rows c.rows-row-items.ensures.fit)
          (λ j below. c.loop-row.invariant.goes k few parts.0 j (omega arith))
          (λ none.
          c.other_words_at.ensures.word k few parts.1
          (c.negated.ensures.bits k few ∙ ap not (c.loop-row.invariant.answered k few ∙ (ap (list_any (row_applies ((c.args.base + k) / 2 ^ M.inputs) ((c.args.base + k) % 2 ^ M.inputs))) all ∙ none)))
          ∙ ap (λ (n : ℕ). Some n) c.reset.ensures.reset);
    }
