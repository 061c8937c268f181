-- The rows, counted by what a row may answer.
use Rattle.std.proofs.Common.{◌≡◌, ℕ, ◌-◌, ◌^◌, List, min, take, sym, ap, ◌∙◌, arith}
use Rattle.std.specs.List.{sum_by}
use Rattle.std.proofs.lemmas.List.{take_all}
use Rattle.tsc_net.specs.declared.machine.MachineRow.{MachineRow}
use Rattle.tsc_synth.specs.RowStates.{states_of_row}
use Rattle.tsc_synth.proofs.RowCount.{counted}
use Rattle.tsc_synth.proofs.machine_covers.row_count.Goals as goal

pub returns : goal.returns
returns c =
    let M = c.args.machine.now.table in
    let items = c.rows-row-items.result.now in
    let index = c.loop-row.row-index in
    let m : ℕ = 2 ^ 64 - 1 in
    let past = c.loop-row-test.false in
    let all : take index items ≡ items = take_all index items (omega arith) in
    let states : List MachineRow → ℕ → ℕ = λ list count. min (sum_by (λ row. states_of_row count row.from) list) m in
    record {
      count = c.loop-row.invariant ∙ ap (λ list. states list c.states-states.result) all ∙ ap (states items) c.states-states.ensures.states
          ∙ ap (λ n. min n m) (sym (counted M items c.states-states.ensures.sound.rows c.rows-row-items.ensures.rows));
    }
