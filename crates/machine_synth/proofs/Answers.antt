-- What a state answers at an input: the lengths of its outputs, and its next state.
use Rattle.std.proofs.Common.{◌≡◌, ℕ, ◌+◌, ◌<◌, Bool, false, List, [], ◌∷◌, ◌++◌, length, All, slice_index_or, arith, length-append}
use Rattle.std.proofs.lemmas.List.{length-replicate}
use Rattle.std.proofs.lemmas.List.Elements.{All-filter}
use Rattle.tsc_bits.specs.Bits.{bits_of}
use Rattle.tsc_bits.proofs.Bits.{length-bits_of}
use Rattle.fault_secure.specs.declared.code.Code.{Code}
use Rattle.mofn_code.specs.CheckBits.{check_bits}
use Rattle.fault_secure.specs.CodePlan.{IsUnorderedCode}
use Rattle.fault_secure.specs.Logic.{StateTable, Transition, applies, answering, outputs_of_rows, next_of_rows, IsTransitionOf, IsStateTable}
use Rattle.machine_lines.specs.MachineLines.{answer_word}
use Rattle.unate_synth.proofs.StatedChecks.{checks_sized}

outputs_sized : (M : StateTable) (rows : List Transition) → All (IsTransitionOf M) rows → length (outputs_of_rows M rows) ≡ M.outputs
outputs_sized M [] all = length-replicate M.outputs false
outputs_sized M (row ∷ rows) all = (all 0 row (omega arith)).outputs

next_within : (M : StateTable) (rows : List Transition) → M.reset < M.states → All (IsTransitionOf M) rows → next_of_rows M rows < M.states
next_within M [] reset all = reset
next_within M (row ∷ rows) reset all = (all 0 row (omega arith)).next

module _ (M : StateTable) (table : IsStateTable M) (q : ℕ) (x : List Bool) where
  rows_fit : All (IsTransitionOf M) (answering M q x)
  rows_fit = All-filter (applies q x) (IsTransitionOf M) M.rows table.rows

  pub answer_outputs : length (outputs_of_rows M (answering M q x)) ≡ M.outputs
  answer_outputs = outputs_sized M (answering M q x) rows_fit

  pub answer_next : next_of_rows M (answering M q x) < M.states
  answer_next = next_within M (answering M q x) table.reset rows_fit

  -- the length of the word
  pub answer_sized : (code : Code) (checks n : ℕ) (words : List ℕ) → IsUnorderedCode code → length (answer_word code checks n words M x q) ≡ M.outputs + checks + n
  answer_sized code checks n words unordered =
      let ys = outputs_of_rows M (answering M q x) in
      let next = slice_index_or words (next_of_rows M (answering M q x)) 0 in
      let front = length-append ys (check_bits code checks ys) in
      let whole = length-append (ys ++ check_bits code checks ys) (bits_of n next) in
      omega (arith, front, whole, answer_outputs, checks_sized code checks ys unordered, length-bits_of n next)
