-- How much logic a machine takes at most.
use Rattle.std.specs.Prelude.{ℕ, ◌+◌, ◌*◌, length}
use Rattle.std.specs.List.{range_with_len, sum_by}
use Rattle.fault_secure.specs.Logic.{StateTable}
use Rattle.state_code.specs.Lines.{rows_at}

-- the rows of a table, where a row of every state counts once per state
abbrev pub row_count : StateTable → ℕ
row_count M = sum_by (λ q. length (rows_at M q)) (range_with_len 0 M.states)

-- a quarter of the most gates that a table takes with so many checks and state words of n bits
abbrev pub machine_size : StateTable → ℕ → ℕ → ℕ
machine_size M checks n =
    row_count M * (2 * M.inputs + M.outputs + checks + n + 2) + M.states * (2 * n + checks + 2) + M.inputs
