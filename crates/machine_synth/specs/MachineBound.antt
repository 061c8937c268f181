-- The bound on the covers of a machine's netlist, over counts of the machine and its code alone.
use Rattle.std.specs.Prelude.{ℕ, ◌+◌, ◌*◌, ◌^◌, List, [], ◌∷◌, nat_lt, count_by}
use Rattle.fault_secure.specs.Logic.{StateTable}
use Rattle.fault_secure.specs.declared.code.Code.{Code}
use Rattle.fault_secure.specs.declared.code.Code.TheVariants.{Parity, Berger, MOutOfN}
use Rattle.machine_lines.specs.MachineSize.{machine_size}

-- how many of the powers are at most k: of 1, 2, 4 and so on, the number of binary digits of k
abbrev pub digits_among : ℕ → List ℕ → ℕ
digits_among k powers = count_by (λ power. nat_lt power (k + 1)) powers

-- how many checks a code has for so many outputs, which are at most 64
abbrev pub check_count : Code → ℕ → ℕ
check_count Parity outputs = 0
check_count Berger outputs = digits_among outputs (1 ∷ 2 ∷ 4 ∷ 8 ∷ 16 ∷ 32 ∷ 64 ∷ [])
check_count MOutOfN outputs = outputs

-- the weight of the words of so many states, which are at most 924: one more for each weight whose words are too few
abbrev pub state_weight : ℕ → ℕ
state_weight states = 1 + count_by (λ words. nat_lt words states) (2 ∷ 6 ∷ 20 ∷ 70 ∷ 252 ∷ [])

-- the bound, over so many checks and state words of n bits
abbrev pub bound_over : StateTable → ℕ → ℕ → ℕ
bound_over M checks n = 4 * (machine_size M checks n + 8 * (M.outputs + 1) ^ 2 + 8 * (n + 1) ^ 2 + 16)

-- the bound on the covers of a machine's netlist under a code
abbrev pub machine_bound : StateTable → Code → ℕ
machine_bound M code = bound_over M (check_count code M.outputs) (2 * state_weight M.states)
