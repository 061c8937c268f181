-- What is known of a twin when its netlist is made, and the nets of its watch.
use Rattle.std.specs.Prelude.{◌≡◌, ℕ, zero, suc, ◌+◌, ◌-◌, ◌*◌, ◌≤◌, ◌⊎◌, List, [], ◌∷◌, ◌++◌, length}
use Rattle.std.specs.List.{range_with_len}
use Rattle.tsc_bits.specs.Lists.{AreApart}
use Rattle.fault_secure.specs.Circuit.{Circuit}
use Rattle.fault_secure.specs.Size.{network_size}
use Rattle.register_synth.specs.Kept.{kept_part}
use Rattle.register_synth.specs.TwinCircuit.{twin_circuit, IsWholeTwin}

-- a source that is small enough
pub record IsSmallSource (C : Circuit) : Type 0 where
  pub few : length C.outputs ≤ 64
  pub latches : length C.latches ≤ 16384
  pub small : C.inputs + 3 * network_size C ≤ 1048576

-- all kept registers are watched, or none
abbrev pub IsWatchCount : ℕ → List ℕ → Type 0
IsWatchCount watched registers = (watched ≡ 0) ⊎ (watched ≡ length registers)

-- the twin is whole, has few nodes, and shows no net twice
pub record IsMadeTwin (S : Circuit) (registers covers : List ℕ) (groups : List (List ℕ)) (watched : ℕ) : Type 0 where
  pub whole : IsWholeTwin S (kept_part S registers covers) registers covers groups watched
  pub few : length (twin_circuit watched (kept_part S registers covers) groups).nodes ≤ 2 * length S.nodes + 7 * length S.outputs + (2 * watched + 5)
  pub apart : AreApart (twin_circuit watched (kept_part S registers covers) groups).outputs

-- what is watched: so many registers, and the net before `after`, the check; nothing where no register is
abbrev pub watch_over : ℕ → ℕ → ℕ → List ℕ
watch_over inputs zero after = []
watch_over inputs (suc more) after = range_with_len inputs (suc more) ++ (after - 1) ∷ []
