-- The registers and covers of a source that some output depends on, through registers, and the part of the source that they are.
use Rattle.std.specs.Prelude.{ℕ, ◌+◌, ◌-◌, ◌<◌, nat_lt, if◌then◌else◌, List, map, length, slice_index, Contains}
use Rattle.fault_secure.specs.Circuit.{Circuit, LatchOf, latch, latch_net, node, node_net}
use Rattle.register_laws.specs.Twin.{Placing, renamed}
use Rattle.register_synth.specs.Reaching.{ReachesSome}
use Rattle.parity_code.specs.ParityCircuit.{place_in}

-- the rising list of the numbers of which P holds
pub record AreThose (P : ℕ → Type 0) (places : List ℕ) : Type 0 where
  pub rising : (i k : ℕ) → i < k → k < length places → slice_index places i < slice_index places k
  pub sound : (k : ℕ) → k < length places → P (slice_index places k)
  pub whole : (place : ℕ) → P place → Contains places place

-- a register, and a cover, that reaches some output
abbrev pub IsKeptRegister : Circuit → ℕ → Type 0
IsKeptRegister C l = (l < length C.latches) × ReachesSome C (latch_net C l) C.outputs

abbrev pub IsKeptCover : Circuit → ℕ → Type 0
IsKeptCover C j = (j < length C.nodes) × ReachesSome C (node_net C j) C.outputs

-- the registers and covers that are kept, in source order
pub record AreKept (C : Circuit) (registers covers : List ℕ) : Type 0 where
  pub each_register : AreThose (IsKeptRegister C) registers
  pub each_cover : AreThose (IsKeptCover C) covers

-- the net that a net of C has in the part with these registers and covers: an input stands for itself. Of a net that is left out the number
-- says nothing, and may be that of another net
abbrev pub kept_net : Circuit → List ℕ → List ℕ → ℕ → ℕ
kept_net C registers covers net =
    if nat_lt net C.inputs then net
    else (if nat_lt net (C.inputs + length C.latches) then C.inputs + place_in registers (net - C.inputs)
    else C.inputs + length registers + place_in covers (net - (C.inputs + length C.latches)))

-- a register with the net at its input renamed
abbrev pub renamed_latch : (ℕ → ℕ) → LatchOf → LatchOf
renamed_latch net l = record { reads = net l.reads; init = l.init }

-- the part of a source with these registers and covers
abbrev pub kept_part : Circuit → List ℕ → List ℕ → Circuit
kept_part C registers covers = record {
  inputs = C.inputs;
  latches = map (λ l. renamed_latch (kept_net C registers covers) (latch C l)) registers;
  nodes = map (λ j. renamed (kept_net C registers covers) (node C j)) covers;
  outputs = map (kept_net C registers covers) C.outputs;
}

-- where it stands in the source
abbrev pub kept_place : Circuit → List ℕ → List ℕ → Placing
kept_place C registers covers = record {
  net = λ n. if nat_lt n C.inputs then n
      else (if nat_lt n (C.inputs + length registers) then C.inputs + slice_index registers (n - C.inputs)
      else C.inputs + length C.latches + slice_index covers (n - (C.inputs + length registers)));
  latch_at = slice_index registers;
  node_at = slice_index covers;
}
