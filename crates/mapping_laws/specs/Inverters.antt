-- Small netlists, as a guard: in one a node of the small machine became two inverters; in the others two nodes were merged, a gate is
-- missing, a gate reads no net, and a cover has a pin too many.
use Rattle.std.specs.Prelude.{ℕ, suc, ◌-◌, nat_lt, if◌then◌else◌, Bool, true, false, List, [], ◌∷◌}
use Rattle.tsc_cover.specs.Cover.{CoverTable, zero_cover}
use Rattle.tsc_cover.specs.Cover.Literal.{Free, Wants}
use Rattle.tsc_cover.specs.Gates.{and_cover, not_cover, buf_cover}
use Rattle.fault_secure.specs.Circuit.{Circuit, gate}
use Rattle.fault_secure.specs.FailingCell.{RunsBut}
use Rattle.structure_laws.specs.SmallNetlist.{small_netlist}
use Rattle.structure_laws.specs.Toggle.{on_set, negates, keeps, turns, straight, crossed, toggle, toggle_source, toggle_plan}
use Rattle.mapping_laws.specs.Mapping.{IsMapped, moved_plan}
use Rattle.mapping_laws.specs.FailingBlock.{RunsButBlock, IsBlockSecure}

-- the small machine with two inverters in the place of its first node: net 3 is between them, and all nets from 3 on move by one
abbrev pub inverters : Circuit
inverters = record {
  inputs = 1;
  latches = record { reads = 6; init = false } ∷ record { reads = 7; init = true } ∷ [];
  nodes = record { reads = 0 ∷ []; cover = negates }
      ∷ record { reads = 3 ∷ []; cover = negates }
      ∷ record { reads = 0 ∷ []; cover = negates }
      ∷ record { reads = 1 ∷ 2 ∷ 0 ∷ []; cover = keeps }
      ∷ record { reads = 1 ∷ 2 ∷ 0 ∷ []; cover = turns }
      ∷ record { reads = 4 ∷ 5 ∷ 6 ∷ 7 ∷ []; cover = straight }
      ∷ record { reads = 4 ∷ 5 ∷ 6 ∷ 7 ∷ []; cover = crossed }
      ∷ [];
  outputs = 4 ∷ 8 ∷ 9 ∷ [];
}

abbrev pub inverters_at : ℕ → ℕ
inverters_at net = if nat_lt net 3 then net else suc net

-- the first two gates stand for the first node, each other gate for the node before its own place
abbrev pub inverters_block : ℕ → ℕ
inverters_block gate = gate - 1

abbrev pub InvertersAreMapped : Type 0
InvertersAreMapped = IsMapped toggle inverters inverters_at inverters_block

-- it is secure against both inverters failing at once, each in its own way
abbrev pub InvertersAreSecure : Type 0
InvertersAreSecure = IsBlockSecure toggle_source toggle inverters inverters_block (moved_plan inverters_at toggle_plan)

-- the input 0, once
abbrev pub one_input : List (List Bool)
one_input = (false ∷ []) ∷ []

-- the first inverter gives 0 of 0, and so does the second
abbrev pub both_fail : List (List Bool)
both_fail = (false ∷ false ∷ true ∷ false ∷ false ∷ true ∷ false ∷ true ∷ true ∷ false ∷ []) ∷ []

-- that is a run in which the block fails, and no run in which one gate does: a failing block does more
pub record FailingBlockDoesMore : Type 0 where
  pub failing : RunsButBlock toggle inverters inverters_block 3 one_input both_fail
  pub beyond : (net : ℕ) → RunsBut inverters net one_input both_fail → ⊥

-- the small netlist with y and its copy merged into one gate
abbrev pub merged : Circuit
merged = record {
  inputs = 2;
  latches = [];
  nodes = record { reads = 0 ∷ 1 ∷ []; cover = and_cover }
      ∷ record { reads = 2 ∷ []; cover = not_cover }
      ∷ record { reads = 2 ∷ []; cover = buf_cover }
      ∷ record { reads = 3 ∷ []; cover = buf_cover }
      ∷ [];
  outputs = 2 ∷ 4 ∷ 5 ∷ [];
}

-- it is no mapping of the small netlist, wherever nets went and whatever gates stand for
abbrev pub MergedIsNotMapped : Type 0
MergedIsNotMapped = (at block : ℕ → ℕ) → IsMapped small_netlist merged at block → ⊥

-- one output repeats the input, and one is 0
abbrev pub with_zero : Circuit
with_zero = record { inputs = 1; latches = []; nodes = gate buf_cover (0 ∷ []) ∷ gate zero_cover [] ∷ []; outputs = 1 ∷ 2 ∷ [] }

-- the same without a gate for the 0, and with any outputs
abbrev pub without_zero : List ℕ → Circuit
without_zero shown = record { inputs = 1; latches = []; nodes = gate buf_cover (0 ∷ []) ∷ []; outputs = shown }

-- it is no mapping of it, whatever it shows: a constant has a gate
abbrev pub MissingIsNotMapped : Type 0
MissingIsNotMapped = (shown : List ℕ) (at block : ℕ → ℕ) → IsMapped with_zero (without_zero shown) at block → ⊥

-- one gate, which is shown
abbrev pub one_gate : CoverTable → List ℕ → Circuit
one_gate cover reads = record { inputs = 1; latches = []; nodes = gate cover reads ∷ []; outputs = 1 ∷ [] }

-- 1 where one of two pins is
abbrev pub either : CoverTable
either = on_set 2 ((Wants true ∷ Free ∷ []) ∷ (Free ∷ Wants true ∷ []) ∷ [])

-- in the place of a buffer stands no gate that reads what is no net, and none with a pin that reads nothing
pub record OpenIsNotMapped : Type 0 where
  pub no_net : (at block : ℕ → ℕ) → IsMapped (one_gate buf_cover (0 ∷ [])) (one_gate either (0 ∷ 9 ∷ [])) at block → ⊥
  pub no_pin : (at block : ℕ → ℕ) → IsMapped (one_gate buf_cover (0 ∷ [])) (one_gate either (0 ∷ [])) at block → ⊥
