-- Small netlists, as a guard: two inverters in the place of a node are read as a mapping. Not read as one are merged nodes, a missing
-- gate, a constant with two gates, an output whose node was moved behind it, a wrong constant, and a gate that is wrong on one value alone.
use Rattle.std.specs.Prelude.{ℕ, suc, nat_lt, if◌then◌else◌, false, List, [], ◌∷◌}
use Rattle.tsc_cover.specs.Cover.{CoverTable, zero_cover}
use Rattle.tsc_cover.specs.Gates.{buf_cover, not_cover}
use Rattle.fault_secure.specs.Circuit.{Circuit, gate}
use Rattle.structure_laws.specs.SmallNetlist.{small_netlist}
use Rattle.structure_laws.specs.Toggle.{toggle}
use Rattle.mapping_laws.specs.Inverters.{inverters, inverters_at, inverters_block, merged, with_zero, without_zero, one_gate}
use Rattle.tsc_net.specs.Order.{fan_ins, evaluation_order, IsOrder}
use Rattle.mapping_reading.specs.ReadMapping.{IsReadMapping}

abbrev pub InvertersRead : Type 0
InvertersRead = IsReadMapping toggle inverters inverters_at inverters_block (evaluation_order (fan_ins inverters))

-- two nodes merged into one gate
abbrev pub MergedDoesNotRead : Type 0
MergedDoesNotRead = (at block : ℕ → ℕ) (order : List ℕ) → IsOrder (fan_ins merged) order → IsReadMapping small_netlist merged at block order → ⊥

-- no gate for a constant, whatever is shown
abbrev pub MissingDoesNotRead : Type 0
MissingDoesNotRead = (shown : List ℕ) (at block : ℕ → ℕ) (order : List ℕ) → IsReadMapping with_zero (without_zero shown) at block order → ⊥

-- a constant, and two nodes that read it
abbrev pub one_constant : Circuit
one_constant = record {
  inputs = 1;
  latches = [];
  nodes = gate zero_cover [] ∷ gate buf_cover (1 ∷ []) ∷ gate buf_cover (1 ∷ []) ∷ [];
  outputs = 2 ∷ 3 ∷ [];
}

-- a gate of its own for the second reader
abbrev pub two_constants : Circuit
two_constants = record {
  inputs = 1;
  latches = [];
  nodes = gate zero_cover [] ∷ gate zero_cover [] ∷ gate buf_cover (1 ∷ []) ∷ gate buf_cover (2 ∷ []) ∷ [];
  outputs = 3 ∷ 4 ∷ [];
}

abbrev pub constants_at : ℕ → ℕ
constants_at net = if nat_lt net 2 then net else suc net

abbrev pub TwoConstantsDoNotRead : Type 0
TwoConstantsDoNotRead = (block : ℕ → ℕ) (order : List ℕ) → IsOrder (fan_ins two_constants) order
    → IsReadMapping one_constant two_constants constants_at block order → ⊥

-- an output that repeats the input, and its negation
abbrev pub negated_output : Circuit
negated_output = record { inputs = 1; latches = []; nodes = gate buf_cover (0 ∷ []) ∷ gate not_cover (1 ∷ []) ∷ []; outputs = 1 ∷ 2 ∷ [] }

-- the output is now an alias of an inner net, and that is negated
abbrev pub negated_alias : Circuit
negated_alias = record {
  inputs = 1;
  latches = [];
  nodes = gate buf_cover (0 ∷ []) ∷ gate buf_cover (1 ∷ []) ∷ gate not_cover (1 ∷ []) ∷ [];
  outputs = 2 ∷ 3 ∷ [];
}

abbrev pub alias_at : ℕ → ℕ
alias_at net = if nat_lt net 1 then net else suc net

abbrev pub AliasDoesNotRead : Type 0
AliasDoesNotRead = (block : ℕ → ℕ) (order : List ℕ) → IsReadMapping negated_output negated_alias alias_at block order → ⊥

-- a cover without pins and rows: the constant 1
abbrev pub one_cover : CoverTable
one_cover = record { width = 0; on = false; rows = [] }

-- a 1 in the place of a 0: the one value of no pins is tried
abbrev pub WrongConstantDoesNotRead : Type 0
WrongConstantDoesNotRead = (block : ℕ → ℕ) (order : List ℕ) → IsOrder (fan_ins (one_gate one_cover [])) order
    → IsReadMapping (one_gate zero_cover []) (one_gate one_cover []) (λ net. net) block order → ⊥

-- a 0 in the place of a buffer, which is wrong on the last value alone
abbrev pub LastValueDoesNotRead : Type 0
LastValueDoesNotRead = (block : ℕ → ℕ) (order : List ℕ) → IsOrder (fan_ins (one_gate zero_cover [])) order
    → IsReadMapping (one_gate buf_cover (0 ∷ [])) (one_gate zero_cover []) (λ net. net) block order → ⊥
