-- A small self-checking netlist, which meets every definition: one output y = a and b, with a copy of its node, the negated copy as
-- the check, and each rail a buffer. It guards against definitions that nothing meets.
use Rattle.std.specs.Prelude.{List, [], ◌∷◌}
use Rattle.tsc_cover.specs.Gates.{buf_cover, not_cover, and_cover}
use Rattle.fault_secure.specs.declared.code.Code.TheVariants.{Parity}
use Rattle.fault_secure.specs.Circuit.{Circuit, NodeOf}
use Rattle.fault_secure.specs.CodePlan.{CodePlan}
use Rattle.fault_secure.specs.Logic.{Network}
use Rattle.fault_secure.specs.FaultSecure.{IsFaultSecure}
use Rattle.fault_secure.specs.CellSecure.{IsCellSecure}

-- the nets a, b, y, c0, p, r1, r2 are 0 to 6
abbrev pub small_nodes : List NodeOf
small_nodes =
    record { reads = 0 ∷ 1 ∷ []; cover = and_cover }
    ∷ record { reads = 0 ∷ 1 ∷ []; cover = and_cover }
    ∷ record { reads = 3 ∷ []; cover = not_cover }
    ∷ record { reads = 2 ∷ []; cover = buf_cover }
    ∷ record { reads = 4 ∷ []; cover = buf_cover }
    ∷ []

abbrev pub small_netlist : Circuit
small_netlist = record { inputs = 2; latches = []; nodes = small_nodes; outputs = 2 ∷ 5 ∷ 6 ∷ [] }

abbrev pub small_plan : CodePlan
small_plan = record {
  version = 1;
  code = Parity;
  outputs = 1;
  checks = 4 ∷ [];
  groups = (0 ∷ []) ∷ [];
  latches = 0;
  weight = 0;
  states = [];
  rail1 = 5;
  rail2 = 6;
}

abbrev pub small_source : Circuit
small_source = record { inputs = 2; latches = []; nodes = record { reads = 0 ∷ 1 ∷ []; cover = and_cover } ∷ []; outputs = 2 ∷ [] }

-- the small netlist is secure against any one failing cell, for its source
abbrev pub SmallIsCellSecure : Type 0
SmallIsCellSecure = IsCellSecure (Network small_source) small_netlist small_plan

-- the small netlist is fault-secure for its source
abbrev pub SmallIsFaultSecure : Type 0
SmallIsFaultSecure = IsFaultSecure (Network small_source) small_netlist small_plan
