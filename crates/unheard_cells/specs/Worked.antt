-- Small netlists and their answers.
use Rattle.std.specs.Prelude.{true, [], ◌∷◌, Some, None}
use Rattle.tsc_cover.specs.Gates.{buf_cover, not_cover}
use Rattle.fault_secure.specs.Circuit.{Circuit, gate}
use Rattle.fault_secure.specs.CodePlan.{CodePlan}
use Rattle.structure_laws.specs.SmallNetlist.{small_netlist, small_plan}
use Rattle.unheard_cells.specs.PointReason.{IsPointAnswer}
use Rattle.unheard_cells.specs.declared.reason.PointReason.TheVariants.{Alarm}

-- the small netlist, which is secure, has no reason
abbrev pub SmallIsHeard : Type 0
SmallIsHeard = IsPointAnswer small_netlist small_plan None

-- y is a, and each rail looks at a alone: the nets a, y, r1, r2 are 0 to 3, and r2 is the check
abbrev pub lone_output : Circuit
lone_output = record {
  inputs = 1;
  latches = [];
  nodes = gate buf_cover (0 ∷ []) ∷ gate buf_cover (0 ∷ []) ∷ gate not_cover (0 ∷ []) ∷ [];
  outputs = 1 ∷ 2 ∷ 3 ∷ [];
}

abbrev pub lone_plan : CodePlan
lone_plan = record small_plan { checks = 3 ∷ []; rail1 = 2; rail2 = 3 }

-- already at the input 0 the cell of y, which gives 1 there, is unheard
abbrev pub LoneOutputIsUnheard : Type 0
LoneOutputIsUnheard = IsPointAnswer lone_output lone_plan (Some (Alarm (record { number = 1 }) true 0 0))
