-- Small netlists at their points: two that are secure there, one that is heard but not secure, and one with an unheard output.
use Rattle.std.specs.Prelude.{true, false, [], ◌∷◌}
use Rattle.tsc_cover.specs.Gates.{and_cover, buf_cover, not_cover}
use Rattle.fault_secure.specs.Circuit.{Circuit, gate}
use Rattle.fault_secure.specs.CodePlan.{CodePlan}
use Rattle.fault_secure.specs.Logic.{Network}
use Rattle.fault_secure.specs.CellSecure.{IsCellSecure}
use Rattle.structure_laws.specs.SmallNetlist.{small_netlist, small_plan, small_source}
use Rattle.structure_laws.specs.Toggle.{toggle, toggle_plan}
use Rattle.mapping_laws.specs.Inverters.{merged}
use Rattle.point_laws.specs.Points.{IsSilentAt, IsSecureAtPoints}
use Rattle.point_laws.specs.Heard.{IsWrongUnheardAt, IsAlarmSecure}

-- the small netlist and the small machine are secure at their points
abbrev pub SmallIsSecureAtPoints : Type 0
SmallIsSecureAtPoints = IsSecureAtPoints small_netlist small_plan

abbrev pub ToggleIsSecureAtPoints : Type 0
ToggleIsSecureAtPoints = IsSecureAtPoints toggle toggle_plan

-- the small netlist, with a check, net 4, that nothing reads: the second rail negates the copy of the output itself
abbrev pub idle_check : Circuit
idle_check = record {
  inputs = 2;
  latches = [];
  nodes = gate and_cover (0 ∷ 1 ∷ [])
      ∷ gate and_cover (0 ∷ 1 ∷ [])
      ∷ gate not_cover (3 ∷ [])
      ∷ gate buf_cover (2 ∷ [])
      ∷ gate not_cover (3 ∷ [])
      ∷ [];
  outputs = 2 ∷ 5 ∷ 6 ∷ [];
}

-- at the input 00 the check's cell fails silently: a wrong word, but no wrong output
abbrev pub CheckIsSilent : Type 0
CheckIsSilent = IsSilentAt idle_check small_plan 4 0 (false ∷ false ∷ [])

-- so the netlist is alarm-secure, and isn't one that is secure against any one failing cell: alarm-secure is weaker
pub record IsWeaker : Type 0 where
  pub alarm_secure : IsAlarmSecure (Network small_source) idle_check small_plan
  pub not_secure : IsCellSecure (Network small_source) idle_check small_plan → ⊥

-- the plan of the small netlist with y and its copy merged: the nets are y, its check, and the rails
abbrev pub merged_plan : CodePlan
merged_plan = record small_plan { checks = 3 ∷ []; rail1 = 4; rail2 = 5 }

-- at the input 11 the cell of y makes the output 0, and the rails differ
abbrev pub OutputIsUnheard : Type 0
OutputIsUnheard = IsWrongUnheardAt (Network small_source) merged merged_plan 2 0 (true ∷ true ∷ [])

-- so it isn't alarm-secure
abbrev pub MergedIsNotAlarmSecure : Type 0
MergedIsNotAlarmSecure = IsAlarmSecure (Network small_source) merged merged_plan → ⊥
