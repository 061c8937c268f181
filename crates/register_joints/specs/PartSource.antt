-- Sources of the parts of a joint: logic, whose states a part's plan lists, and circuits with registers, whose states no plan lists.
use Rattle.std.specs.Prelude.{◌≡◌, Bool, List, length}
use Rattle.fault_secure.specs.Circuit.{Circuit}
use Rattle.fault_secure.specs.StuckAt.{NoFault}
use Rattle.fault_secure.specs.Run.{HasOneRun}
use Rattle.fault_secure.specs.CodePlan.{CodePlan}
use Rattle.fault_secure.specs.Logic.{Logic}
use Rattle.fault_secure.specs.FaultSecure.{IsFaultSecure}
use Rattle.point_laws.specs.Heard.{IsAlarmSecure}
use Rattle.register_laws.specs.RegisterPlan.{RegisterPlan}
use Rattle.register_laws.specs.RegisterMapping.{IsRegisterAlarmSecure, IsRegisterAlarmFaultSecure}

-- the source of a part: logic, or a circuit with registers
pub data PartSource : Type 0 where
  Logical : Logic → PartSource
  Registers : Circuit → PartSource

-- what a circuit with registers does is its own run: over every list of inputs it has exactly one. Logic has no runs
abbrev pub HasSourceRuns : PartSource → Type 0
HasSourceRuns (Logical M) = Unit {0}
HasSourceRuns (Registers S) = (m : List Bool) (xs : List (List Bool)) → length m ≡ length xs → HasOneRun S NoFault m xs

-- a joint sees the same of both plans: how many outputs there are, and which nets are the rails. Groups, checks and states it doesn't look at
pub record IsSeenAlike (P Q : CodePlan) : Type 0 where
  pub outputs : P.outputs ≡ Q.outputs
  pub rail1 : P.rail1 ≡ Q.rail1
  pub rail2 : P.rail2 ≡ Q.rail2

-- alarm-secure for a circuit with registers, under some plan in which a joint sees what it sees in this one. So it doesn't matter what is watched,
-- nor whether the plan has registers as latches or as further inputs
pub record IsRegisterPart (S N : Circuit) (P : CodePlan) : Type 0 where
  pub whole : RegisterPlan
  pub alike : IsSeenAlike whole.plan P
  pub secure : IsRegisterAlarmSecure S N whole

-- a netlist with its plan is secure for the source of a part: with any one failing cell no wrong output comes before its own alarm
abbrev pub IsPartSecure : PartSource → Circuit → CodePlan → Type 0
IsPartSecure (Logical M) N P = IsAlarmSecure M N P
IsPartSecure (Registers S) N P = IsRegisterPart S N P

-- the same for a circuit with registers, with one listed fault
pub record IsRegisterFaultPart (S N : Circuit) (P : CodePlan) : Type 0 where
  pub whole : RegisterPlan
  pub alike : IsSeenAlike whole.plan P
  pub secure : IsRegisterAlarmFaultSecure S N whole

-- a netlist with its plan is secure for the source of a part against each listed fault, present at any steps
abbrev pub IsPartFaultSecure : PartSource → Circuit → CodePlan → Type 0
IsPartFaultSecure (Logical M) N P = IsFaultSecure M N P
IsPartFaultSecure (Registers S) N P = IsRegisterFaultPart S N P
