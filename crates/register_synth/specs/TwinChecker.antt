-- The checker of a twin: the pairs of its groups and no others, whose gates stand after the checks.
use Rattle.std.specs.Prelude.{ℕ, ◌+◌, ◌≤◌, List, [], length}
use Rattle.fault_secure.specs.Circuit.{Circuit}
use Rattle.fault_secure.specs.Closed.{IsClosed}
use Rattle.fault_secure.specs.Settle.{Acyclic}
use Rattle.fault_secure.specs.CodePlan.{CodePlan, concat_places}
use Rattle.fault_secure.specs.Segment.{IsAppended}
use Rattle.code_checkers.specs.GateList.{GateList, IsCheckerOf}
use Rattle.code_checkers.specs.NodesOfGates.{StandsFrom}
use Rattle.register_laws.specs.Part.{IsPart}
use Rattle.register_laws.specs.RegisterPlan.{RegisterPlan, IsRegisterPlanOf}
use Rattle.register_laws.specs.RegisterSecure.{IsRegisterSecure, IsRegisterFaultSecure}
use Rattle.register_laws.specs.Twin.{Placing, IsTwin}
use Rattle.register_synth.specs.Kept.{AreKept, kept_part, kept_place}
use Rattle.register_synth.specs.RegisterGroups.{AreRegisterGroups}
use Rattle.register_synth.specs.TwinNet.{own_place, copied_place, twin_plan, BeginsAsTwin}

-- the netlist with its registers as further inputs: its nets have the same numbers
abbrev pub opened : Circuit → Circuit
opened N = record N { inputs = N.inputs + length N.latches; latches = [] }

-- the plan whose checker a twin has: its own without latches, so that nothing of a next state is checked
abbrev pub word_plan : Circuit → List (List ℕ) → ℕ → ℕ → CodePlan
word_plan T groups rail1 rail2 = let P = (twin_plan T groups rail1 rail2).plan in record P { latches = 0 }

-- how many nodes stand before the checker
abbrev pub twin_top : Circuit → List (List ℕ) → ℕ
twin_top T groups = length T.nodes + length T.nodes + length (concat_places groups)

-- after the checks each gate of this checker stands, over the outputs and the checks, and each node there reads nets before its own. In
-- which order the gates stand there, and whether other nodes do, is not said here
pub record HasTwinChecker (T N : Circuit) (groups : List (List ℕ)) (rail1 rail2 : ℕ) (made : GateList) : Type 0 where
  pub gates : IsCheckerOf (word_plan T groups rail1 rail2) made
  pub stand : StandsFrom (opened N) (word_plan T groups rail1 rail2) (twin_top T groups) made
  pub appended : IsAppended N (twin_top T groups) (length N.nodes)

-- N with its plan is a twin of T, which is a part of the source S; the plan is of N, and N is secure for S against any one failing cell and each
-- listed fault
pub record IsTwinOfPart (S T N : Circuit) (P : RegisterPlan) (place own copy : Placing) : Type 0 where
  pub part : IsPart T S place
  pub twin : IsTwin T N P own copy
  pub planned : IsRegisterPlanOf N P
  pub secure : IsRegisterSecure S N P
  pub fault_secure : IsRegisterFaultSecure S N P

-- the source is closed, has no ring and at most 64 outputs. A netlist that begins as the twin of what is kept of it, over the source's groups,
-- and has such a checker, is a twin of this part
abbrev pub TwinsAreChecked : Type 0
TwinsAreChecked = (S N : Circuit) (registers covers : List ℕ) (groups : List (List ℕ)) (rail1 rail2 : ℕ) (made : GateList) → IsClosed S → Acyclic S
    → length S.outputs ≤ 64 → AreKept S registers covers → AreRegisterGroups S groups → BeginsAsTwin (kept_part S registers covers) N groups rail1 rail2
    → HasTwinChecker (kept_part S registers covers) N groups rail1 rail2 made
    → IsTwinOfPart S (kept_part S registers covers) N (twin_plan (kept_part S registers covers) groups rail1 rail2)
    (kept_place S registers covers) (own_place (kept_part S registers covers)) (copied_place (kept_part S registers covers))
