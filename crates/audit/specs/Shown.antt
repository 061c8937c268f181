-- What a verdict names: nets of the netlist, and words with the bits that they are told with.
use Rattle.std.specs.Prelude.{ℕ, ◌^◌, ◌<◌, ◌≤◌}
use Rattle.fault_secure.specs.Circuit.{Circuit, nets}
use Rattle.audit.specs.declared.verdict.Reason.{Reason}
use Rattle.audit.specs.declared.verdict.Reason.TheVariants as reason
use Rattle.audit.specs.declared.verdict.Verdict.{Verdict}
use Rattle.audit.specs.declared.verdict.Verdict.TheVariants.{Yes, No}

-- a number stands for so many bits, at most 64
pub record IsNumberOf (width value : ℕ) : Type 0 where
  pub few : width ≤ 64
  pub fits : value < 2 ^ width

-- each net that a reason names is one of the netlist's, and each word has the bits that it is told with
abbrev pub IsReasonIn : Circuit → Reason → Type 0
IsReasonIn N (reason.Shape what) = Unit {0}
IsReasonIn N (reason.Rails net) = net.number < nets N
IsReasonIn N (reason.Reads at pin) = at.number < nets N
IsReasonIn N (reason.Sign at pin) = at.number < nets N
IsReasonIn N reason.Latched = Unit {0}
IsReasonIn N (reason.Shares group first second at) = (first.number < nets N) × (second.number < nets N) × (at.number < nets N)
IsReasonIn N reason.Reset = Unit {0}
IsReasonIn N (reason.Next state input) = IsNumberOf N.inputs input
IsReasonIn N (reason.Word state input) = IsNumberOf N.inputs input
IsReasonIn N (reason.Output state input place) = IsNumberOf N.inputs input
IsReasonIn N (reason.CheckerWord value width) = IsNumberOf width value
IsReasonIn N (reason.CheckerNet net) = net.number < nets N

-- what a verdict names can be told of the netlist
abbrev pub IsShownIn : Circuit → Verdict → Type 0
IsShownIn N Yes = Unit {0}
IsShownIn N (No why) = IsReasonIn N why
