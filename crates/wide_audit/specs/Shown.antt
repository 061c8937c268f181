-- What a wide verdict names: nets of the netlist, values with the bits that they are told with, and inputs of as many bits as the netlist has inputs.
use Rattle.std.specs.Prelude.{◌≡◌, length}
use Rattle.fault_secure.specs.Circuit.{Circuit}
use Rattle.audit.specs.Shown.{IsReasonIn}
use Rattle.wide_audit.specs.declared.verdict.WideReason.TheVariants.{Structure, Word, Output}
use Rattle.wide_audit.specs.declared.verdict.WideVerdict.{WideVerdict}
use Rattle.wide_audit.specs.declared.verdict.WideVerdict.TheVariants.{Yes, No}

-- what a wide verdict names can be told of the netlist: what the audit's reason names, or an input by all of its bits
abbrev pub IsWideIn : Circuit → WideVerdict → Type 0
IsWideIn N Yes = Unit {0}
IsWideIn N (No (Structure why)) = IsReasonIn N why
IsWideIn N (No (Word input)) = length input ≡ N.inputs
IsWideIn N (No (Output input place)) = length input ≡ N.inputs
