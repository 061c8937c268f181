-- What the parts of the search answer, in terms of a netlist and its plan.
use Rattle.std.specs.Prelude.{◌≡◌, ℕ, ◌<◌, length, Option, Some, None}
use Rattle.fault_secure.specs.declared.code.Code.TheVariants.{Parity}
use Rattle.fault_secure.specs.Circuit.{Circuit}
use Rattle.fault_secure.specs.CodePlan.{CodePlan, IsUnorderedCode}
use Rattle.fault_secure.specs.Structure.{ReadsOnlyWord}
use Rattle.fault_secure.specs.SoundStructure.{SuitsCode}
use Rattle.structure_audit.specs.StructureReason.{ReadsForeign, HasWrongSign, SharesAt, IsFirstPinOf, IsFirstNodeOf, IsFirstSharedIn, IsFirstShared}
use Rattle.structure_audit.specs.declared.pins.PinAt.{PinAt}
use Rattle.structure_audit.specs.declared.shared.SharedNode.{SharedNode}
use Rattle.structure_audit.specs.declared.reason.StructureReason.{StructureReason}
use Rattle.structure_audit.specs.declared.reason.StructureReason.TheVariants.{Rails, Reads, Sign, Latched, Shares}

-- the first pin of the checker that reads what it may not, if there is one
abbrev pub IsReadAnswer : Circuit → CodePlan → Option PinAt → Type 0
IsReadAnswer N P None = ReadsOnlyWord N P
IsReadAnswer N P (Some at) = IsFirstPinOf N (ReadsForeign N P) at.node.number at.pin

-- two lines that share a node, and the first that they share
abbrev pub IsNodeAnswer : Circuit → CodePlan → ℕ → ℕ → SharedNode → Type 0
IsNodeAnswer N P first second shared = IsFirstNodeOf N P first second shared.first.number shared.second.number shared.node.number

-- the first two lines of a group that share a node, if there are such
abbrev pub IsGroupAnswer : Circuit → CodePlan → ℕ → Option SharedNode → Type 0
IsGroupAnswer N P group None = (a b : ℕ) → SharesAt N P group a b → ⊥
IsGroupAnswer N P group (Some shared) = IsFirstSharedIn N P group shared.first.number shared.second.number shared.node.number

-- what a reason says that stands after the rails and the reads: about the code's condition
abbrev pub FailsCode : Circuit → CodePlan → StructureReason → Type 0
FailsCode N P (Rails net) = ⊥
FailsCode N P (Reads at pin) = ⊥
FailsCode N P (Sign at pin) = IsUnorderedCode P.code × IsFirstPinOf N (HasWrongSign N P) at.number pin
FailsCode N P Latched = (P.code ≡ Parity) × (0 < length N.latches)
FailsCode N P (Shares group first second at) = (P.code ≡ Parity) × (length N.latches ≡ 0) × IsFirstShared N P group first.number second.number at.number

-- whether the function suits the code, and why not
abbrev pub IsCodeAnswer : Circuit → CodePlan → Option StructureReason → Type 0
IsCodeAnswer N P None = SuitsCode P.code N P
IsCodeAnswer N P (Some reason) = FailsCode N P reason
