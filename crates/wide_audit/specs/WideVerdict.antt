-- The verdict of a wide audit: what the audit says, whatever the number of inputs, of a netlist without latches whose stated functions have few cofactors.
use Rattle.std.specs.Prelude.{◌≡◌, ℕ, ◌<◌, ◌⊎◌, length}
use Rattle.tsc_bits.specs.Bits.{binary}
use Rattle.fault_secure.specs.Circuit.{Circuit}
use Rattle.fault_secure.specs.CodePlan.{CodePlan}
use Rattle.fault_secure.specs.Logic.{Network}
use Rattle.fault_secure.specs.Settle.{Acyclic}
use Rattle.audit.specs.Verdict.{HasStructure, IsFirstReason, IsVerdict}
use Rattle.audit.specs.declared.verdict.Reason.{Reason}
use Rattle.audit.specs.declared.verdict.Reason.TheVariants as reason
use Rattle.audit.specs.declared.verdict.Verdict.TheVariants as verdict
use Rattle.wide_diagrams.specs.Wide.{NeedMoreRows, NeedAtMost}
use Rattle.wide_audit.specs.declared.verdict.WideReason.{WideReason}
use Rattle.wide_audit.specs.declared.verdict.WideReason.TheVariants.{Structure, Word, Output}
use Rattle.wide_audit.specs.declared.verdict.WideVerdict.{WideVerdict}
use Rattle.wide_audit.specs.declared.verdict.WideVerdict.TheVariants.{Yes, No}
use Rattle.wide_audit.specs.declared.verdict.WideError.{WideError}
use Rattle.wide_audit.specs.declared.verdict.WideError.TheVariants.{Spent, Memory}

-- there is no latch, and the stated functions and the two constants have at most so many different cofactors
pub record HasFunctions (rows : ℕ) (S N : Circuit) (P : CodePlan) : Type 0 where
  pub no_latch : length N.latches ≡ 0
  pub few : NeedAtMost rows S N P

-- under a code that lets latches be, the netlist fits its source, its structure is as it should be, and there is a latch
pub record IsLatched (S N : Circuit) (P : CodePlan) : Type 0 where
  pub before : HasStructure (Network S) N P
  pub some : 0 < length N.latches

-- the first condition that doesn't hold is this one of the shape, the structure or the checker; a latch is one under every code
abbrev pub IsFirstOfStructure : ℕ → Circuit → Circuit → CodePlan → Reason → Type 0
IsFirstOfStructure rows S N P (reason.Shape what) = IsFirstReason (Network S) N P (reason.Shape what)
IsFirstOfStructure rows S N P (reason.Rails net) = IsFirstReason (Network S) N P (reason.Rails net)
IsFirstOfStructure rows S N P (reason.Reads at pin) = IsFirstReason (Network S) N P (reason.Reads at pin)
IsFirstOfStructure rows S N P (reason.Sign at pin) = IsFirstReason (Network S) N P (reason.Sign at pin)
IsFirstOfStructure rows S N P reason.Latched = IsFirstReason (Network S) N P reason.Latched ⊎ IsLatched S N P
IsFirstOfStructure rows S N P (reason.Shares group first second at) = IsFirstReason (Network S) N P (reason.Shares group first second at)
IsFirstOfStructure rows S N P reason.Reset = ⊥
IsFirstOfStructure rows S N P (reason.Next state input) = ⊥
IsFirstOfStructure rows S N P (reason.Word state input) = ⊥
IsFirstOfStructure rows S N P (reason.Output state input place) = ⊥
IsFirstOfStructure rows S N P (reason.CheckerWord value width) = HasFunctions rows S N P × IsFirstReason (Network S) N P (reason.CheckerWord value width)
IsFirstOfStructure rows S N P (reason.CheckerNet net) = HasFunctions rows S N P × IsFirstReason (Network S) N P (reason.CheckerNet net)

-- the first condition that doesn't hold; a point is an input of as many bits as inputs, which the audit reads as a number
abbrev pub IsWideReason : ℕ → Circuit → Circuit → CodePlan → WideReason → Type 0
IsWideReason rows S N P (Structure why) = IsFirstOfStructure rows S N P why
IsWideReason rows S N P (Word input) =
    HasFunctions rows S N P × (length input ≡ N.inputs) × IsFirstReason (Network S) N P (reason.Word 0 (binary input))
IsWideReason rows S N P (Output input place) =
    HasFunctions rows S N P × (length input ≡ N.inputs) × IsFirstReason (Network S) N P (reason.Output 0 (binary input) place)

-- the verdict with so many rows: yes where every condition holds, else the first one that doesn't
abbrev pub IsWideVerdict : ℕ → Circuit → Circuit → CodePlan → WideVerdict → Type 0
IsWideVerdict rows S N P Yes = HasFunctions rows S N P × IsVerdict (Network S) N P verdict.Yes
IsWideVerdict rows S N P (No why) = IsWideReason rows S N P why

-- there is no verdict with so many rows: the conditions on shape and structure hold, there is no latch, neither has a ring, and the stated functions have
-- more different cofactors
pub record IsSpent (rows : ℕ) (S N : Circuit) (P : CodePlan) : Type 0 where
  pub before : HasStructure (Network S) N P
  pub no_latch : length N.latches ≡ 0
  pub source_acyclic : Acyclic S
  pub acyclic : Acyclic N
  pub more : NeedMoreRows rows S N P

-- why there is no verdict
abbrev pub IsWideError : ℕ → Circuit → Circuit → CodePlan → WideError → Type 0
IsWideError rows S N P (Spent said) = (said ≡ rows) × IsSpent rows S N P
IsWideError rows S N P (Memory e) = Unit {0}
