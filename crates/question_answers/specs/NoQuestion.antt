-- Why no question is asked: what fits the question, the first reason where something doesn't, and its line.
use Rattle.std.specs.Prelude.{◌≡◌, ◌≢◌, ℕ, List, [], ◌∷◌, ◌++◌, codes, length, Option, Some, None}
use Rattle.fault_secure.specs.declared.code.Code.TheVariants.{Parity as ParityCode}
use Rattle.fault_secure.specs.Circuit.{Circuit}
use Rattle.fault_secure.specs.CodePlan.{CodePlan}
use Rattle.fault_secure.specs.Logic.{Network}
use Rattle.audit.specs.Verdict.{FitsSource, HasOther}
use Rattle.netlist_answers.specs.VerdictText.{shape_text}
use Rattle.question_answers.specs.declared.reason.NoQuestion.{NoQuestion}
use Rattle.question_answers.specs.declared.reason.NoQuestion.TheVariants.{Shape, Latched, Parity}

-- the netlist fits the network, has no latch, and its plan's code is parity
pub record FitsQuestion (C N : Circuit) (P : CodePlan) : Type 0 where
  pub fits : FitsSource (Network C) N P
  pub latches : length N.latches ≡ 0
  pub parity : P.code ≡ ParityCode

-- the reason is the first of these that isn't so: the shape, no latch, parity
abbrev pub IsFirstMisfit : Circuit → Circuit → CodePlan → NoQuestion → Type 0
IsFirstMisfit C N P (Shape what) = HasOther (Network C) N P what
IsFirstMisfit C N P Latched = FitsSource (Network C) N P × (length N.latches ≢ 0)
IsFirstMisfit C N P Parity = FitsSource (Network C) N P × ((length N.latches ≡ 0) × (P.code ≢ ParityCode))

-- the question's fit: nothing where it fits, else the first reason
abbrev pub IsFit : Circuit → Circuit → CodePlan → Option NoQuestion → Type 0
IsFit C N P None = FitsQuestion C N P
IsFit C N P (Some why) = IsFirstMisfit C N P why

-- a reason in words; a wrong shape in those of an audit
abbrev pub reason_text : NoQuestion → List ℕ
reason_text (Shape what) = shape_text what
reason_text Latched = codes "latched"
reason_text Parity = codes "parity"

-- the line of a reason: `no` and the reason
abbrev pub no_question_text : NoQuestion → List ℕ
no_question_text why = (codes "no " ++ reason_text why) ++ 10 ∷ []
