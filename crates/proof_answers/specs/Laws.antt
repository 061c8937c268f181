-- What a text of a network, a netlist and a refutation determines: the statements of the laws.
use Rattle.std.specs.Prelude.{◌≡◌, ◌↔◌, ℕ, List, IsTrue}
use Rattle.fault_secure.specs.Circuit.{Circuit}
use Rattle.fault_secure.specs.CodePlan.{CodePlan}
use Rattle.refusals.specs.declared.ending.Ending.{Ending}
use Rattle.question_answers.specs.NoQuestion.{FitsQuestion}
use Rattle.proof_answers.specs.ProofReply.{IsProofReply}
use Rattle.proof_answers.specs.Refused.{fits_question}

-- two replies to one text are the same bytes, and the command ends in the same way
abbrev pub OneProofReply : Type 0
OneProofReply = (text : List ℕ) (ends also : Ending) (answer other : List ℕ) → IsProofReply ends text answer → IsProofReply also text other
    → (ends ≡ also) × (answer ≡ other)

-- a refutation is looked at exactly where nothing misfits the question
abbrev pub IsLookedAtWhereAsked : Type 0
IsLookedAtWhereAsked = (C N : Circuit) (P : CodePlan) → IsTrue (fits_question C N P) ↔ FitsQuestion C N P
