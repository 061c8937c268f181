-- What is answered to a text of a network, a netlist and a refutation of their question.
use Rattle.std.specs.Prelude.{◌≡◌, ℕ, List, None}
use Rattle.fault_secure.specs.CodePlan.{CodePlan}
use Rattle.fault_secure.specs.Logic.{Network}
use Rattle.refutations.specs.Clauses.{HaveNoModel}
use Rattle.exact_question.specs.Laws.{IsAsked}
use Rattle.exact_question.specs.Question.{question}
use Rattle.tsc_net.specs.NetlistOf.{NetlistOf}
use Rattle.tsc_text.specs.Lines.{lines_of}
use Rattle.tsc_text.specs.TextLine.{TextLine}
use Rattle.commands.specs.declared.source_format.SourceFormat.TheVariants.{Blif}
use Rattle.refusals.specs.declared.ending.Ending.{Ending}
use Rattle.refusals.specs.declared.ending.Ending.TheVariants.{Finished, Rejected}
use Rattle.text_sections.specs.Denoted.{behind_source, first_net, net_from, plan_from}
use Rattle.exact_answers.specs.ExactReply.{IsExactYes}
use Rattle.question_answers.specs.NoQuestion.{FitsQuestion}
use Rattle.question_answers.specs.QuestionReply.{IsNoQuestion}
use Rattle.proof_answers.specs.Refused.{question_fault, refutation_after}

-- the question of a network and a netlist with its plan is asked, and its refutation is followed to the empty clause without a fault. So it
-- has no model, and the answer is the yes of an exact audit, at any number of inputs
pub record IsProved (S N : NetlistOf) (P : CodePlan) (refutation : List TextLine) (answer : List ℕ) : Type 0 where
  pub fits : FitsQuestion S.circuit N.circuit P
  pub asked : IsAsked S.circuit N.circuit P
  pub followed : question_fault S.circuit N.circuit P refutation ≡ None
  pub refuted : HaveNoModel (question S.circuit N.circuit P)
  pub exact : IsExactYes (Network S.circuit) N P answer

-- the answer on them, by how the command ends: where no question is asked, the first reason
abbrev pub IsProofReplyOf : Ending → NetlistOf → NetlistOf → CodePlan → List TextLine → List ℕ → Type 0
IsProofReplyOf Finished S N P refutation answer = IsProved S N P refutation answer
IsProofReplyOf Rejected S N P refutation answer = IsNoQuestion S N P answer

-- the same of the netlist and the plan that stand from a place on, and the refutation after them
abbrev pub IsProofReplyFrom : Ending → NetlistOf → List TextLine → ℕ → List ℕ → Type 0
IsProofReplyFrom ending S lines from answer = IsProofReplyOf ending S (net_from lines from) (plan_from lines from) (refutation_after lines from) answer

-- the answer to lines: on the network that they begin with, and what stands after it
abbrev pub IsProofLinesReply : Ending → List TextLine → List ℕ → Type 0
IsProofLinesReply ending lines answer = IsProofReplyFrom ending (first_net lines) lines (behind_source Blif lines) answer

-- the answer to a text: that to its lines
abbrev pub IsProofReply : Ending → List ℕ → List ℕ → Type 0
IsProofReply ending text answer = IsProofLinesReply ending (lines_of text) answer
