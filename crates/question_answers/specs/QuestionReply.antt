-- What is answered to a text of a network and a netlist that is asked about.
use Rattle.std.specs.Prelude.{◌≡◌, ◌↔◌, ℕ, List}
use Rattle.fault_secure.specs.Behaviour.{FollowsSource}
use Rattle.fault_secure.specs.CodePlan.{CodePlan}
use Rattle.fault_secure.specs.Logic.{Network}
use Rattle.point_laws.specs.Heard.{IsAlarmSecure, IsHeardAtPoints}
use Rattle.refutations.specs.Clauses.{HaveNoModel}
use Rattle.exact_question.specs.Laws.{IsAsked}
use Rattle.exact_question.specs.Question.{question}
use Rattle.question_text.specs.Text.{question_text}
use Rattle.tsc_net.specs.NetlistOf.{NetlistOf}
use Rattle.tsc_text.specs.Lines.{lines_of}
use Rattle.tsc_text.specs.TextLine.{TextLine}
use Rattle.commands.specs.declared.source_format.SourceFormat.TheVariants.{Blif}
use Rattle.refusals.specs.declared.ending.Ending.{Ending}
use Rattle.refusals.specs.declared.ending.Ending.TheVariants.{Finished, Rejected}
use Rattle.text_sections.specs.Denoted.{behind_source, first_net, net_from, plan_from}
use Rattle.audit.specs.Verdict.{FitsSource}
use Rattle.question_answers.specs.declared.reason.NoQuestion.{NoQuestion}
use Rattle.question_answers.specs.NoQuestion.{IsFirstMisfit, no_question_text}

-- the question of a network and a netlist with its plan is asked, and the answer is its text. It has no model exactly where the netlist
-- follows the network and is heard at its points, at each input; and where it has none the netlist is alarm-secure for the network
pub record IsQuestion (S N : NetlistOf) (P : CodePlan) (answer : List ℕ) : Type 0 where
  pub fits : FitsSource (Network S.circuit) N.circuit P
  pub asked : IsAsked S.circuit N.circuit P
  pub decides : HaveNoModel (question S.circuit N.circuit P) ↔ (FollowsSource (Network S.circuit) N.circuit P × IsHeardAtPoints N.circuit P)
  pub secure : HaveNoModel (question S.circuit N.circuit P) → IsAlarmSecure (Network S.circuit) N.circuit P
  pub written : answer ≡ question_text S N P

-- no question is asked of them, for a first reason, and the answer tells it
pub record IsNoQuestion (S N : NetlistOf) (P : CodePlan) (answer : List ℕ) : Type 0 where
  pub reason : NoQuestion
  pub misfit : IsFirstMisfit S.circuit N.circuit P reason
  pub written : answer ≡ no_question_text reason

-- the answer on them, by how the command ends
abbrev pub IsQuestionReplyOf : Ending → NetlistOf → NetlistOf → CodePlan → List ℕ → Type 0
IsQuestionReplyOf Finished S N P answer = IsQuestion S N P answer
IsQuestionReplyOf Rejected S N P answer = IsNoQuestion S N P answer

-- the answer to lines: on the network that they begin with, and the netlist and the plan after it
abbrev pub IsQuestionLinesReply : Ending → List TextLine → List ℕ → Type 0
IsQuestionLinesReply ending lines answer =
    IsQuestionReplyOf ending (first_net lines) (net_from lines (behind_source Blif lines)) (plan_from lines (behind_source Blif lines)) answer

-- the answer to a text: that to its lines
abbrev pub IsQuestionReply : Ending → List ℕ → List ℕ → Type 0
IsQuestionReply ending text answer = IsQuestionLinesReply ending (lines_of text) answer
