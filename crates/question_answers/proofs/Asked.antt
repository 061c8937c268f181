-- What is asked, and what its answer says.
use Rattle.std.proofs.Common.{◌≡◌, ℕ, List, length}
use Rattle.fault_secure.specs.Circuit.{Circuit}
use Rattle.fault_secure.specs.Closed.{IsClosed}
use Rattle.fault_secure.specs.Settle.{Acyclic}
use Rattle.fault_secure.specs.CodePlan.{CodePlan, IsPlanOf, IsWellMade}
use Rattle.exact_question.specs.Laws.{IsAsked, NoModelIsAlarmSecure, QuestionDecides}
use Rattle.question_text.specs.Text.{question_text}
use Rattle.tsc_net.specs.NetlistOf.{NetlistOf, IsBuilt}
use Rattle.question_answers.specs.NoQuestion.{FitsQuestion}
use Rattle.question_answers.specs.QuestionReply.{IsQuestion}

-- a netlist that fits a network without latches is asked about
pub is_asked : (S N : NetlistOf) (P : CodePlan) → IsBuilt S → IsBuilt N → IsWellMade P → IsPlanOf N.circuit P → length S.circuit.latches ≡ 0
    → FitsQuestion S.circuit N.circuit P → IsAsked S.circuit N.circuit P
is_asked S N P source net made of none fits = record {
  source_closed = source.closed;
  source_acyclic = source.acyclic;
  closed = net.closed;
  well_made = made;
  plan_of = of;
  parity = fits.parity;
  inputs = fits.fits.inputs;
  outputs = fits.fits.outputs;
  source_latches = none;
  latches = fits.latches;
}

-- and the text of the question says what it decides
pub is_question : (S N : NetlistOf) (P : CodePlan) (answer : List ℕ) → QuestionDecides → NoModelIsAlarmSecure → IsAsked S.circuit N.circuit P → Acyclic N.circuit
    → FitsQuestion S.circuit N.circuit P → answer ≡ question_text S N P → IsQuestion S N P answer
is_question S N P answer decides secure asked acyclic fits written = record {
  fits = fits.fits;
  asked = asked;
  decides = decides S.circuit N.circuit P asked;
  secure = secure S.circuit N.circuit P asked acyclic;
  written = written;
}
