-- What a question without a model says: the statements of the laws.
use Rattle.std.specs.Prelude.{◌≡◌, ◌↔◌, ℕ, ◌<◌, length, slice_index_or}
use Rattle.fault_secure.specs.declared.code.Code.TheVariants.{Parity}
use Rattle.fault_secure.specs.Circuit.{Circuit}
use Rattle.fault_secure.specs.Closed.{IsClosed}
use Rattle.fault_secure.specs.Settle.{Acyclic}
use Rattle.fault_secure.specs.CodePlan.{CodePlan, IsPlanOf, IsWellMade}
use Rattle.fault_secure.specs.Logic.{Network}
use Rattle.fault_secure.specs.Behaviour.{FollowsSource}
use Rattle.point_laws.specs.Heard.{IsHeardAtPoints, IsAlarmSecure}
use Rattle.refutations.specs.Clauses.{HaveNoModel}
use Rattle.exact_question.specs.Variables.{Unheard, number_of}
use Rattle.exact_question.specs.Question.{variables, question}

-- what is asked of: a network and a netlist with its plan under parity, of as many inputs and outputs, both without latches
pub record IsAsked (C N : Circuit) (P : CodePlan) : Type 0 where
  pub source_closed : IsClosed C
  pub source_acyclic : Acyclic C
  pub closed : IsClosed N
  pub well_made : IsWellMade P
  pub plan_of : IsPlanOf N P
  pub parity : P.code ≡ Parity
  pub inputs : N.inputs ≡ C.inputs
  pub outputs : P.outputs ≡ length C.outputs
  pub source_latches : length C.latches ≡ 0
  pub latches : length N.latches ≡ 0

-- the question has no model exactly where the netlist follows its source and is heard at its points: at each input it has the source's
-- outputs, its word is a codeword, its rails differ, and no failing cell makes an output wrong while the rails differ
abbrev pub QuestionDecides : Type 0
QuestionDecides = (C N : Circuit) (P : CodePlan) → IsAsked C N P → HaveNoModel (question C N P) ↔ (FollowsSource (Network C) N P × IsHeardAtPoints N P)

-- where it has no model, the netlist is alarm-secure
abbrev pub NoModelIsAlarmSecure : Type 0
NoModelIsAlarmSecure = (C N : Circuit) (P : CodePlan) → IsAsked C N P → Acyclic N → HaveNoModel (question C N P) → IsAlarmSecure (Network C) N P

-- each variable has its place among the variables as its number: none stands twice
abbrev pub VariablesAreInOrder : Type 0
VariablesAreInOrder = (C N : Circuit) (P : CodePlan) (k : ℕ) → k < length (variables C N P)
    → number_of (slice_index_or (variables C N P) k Unheard) (variables C N P) ≡ k
