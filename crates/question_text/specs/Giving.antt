-- A checker of refutations that is given the clauses of a question, each with the next number.
use Rattle.std.specs.Prelude.{◌+◌, ◌<◌, ◌^◌, List, [], ◌∷◌, length, All}
use Rattle.fault_secure.specs.Circuit.{Circuit}
use Rattle.fault_secure.specs.CodePlan.{CodePlan}
use Rattle.refutations.specs.declared.literal.Literal.{Literal}
use Rattle.refutations.specs.Checking.{AreWithin, CheckerState, empty_checker, with_clause}
use Rattle.exact_question.specs.Question.{question, variables}

-- the state once it is given some clauses
abbrev pub given : CheckerState → List (List Literal) → CheckerState
given state [] = state
given state (c ∷ clauses) = given (with_clause state (state.last + 1) c) clauses

-- the state of a checker that holds the clauses of the question, with the numbers from 1 on, and nothing else
abbrev pub question_state : Circuit → Circuit → CodePlan → CheckerState
question_state C N P = given (empty_checker (length (variables C N P))) (question C N P)

-- the variable of each literal of the question is one of the question's
abbrev pub LiteralsAreWithin : Circuit → Circuit → CodePlan → Type 0
LiteralsAreWithin C N P = All (AreWithin (length (variables C N P))) (question C N P)

-- a checker can be given these clauses: their variables are its own, and the numbers are below 2^32
pub record CanBeGiven (state : CheckerState) (clauses : List (List Literal)) : Type 0 where
  pub within : All (AreWithin state.variables) clauses
  pub room : state.last + length clauses < 2 ^ 32
