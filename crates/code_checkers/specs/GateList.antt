-- What is seen of the gates of a checker: the list of gates, and the places of the two rails.
use Rattle.std.specs.Prelude.{◌≡◌, ℕ, ◌<◌, List, [], length}
use Rattle.fault_secure.specs.CodePlan.{CodePlan}
use Rattle.code_checkers.specs.declared.gate.CheckGate.{CheckGate}
use Rattle.code_checkers.specs.declared.word_sizes.WordSizes.{WordSizes}
use Rattle.code_checkers.specs.Signal.{Signal}
use Rattle.code_checkers.specs.Signal.Signal.{Buf}
use Rattle.code_checkers.specs.TwoRail.{tree}
use Rattle.code_checkers.specs.Checker.{group_pairs, pairs_over, rail1, rail2}
use Rattle.code_checkers.specs.Gates.{signals_of, meaning, AreOrdered}
use Rattle.code_checkers.specs.Walk.{walk}

-- a list of gates, and the places of its two rails
pub record GateList : Type 0 where
  pub gates : List CheckGate
  pub rail1 : ℕ
  pub rail2 : ℕ

-- the gates are a walk over two signals, which stand at the rails' places; each signal stands once
pub record IsWalkOf (one other : Signal) (made : GateList) : Type 0 where
  pub signals : signals_of made.gates ≡ walk other (walk one [])
  pub first : meaning made.gates made.rail1 ≡ one
  pub second : meaning made.gates made.rail2 ≡ other
  pub first_within : made.rail1 < length made.gates
  pub second_within : made.rail2 < length made.gates
  pub ordered : AreOrdered made.gates
  pub distinct : (i k : ℕ) → i < length made.gates → k < length made.gates → meaning made.gates i ≡ meaning made.gates k → i ≡ k

-- the gates are the checker of the plan: a walk over its rails
abbrev pub IsCheckerOf : CodePlan → GateList → Type 0
IsCheckerOf P made = IsWalkOf (rail1 P) (rail2 P) made

-- the gates are the checker of each plan whose word has these sizes, and whose groups are these
abbrev pub IsWordChecker : WordSizes → List (List ℕ) → GateList → Type 0
IsWordChecker S groups made = IsWalkOf (Buf (tree (pairs_over S groups)).first) (Buf (tree (pairs_over S groups)).second) made

-- the gates are the checker of these parity groups, whose checks stand from place `check` of a word on: a walk over the rails of their pairs
abbrev pub IsGroupChecker : ℕ → List (List ℕ) → GateList → Type 0
IsGroupChecker check groups made = IsWalkOf (Buf (tree (group_pairs check groups)).first) (Buf (tree (group_pairs check groups)).second) made
