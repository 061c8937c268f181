-- The lines of a text are few, and the netlists in it small.
use Rattle.std.proofs.Common.{◌≡◌, ℕ, ◌≤◌, ◌<◌, ◌^◌, List, length, sym, subst, arith}
use Rattle.fault_secure.specs.declared.code.Code.TheVariants.{Parity}
use Rattle.fault_secure.specs.Circuit.{Circuit}
use Rattle.fault_secure.specs.CodePlan.{CodePlan, IsWellMade}
use Rattle.tsc_net.specs.NetlistOf.{NetlistOf}
use Rattle.tsc_text.specs.Lines.{lines_of}
use Rattle.tsc_text.specs.TextLine.{TextLine}
use Rattle.exact_question.specs.Question.{question, variables}
use Rattle.text_sections.specs.Denoted.{net_from}
use Rattle.question_answers.specs.NoQuestion.{FitsQuestion}
use Rattle.question_answers.proofs.FewVariables.{few_variables}
use Rattle.question_answers.proofs.LineCounts.{lines_of_few}
use Rattle.question_answers.proofs.Sized.{size_from}
use Rattle.proof_answers.specs.Sizes.{AreFew, AreSmall}
use Rattle.proof_answers.proofs.ByteCounts.{lines_of_bytes}
use Rattle.proof_answers.proofs.FewClauses.{few_clauses}
use Rattle.proof_answers.proofs.PinCounts.{pins_from}

-- the lines of a text of 64 MiB
pub few_lines : (text : List ℕ) (lines : List TextLine) → lines ≡ lines_of text → length text ≤ 67108864 → AreFew lines
few_lines text lines are short = subst AreFew (sym are) (record { count = omega (arith, lines_of_few text, short); bytes = omega (arith, lines_of_bytes text, short) })

-- the nodes of a netlist that they denote from a place on
pub small_net : (lines : List TextLine) (from : ℕ) (N : NetlistOf) → N ≡ net_from lines from → AreFew lines → AreSmall N.circuit.nodes
small_net lines from N is few =
    let small : AreSmall (net_from lines from).circuit.nodes =
    record { rows = let count = few.count in omega (arith, size_from lines from, count); pins = let bytes = few.bytes in omega (arith, pins_from lines from, bytes) } in
    let A : NetlistOf → Type 0 = λ n. AreSmall n.circuit.nodes in subst A (sym is) small

module _ (C N : Circuit) (P : CodePlan) (made : IsWellMade P) (fits : FitsQuestion C N P) (source : AreSmall C.nodes) (right : AreSmall N.nodes) where
  -- the variables and the clauses of their question
  pub variables_of_small : C.inputs ≤ 1024 → length (variables C N P) < 2 ^ 32
  variables_of_small inputs =
      few_variables C N P made fits.parity fits.fits.outputs (let same = fits.fits.inputs in omega (arith, same, inputs)) source.rows right.rows

  pub clauses_of_small : length (question C N P) < 2 ^ 32
  clauses_of_small = few_clauses C N P made fits.parity fits.fits.outputs source.rows right.rows source.pins right.pins
