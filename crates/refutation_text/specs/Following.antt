-- Where the lines of a refutation lead: the checker's state and the fault after each line, and the first fault.
use Rattle.std.specs.Prelude.{ℕ, ◌==◌, Bool, true, ◌&&◌, List, [], ◌∷◌, length, is_some, Option, None, Some, if◌then◌else◌}
use Rattle.tsc_text.specs.TextLine.{TextLine}
use Rattle.refutations.specs.declared.answer.Answer.{Answer}
use Rattle.refutations.specs.declared.answer.Answer.TheVariants.{Followed, OldNumber, NoVariable, NoClause as AnswerNoClause, TwoLiterals, Unfinished as AnswerUnfinished}
use Rattle.refutations.specs.Steps.{clause_at}
use Rattle.refutations.specs.Store.{without}
use Rattle.refutations.specs.Checking.{CheckerState, answer_of, with_clause}
use Rattle.refutation_text.specs.declared.fault.RefutationFault.{RefutationFault}
use Rattle.refutation_text.specs.declared.fault.RefutationFault.TheVariants.{Shape, NoClause, Hint, NoRefutation, Unfinished}
use Rattle.refutation_text.specs.Token.{is_deletion, is_remark}
use Rattle.refutation_text.specs.RefutationLine.{Addition, addition_of, deletions_of}

-- the fault of the line `number` where the checker answers so to its addition
abbrev pub answer_fault : ℕ → Answer → Option RefutationFault
answer_fault number Followed = None
answer_fault number OldNumber = Some (Shape number)
answer_fault number NoVariable = Some (Shape number)
answer_fault number AnswerNoClause = Some (NoClause number)
answer_fault number TwoLiterals = Some (Hint number)
answer_fault number AnswerUnfinished = Some (Hint number)

-- the fault of an addition, if the line is one
abbrev pub addition_fault : CheckerState → ℕ → Option Addition → Option RefutationFault
addition_fault state number None = Some (Shape number)
addition_fault state number (Some a) = answer_fault number (answer_of state a.number a.literals a.hints)

-- the state after an addition without a fault: one clause more
abbrev pub after_addition : CheckerState → Option Addition → CheckerState
after_addition state None = state
after_addition state (Some a) = with_clause state a.number a.literals

-- the state without the clause of a number
abbrev pub without_clause : CheckerState → ℕ → CheckerState
without_clause state number = record state { clauses = without state.clauses number }

-- whether the clause of each number is alive once those before it are deleted
abbrev pub are_alive : CheckerState → List ℕ → Bool
are_alive state [] = true
are_alive state (n ∷ ns) = is_some (clause_at state.clauses n) && are_alive (without_clause state n) ns

-- the state without the clauses of these numbers
abbrev pub without_clauses : CheckerState → List ℕ → CheckerState
without_clauses state [] = state
without_clauses state (n ∷ ns) = without_clauses (without_clause state n) ns

-- the fault of a deletion, if the line is one
abbrev pub deletion_fault : CheckerState → ℕ → Option (List ℕ) → Option RefutationFault
deletion_fault state number None = Some (Shape number)
deletion_fault state number (Some numbers) = if are_alive state numbers then None else Some (NoClause number)

-- the state after a deletion without a fault
abbrev pub after_deletion : CheckerState → Option (List ℕ) → CheckerState
after_deletion state None = state
after_deletion state (Some numbers) = without_clauses state numbers

-- the fault of a line
abbrev pub line_fault : CheckerState → TextLine → Option RefutationFault
line_fault state line =
    if is_remark line then None
    else (if is_deletion line then deletion_fault state line.number (deletions_of line) else addition_fault state line.number (addition_of line))

-- the state after a line without a fault
abbrev pub after_line : CheckerState → TextLine → CheckerState
after_line state line =
    if is_remark line then state
    else (if is_deletion line then after_deletion state (deletions_of line) else after_addition state (addition_of line))

-- the first of two faults
abbrev pub or_fault : Option RefutationFault → Option RefutationFault → Option RefutationFault
or_fault None later = later
or_fault (Some fault) later = Some fault

-- the first fault of lines: none as soon as the empty clause came
abbrev pub lines_fault : CheckerState → List TextLine → Option RefutationFault
lines_fault state [] = if state.refuted then None else Some Unfinished
lines_fault state (line ∷ lines) = if state.refuted then None else or_fault (line_fault state line) (lines_fault (after_line state line) lines)

-- the first fault of a refutation: there has to be a line
abbrev pub fault_of : CheckerState → List TextLine → Option RefutationFault
fault_of state lines = if length lines == 0 then Some NoRefutation else lines_fault state lines
