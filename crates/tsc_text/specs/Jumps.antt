-- The numbers of lines, told from those of a few of them.
use Rattle.std.specs.Prelude.{ℕ, ◌+◌, ◌-◌, ◌^◌, ◌≤◌, ◌==◌, cond, nat_le, List, [], ◌∷◌, ◌++◌, length, All}
use Rattle.std.specs.List.Sorted.{IsNonDecreasingBy}
use Rattle.tsc_text.specs.declared.jumps.Jump.{Jump}
use Rattle.tsc_text.specs.Row.{KeptLine, Mark, kept_line}

-- what stands in place of a jump before the first: the first line, with the number 1
abbrev pub first_jump : Jump
first_jump = record { line = 0; number = 1 }

-- the number of a line after a jump, where each line is numbered one more than the line before it
abbrev pub number_behind : Jump → ℕ → ℕ
number_behind jump line = jump.number + (line - jump.line)

-- the last of these jumps up to a line, where `last` is the one before them
abbrev pub jump_from : Jump → List Jump → ℕ → Jump
jump_from last [] line = last
jump_from last (jump ∷ jumps) line = cond (nat_le jump.line line) (jump_from jump jumps line) last

-- the last jump up to a line
abbrev pub jump_at : List Jump → ℕ → Jump
jump_at jumps line = jump_from first_jump jumps line

-- the jumps from which the next line's number is told
abbrev pub with_number : List Jump → ℕ → ℕ → List Jump
with_number jumps line number =
    cond (number_behind (jump_at jumps line) line == number) jumps (jumps ++ record { line = line; number = number } ∷ [])

-- the lines that end so, the first of which has the place `line`
abbrev pub lines_of_marks : List Jump → ℕ → List Mark → List KeptLine
lines_of_marks jumps line [] = []
lines_of_marks jumps line (mark ∷ marks) =
    kept_line (number_behind (jump_at jumps line) line) mark ∷ lines_of_marks jumps (line + 1) marks

-- what the jumps of lines that end so keep to
pub record AreJumps (jumps : List Jump) (marks : List Mark) : Type 0 where
  pub rises : IsNonDecreasingBy (λ (jump : Jump). jump.line) jumps
  pub listed : All (λ jump. jump.line ≤ length marks) jumps
  pub few : length marks ≤ 2 ^ 32
