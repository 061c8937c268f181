-- Small lines and refutations, computed.
use Rattle.std.specs.Prelude.{◌≡◌, ℕ, true, false, List, [], ◌∷◌, ◌++◌, codes, Some, None, refl}
use Rattle.tsc_text.specs.TextLine.{TextLine}
use Rattle.tsc_text.specs.Lines.{lines_of, words_of}
use Rattle.refutations.specs.Checking.{CheckerState}
use Rattle.refutation_text.specs.declared.fault.RefutationFault.TheVariants.{Shape, NoClause, Hint, NoRefutation, Unfinished}
use Rattle.refutation_text.specs.RefutationLine.{addition_of, deletions_of}
use Rattle.refutation_text.specs.Following.{fault_of}

-- a line of these words
abbrev row : List ℕ → TextLine
row text = record { number = 1; is_plan = false; words = words_of text }

-- an addition, and one whose third hint is negative
addition_of-small : addition_of (row (codes "9 -1 2 0 3 5 0")) ≡ Some (record {
  number = 9;
  literals = record { variable = 0; wants = false } ∷ record { variable = 1; wants = true } ∷ [];
  hints = 3 ∷ 5 ∷ [];
})
addition_of-small = refl

addition_of-negative : addition_of (row (codes "9 0 3 5 -4 6 0")) ≡ Some (record { number = 9; literals = []; hints = 3 ∷ 5 ∷ [] })
addition_of-negative = refl

-- no closing 0, a word after it, no number, and 2^31
addition_of-open : addition_of (row (codes "9 1 0 3 5")) ≡ None
addition_of-open = refl

addition_of-longer : addition_of (row (codes "9 1 0 3 0 5")) ≡ None
addition_of-longer = refl

addition_of-word : addition_of (row (codes "9 x 0 3 0")) ≡ None
addition_of-word = refl

addition_of-great : addition_of (row (codes "9 1 0 2147483648 0")) ≡ None
addition_of-great = refl

-- a deletion, and one with a negative number
deletions_of-small : deletions_of (row (codes "9 d 3 5 0")) ≡ Some (3 ∷ 5 ∷ [])
deletions_of-small = refl

deletions_of-negative : deletions_of (row (codes "9 d 3 -5 0")) ≡ None
deletions_of-negative = refl

-- a checker with the two clauses of one variable
abbrev two_clauses : CheckerState
two_clauses = record {
  variables = 1;
  last = 2;
  clauses = record { number = 1; literals = record { variable = 0; wants = true } ∷ [] }
      ∷ record { number = 2; literals = record { variable = 0; wants = false } ∷ [] } ∷ [];
  refuted = false;
}

-- the empty clause, after a remark; what follows it isn't looked at
fault_of-refuted : fault_of two_clauses (lines_of (codes "c two clauses" ++ 10 ∷ codes "5 0 1 2 0" ++ 10 ∷ codes "x")) ≡ None
fault_of-refuted = refl

-- each fault
fault_of-shape : fault_of two_clauses (lines_of (codes "2 0 1 2 0")) ≡ Some (Shape 1)
fault_of-shape = refl

fault_of-variable : fault_of two_clauses (lines_of (codes "5 2 0 1 2 0")) ≡ Some (Shape 1)
fault_of-variable = refl

fault_of-deleted : fault_of two_clauses (lines_of (codes "5 d 2 0" ++ 10 ∷ codes "6 0 1 2 0")) ≡ Some (NoClause 2)
fault_of-deleted = refl

fault_of-twice : fault_of two_clauses (lines_of (codes "5 d 2 2 0")) ≡ Some (NoClause 1)
fault_of-twice = refl

fault_of-hint : fault_of two_clauses (lines_of (codes "5 0 1 0")) ≡ Some (Hint 1)
fault_of-hint = refl

fault_of-none : fault_of two_clauses [] ≡ Some NoRefutation
fault_of-none = refl

fault_of-unfinished : fault_of two_clauses (lines_of (codes "c nothing")) ≡ Some Unfinished
fault_of-unfinished = refl
