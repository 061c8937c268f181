-- Texts, what they denote, and why they are refused.
use Rattle.std.specs.Prelude.{◌≡◌, ℕ, Bool, true, false, List, [], ◌∷◌, ◌++◌, codes, refl, None, Some}
use Rattle.std.proofs.Common.{ap, lit<}
use Rattle.std.proofs.lemmas.Fmt.{decimal_digit}
use Rattle.fault_secure.specs.Logic.{StateTable, answering, outputs_of_rows, next_of_rows}
use Rattle.tsc_text.specs.TextLine.{TextLine}
use Rattle.tsc_text.specs.Lines.{lines_of}
use Rattle.tsc_text.specs.Section.{section_of, section_lines}
use Rattle.tsc_text.specs.declared.section.End.TheVariants.{Kiss}
use Rattle.kiss_read.specs.Selections.{states_of_lines}
use Rattle.kiss_read.specs.TableText.{table_text}
use Rattle.kiss_read.specs.NamesText.{input_names, output_names}
use Rattle.kiss_read.specs.Refusal.{refusal}
use Rattle.kiss_read.specs.declared.error.KissError.TheVariants.{Header, NoRows, NoReset, Conflict, RowShape}

-- the text of these lines
text : List (List ℕ) → List ℕ
text [] = []
text (line ∷ lines) = line ++ 10 ∷ text lines

-- the lines of a text's first section
section : List ℕ → List TextLine
section bytes = section_lines (lines_of bytes) (section_of (lines_of bytes) 0 Kiss)

-- the outputs and the next state at a state and input
answer : StateTable → ℕ → List Bool → List Bool × ℕ
answer M state input = (outputs_of_rows M (answering M state input), next_of_rows M (answering M state input))

-- a machine of two states
two_states : List TextLine
two_states = section (text (
    codes ".i 1" ∷ codes ".o 1" ∷ codes "0 A A 0" ∷ codes "1 A B 1" ∷ codes "0 B B 0" ∷ codes "1 B A 1" ∷ codes ".e" ∷ []))

refusal-two_states : refusal two_states ≡ None
unfolding two_states section text
refusal-two_states = refl

states_of_lines-two_states : states_of_lines two_states ≡ codes "A" ∷ codes "B" ∷ []
unfolding two_states section text
states_of_lines-two_states = refl

answer-two_states : answer (table_text two_states) 1 (true ∷ []) ≡ (true ∷ [], 0)
unfolding two_states section text answer
answer-two_states = refl

names-two_states : input_names two_states ++ output_names two_states ≡ codes "i0" ∷ codes "o0" ∷ []
unfolding two_states section text
names-two_states = ap (λ digits. (105 ∷ digits) ∷ (111 ∷ digits) ∷ []) (decimal_digit 0 (lit< tt))

-- `-` and `*`: what isn't specified is completed
completed : List TextLine
completed = section (text (
    codes ".i 2" ∷ codes ".o 2" ∷ codes ".s 2" ∷ codes ".p 3" ∷ codes "0- A B 1-" ∷ codes "1- A * 01" ∷ codes "11 B A -1" ∷ codes ".e" ∷ []))

refusal-completed : refusal completed ≡ None
unfolding completed section text
refusal-completed = refl

answers-completed : (answer (table_text completed) 0 (false ∷ false ∷ []) ≡ (true ∷ false ∷ [], 1))
    × (answer (table_text completed) 0 (true ∷ false ∷ []) ≡ (false ∷ true ∷ [], 0))
    × (answer (table_text completed) 1 (false ∷ false ∷ []) ≡ (false ∷ false ∷ [], 0))
    × (answer (table_text completed) 1 (true ∷ true ∷ []) ≡ (false ∷ true ∷ [], 0))
unfolding completed section text answer
answers-completed = (refl, refl, refl, refl)

-- rows that overlap and agree, and rows that overlap and differ
refusal-agreeing : refusal (section (text (codes ".i 2" ∷ codes ".o 1" ∷ codes "0- A A 1" ∷ codes "-0 A A 1" ∷ codes ".e" ∷ []))) ≡ None
unfolding section text
refusal-agreeing = refl

refusal-differing : refusal (section (text (codes ".i 2" ∷ codes ".o 1" ∷ codes "0- A A 1" ∷ codes "-0 A A 0" ∷ codes ".e" ∷ []))) ≡ Some (Conflict 3 4)
unfolding section text
refusal-differing = refl

-- no row, a reset state that no row names, no input
refusal-empty : refusal (section (text (codes ".i 1" ∷ codes ".o 1" ∷ codes ".e" ∷ []))) ≡ Some NoRows
unfolding section text
refusal-empty = refl

refusal-reset : refusal (section (text (
    codes ".r Z" ∷ codes ".i 1" ∷ codes ".o 1" ∷ codes "0 A A 0" ∷ codes "1 A B 1" ∷ codes "0 B B 0" ∷ codes "1 B A 1" ∷ codes ".e" ∷ []))) ≡ Some (NoReset 1)
unfolding section text
refusal-reset = refl

refusal-inputs : refusal (section (text (codes ".i 0" ∷ codes ".o 1" ∷ codes "0 A A 0" ∷ codes ".e" ∷ []))) ≡ Some (Header 1)
unfolding section text
refusal-inputs = refl

-- names that don't fit their counts are refused after all lines, and before a table without a row is
refusal-names : refusal (section (text (codes ".ilb a b" ∷ codes ".i 1" ∷ codes ".o 1" ∷ codes ".ob" ∷ codes ".e" ∷ []))) ≡ Some (Header 4)
unfolding section text
refusal-names = refl

-- a row of stars alone names no state, a row before `.o` is out of its place, and so on, the first line first
refusal-stars : refusal (section (text (codes ".i 1" ∷ codes ".o 1" ∷ codes "- * * 0" ∷ codes ".e" ∷ []))) ≡ Some NoRows
unfolding section text
refusal-stars = refl

refusal-early : refusal (section (text (codes ".i 1" ∷ codes "0 A A 0" ∷ codes ".x" ∷ []))) ≡ Some (Header 2)
unfolding section text
refusal-early = refl

refusal-shape : refusal (section (text (codes ".i 1" ∷ codes ".o 1" ∷ codes "0 - A 0" ∷ codes ".x" ∷ []))) ≡ Some (RowShape 3)
unfolding section text
refusal-shape = refl
