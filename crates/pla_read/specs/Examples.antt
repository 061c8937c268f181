-- Texts, what they denote, and why they are refused.
use Rattle.std.specs.Prelude.{◌≡◌, ℕ, Bool, true, false, List, [], ◌∷◌, ◌++◌, codes, refl, map, None, Some}
use Rattle.std.proofs.Common.{ap₂, lit<}
use Rattle.std.proofs.lemmas.Fmt.{decimal_digit}
use Rattle.tsc_cover.specs.Cover.{Free, Wants}
use Rattle.tsc_text.specs.TextLine.{TextLine}
use Rattle.tsc_text.specs.Lines.{lines_of}
use Rattle.tsc_text.specs.Section.{section_of, section_lines}
use Rattle.tsc_text.specs.declared.section.End.TheVariants.{Kiss}
use Rattle.pla_read.specs.TableText.{is_free, is_one, table_text}
use Rattle.pla_read.specs.Networks.{input_names, ones_cover, output_names}
use Rattle.pla_read.specs.Refusal.{refusal}
use Rattle.pla_read.specs.declared.error.PlaError.TheVariants.{Header, Unsupported, RowShape}

-- the text of these lines
text : List (List ℕ) → List ℕ
text [] = []
text (line ∷ lines) = line ++ 10 ∷ text lines

-- the lines of a text's first section
section : List ℕ → List TextLine
section bytes = section_lines (lines_of bytes) (section_of (lines_of bytes) 0 Kiss)

-- the values and the free outputs at an input, of two outputs
values : List TextLine → List Bool → List Bool
values lines x = is_one (table_text lines) x 0 ∷ is_one (table_text lines) x 1 ∷ []

frees : List TextLine → List Bool → List Bool
frees lines x = is_free (table_text lines) x 0 ∷ is_free (table_text lines) x 1 ∷ []

-- a table of two inputs and two outputs, of which the second is free where both inputs are 1
two_outputs : List TextLine
two_outputs = section (text (codes ".i 2" ∷ codes ".o 2" ∷ codes ".type fd" ∷ codes "11 1-" ∷ codes "0- 01" ∷ codes ".e" ∷ []))

refusal-two_outputs : refusal two_outputs ≡ None
unfolding two_outputs section text
refusal-two_outputs = refl

values-two_outputs : (values two_outputs (true ∷ true ∷ []) ≡ true ∷ false ∷ []) × (values two_outputs (false ∷ false ∷ []) ≡ false ∷ true ∷ [])
    × (values two_outputs (true ∷ false ∷ []) ≡ false ∷ false ∷ [])
unfolding two_outputs section text values
values-two_outputs = (refl, refl, refl)

frees-two_outputs : (frees two_outputs (true ∷ true ∷ []) ≡ false ∷ true ∷ []) × (frees two_outputs (false ∷ false ∷ []) ≡ false ∷ false ∷ [])
unfolding two_outputs section text frees
frees-two_outputs = (refl, refl)

cover-two_outputs : ones_cover (table_text two_outputs) 1 ≡ record { width = 2; on = true; rows = (Wants false ∷ Free ∷ []) ∷ [] }
unfolding two_outputs section text
cover-two_outputs = refl

names-two_outputs : input_names two_outputs ++ output_names two_outputs
    ≡ map (λ digits. 105 ∷ digits) (codes "0" ∷ codes "1" ∷ []) ++ map (λ digits. 111 ∷ digits) (codes "0" ∷ codes "1" ∷ [])
unfolding two_outputs section text
names-two_outputs =
    ap₂ (λ (a b : List ℕ). (105 ∷ a) ∷ (105 ∷ b) ∷ (111 ∷ a) ∷ (111 ∷ b) ∷ []) (decimal_digit 0 (lit< tt)) (decimal_digit 1 (lit< tt))

-- `~` says nothing, `-` nothing in type f, and a row that makes an output 1 keeps it from being free
marks : List ℕ → List TextLine
marks kind = section (text ((codes ".type " ++ kind) ∷ codes ".i 1" ∷ codes ".o 2" ∷ codes "- -~" ∷ codes "1 1-" ∷ []))

frees-marks : (frees (marks (codes "fd")) (false ∷ []) ≡ true ∷ false ∷ []) × (frees (marks (codes "fd")) (true ∷ []) ≡ false ∷ true ∷ [])
    × (frees (marks (codes "f")) (false ∷ []) ≡ false ∷ false ∷ []) × (values (marks (codes "f")) (true ∷ []) ≡ true ∷ false ∷ [])
unfolding marks section text frees values
frees-marks = (refl, refl, refl, refl)

-- another type, a second one, and a wrong number of words
refusal-type : refusal (section (text (codes ".i 1" ∷ codes ".o 1" ∷ codes ".type fr" ∷ codes ".e" ∷ []))) ≡ Some (Unsupported 3)
unfolding section text
refusal-type = refl

refusal-second : refusal (section (text (codes ".type fd" ∷ codes ".i 1" ∷ codes ".o 1" ∷ codes ".type fr" ∷ codes ".e" ∷ []))) ≡ Some (Header 4)
unfolding section text
refusal-second = refl

refusal-words : refusal (section (text (codes ".type f d" ∷ codes ".phase 1" ∷ []))) ≡ Some (Header 1)
unfolding section text
refusal-words = refl

-- no `.i` or no `.o` is told at the last line that is no plan line
refusal-last : refusal (section (text (codes ".i 1" ∷ codes ".ob a" ∷ codes "#tsc 2 berger" ∷ codes ".e" ∷ []))) ≡ Some (Header 2)
unfolding section text
refusal-last = refl

refusal-empty : refusal (section (text (codes "#tsc 2 berger" ∷ codes ".e" ∷ []))) ≡ Some (Header 1)
unfolding section text
refusal-empty = refl

-- a table without rows is read; `|` between the parts of a row, and a row without a blank, are none
refusal-rows : refusal (section (text (codes ".i 1" ∷ codes ".o 1" ∷ codes ".p 0" ∷ []))) ≡ None
unfolding section text
refusal-rows = refl

refusal-bar : refusal (section (text (codes ".i 1" ∷ codes ".o 1" ∷ codes "1 | 1" ∷ []))) ≡ Some (RowShape 3)
unfolding section text
refusal-bar = refl

refusal-blank : refusal (section (text (codes ".i 1" ∷ codes ".o 1" ∷ codes "11" ∷ []))) ≡ Some (RowShape 3)
unfolding section text
refusal-blank = refl

-- names that don't fit, at the later of their lines; a row before `.o`
refusal-names : refusal (section (text (codes ".ilb a b" ∷ codes ".i 1" ∷ codes ".o 1" ∷ codes ".ob c" ∷ codes ".e" ∷ []))) ≡ Some (Header 4)
unfolding section text
refusal-names = refl

refusal-early : refusal (section (text (codes ".i 1" ∷ codes "0 0" ∷ codes ".pair" ∷ []))) ≡ Some (Header 2)
unfolding section text
refusal-early = refl
