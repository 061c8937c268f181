-- The text of a netlist with its plan ends in an LF behind its end line.
use Rattle.std.proofs.Common.{◌≡◌, ℕ, suc, ◌+◌, ◌<◌, Bool, true, false, cond, not, List, [], ◌∷◌, ◌++◌, codes, length, map, Option, None, Some, refl, sym, ap, ◌∙◌, arith}
use Rattle.std.specs.List.{concat, position_or_len}
use Rattle.std.proofs.lemmas.List.{append_assoc, map-append}
use Rattle.std.proofs.lemmas.List.Folds.{concat-append}
use Rattle.tsc_text.specs.Joined.{HasNoOpenLine, open_after}
use Rattle.tsc_text.specs.Lines.{OpenLine, line_left, physical_lines, without_last}
use Rattle.tsc_text.specs.Section.{is_end_line}
use Rattle.tsc_text.specs.Written.{WrittenLine, line_bytes, line_text, numbered, text_of}
use Rattle.tsc_text.specs.declared.section.End.TheVariants.{Blif as BlifEnd}
use Rattle.tsc_text.proofs.JoinedTexts.{physical_lines-append}
use Rattle.tsc_text.proofs.Parts.{ends_in-append}
use Rattle.blif_write.specs.Layout.{end_line}

-- ---- no line of it goes on behind its end

-- a line `.end` closes what is open
closes : (open_line : Option OpenLine) (number : ℕ) → line_left open_line number (codes ".end") ≡ None
closes None number = refl
closes (Some line) number =
    ap (λ b. cond b (Some (record { number = line.number; bytes = without_last (line.bytes ++ codes ".end") ++ 32 ∷ [] })) None)
    (ends_in-append 92 line.bytes 46 (101 ∷ 110 ∷ 100 ∷ []))

closed_by_end : (ps : List (List ℕ)) (open_line : Option OpenLine) (number : ℕ) → open_after open_line number (ps ++ codes ".end" ∷ []) ≡ None
closed_by_end [] open_line number = closes open_line number
closed_by_end (p ∷ ps) open_line number = closed_by_end ps (line_left open_line number p) (number + 1)

complete_by_end : (front : List ℕ) → HasNoOpenLine (front ++ 10 ∷ codes ".end")
complete_by_end front = ap (open_after None 1) (physical_lines-append front (codes ".end")) ∙ closed_by_end (physical_lines front) None 1

-- the text of lines behind a line ends in an LF
record IsFed (text : List ℕ) : Type 0 where
  front : List ℕ
  fed : text ≡ front ++ 10 ∷ []

lines_fed : (front : List ℕ) (lines : List WrittenLine) → IsFed (front ++ 10 ∷ text_of lines)
lines_fed front [] = record { front = front; fed = refl }
lines_fed front (line ∷ lines) =
    let later = lines_fed (front ++ 10 ∷ line_bytes line) lines in
    record {
      front = later.front;
      fed = ap (λ rest. front ++ 10 ∷ rest) (append_assoc (line_bytes line) (10 ∷ []) (text_of lines))
          ∙ (sym (append_assoc front (10 ∷ line_bytes line) (10 ∷ text_of lines)) ∙ later.fed);
    }

-- ---- some lines and the end line: the text without its last LF
module _ (line : WrittenLine) (lines : List WrittenLine) where
  abbrev pub ended_body : List ℕ
  ended_body = text_of (line ∷ lines) ++ codes ".end"

  pub body_fed : text_of ((line ∷ lines) ++ end_line ∷ []) ≡ ended_body ++ 10 ∷ []
  body_fed =
      ap concat (map-append line_text (line ∷ lines) (end_line ∷ []))
      ∙ (concat-append (map line_text (line ∷ lines)) (map line_text (end_line ∷ []))
      ∙ sym (append_assoc (text_of (line ∷ lines)) (codes ".end") (10 ∷ [])))

  pub body_complete : HasNoOpenLine ended_body
  body_complete =
      let is = lines_fed (line_bytes line) lines in
      let begins : text_of (line ∷ lines) ≡ line_bytes line ++ 10 ∷ text_of lines = append_assoc (line_bytes line) (10 ∷ []) (text_of lines) in
      let same : ended_body ≡ is.front ++ 10 ∷ codes ".end" =
      ap (λ text. text ++ codes ".end") (begins ∙ is.fed) ∙ append_assoc is.front (10 ∷ []) (codes ".end") in
      ap (λ text. open_after None 1 (physical_lines text)) same ∙ complete_by_end is.front

-- ---- its end line is there
pub end_within : (number : ℕ) (lines : List WrittenLine)
    → position_or_len (is_end_line BlifEnd) (numbered number (lines ++ end_line ∷ [])) < length (numbered number (lines ++ end_line ∷ []))
end_within number [] = omega arith
end_within number (line ∷ lines) =
    step (is_end_line BlifEnd (record { number = number; is_plan = line.is_plan; words = line.words }))
    (position_or_len (is_end_line BlifEnd) (numbered (number + 1) (lines ++ end_line ∷ []))) (length (numbered (number + 1) (lines ++ end_line ∷ [])))
    (end_within (number + 1) lines)
  where
    step : (ends : Bool) (place count : ℕ) → place < count → cond (not ends) (1 + place) 0 < suc count
    step true place count there = omega arith
    step false place count there = omega arith
