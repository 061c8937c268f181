-- A line and a word that are looked up by their places are those of the text.
use Rattle.std.proofs.Common.{◌≡◌, ℕ, ◌+◌, ◌-◌, ◌<◌, ◌≤◌, false, List, [], ◌∷◌, zero, suc, drop, length, get_or, refl, sym, ap, subst, ◌∙◌, arith}
use Rattle.std.specs.List.{slice_range}
use Rattle.std.proofs.lemmas.List.Sums.{sum_by-cons}
use Rattle.std.proofs.lemmas.List.{length-map, get_or-map, get_or-take, get_or-drop}
use Rattle.tsc_text.specs.declared.places.Place.{Place}
use Rattle.tsc_text.specs.Row.{PlacedLine}
use Rattle.tsc_text.specs.TextLine.{TextLine, the_line, the_word, word_count}
use Rattle.tsc_text.specs.Places.{IsKept, IsRising, from_of, line_at, lines_at, word_at}
use Rattle.tsc_text.proofs.Stored.{length-slice_range, rising-within}

pub length-lines_at : (text : List ℕ) (places : List Place) (from : ℕ) (rows : List PlacedLine) → length (lines_at text places from rows) ≡ length rows
length-lines_at text places from [] = refl
length-lines_at text places from (row ∷ rows) = ap suc (length-lines_at text places row.past rows)

-- the line at a place
pub the_line-lines_at : (text : List ℕ) (places : List Place) (from : ℕ) (rows : List PlacedLine) (line : ℕ) (row : PlacedLine) → line < length rows →
    the_line (lines_at text places from rows) line ≡ line_at text places (from_of from rows line) (get_or rows line row)
the_line-lines_at text places from [] line row h = absurd (omega arith)
the_line-lines_at text places from (r ∷ rows) zero row h = refl
the_line-lines_at text places from (r ∷ rows) (suc line) row h = the_line-lines_at text places r.past rows line row (omega arith)

-- its words are among all words
pub record IsAmong (from past count : ℕ) : Type 0 where
  pub rises : from ≤ past
  pub within : past ≤ count

pub row-among : (from : ℕ) (rows : List PlacedLine) (count line : ℕ) (row : PlacedLine) → IsRising from rows count → line < length rows → IsAmong (from_of from rows line) (get_or rows line row).past count
row-among from [] count line row h k = absurd (omega arith)
row-among from (r ∷ rows) count zero row h k = record { rises = h.0; within = rising-within r.past rows count h.1 }
row-among from (r ∷ rows) count (suc line) row h k = row-among r.past rows count line row h.1 (omega arith)

pub length-words : (text : List ℕ) (places : List Place) (rows : List PlacedLine) (line : ℕ) (row : PlacedLine) → IsRising 0 rows (length places) → line < length rows →
    length (the_line (lines_at text places 0 rows) line).words ≡ (get_or rows line row).past - from_of 0 rows line
length-words text places rows line row h k =
    let among : IsAmong (from_of 0 rows line) (get_or rows line row).past (length places) = row-among 0 rows (length places) line row h k in
    ap (λ (l : TextLine). length l.words) (the_line-lines_at text places 0 rows line row k)
    ∙ length-map (slice_range places (from_of 0 rows line) (get_or rows line row).past) (word_at text)
    ∙ length-slice_range places (from_of 0 rows line) (get_or rows line row).past among.within

-- the word at a place
pub the_word-lines_at : (text : List ℕ) (places : List Place) (rows : List PlacedLine) (line place : ℕ) (p : Place) → IsRising 0 rows (length places) → line < length rows →
    place < length (the_line (lines_at text places 0 rows) line).words → the_word (the_line (lines_at text places 0 rows) line) place ≡ word_at text (get_or places (from_of 0 rows line + place) p)
the_word-lines_at text places rows line place p h k j =
    let row : PlacedLine = record { number = 0; is_plan = false; past = 0 } in
    let among : IsAmong (from_of 0 rows line) (get_or rows line row).past (length places) = row-among 0 rows (length places) line row h k in
    let from : ℕ = from_of 0 rows line in
    let past : ℕ = (get_or rows line row).past in
    let small : place < past - from = let e : length (the_line (lines_at text places 0 rows) line).words ≡ past - from = length-words text places rows line row h k in omega arith in
    let size : place < length (slice_range places from past) = let e : length (slice_range places from past) ≡ past - from = length-slice_range places from past among.within in omega arith in
    ap (λ (l : TextLine). the_word l place) (the_line-lines_at text places 0 rows line row k)
    ∙ get_or-map (word_at text) (slice_range places from past) place p [] size
    ∙ ap (word_at text) (get_or-take (past - from) (drop from places) place p small ∙ get_or-drop from places place p)

pub word-below : (text : List ℕ) (places : List Place) (rows : List PlacedLine) (line place : ℕ) → IsRising 0 rows (length places) → line < length rows →
    place < length (the_line (lines_at text places 0 rows) line).words → from_of 0 rows line + place < length places
word-below text places rows line place h k j =
    let row : PlacedLine = record { number = 0; is_plan = false; past = 0 } in
    let among : IsAmong (from_of 0 rows line) (get_or rows line row).past (length places) = row-among 0 rows (length places) line row h k in
    let e : length (the_line (lines_at text places 0 rows) line).words ≡ (get_or rows line row).past - from_of 0 rows line = length-words text places rows line row h k in
    omega (arith, among.rises, among.within)

-- a place that was looked up is one of the text
pub place-within : (text : List ℕ) (places : List Place) (rows : List PlacedLine) (line place from : ℕ) (p : Place) → IsKept text places rows → line < length rows →
    place < length (the_line (lines_at text places 0 rows) line).words → from ≡ from_of 0 rows line → p ≡ get_or places (from + place) p → (p.start ≤ p.past) × (p.past ≤ length text)
place-within text places rows line place from p k h j e found =
    let below : from + place < length places = omega (arith, word-below text places rows line place k.rising h j) in
    subst (λ (x : Place). (x.start ≤ x.past) × (x.past ≤ length text)) (sym found) (k.within (from + place) p below)

-- the same of lines that are seen
pub seen-within : (text : List ℕ) (places : List Place) (rows : List PlacedLine) (lines : List TextLine) (line place : ℕ) (p : Place) → lines_at text places 0 rows ≡ lines → IsKept text places rows
    → line < length lines → place < length (the_line lines line).words → p ≡ get_or places (from_of 0 rows line + place) p → (p.start ≤ p.past) × (p.past ≤ length text)
seen-within text places rows lines line place p e k h j found =
    let below : line < length rows = omega (arith, length-lines_at text places 0 rows, ap length e) in
    place-within text places rows line place (from_of 0 rows line) p k below (omega (arith, ap (λ (ls : List TextLine). length (the_line ls line).words) e)) refl found

pub seen-word : (text : List ℕ) (places : List Place) (rows : List PlacedLine) (lines : List TextLine) (line place : ℕ) (p : Place) → lines_at text places 0 rows ≡ lines → IsKept text places rows
    → line < length lines → place < length (the_line lines line).words → p ≡ get_or places (from_of 0 rows line + place) p → word_at text p ≡ the_word (the_line lines line) place
seen-word text places rows lines line place p e k h j found =
    let below : line < length rows = omega (arith, length-lines_at text places 0 rows, ap length e) in
    ap (word_at text) found
    ∙ sym (the_word-lines_at text places rows line place p k.rising below (omega (arith, ap (λ (ls : List TextLine). length (the_line ls line).words) e)))
    ∙ ap (λ (ls : List TextLine). the_word (the_line ls line) place) e

-- as many words as stand behind the first
pub word_count-lines_at : (text : List ℕ) (places : List Place) (from : ℕ) (rows : List PlacedLine) → IsRising from rows (length places)
    → word_count (lines_at text places from rows) ≤ length places
word_count-lines_at text places from rows h = omega (arith, up-to from rows h)
  where
    up-to : (from : ℕ) (rows : List PlacedLine) → IsRising from rows (length places) → word_count (lines_at text places from rows) + from ≤ length places
    up-to from [] h = omega arith
    up-to from (row ∷ rows) h =
        let line = line_at text places from row in
        let words : length line.words ≡ row.past - from =
        length-map (slice_range places from row.past) (word_at text) ∙ length-slice_range places from row.past (rising-within row.past rows (length places) h.1) in
        omega (arith, h.0, words, up-to row.past rows h.1, sum_by-cons (λ (l : TextLine). length l.words) line (lines_at text places row.past rows))
