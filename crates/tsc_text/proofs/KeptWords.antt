-- Lines that are kept, and their words.
use Rattle.std.proofs.Common.{◌≡◌, ℕ, ◌+◌, ◌-◌, ◌<◌, ◌≤◌, Bool, true, false, cond, List, [], ◌∷◌, ◌++◌, zero, suc, length, drop, get_or, refl, sym, ap, ◌∙◌, arith, append-nil, append_assoc, length-append}
use Rattle.std.specs.List.{slice_range}
use Rattle.std.proofs.lemmas.List.{drop-append-le, get_or_append_left, get_or-append_right, get_or-drop, get_or-take, take_rest}
use Rattle.tsc_text.specs.declared.places.Place.{Place}
use Rattle.tsc_text.specs.Kept.{AreKept, behind, byte_of, count_words, kept_from, last_kept, last_of, places_of, rows_of, kept_words}
use Rattle.tsc_text.specs.Places.{from_of, last_past}
use Rattle.tsc_text.specs.Row.{KeptLine, Mark, PlacedLine, kept_line}
use Rattle.tsc_text.proofs.Stored.{length-slice_range, slice_range-append, slice_range-none}

-- lines and their places
pub kept-low : (from : ℕ) (lines : List KeptLine) (count : ℕ) → AreKept from lines count → from ≤ last_kept from lines
kept-low from [] count h = omega arith
kept-low from (line ∷ lines) count h = let lt : from < line.mark.past = h.0 in omega (arith, kept-low line.mark.past lines count h.1)

pub kept-last : (from : ℕ) (lines : List KeptLine) (count : ℕ) → AreKept from lines count → last_kept from lines ≤ count
kept-last from [] count h = h
kept-last from (line ∷ lines) count h = kept-last line.mark.past lines count h.1

pub kept-count : (from : ℕ) (lines : List KeptLine) (count : ℕ) → AreKept from lines count → length lines + from ≤ count
kept-count from [] count h = omega arith
kept-count from (line ∷ lines) count h = let lt : from < line.mark.past = h.0 in omega (arith, kept-count line.mark.past lines count h.1)

pub kept-more : (from : ℕ) (lines : List KeptLine) (n m : ℕ) → AreKept from lines n → n ≤ m → AreKept from lines m
kept-more from [] n m h k = omega arith
kept-more from (line ∷ lines) n m h k = (h.0, kept-more line.mark.past lines n m h.1 k)

pub kept-append : (from : ℕ) (lines : List KeptLine) (n : ℕ) (line : KeptLine) → last_kept from lines < n → AreKept from lines n → line.mark.past ≡ n → AreKept from (lines ++ line ∷ []) n
kept-append from [] n line lt h e = (omega arith, omega arith)
kept-append from (l ∷ lines) n line lt h e = (h.0, kept-append l.mark.past lines n line lt h.1 e)

pub kept_from-last : (from : ℕ) (lines : List KeptLine) → kept_from from lines (length lines) ≡ last_kept from lines
kept_from-last from [] = refl
kept_from-last from (line ∷ lines) = kept_from-last line.mark.past lines

pub kept_from-first : (from : ℕ) (lines : List KeptLine) → kept_from from lines 0 ≡ from
kept_from-first from [] = refl
kept_from-first from (line ∷ lines) = refl

pub kept_from-before : (from : ℕ) (lines : List KeptLine) (k : ℕ) (d : KeptLine) → k < length lines → kept_from from lines (suc k) ≡ (get_or lines k d).mark.past
kept_from-before from [] k d h = absurd (omega arith)
kept_from-before from (l ∷ []) zero d h = refl
kept_from-before from (l ∷ m ∷ lines) zero d h = refl
kept_from-before from (l ∷ lines) (suc k) d h = kept_from-before l.mark.past lines k d (omega arith)

-- the places of a line are among all places
pub record HasPlaces (from past count : ℕ) : Type 0 where
  pub rises : from < past
  pub within : past ≤ count

pub line-places : (from : ℕ) (lines : List KeptLine) (count k : ℕ) (d : KeptLine) → AreKept from lines count → k < length lines → HasPlaces (kept_from from lines k) (get_or lines k d).mark.past count
line-places from [] count k d h lt = absurd (omega arith)
line-places from (line ∷ lines) count zero d h lt =
    record { rises = h.0; within = let low : line.mark.past ≤ last_kept line.mark.past lines = kept-low line.mark.past lines count h.1 in omega (arith, kept-last line.mark.past lines count h.1) }
line-places from (line ∷ lines) count (suc k) d h lt = line-places line.mark.past lines count k d h.1 (omega arith)

-- so many words
pub length-byte_of : (kept : List Place) (past : ℕ) (has_byte : Bool) → length (byte_of kept past has_byte) ≡ cond has_byte 1 0
length-byte_of kept past true = refl
length-byte_of kept past false = refl

pub length-words_of : (kept : List Place) (from past : ℕ) (has_byte : Bool) → past ≤ length kept → length (kept_words kept from past has_byte) ≡ past - from + cond has_byte 1 0
length-words_of kept from past has_byte h =
    length-append (slice_range kept from past) (byte_of kept past has_byte)
    ∙ ap (λ (n : ℕ). n + length (byte_of kept past has_byte)) (length-slice_range kept from past h)
    ∙ ap (λ (n : ℕ). past - from + n) (length-byte_of kept past has_byte)

pub no-byte : (has_byte : Bool) (n m : ℕ) → (has_byte ≡ true → n < m) → m ≤ n → ◌≡◌ {A = ℕ} (cond has_byte 1 0) 0
no-byte true n m h k = let lt : n < m = h refl in absurd (omega arith)
no-byte false n m h k = refl

pub one-byte : (has_byte : Bool) → cond has_byte 1 0 ≤ 1
one-byte true = omega arith
one-byte false = omega arith

-- all words are those of the lines and of the line that has not ended
pub places-count : (kept : List Place) (has_byte : Bool) (from words : ℕ) (lines : List KeptLine) → AreKept from lines (length kept)
    → words + length (places_of kept has_byte from lines) ≡ last_past words (rows_of from words lines) + (length kept - last_kept from lines) + cond has_byte 1 0
places-count kept has_byte from words [] h =
    let size : length (kept_words kept from (length kept) has_byte) ≡ length kept - from + cond has_byte 1 0 = length-words_of kept from (length kept) has_byte (omega arith) in
    omega arith
places-count kept has_byte from words (line ∷ lines) h =
    let mark : Mark = line.mark in
    let fits : mark.past ≤ length kept = let low : mark.past ≤ last_kept mark.past lines = kept-low mark.past lines (length kept) h.1 in omega (arith, kept-last mark.past lines (length kept) h.1) in
    let size : length (kept_words kept from mark.past mark.has_byte) ≡ count_words from mark = length-words_of kept from mark.past mark.has_byte fits in
    let all : length (kept_words kept from mark.past mark.has_byte ++ places_of kept has_byte mark.past lines)
    ≡ length (kept_words kept from mark.past mark.has_byte) + length (places_of kept has_byte mark.past lines) =
    length-append (kept_words kept from mark.past mark.has_byte) (places_of kept has_byte mark.past lines) in
    let rest : words + count_words from mark + length (places_of kept has_byte mark.past lines)
    ≡ last_past (words + count_words from mark) (rows_of mark.past (words + count_words from mark) lines) + (length kept - last_kept mark.past lines) + cond has_byte 1 0 =
    places-count kept has_byte mark.past (words + count_words from mark) lines h.1 in
    omega (arith, size, all, rest)

-- as many places as are kept, or more
pub places-many : (kept : List Place) (has_byte : Bool) (from words : ℕ) (lines : List KeptLine) → AreKept from lines (length kept)
    → length kept + cond has_byte 1 0 ≤ length (places_of kept has_byte from lines) + from
places-many kept has_byte from words [] h =
    let size : length (kept_words kept from (length kept) has_byte) ≡ length kept - from + cond has_byte 1 0 = length-words_of kept from (length kept) has_byte (omega arith) in
    omega arith
places-many kept has_byte from words (line ∷ lines) h =
    let mark : Mark = line.mark in
    let fits : mark.past ≤ length kept = let low : mark.past ≤ last_kept mark.past lines = kept-low mark.past lines (length kept) h.1 in omega (arith, kept-last mark.past lines (length kept) h.1) in
    let size : length (kept_words kept from mark.past mark.has_byte) ≡ mark.past - from + cond mark.has_byte 1 0 = length-words_of kept from mark.past mark.has_byte fits in
    let all : length (kept_words kept from mark.past mark.has_byte ++ places_of kept has_byte mark.past lines)
    ≡ length (kept_words kept from mark.past mark.has_byte) + length (places_of kept has_byte mark.past lines) =
    length-append (kept_words kept from mark.past mark.has_byte) (places_of kept has_byte mark.past lines) in
    omega (arith, size, all, places-many kept has_byte mark.past words lines h.1)

-- places that are added change no line that ended
words_of-more : (kept more : List Place) (from past : ℕ) (has_byte : Bool) → from < past → past ≤ length kept → kept_words (kept ++ more) from past has_byte ≡ kept_words kept from past has_byte
words_of-more kept more from past has_byte lt le =
    let none : Place = record { start = 0; past = 0 } in
    ap (λ (xs : List Place). xs ++ byte_of (kept ++ more) past has_byte) (slice_range-append kept more from past (omega arith) le)
    ∙ ap (λ (p : Place). slice_range kept from past ++ cond has_byte (behind p ∷ []) []) (get_or_append_left kept more none (past - 1) (omega arith))

pub places-more : (kept more : List Place) (from : ℕ) (lines : List KeptLine) → AreKept from lines (length kept)
    → places_of (kept ++ more) false from lines ≡ places_of kept false from lines ++ more
places-more kept more from [] h =
    append-nil (slice_range (kept ++ more) from (length (kept ++ more)))
    ∙ take_rest (kept ++ more) from
    ∙ drop-append-le from kept more h
    ∙ ap (λ (xs : List Place). xs ++ more) (sym (take_rest kept from) ∙ sym (append-nil (slice_range kept from (length kept))))
places-more kept more from (line ∷ lines) h =
    let mark : Mark = line.mark in
    let fits : mark.past ≤ length kept = let low : mark.past ≤ last_kept mark.past lines = kept-low mark.past lines (length kept) h.1 in omega (arith, kept-last mark.past lines (length kept) h.1) in
    ap (λ (xs : List Place). xs ++ places_of (kept ++ more) false mark.past lines) (words_of-more kept more from mark.past mark.has_byte h.0 fits)
    ∙ ap (λ (xs : List Place). kept_words kept from mark.past mark.has_byte ++ xs) (places-more kept more mark.past lines h.1)
    ∙ sym (append_assoc (kept_words kept from mark.past mark.has_byte) (places_of kept false mark.past lines) more)

-- the one word more stands behind the kept ones
pub places-byte : (kept : List Place) (has_byte : Bool) (from : ℕ) (lines : List KeptLine)
    → places_of kept has_byte from lines ≡ places_of kept false from lines ++ byte_of kept (length kept) has_byte
places-byte kept has_byte from [] = ap (λ (xs : List Place). xs ++ byte_of kept (length kept) has_byte) (sym (append-nil (slice_range kept from (length kept))))
places-byte kept has_byte from (line ∷ lines) =
    let first : List Place = kept_words kept from line.mark.past line.mark.has_byte in
    ap (λ (xs : List Place). first ++ xs) (places-byte kept has_byte line.mark.past lines)
    ∙ sym (append_assoc first (places_of kept false line.mark.past lines) (byte_of kept (length kept) has_byte))

-- it is kept
pub places-kept : (kept new : List Place) (has_byte : Bool) (lines : List KeptLine) → new ≡ kept ++ byte_of kept (length kept) has_byte → AreKept 0 lines (length kept)
    → places_of new false 0 lines ≡ places_of kept has_byte 0 lines
places-kept kept new has_byte lines e h =
    ap (λ (xs : List Place). places_of xs false 0 lines) e
    ∙ places-more kept (byte_of kept (length kept) has_byte) 0 lines h ∙ sym (places-byte kept has_byte 0 lines)

-- a line ends, and none of its words changes
pub places-ended : (kept : List Place) (has_byte is_plan : Bool) (number from : ℕ) (lines : List KeptLine)
    → places_of kept false from (lines ++ kept_line number (record { is_plan = is_plan; has_byte = has_byte; past = length kept }) ∷ []) ≡ places_of kept has_byte from lines
places-ended kept has_byte is_plan number from [] =
    let first : List Place = kept_words kept from (length kept) has_byte in
    ap (λ (xs : List Place). first ++ (xs ++ [])) (slice_range-none kept (length kept)) ∙ append-nil first
places-ended kept has_byte is_plan number from (line ∷ lines) =
    ap (λ (xs : List Place). kept_words kept from line.mark.past line.mark.has_byte ++ xs) (places-ended kept has_byte is_plan number line.mark.past lines)

pub rows-ended : (from words : ℕ) (lines : List KeptLine) (line : KeptLine)
    → rows_of from words (lines ++ line ∷ []) ≡ rows_of from words lines
    ++ record { number = line.number; is_plan = line.mark.is_plan; past = last_past words (rows_of from words lines) + count_words (last_kept from lines) line.mark } ∷ []
rows-ended from words [] line = refl
rows-ended from words (l ∷ lines) line =
    let first : PlacedLine = record { number = l.number; is_plan = l.mark.is_plan; past = words + count_words from l.mark } in
    ap (λ (xs : List PlacedLine). first ∷ xs) (rows-ended l.mark.past (words + count_words from l.mark) lines line)

-- the words before a line
abbrev pub words_before : ℕ → List KeptLine → ℕ → ℕ
words_before from [] k = 0
words_before from (line ∷ lines) zero = 0
words_before from (line ∷ lines) (suc k) = count_words from line.mark + words_before line.mark.past lines k

pub from_of-rows : (from words : ℕ) (lines : List KeptLine) (k : ℕ) → from_of words (rows_of from words lines) k ≡ words + words_before from lines k
from_of-rows from words [] k = omega arith
from_of-rows from words (line ∷ lines) zero = omega arith
from_of-rows from words (line ∷ lines) (suc k) =
    let c : ℕ = count_words from line.mark in
    from_of-rows line.mark.past (words + c) lines k ∙ omega arith

pub length-rows_of : (from words : ℕ) (lines : List KeptLine) → length (rows_of from words lines) ≡ length lines
length-rows_of from words [] = refl
length-rows_of from words (line ∷ lines) = ap suc (length-rows_of line.mark.past (words + count_words from line.mark) lines)

-- the line at a place
pub get_or-rows_of : (from words : ℕ) (lines : List KeptLine) (k : ℕ) (d : PlacedLine) (e : KeptLine) → k < length lines
    → get_or (rows_of from words lines) k d
    ≡ record { number = (get_or lines k e).number; is_plan = (get_or lines k e).mark.is_plan; past = words + words_before from lines k + count_words (kept_from from lines k) (get_or lines k e).mark }
get_or-rows_of from words [] k d e h = absurd (omega arith)
get_or-rows_of from words (line ∷ lines) zero d e h =
    let c : ℕ = count_words from line.mark in
    let sum : words + c ≡ words + 0 + c = omega arith in
    ap (λ (n : ℕ). record { number = line.number; is_plan = line.mark.is_plan; past = n }) sum
get_or-rows_of from words (line ∷ lines) (suc k) d e h =
    let c : ℕ = count_words from line.mark in
    let found : KeptLine = get_or lines k e in
    let before : ℕ = words_before line.mark.past lines k in
    let own : ℕ = count_words (kept_from line.mark.past lines k) found.mark in
    let sum : words + c + before + own ≡ words + (c + before) + own = omega arith in
    get_or-rows_of line.mark.past (words + c) lines k d e (omega arith)
    ∙ ap (λ (n : ℕ). record { number = found.number; is_plan = found.mark.is_plan; past = n }) sum

length-first : (kept : List Place) (from : ℕ) (line : KeptLine) (lines : List KeptLine) → AreKept from (line ∷ lines) (length kept)
    → length (kept_words kept from line.mark.past line.mark.has_byte) ≡ count_words from line.mark
length-first kept from line lines h =
    let low : line.mark.past ≤ last_kept line.mark.past lines = kept-low line.mark.past lines (length kept) h.1 in
    length-words_of kept from line.mark.past line.mark.has_byte (omega (arith, kept-last line.mark.past lines (length kept) h.1))

-- the word at a place of a line
pub get_or-places_of : (kept : List Place) (has_byte : Bool) (from : ℕ) (lines : List KeptLine) (k place : ℕ) (d : Place) (e : KeptLine) → AreKept from lines (length kept) → k < length lines
    → place < count_words (kept_from from lines k) (get_or lines k e).mark
    → get_or (places_of kept has_byte from lines) (words_before from lines k + place) d
    ≡ get_or (kept_words kept (kept_from from lines k) (get_or lines k e).mark.past (get_or lines k e).mark.has_byte) place d
get_or-places_of kept has_byte from [] k place d e h lt small = absurd (omega arith)
get_or-places_of kept has_byte from (line ∷ lines) zero place d e h lt small =
    let first : List Place = kept_words kept from line.mark.past line.mark.has_byte in
    let zeros : 0 + place ≡ place = omega arith in
    ap (λ (n : ℕ). get_or (first ++ places_of kept has_byte line.mark.past lines) n d) zeros
    ∙ get_or_append_left first (places_of kept has_byte line.mark.past lines) d place (omega (arith, length-first kept from line lines h))
get_or-places_of kept has_byte from (line ∷ lines) (suc k) place d e h lt small =
    let first : List Place = kept_words kept from line.mark.past line.mark.has_byte in
    let c : ℕ = count_words from line.mark in
    let before : ℕ = words_before line.mark.past lines k in
    let less : c + before + place - c ≡ before + place = omega arith in
    get_or-append_right first (places_of kept has_byte line.mark.past lines) c (c + before + place) d (length-first kept from line lines h) (omega arith)
    ∙ ap (λ (n : ℕ). get_or (places_of kept has_byte line.mark.past lines) n d) less
    ∙ get_or-places_of kept has_byte line.mark.past lines k place d e h.1 (omega arith) small

-- a word that is kept
pub word-kept : (kept : List Place) (from past place : ℕ) (has_byte : Bool) (d : Place) → from + place < past → past ≤ length kept
    → get_or (kept_words kept from past has_byte) place d ≡ get_or kept (from + place) d
word-kept kept from past place has_byte d lt le =
    let size : length (slice_range kept from past) ≡ past - from = length-slice_range kept from past le in
    get_or_append_left (slice_range kept from past) (byte_of kept past has_byte) d place (omega (arith, size))
    ∙ get_or-take (past - from) (drop from kept) place d (omega arith) ∙ get_or-drop from kept place d

-- the one that is told from the word before it
pub word-told : (kept : List Place) (from past place : ℕ) (has_byte : Bool) (d : Place) → from < past → past ≤ from + place → place < past - from + cond has_byte 1 0 → past ≤ length kept
    → get_or (kept_words kept from past has_byte) place d ≡ behind (last_of kept past)
word-told kept from past place true d lt ge small le =
    let size : length (slice_range kept from past) ≡ past - from = length-slice_range kept from past le in
    let none : place - (past - from) ≡ 0 = omega arith in
    get_or-append_right (slice_range kept from past) (byte_of kept past true) (past - from) place d size (omega arith)
    ∙ ap (λ (n : ℕ). get_or (byte_of kept past true) n d) none
word-told kept from past place false d lt ge small le = absurd (omega arith)
