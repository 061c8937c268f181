-- The lines of a text and their words, by their places, as they are held.
use Rattle.std.proofs.Common.{◌≡◌, ℕ, ◌+◌, ◌-◌, ◌<◌, ◌≤◌, Bool, true, false, cond, List, [], ◌∷◌, ◌++◌, length, get_or, refl, sym, ap, subst, ◌∙◌, arith, lt-ltb, le-ltb, length-append, append-nil}
use Rattle.std.specs.List.{All}
use Rattle.std.proofs.lemmas.Bool.{false≢true}
use Rattle.std.proofs.lemmas.List.Elements.{All-push}
use Rattle.tsc_text.specs.declared.places.Place.{Place}
use Rattle.tsc_text.specs.Kept.{AreKept, IsTable, behind, byte_of, count_words, kept_from, last_kept, last_of, places_of, rows_of, kept_words}
use Rattle.tsc_text.specs.Places.{from_of, last_past}
use Rattle.tsc_text.specs.Row.{KeptLine, Mark, PlacedLine, kept_line, no_kept, no_row, the_kept, the_row}
use Rattle.tsc_text.specs.Table.{Table, with_line, with_word}
use Rattle.tsc_text.proofs.KeptWords.{HasPlaces, from_of-rows, get_or-places_of, get_or-rows_of, kept-append, kept-more, length-rows_of, line-places, no-byte, places-byte, places-count, places-ended, places-kept, places-many, places-more, rows-ended, word-kept, word-told}

-- the lines and words that are held so
abbrev pub table_of : List Place → Bool → List KeptLine → Table
table_of kept has_byte lines = record { places = places_of kept has_byte 0 lines; rows = rows_of 0 0 lines }

-- a line with words ends
pub ended-some : (kept : List Place) (has_byte is_plan : Bool) (lines new : List KeptLine) (table : Table) (number past : ℕ) (mark : Mark) → table_of kept has_byte lines ≡ table → IsTable kept has_byte lines
    → past ≡ length kept → mark ≡ record { is_plan = is_plan; has_byte = has_byte; past = past } → new ≡ lines ++ kept_line number mark ∷ [] → last_kept 0 lines < past
    → table_of kept false new ≡ with_line table number is_plan
ended-some kept has_byte is_plan lines new table number past mark view k e f g lt =
    let places : List Place = places_of kept has_byte 0 lines in
    let rows : List PlacedLine = rows_of 0 0 lines in
    let own : Mark = record { is_plan = is_plan; has_byte = has_byte; past = length kept } in
    let row : ℕ → PlacedLine = λ n. record { number = number; is_plan = is_plan; past = n } in
    let whole : new ≡ lines ++ kept_line number own ∷ [] =
    g ∙ ap (λ (m : Mark). lines ++ kept_line number m ∷ []) (f ∙ ap (λ (n : ℕ). record { is_plan = is_plan; has_byte = has_byte; past = n }) e) in
    let count : 0 + length places ≡ last_past 0 rows + (length kept - last_kept 0 lines) + cond has_byte 1 0 = places-count kept has_byte 0 0 lines k.filled in
    let more : last_past 0 rows < length places = omega arith in
    let sum : last_past 0 rows + count_words (last_kept 0 lines) own ≡ length places = omega (arith, count) in
    ap (table_of kept false) whole
    ∙ ap (λ (xs : List Place). record { places = xs; rows = rows_of 0 0 (lines ++ kept_line number own ∷ []) }) (places-ended kept has_byte is_plan number 0 lines)
    ∙ ap (λ (xs : List PlacedLine). record { places = places; rows = xs }) (rows-ended 0 0 lines (kept_line number own) ∙ ap (λ (n : ℕ). rows ++ row n ∷ []) sum)
    ∙ ap (λ v. record { places = places; rows = cond v (rows ++ row (length places) ∷ []) rows }) (sym (lt-ltb (last_past 0 rows) (length places) more))
    ∙ ap (λ (t : Table). with_line t number is_plan) view

-- a line without words ends
pub ended-none : (kept : List Place) (has_byte is_plan : Bool) (lines : List KeptLine) (table : Table) (number : ℕ) → table_of kept has_byte lines ≡ table → IsTable kept has_byte lines
    → length kept ≤ last_kept 0 lines → table ≡ with_line table number is_plan
ended-none kept has_byte is_plan lines table number view k le =
    let places : List Place = places_of kept has_byte 0 lines in
    let rows : List PlacedLine = rows_of 0 0 lines in
    let row : PlacedLine = record { number = number; is_plan = is_plan; past = length places } in
    let none : ◌≡◌ {A = ℕ} (cond has_byte 1 0) 0 = no-byte has_byte (last_kept 0 lines) (length kept) k.open_line le in
    let count : 0 + length places ≡ last_past 0 rows + (length kept - last_kept 0 lines) + cond has_byte 1 0 = places-count kept has_byte 0 0 lines k.filled in
    let fewer : length places ≤ last_past 0 rows = omega arith in
    sym view ∙ ap (λ v. record { places = places; rows = cond v (rows ++ row ∷ []) rows }) (sym (le-ltb (last_past 0 rows) (length places) fewer))
    ∙ ap (λ (t : Table). with_line t number is_plan) view

-- what the places and lines keep to when a line has ended
pub is-ended : (kept : List Place) (has_byte : Bool) (lines new : List KeptLine) (line : KeptLine) → IsTable kept has_byte lines → new ≡ lines ++ line ∷ [] → line.mark.past ≡ length kept
    → last_kept 0 lines < length kept → IsTable kept false new
is-ended kept has_byte lines new line k e f lt = record {
  filled = subst (λ (ls : List KeptLine). AreKept 0 ls (length kept)) (sym e) (kept-append 0 lines (length kept) line lt k.filled f);
  open_line = λ t. absurd (false≢true t);
  within = λ t. absurd (false≢true t);
  low = k.low;
  few = k.few;
}

-- the words that are kept are no more than all words
pub kept-few : (kept : List Place) (has_byte : Bool) (lines : List KeptLine) (table : Table) → table_of kept has_byte lines ≡ table → IsTable kept has_byte lines
    → length kept + cond has_byte 1 0 ≤ length table.places
kept-few kept has_byte lines table view k =
    omega (arith, places-many kept has_byte 0 0 lines k.filled, ap (λ (t : Table). length t.places) view)

-- the word behind the last is kept
pub is-kept : (kept new : List Place) (has_byte : Bool) (lines : List KeptLine) → IsTable kept has_byte lines → new ≡ kept ++ byte_of kept (length kept) has_byte → length new ≤ 67108864 → IsTable new false lines
is-kept kept new true lines k e few = record {
  filled = kept-more 0 lines (length kept) (length new) k.filled (omega (arith, ap length e, length-append kept (behind (last_of kept (length kept)) ∷ [])));
  open_line = λ t. absurd (false≢true t);
  within = λ t. absurd (false≢true t);
  low = subst (λ (ps : List Place). All (λ (p : Place). p.past ≤ 67108864) ps) (sym e) (All-push (λ (p : Place). p.past ≤ 67108864) kept (behind (last_of kept (length kept))) k.low (k.within refl));
  few = few;
}
is-kept kept new false lines k e few =
    subst (λ (ps : List Place). IsTable ps false lines) (sym (e ∙ append-nil kept)) k

-- the next word is kept
pub is-pushed : (kept new : List Place) (lines : List KeptLine) (place : Place) → IsTable kept false lines → new ≡ kept ++ place ∷ [] → place.past ≤ 67108864 → length new ≤ 67108864 → IsTable new false lines
is-pushed kept new lines place k e low few = record {
  filled = kept-more 0 lines (length kept) (length new) k.filled (omega (arith, ap length e, length-append kept (place ∷ [])));
  open_line = λ t. absurd (false≢true t);
  within = λ t. absurd (false≢true t);
  low = subst (λ (ps : List Place). All (λ (p : Place). p.past ≤ 67108864) ps) (sym e) (All-push (λ (p : Place). p.past ≤ 67108864) kept place k.low low);
  few = few;
}

-- the next word is told from the last
pub is-held : (kept : List Place) (lines : List KeptLine) (place : Place) → IsTable kept false lines → place.past ≤ 67108864 → last_kept 0 lines < length kept
    → place ≡ behind (last_of kept (length kept)) → IsTable kept true lines
is-held kept lines place k low lt e = record {
  filled = k.filled;
  open_line = λ _. lt;
  within = λ _. subst (λ (p : Place). p.past ≤ 67108864) e low;
  low = k.low;
  few = k.few;
}

-- a word more
pub pushed : (kept new all : List Place) (has_byte : Bool) (lines : List KeptLine) (table : Table) (place : Place) → table_of kept has_byte lines ≡ table → IsTable kept has_byte lines
    → new ≡ kept ++ byte_of kept (length kept) has_byte → IsTable new false lines → all ≡ new ++ place ∷ [] → table_of all false lines ≡ with_word table place
pushed kept new all has_byte lines table place view k e h f =
    ap (λ (ps : List Place). record { places = ps; rows = rows_of 0 0 lines })
    (ap (λ (ps : List Place). places_of ps false 0 lines) f ∙ places-more new (place ∷ []) 0 lines h.filled
    ∙ ap (λ (ps : List Place). ps ++ place ∷ []) (places-kept kept new has_byte lines e k.filled))
    ∙ ap (λ (t : Table). with_word t place) view

pub held : (kept new : List Place) (has_byte : Bool) (lines : List KeptLine) (table : Table) (place : Place) → table_of kept has_byte lines ≡ table → IsTable kept has_byte lines
    → new ≡ kept ++ byte_of kept (length kept) has_byte → place ≡ behind (last_of new (length new)) → table_of new true lines ≡ with_word table place
held kept new has_byte lines table place view k e f =
    ap (λ (ps : List Place). record { places = ps; rows = rows_of 0 0 lines })
    (places-byte new true 0 lines
    ∙ ap (λ (ps : List Place). ps ++ behind (last_of new (length new)) ∷ []) (places-kept kept new has_byte lines e k.filled)
    ∙ ap (λ (p : Place). places_of kept has_byte 0 lines ++ p ∷ []) (sym f))
    ∙ ap (λ (t : Table). with_word t place) view

-- lines that are seen
pub line-below : (kept : List Place) (has_byte : Bool) (lines : List KeptLine) (table : Table) (line : ℕ) → table_of kept has_byte lines ≡ table → line < length table.rows → line < length lines
line-below kept has_byte lines table line view h = omega (arith, length-rows_of 0 0 lines, ap (λ (t : Table). length t.rows) view)

pub row-is : (kept : List Place) (has_byte : Bool) (lines : List KeptLine) (table : Table) (line : ℕ) → table_of kept has_byte lines ≡ table → line < length table.rows
    → the_row table.rows line
    ≡ record { number = (the_kept lines line).number; is_plan = (the_kept lines line).mark.is_plan; past = from_of 0 table.rows line + count_words (kept_from 0 lines line) (the_kept lines line).mark }
row-is kept has_byte lines table line view h =
    let below : line < length lines = line-below kept has_byte lines table line view h in
    let own : ℕ = count_words (kept_from 0 lines line) (the_kept lines line).mark in
    sym (ap (λ (t : Table). the_row t.rows line) view)
    ∙ get_or-rows_of 0 0 lines line no_row no_kept below
    ∙ ap (λ (n : ℕ). record { number = (the_kept lines line).number; is_plan = (the_kept lines line).mark.is_plan; past = n + own })
    (sym (from_of-rows 0 0 lines line) ∙ ap (λ (t : Table). from_of 0 t.rows line) view)

-- how many words a line has
pub row-words : (kept : List Place) (has_byte : Bool) (lines : List KeptLine) (table : Table) (line : ℕ) → table_of kept has_byte lines ≡ table → line < length table.rows
    → (the_row table.rows line).past - from_of 0 table.rows line ≡ count_words (kept_from 0 lines line) (the_kept lines line).mark
row-words kept has_byte lines table line view h = omega (arith, ap (λ (row : PlacedLine). row.past) (row-is kept has_byte lines table line view h))

pub row-places : (kept : List Place) (has_byte : Bool) (lines : List KeptLine) (table : Table) (line : ℕ) → table_of kept has_byte lines ≡ table → IsTable kept has_byte lines → line < length table.rows
    → HasPlaces (kept_from 0 lines line) (the_kept lines line).mark.past (length kept)
row-places kept has_byte lines table line view k h = line-places 0 lines (length kept) line no_kept k.filled (line-below kept has_byte lines table line view h)

-- a word of a line
row-word : (kept : List Place) (has_byte : Bool) (lines : List KeptLine) (table : Table) (line place : ℕ) (d : Place) → table_of kept has_byte lines ≡ table → IsTable kept has_byte lines → line < length table.rows
    → place < (the_row table.rows line).past - from_of 0 table.rows line
    → get_or table.places (from_of 0 table.rows line + place) d
    ≡ get_or (kept_words kept (kept_from 0 lines line) (the_kept lines line).mark.past (the_kept lines line).mark.has_byte) place d
row-word kept has_byte lines table line place d view k h small =
    sym (ap (λ (t : Table). get_or t.places (from_of 0 t.rows line + place) d) view)
    ∙ ap (λ (n : ℕ). get_or (places_of kept has_byte 0 lines) (n + place) d) (from_of-rows 0 0 lines line ∙ omega arith)
    ∙ get_or-places_of kept has_byte 0 lines line place d no_kept k.filled (line-below kept has_byte lines table line view h)
    (omega (arith, row-words kept has_byte lines table line view h))

pub row-kept : (kept : List Place) (has_byte : Bool) (lines : List KeptLine) (table : Table) (line place : ℕ) (d : Place) → table_of kept has_byte lines ≡ table → IsTable kept has_byte lines → line < length table.rows
    → place < (the_row table.rows line).past - from_of 0 table.rows line → kept_from 0 lines line + place < (the_kept lines line).mark.past
    → get_or table.places (from_of 0 table.rows line + place) d ≡ get_or kept (kept_from 0 lines line + place) d
row-kept kept has_byte lines table line place d view k h small lt =
    let mark : Mark = (the_kept lines line).mark in
    row-word kept has_byte lines table line place d view k h small
    ∙ word-kept kept (kept_from 0 lines line) mark.past place mark.has_byte d lt (row-places kept has_byte lines table line view k h).within

pub row-told : (kept : List Place) (has_byte : Bool) (lines : List KeptLine) (table : Table) (line place : ℕ) (d : Place) → table_of kept has_byte lines ≡ table → IsTable kept has_byte lines → line < length table.rows
    → place < (the_row table.rows line).past - from_of 0 table.rows line → (the_kept lines line).mark.past ≤ kept_from 0 lines line + place
    → get_or table.places (from_of 0 table.rows line + place) d ≡ behind (last_of kept (the_kept lines line).mark.past)
row-told kept has_byte lines table line place d view k h small ge =
    let mark : Mark = (the_kept lines line).mark in
    let has : HasPlaces (kept_from 0 lines line) mark.past (length kept) = row-places kept has_byte lines table line view k h in
    row-word kept has_byte lines table line place d view k h small
    ∙ word-told kept (kept_from 0 lines line) mark.past place mark.has_byte d has.rises ge (omega (arith, row-words kept has_byte lines table line view h)) has.within
