-- Words and lines that are kept by their places, as they are read.
use Rattle.std.proofs.Common.{◌≡◌, ℕ, ◌+◌, ◌-◌, ◌<◌, ◌≤◌, Bool, cond, List, [], ◌∷◌, ◌++◌, drop, take, map, length, get_or, refl, sym, ap, ◌∙◌, append-nil, arith, length-append, length-drop, length-take}
use Rattle.std.specs.List.{slice_range}
use Rattle.std.proofs.lemmas.Bool.{ltb-true, ltb-false}
use Rattle.std.proofs.Math.Dec.{ltb}
use Rattle.std.proofs.lemmas.List.{drop-append-le, take-append-le, take_rest, drop_all, map-append, length-map, take-take, take_at, take_more, get_or-drop}
use Rattle.std.proofs.lemmas.List.Elements.{All-push}
use Rattle.tsc_text.specs.declared.places.Place.{Place}
use Rattle.tsc_text.specs.Row.{PlacedLine}
use Rattle.tsc_text.specs.TextLine.{TextLine, line_with}
use Rattle.tsc_text.specs.Lines.{filled}
use Rattle.tsc_text.specs.Places.{AreWithin, IsRising, last_past, line_at, lines_at, word_at}
use Rattle.tsc_text.specs.Scan.{with_place}
use Rattle.tsc_text.specs.Table.{with_row}
use Rattle.tsc_text.proofs.ReaderSteps.{by_test}

-- slices
pub slice_range-append : {X : Type 0} (xs ys : List X) (a b : ℕ) → a ≤ b → b ≤ length xs → slice_range (xs ++ ys) a b ≡ slice_range xs a b
slice_range-append xs ys a b h k =
    let small : a ≤ length xs = omega arith in
    let fits : b - a ≤ length (drop a xs) = omega (arith, length-drop a xs) in
    ap (take (b - a)) (drop-append-le a xs ys small) ∙ take-append-le (b - a) (drop a xs) ys fits

pub slice_range-none : {X : Type 0} (xs : List X) (a : ℕ) → slice_range xs a a ≡ []
slice_range-none xs a = let e : a - a ≡ 0 = omega arith in ap (λ (n : ℕ). take n (drop a xs)) e

pub slice_range-more : (text : List ℕ) (a at d : ℕ) → a ≤ at → at < length text → slice_range text a (at + 1) ≡ slice_range text a at ++ get_or text at d ∷ []
slice_range-more text a at d h k =
    let i : ℕ = at - a in
    let e : at + 1 - a ≡ at - a + 1 = omega arith in
    let f : a + (at - a) ≡ at = omega arith in
    let within : at - a < length (drop a text) = omega (arith, length-drop a text) in
    ap (λ (n : ℕ). take n (drop a text)) e ∙ take_more (drop a text) (at - a) d within
    ∙ ap (λ (x : ℕ). slice_range text a at ++ x ∷ []) (get_or-drop a text (at - a) d ∙ ap (λ (n : ℕ). get_or text n d) f)

-- the items of a list from place a up to place b, which isn't past its end, are b - a
pub length-slice_range : {X : Type 0} (xs : List X) (a b : ℕ) → b ≤ length xs → length (slice_range xs a b) ≡ b - a
length-slice_range xs a b h = length-take (b - a) (drop a xs) ∙ omega (arith, length-drop a xs)

pub slice_range-less : (text w v : List ℕ) (a at : ℕ) → a ≤ at → at ≤ length text → slice_range text a at ≡ w ++ v → slice_range text a (at - length v) ≡ w
slice_range-less text w v a at h k e =
    let size : at - a ≡ length w + length v = sym (length-slice_range text a at k) ∙ ap length e ∙ length-append w v in
    let n : at - length v - a ≡ length w = omega arith in
    let small : length w ≤ at - a = omega arith in
    ap (λ (m : ℕ). take m (drop a text)) n ∙ sym (take-take (length w) (at - a) (drop a text) small) ∙ ap (take (length w)) e ∙ take_at w v (length w) refl

-- lines whose words are kept
pub rising-within : (from : ℕ) (rows : List PlacedLine) (n : ℕ) → IsRising from rows n → from ≤ n
rising-within from [] n h = h
rising-within from (row ∷ rows) n h = let k : row.past ≤ n = rising-within row.past rows n h.1 in omega (arith, h.0)

pub rising-more : (from : ℕ) (rows : List PlacedLine) (n m : ℕ) → IsRising from rows n → n ≤ m → IsRising from rows m
rising-more from [] n m h k = omega arith
rising-more from (row ∷ rows) n m h k = (h.0, rising-more row.past rows n m h.1 k)

pub rising-last : (from : ℕ) (rows : List PlacedLine) (n : ℕ) → IsRising from rows n → last_past from rows ≤ n
rising-last from [] n h = h
rising-last from (row ∷ rows) n h = rising-last row.past rows n h.1

pub rising-append : (from : ℕ) (rows : List PlacedLine) (n : ℕ) (row : PlacedLine) → IsRising from rows n → row.past ≡ n → IsRising from (rows ++ row ∷ []) n
rising-append from [] n row h e = (omega arith, omega arith)
rising-append from (r ∷ rows) n row h e = (h.0, rising-append r.past rows n row h.1 e)

pub last_past-append : (from : ℕ) (rows : List PlacedLine) (row : PlacedLine) → last_past from (rows ++ row ∷ []) ≡ row.past
last_past-append from [] row = refl
last_past-append from (r ∷ rows) row = last_past-append r.past rows row

pub lines_at-append : (text : List ℕ) (places : List Place) (from : ℕ) (rows : List PlacedLine) (row : PlacedLine) → lines_at text places from (rows ++ row ∷ []) ≡ lines_at text places from rows ++ line_at text places (last_past from rows) row ∷ []
lines_at-append text places from [] row = refl
lines_at-append text places from (r ∷ rows) row = ap (λ (x : List TextLine). line_at text places from r ∷ x) (lines_at-append text places r.past rows row)

pub lines_at-more : (text : List ℕ) (places more : List Place) (from : ℕ) (rows : List PlacedLine) → IsRising from rows (length places) → lines_at text (places ++ more) from rows ≡ lines_at text places from rows
lines_at-more text places more from [] h = refl
lines_at-more text places more from (row ∷ rows) h =
    let P : List Place → TextLine = λ x. record { number = row.number; is_plan = row.is_plan; words = map (word_at text) x } in
    ap (λ (x : List Place). P x ∷ lines_at text (places ++ more) row.past rows) (slice_range-append places more from row.past h.0 (rising-within row.past rows (length places) h.1))
    ∙ ap (λ (x : List TextLine). line_at text places from row ∷ x) (lines_at-more text places more row.past rows h.1)

-- the words and lines that are kept, as those that are read
pub record IsStored (text : List ℕ) (places : List Place) (rows : List PlacedLine) (from : ℕ) (lines : List TextLine) (words : List (List ℕ)) : Type 0 where
  pub lines_are : lines_at text places 0 rows ≡ lines
  pub words_are : map (word_at text) (drop from places) ≡ words
  pub last : last_past 0 rows ≡ from
  pub rising : IsRising 0 rows (length places)
  pub within : AreWithin text places

filled-some : (w : List ℕ) → 0 < length w → filled (w ∷ []) ≡ w ∷ []
filled-some [] h = absurd (omega arith)
filled-some (b ∷ w) h = refl

filled-none : (w : List ℕ) → length w ≡ 0 → filled (w ∷ []) ≡ []
filled-none [] h = refl
filled-none (b ∷ w) h = absurd (omega arith)

line_with-some : (number : ℕ) (is_plan : Bool) (ws : List (List ℕ)) → 0 < length ws → line_with number is_plan ws ≡ record { number = number; is_plan = is_plan; words = ws } ∷ []
line_with-some number is_plan [] h = absurd (omega arith)
line_with-some number is_plan (w ∷ ws) h = refl

line_with-none : (number : ℕ) (is_plan : Bool) (ws : List (List ℕ)) → length ws ≡ 0 → line_with number is_plan ws ≡ []
line_with-none number is_plan [] h = refl
line_with-none number is_plan (w ∷ ws) h = absurd (omega arith)

-- a word ends
pub stored-word : (text : List ℕ) (places : List Place) (rows : List PlacedLine) (from : ℕ) (lines : List TextLine) (words : List (List ℕ)) (start past : ℕ) (w : List ℕ) →
    IsStored text places rows from lines words → past ≤ length text → slice_range text start past ≡ w → IsStored text (with_place places start past) rows from lines (words ++ filled (w ∷ []))
stored-word text places rows from lines words start past w h k e =
    let place : Place = record { start = start; past = past } in
    let low : from ≤ length places = let z : last_past 0 rows ≤ length places = rising-last 0 rows (length places) h.rising in omega (arith, h.last) in
    let size : length w ≡ past - start = ap length (sym e) ∙ length-slice_range text start past k in
    by_test (ltb start past) (λ v. IsStored text (cond v (places ++ place ∷ []) places) rows from lines (words ++ filled (w ∷ [])))
    (λ t. let lt : start < past = ltb-true start past t in record {
      lines_are = lines_at-more text places (place ∷ []) 0 rows h.rising ∙ h.lines_are;
      words_are = ap (map (word_at text)) (drop-append-le from places (place ∷ []) low) ∙ map-append (word_at text) (drop from places) (place ∷ [])
          ∙ ap (λ (x : List (List ℕ)). x ++ slice_range text start past ∷ []) h.words_are
          ∙ ap (λ (x : List ℕ). words ++ x ∷ []) e
          ∙ ap (λ (x : List (List ℕ)). words ++ x) (sym (filled-some w (omega arith)));
      last = h.last;
      rising = rising-more 0 rows (length places) (length (places ++ place ∷ [])) h.rising (omega (arith, length-append places (place ∷ [])));
      within = All-push (λ (p : Place). (p.start ≤ p.past) × (p.past ≤ length text)) places place h.within (omega arith, k);
    })
    (λ t. let ge : past ≤ start = ltb-false start past t in record {
      lines_are = h.lines_are;
      words_are = h.words_are ∙ sym (append-nil words) ∙ ap (λ (x : List (List ℕ)). words ++ x) (sym (filled-none w (omega arith)));
      last = h.last;
      rising = h.rising;
      within = h.within;
    })

-- a line ends
pub stored-row : (text : List ℕ) (places : List Place) (rows : List PlacedLine) (from : ℕ) (lines : List TextLine) (words : List (List ℕ)) (number : ℕ) (is_plan : Bool) →
    IsStored text places rows from lines words → IsStored text places (with_row rows from (length places) number is_plan) (length places) (lines ++ line_with number is_plan words) []
stored-row text places rows from lines words number is_plan h =
    let row : PlacedLine = record { number = number; is_plan = is_plan; past = length places } in
    let size : length words ≡ length places - from = ap length (sym h.words_are) ∙ length-map (drop from places) (word_at text) ∙ length-drop from places in
    let none : map (word_at text) (drop (length places) places) ≡ [] = ap (map (word_at text)) (drop_all (length places) places (omega arith)) in
    let L : List Place → TextLine = λ x. record { number = number; is_plan = is_plan; words = map (word_at text) x } in
    by_test (ltb from (length places)) (λ v. IsStored text places (cond v (rows ++ row ∷ []) rows) (length places) (lines ++ line_with number is_plan words) [])
    (λ t. let lt : from < length places = ltb-true from (length places) t in record {
      lines_are = lines_at-append text places 0 rows row
          ∙ ap (λ (x : List TextLine). x ++ line_at text places (last_past 0 rows) row ∷ []) h.lines_are
          ∙ ap (λ (n : ℕ). lines ++ line_at text places n row ∷ []) h.last
          ∙ ap (λ (x : List Place). lines ++ L x ∷ []) (take_rest places from)
          ∙ ap (λ (x : List (List ℕ)). lines ++ record { number = number; is_plan = is_plan; words = x } ∷ []) h.words_are
          ∙ ap (λ (x : List TextLine). lines ++ x) (sym (line_with-some number is_plan words (omega arith)));
      words_are = none;
      last = last_past-append 0 rows row;
      rising = rising-append 0 rows (length places) row h.rising refl;
      within = h.within;
    })
    (λ t. let ge : length places ≤ from = ltb-false from (length places) t in
    let le : from ≤ length places = let z : last_past 0 rows ≤ length places = rising-last 0 rows (length places) h.rising in omega (arith, h.last) in record {
      lines_are = h.lines_are ∙ sym (append-nil lines) ∙ ap (λ (x : List TextLine). lines ++ x) (sym (line_with-none number is_plan words (omega arith)));
      words_are = none;
      last = h.last ∙ omega arith;
      rising = h.rising;
      within = h.within;
    })
