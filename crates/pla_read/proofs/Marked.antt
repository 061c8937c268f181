-- The rows that have a mark, one row after the other.
use Rattle.std.proofs.Common.{◌≡◌, ℕ, ◌+◌, ◌<◌, ◌||◌, Bool, true, false, nat_lt, cond, List, [], ◌∷◌, ◌++◌, filter, map, length, take, get_or, refl, sym, ap, ◌∙◌, arith, length-append}
use Rattle.std.proofs.lemmas.Bool.{lt-ltb}
use Rattle.std.proofs.lemmas.List.{append-nil, map-append, take_more}
use Rattle.std.proofs.lemmas.List.Elements.{filter-append}
use Rattle.tsc_bits.specs.Bits.{bits_of}
use Rattle.tsc_bits.proofs.Bools.{or-false, or-true}
use Rattle.tsc_cover.specs.Cover.{Literal}
use Rattle.tsc_cover.specs.Row.{literals_of}
use Rattle.fault_secure.specs.Circuit.{bit}
use Rattle.pla_read.specs.RowText.{TableRow}
use Rattle.pla_read.specs.Covers.{marked_at, marks_in, marks_of}
use Rattle.pla_read.specs.Shaped.{row_as}
use Rattle.pla_read.specs.declared.rows.PlaRow.{PlaRow}
use Rattle.pla_read.specs.declared.rows.Mark.{Mark}
use Rattle.pla_read.specs.declared.rows.Mark.TheVariants.{One, Free}

-- the bits of the marks of a row of numbers
pub marks_as : (mark : Mark) (inputs outputs : ℕ) (row : PlaRow) → marks_of mark (row_as inputs outputs row) ≡ bits_of outputs (marks_in mark row)
marks_as One inputs outputs row = refl
marks_as Free inputs outputs row = refl

abbrev input_of : TableRow → List Literal
input_of row = row.input

module _ (mark : Mark) (place : ℕ) where
  abbrev test : TableRow → Bool
  test row = bit (marks_of mark row) place

  marked_push : (rows : List TableRow) (row : TableRow) → marked_at mark (rows ++ row ∷ []) place ≡ marked_at mark rows place ++ marked_at mark (row ∷ []) place
  marked_push rows row = ap (map input_of) (filter-append test rows (row ∷ [])) ∙ map-append input_of (filter test rows) (filter test (row ∷ []))

  module _ (inputs outputs : ℕ) where
    abbrev shown : PlaRow → TableRow
    shown row = row_as inputs outputs row

    marked_more : (rows : List PlaRow) (i : ℕ) (row d : PlaRow) → i < length rows → row ≡ get_or rows i d
        → marked_at mark (map shown (take (i + 1) rows)) place ≡ marked_at mark (map shown (take i rows)) place ++ marked_at mark (shown row ∷ []) place
    marked_more rows i row d below is =
        ap (λ l. marked_at mark (map shown l) place) (take_more rows i d below)
        ∙ ap (λ l. marked_at mark l place) (map-append shown (take i rows) (get_or rows i d ∷ []))
        ∙ marked_push (map shown (take i rows)) (shown (get_or rows i d))
        ∙ ap (λ r. marked_at mark (map shown (take i rows)) place ++ marked_at mark (shown r ∷ []) place) (sym is)

    of_test : (row : PlaRow) (b : Bool) → b ≡ bit (bits_of outputs (marks_in mark row)) place
        → marked_at mark (shown row ∷ []) place ≡ map input_of (cond b (shown row ∷ []) [])
    of_test row b e = ap (λ t. map input_of (cond t (shown row ∷ []) [])) (ap (λ bits. bit bits place) (marks_as mark inputs outputs row) ∙ sym e)

    marked_one : (row : PlaRow) (b : Bool) → b ≡ bit (bits_of outputs (marks_in mark row)) place → b ≡ true
        → marked_at mark (shown row ∷ []) place ≡ literals_of inputs row.input ∷ []
    marked_one row b e f = of_test row b e ∙ ap (λ t. map input_of (cond t (shown row ∷ []) [])) f

    marked_none : (row : PlaRow) (b : Bool) → b ≡ bit (bits_of outputs (marks_in mark row)) place → b ≡ false
        → marked_at mark (shown row ∷ []) place ≡ []
    marked_none row b e f = of_test row b e ∙ ap (λ t. map input_of (cond t (shown row ∷ []) [])) f

    -- the rows with one row more
    pub marked_grown : (rows : List PlaRow) (i : ℕ) (row d : PlaRow) (b : Bool) → i < length rows → row ≡ get_or rows i d → b ≡ bit (bits_of outputs (marks_in mark row)) place
        → marked_at mark (map shown (take (i + 1) rows)) place
        ≡ cond b (marked_at mark (map shown (take i rows)) place ++ literals_of inputs row.input ∷ []) (marked_at mark (map shown (take i rows)) place)
    marked_grown rows i row d true below is e =
        marked_more rows i row d below is ∙ ap (λ l. marked_at mark (map shown (take i rows)) place ++ l) (marked_one row true e refl)
    marked_grown rows i row d false below is e =
        marked_more rows i row d below is ∙ ap (λ l. marked_at mark (map shown (take i rows)) place ++ l) (marked_none row false e refl)
        ∙ append-nil (marked_at mark (map shown (take i rows)) place)

    -- whether some row has the mark, with one row more
    pub some_marked_more : (rows : List PlaRow) (i : ℕ) (row d : PlaRow) (b : Bool) → i < length rows → row ≡ get_or rows i d → b ≡ bit (bits_of outputs (marks_in mark row)) place
        → nat_lt 0 (length (marked_at mark (map shown (take (i + 1) rows)) place)) ≡ nat_lt 0 (length (marked_at mark (map shown (take i rows)) place)) || b
    some_marked_more rows i row d b below is e =
        ap (λ l. nat_lt 0 (length l)) (marked_grown rows i row d b below is e) ∙ by b (marked_at mark (map shown (take i rows)) place)
      where
        by : (b : Bool) (list : List (List Literal))
            → nat_lt 0 (length (cond b (list ++ literals_of inputs row.input ∷ []) list)) ≡ nat_lt 0 (length list) || b
        by true list =
            let more : length (list ++ literals_of inputs row.input ∷ []) ≡ length list + 1 = length-append list (literals_of inputs row.input ∷ []) in
            lt-ltb 0 (length (list ++ literals_of inputs row.input ∷ [])) (omega arith) ∙ sym (or-true (nat_lt 0 (length list)))
        by false list = sym (or-false (nat_lt 0 (length list)))
