-- The words of a row and the numbers that stand for them.
use Rattle.std.proofs.Common.{◌≡◌, ℕ, ◌+◌, ◌*◌, ◌^◌, ◌<◌, ◌≤◌, Bool, true, false, cond, take, List, [], ◌∷◌, ◌++◌, map, length, get_or, sym, ap, ap₂, ◌∙◌, subst, arith}
use Rattle.std.proofs.lemmas.List.{append-nil, length-map, map-append, get_or-map, take_all}
use Rattle.std.proofs.lemmas.List.Elements.{All-push}
use Rattle.tsc_bits.specs.Bits.{bits_of, binary, weight_of}
use Rattle.tsc_bits.proofs.Bits.{bits_of-binary, number_more, number_room}
use Rattle.tsc_cover.specs.Cover.{Literal, literals}
use Rattle.tsc_cover.specs.Row.{IsRow}
use Rattle.tsc_cover.specs.Text.{literals_of_text}
use Rattle.tsc_cover.specs.declared.rows.Row01.{Row01}
use Rattle.tsc_text.specs.TextLine.{TextLine, the_word}
use Rattle.pla_read.specs.Selections.{is_of, rows_of}
use Rattle.pla_read.specs.RowText.{has_row_shape, row_at, says, TableRow}
use Rattle.pla_read.specs.Shaped.{row_as, HasRows, IsRowOver}
use Rattle.pla_read.specs.declared.kinds.LineKind.TheVariants.{Row}
use Rattle.pla_read.specs.declared.rows.Heading.{Heading}
use Rattle.pla_read.specs.declared.rows.PlaRow.{PlaRow}
use Rattle.pla_read.proofs.RowShapes.{words_of_shape, HasWords}
use Rattle.pla_read.proofs.Surveyed.{rows-push}

-- ---- the number of marks

abbrev told : Bool → ℕ → List ℕ → List Bool
told read mark word = map (says read mark) word

-- a number of fewer than 64 marks has room for one more
pub marks_room : (read : Bool) (mark : ℕ) (word : List ℕ) (i number : ℕ) → number ≡ binary (take i (told read mark word)) → i < length word → length word ≤ 64
    → number < 9223372036854775808
marks_room read mark word i number e below few =
    let room : binary (take i (told read mark word)) < 2 ^ 63 = number_room (told read mark word) i (omega arith) in
    omega arith

pub marks_more : (read : Bool) (mark : ℕ) (word : List ℕ) (i number next d : ℕ) (b : Bool) → number ≡ binary (take i (told read mark word)) → i < length word
    → next ≡ number * 2 + weight_of b → b ≡ says read mark (get_or word i d) → next ≡ binary (take (i + 1) (told read mark word))
marks_more read mark word i number next d b e below is bit =
    let inside : i < length (told read mark word) = omega (arith, length-map word (says read mark)) in
    let here : get_or (told read mark word) i false ≡ says read mark (get_or word i d) = get_or-map (says read mark) word i d false below in
    is ∙ ap₂ (λ n c. n * 2 + weight_of c) e (bit ∙ sym here) ∙ sym (number_more (told read mark word) i false inside)

pub marks_all : (read : Bool) (mark : ℕ) (word : List ℕ) (i number : ℕ) → number ≡ binary (take i (told read mark word)) → length word ≤ i
    → bits_of (length word) number ≡ map (says read mark) word
marks_all read mark word i number e past =
    let sized : length (told read mark word) ≡ length word = length-map word (says read mark) in
    let whole : number ≡ binary (told read mark word) = e ∙ ap binary (take_all i (told read mark word) (omega arith)) in
    ap₂ bits_of (sym sized) whole ∙ bits_of-binary (told read mark word)

-- ---- a row of numbers

same_row : (a a' : List Literal) (o o' f f' : List Bool) → a ≡ a' → o ≡ o' → f ≡ f'
    → ◌≡◌ {A = TableRow} (record { input = a; ones = o; free = f }) (record { input = a'; ones = o'; free = f' })
same_row a a' o o' f f' p q r = cc

module _ (heading : Heading) (line : TextLine) (shape : has_row_shape heading.inputs heading.outputs line.words ≡ true)
    (word marks : List ℕ) (word_is : word ≡ the_word line 0) (marks_are : marks ≡ the_word line 1)
    (input : Row01) (ones free : ℕ) where
  words : HasWords heading.inputs heading.outputs line.words
  words = words_of_shape heading.inputs heading.outputs line.words shape

  pub input_wide : length word ≡ heading.inputs
  input_wide = ap length word_is ∙ words.input_wide

  pub marks_wide : length marks ≡ heading.outputs
  marks_wide = ap length marks_are ∙ words.output_wide

  pub row_is : literals (length word) input.care input.value ≡ literals_of_text word → bits_of (length marks) ones ≡ map (says true 49) marks
      → bits_of (length marks) free ≡ map (says heading.frees 45) marks
      → row_as heading.inputs heading.outputs (record { input = input; ones = ones; free = free }) ≡ row_at heading.frees line
  row_is a b c = same_row _ _ _ _ _ _
      (ap (λ n. literals n input.care input.value) (sym input_wide) ∙ a ∙ ap literals_of_text word_is)
      (ap (λ n. bits_of n ones) (sym marks_wide) ∙ b ∙ ap (map (says true 49)) marks_are)
      (ap (λ n. bits_of n free) (sym marks_wide) ∙ c ∙ ap (map (says heading.frees 45)) marks_are)

  pub row_fits : IsRow (length word) input → IsRow heading.inputs input
  row_fits fit = subst (λ n. IsRow n input) input_wide fit

-- ---- a line more

module _ (heading : Heading) (before : List TextLine) (line : TextLine) (rows : List PlaRow) (has : HasRows heading before rows) where
  abbrev at : TextLine → TableRow
  at = row_at heading.frees

  rows_after : (b : Bool) → is_of Row line ≡ b → rows_of (before ++ line ∷ []) ≡ rows_of before ++ cond b (line ∷ []) []
  rows_after b e = rows-push before line ∙ ap (λ c. rows_of before ++ cond c (line ∷ []) []) e

  pub row_line : (row : PlaRow) (all : List PlaRow) → all ≡ rows ++ row ∷ [] → is_of Row line ≡ true → row_as heading.inputs heading.outputs row ≡ at line
      → IsRow heading.inputs row.input → HasRows heading (before ++ line ∷ []) all
  row_line row all is e same fit =
      let grown : rows_of (before ++ line ∷ []) ≡ rows_of before ++ line ∷ [] = rows_after true e in
      subst (HasRows heading (before ++ line ∷ [])) (sym is) (record {
        same = map-append (row_as heading.inputs heading.outputs) rows (row ∷ []) ∙ ap₂ (λ xs x. xs ++ x ∷ []) has.same same
            ∙ sym (map-append at (rows_of before) (line ∷ [])) ∙ ap (map at) (sym grown);
        fit = All-push (IsRowOver heading.inputs) rows row has.fit fit;
      })

  pub other_line : is_of Row line ≡ false → HasRows heading (before ++ line ∷ []) rows
  other_line e =
      let same : rows_of (before ++ line ∷ []) ≡ rows_of before = rows_after false e ∙ append-nil (rows_of before) in
      record { same = has.same ∙ ap (map at) (sym same); fit = has.fit }
