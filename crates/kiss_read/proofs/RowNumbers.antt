-- The words of a row and the numbers that stand for them.
use Rattle.std.proofs.Common.{◌≡◌, ℕ, ◌<◌, Bool, true, false, cond, ◌&&◌, ◌||◌, eqb, inl, inr, IfSome, unwrap_or, List, [], ◌∷◌, ◌++◌, map, length, get_or, Option, None, Some, refl, sym, ap, ap₂, ◌∙◌, subst, eqb-true}
use Rattle.std.specs.Option.{is_some}
use Rattle.tsc_net.specs.Names.{find_text}
use Rattle.std.proofs.lemmas.Bool.{and_parts, or_cases}
use Rattle.std.proofs.lemmas.List.{length-map, map-append}
use Rattle.std.proofs.lemmas.List.Elements.{All-push}
use Rattle.tsc_bits.specs.Bits.{bits_of, binary}
use Rattle.tsc_bits.proofs.Bits.{bits_of-binary}
use Rattle.tsc_cover.specs.Cover.{Literal, literals, wants_bit}
use Rattle.tsc_cover.specs.Row.{literals_of, IsRow}
use Rattle.tsc_cover.specs.Text.{is_literal, is_row_text, literal_of, literals_of_text}
use Rattle.tsc_cover.specs.declared.rows.Row01.{Row01}
use Rattle.tsc_cover.proofs.Row.{length-literals, narrow-value, row_with-literals, wanted_bit}
use Rattle.fault_secure.specs.Logic.{Transition}
use Rattle.tsc_net.specs.MachineView.{transition_of, IsMachineRow}
use Rattle.tsc_net.specs.declared.machine.MachineRow.{MachineRow}
use Rattle.tsc_text.specs.TextLine.{TextLine, the_word}
use Rattle.table_lines.specs.LineFaults.{is_pattern}
use Rattle.kiss_read.specs.Selections.{is_of, rows_of}
use Rattle.kiss_read.specs.RowText.{has_row_shape, is_one, is_specified, transition_at}
use Rattle.kiss_read.specs.Shaped.{HasRows}
use Rattle.kiss_read.specs.declared.kinds.LineKind.TheVariants.{Row}
use Rattle.kiss_read.specs.declared.rows.Heading.{Heading}
use Rattle.kiss_read.proofs.Surveyed.{rows-push}

-- the four words of a row
pub record HasWords (inputs outputs : ℕ) (words : List (List ℕ)) : Type 0 where
  pub four : length words ≡ 4
  pub input_wide : length (get_or words 0 []) ≡ inputs
  pub input_read : is_row_text (get_or words 0 []) ≡ true
  pub output_wide : length (get_or words 3 []) ≡ outputs
  pub output_read : is_row_text (get_or words 3 []) ≡ true

pub words_of_shape : (inputs outputs : ℕ) (words : List (List ℕ)) → has_row_shape inputs outputs words ≡ true → HasWords inputs outputs words
words_of_shape inputs outputs [] e = cc
words_of_shape inputs outputs (a ∷ []) e = cc
words_of_shape inputs outputs (a ∷ b ∷ []) e = cc
words_of_shape inputs outputs (a ∷ b ∷ c ∷ []) e = cc
words_of_shape inputs outputs (a ∷ b ∷ c ∷ d ∷ []) e =
    let both = and_parts (is_pattern inputs a && is_pattern outputs d) _ e in
    let patterns = and_parts (is_pattern inputs a) (is_pattern outputs d) both.0 in
    let input = and_parts (eqb (length a) inputs) (is_row_text a) patterns.0 in
    let output = and_parts (eqb (length d) outputs) (is_row_text d) patterns.1 in
    record {
      four = refl;
      input_wide = eqb-true (length a) inputs input.0;
      input_read = input.1;
      output_wide = eqb-true (length d) outputs output.0;
      output_read = output.1;
    }
words_of_shape inputs outputs (a ∷ b ∷ c ∷ d ∷ f ∷ words) e = cc

-- ---- the bits of the outputs

to-bit : (c known : ℕ) → eqb c known ≡ true → (wants_bit (literal_of known) ≡ is_specified known) × (wanted_bit (literal_of known) ≡ is_one known)
    → (wants_bit (literal_of c) ≡ is_specified c) × (wanted_bit (literal_of c) ≡ is_one c)
to-bit c known h e =
    let P : ℕ → Type 0 = λ x. (wants_bit (literal_of x) ≡ is_specified x) × (wanted_bit (literal_of x) ≡ is_one x) in
    subst P (sym (eqb-true c known h)) e

bit_of : (c : ℕ) → is_literal c ≡ true → (wants_bit (literal_of c) ≡ is_specified c) × (wanted_bit (literal_of c) ≡ is_one c)
bit_of c h =
    elim (or_cases (eqb c 48 || eqb c 49) (eqb c 45) h) [
      | inl either ↦ elim (or_cases (eqb c 48) (eqb c 49) either) [
        | inl zero ↦ to-bit c 48 zero (refl, refl)
        | inr one ↦ to-bit c 49 one (refl, refl)
      ]
      | inr dash ↦ to-bit c 45 dash (refl, refl)
    ]

read_bits : (word : List ℕ) → is_row_text word ≡ true
    → (map wants_bit (literals_of_text word) ≡ map is_specified word) × (map wanted_bit (literals_of_text word) ≡ map is_one word)
read_bits [] h = (refl, refl)
read_bits (c ∷ word) h =
    let parts : (is_literal c ≡ true) × (is_row_text word ≡ true) = and_parts (is_literal c) (is_row_text word) h in
    let here = bit_of c parts.0 in
    let rest = read_bits word parts.1 in
    (ap₂ (λ x xs. x ∷ xs) here.0 rest.0, ap₂ (λ x xs. x ∷ xs) here.1 rest.1)

care_of : Row01 → ℕ
care_of row = row.care

value_of : Row01 → ℕ
value_of row = row.value

bits_back : (n x : ℕ) (bits : List Bool) → length bits ≡ n → binary bits ≡ x → bits_of n x ≡ bits
bits_back n x bits e f = ap (bits_of n) (sym f) ∙ ap (λ k. bits_of k (binary bits)) (sym e) ∙ bits_of-binary bits

-- the bits of a row's numbers
module _ (n : ℕ) (row : Row01) (word : List ℕ) (fit : IsRow n row) (is : literals n row.care row.value ≡ literals_of_text word) (read : is_row_text word ≡ true) where
  pub care_bits : bits_of n row.care ≡ map is_specified word
  unfolding care_of
  care_bits =
      bits_back n row.care (map wants_bit (literals_of n row)) (length-map (literals_of n row) wants_bit ∙ length-literals n row.care row.value) (ap care_of (row_with-literals n row fit))
      ∙ ap (map wants_bit) is ∙ (read_bits word read).0

  pub value_bits : bits_of n row.value ≡ map is_one word
  unfolding value_of
  value_bits =
      bits_back n row.value (map wanted_bit (literals_of n row)) (length-map (literals_of n row) wanted_bit ∙ length-literals n row.care row.value) (ap value_of (row_with-literals n row fit))
      ∙ ap (map wanted_bit) is ∙ (read_bits word read).1

-- ---- a line more

module _ (heading : Heading) (states : List (List ℕ)) (before : List TextLine) (line : TextLine) (rows : List MachineRow) (has : HasRows heading states before rows) where
  abbrev number_of : TextLine → ℕ
  number_of row = row.number

  abbrev at : TextLine → Transition
  at = transition_at states heading.reset

  rows_after : (b : Bool) → is_of Row line ≡ b → rows_of (before ++ line ∷ []) ≡ rows_of before ++ cond b (line ∷ []) []
  rows_after b e = rows-push before line ∙ ap (λ c. rows_of before ++ cond c (line ∷ []) []) e

  pub row_line : (row : MachineRow) (all : List MachineRow) → all ≡ rows ++ row ∷ [] → is_of Row line ≡ true → transition_of heading.inputs heading.outputs row ≡ at line
      → row.line ≡ line.number → IsMachineRow heading.inputs heading.outputs (length states) heading.reset row
      → HasRows heading states (before ++ line ∷ []) all
  row_line row all is e same number fit =
      let grown : rows_of (before ++ line ∷ []) ≡ rows_of before ++ line ∷ [] = rows_after true e in
      let is_row : MachineRow → Type 0 = IsMachineRow heading.inputs heading.outputs (length states) heading.reset in
      subst (HasRows heading states (before ++ line ∷ [])) (sym is) (record {
        same = map-append (transition_of heading.inputs heading.outputs) rows (row ∷ []) ∙ ap₂ (λ xs x. xs ++ x ∷ []) has.same same
            ∙ sym (map-append at (rows_of before) (line ∷ [])) ∙ ap (map at) (sym grown);
        numbers = map-append (λ (r : MachineRow). r.line) rows (row ∷ []) ∙ ap₂ (λ xs x. xs ++ x ∷ []) has.numbers number
            ∙ sym (map-append number_of (rows_of before) (line ∷ [])) ∙ ap (map number_of) (sym grown);
        fit = All-push is_row rows row has.fit fit;
      })

-- the shape of one line
-- ---- a row of numbers
same_transition : (a a' : List Literal) (f f' : Option ℕ) (n n' : ℕ) (m m' : Bool) (o o' c c' : List Bool) → a ≡ a' → f ≡ f' → n ≡ n' → m ≡ m' → o ≡ o' → c ≡ c'
    → ◌≡◌ {A = Transition} (record { input = a; from = f; next = n; named = m; outputs = o; care = c }) (record { input = a'; from = f'; next = n'; named = m'; outputs = o'; care = c' })
same_transition a a' f f' n n' m m' o o' c c' p q r s t u = cc

-- the word of so many characters, and the numbers of its row
pub record IsPatternOf (word : List ℕ) (row : Row01) : Type 0 where
  pub same : literals (length word) row.care row.value ≡ literals_of_text word
  pub fit : IsRow (length word) row

pub pattern_of : (seen word : List ℕ) (row : Row01) → seen ≡ word → literals (length seen) row.care row.value ≡ literals_of_text seen → IsRow (length seen) row
    → IsPatternOf word row
pattern_of seen word row e same fit = subst (λ w. IsPatternOf w row) e (record { same = same; fit = fit })

module _ (heading : Heading) (states : List (List ℕ)) (line : TextLine) (shape : has_row_shape heading.inputs heading.outputs line.words ≡ true)
    (input outputs : Row01) (input_is : IsPatternOf (the_word line 0) input) (outputs_are : IsPatternOf (the_word line 3) outputs)
    (from next : Option ℕ) (from_is : from ≡ find_text states (the_word line 1)) (next_is : next ≡ find_text states (the_word line 2))
    (goes : ℕ) (goes_is : goes ≡ unwrap_or next heading.reset) (named : Bool) (named_is : named ≡ is_some next) (number : ℕ) where
  abbrev row : MachineRow
  row = record { input = input; from = from; next = goes; named = named; outputs = outputs.value; care = outputs.care; line = number }

  words : HasWords heading.inputs heading.outputs line.words
  words = words_of_shape heading.inputs heading.outputs line.words shape

  input_fit : IsRow heading.inputs input
  input_fit = subst (λ n. IsRow n input) words.input_wide input_is.fit

  outputs_fit : IsRow heading.outputs outputs
  outputs_fit = subst (λ n. IsRow n outputs) words.output_wide outputs_are.fit

  outputs_same : literals heading.outputs outputs.care outputs.value ≡ literals_of_text (the_word line 3)
  outputs_same = ap (λ n. literals n outputs.care outputs.value) (sym words.output_wide) ∙ outputs_are.same

  pub row_is : transition_of heading.inputs heading.outputs row ≡ transition_at states heading.reset line
  row_is = same_transition _ _ _ _ _ _ _ _ _ _ _ _
      (ap (λ n. literals n input.care input.value) (sym words.input_wide) ∙ input_is.same)
      from_is
      (goes_is ∙ ap (λ o. unwrap_or o heading.reset) next_is)
      (named_is ∙ ap is_some next_is)
      (value_bits heading.outputs outputs (the_word line 3) outputs_fit outputs_same words.output_read)
      (care_bits heading.outputs outputs (the_word line 3) outputs_fit outputs_same words.output_read)

  within_or : (o : Option ℕ) → IfSome o (λ state. state < length states) → heading.reset < length states → unwrap_or o heading.reset < length states
  within_or None h r = r
  within_or (Some state) h r = h

  unnamed_reset : (o : Option ℕ) → is_some o ≡ false → unwrap_or o heading.reset ≡ heading.reset
  unnamed_reset None e = refl
  unnamed_reset (Some state) e = cc

  state_within : (o : Option ℕ) (q : ℕ) → IfSome o (λ state. state < length states) → o ≡ Some q → q < length states
  state_within None q h e = cc
  state_within (Some state) q h e = let same : state ≡ q = cc in subst (λ n. n < length states) same h

  pub row_fits : IfSome from (λ state. state < length states) → IfSome next (λ state. state < length states) → heading.reset < length states
      → IsMachineRow heading.inputs heading.outputs (length states) heading.reset row
  row_fits from_within next_within reset = record {
    input = input_fit.narrow;
    asked = narrow-value heading.inputs input input_fit;
    given = outputs_fit;
    from = λ q e. state_within from q from_within e;
    next = subst (λ n. n < length states) (sym goes_is) (within_or next next_within reset);
    unnamed = λ e. goes_is ∙ unnamed_reset next (sym named_is ∙ e);
  }
