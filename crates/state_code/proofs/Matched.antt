-- What each step of the rows of a state gives.
use Rattle.std.proofs.Common.{◌≡◌, ◌↔◌, ℕ, ◌+◌, ◌-◌, ◌*◌, ◌<◌, ◌≤◌, Bool, true, false, not, cond, ◌&&◌, ◌||◌, List, [], ◌∷◌, ◌++◌, map, filter, length, take, get_or, count_by, Option, Some, refl, sym, ◌∙◌, ap, ap₂, arith}
use Rattle.std.specs.List.{list_any}
use Rattle.std.proofs.Math.Nat.{add-mul}
use Rattle.std.proofs.lemmas.Bool.{false≢true}
use Rattle.std.proofs.lemmas.List.{take_all, take_more, length-map, map-append}
use Rattle.std.proofs.lemmas.List.Elements.{filter-append}
use Rattle.std.proofs.lemmas.List.Sums.{length-filter}
use Rattle.tsc_bits.specs.Bits.{same, bit_worth, weight_of}
use Rattle.tsc_bits.proofs.Bools.{and_assoc, and-true, not-not}
use Rattle.tsc_cover.specs.Cover.{Literal, accepts, literals}
use Rattle.tsc_cover.specs.Row.{literal, literals_of}
use Rattle.fault_secure.specs.Circuit.{bit}
use Rattle.fault_secure.specs.Logic.{StateTable, Transition, starts_at, lets_pass, applies, answering}
use Rattle.tsc_net.specs.MachineView.{transition_of, transitions_of}
use Rattle.tsc_net.specs.declared.machine.MachineRow.{MachineRow}
use Rattle.gate_net.specs.declared.line.Line.{Line}
use Rattle.gate_net.specs.Signal.{value}
use Rattle.gate_net.specs.Gates.{GateNetwork, AreLines, line_value, line_values}
use Rattle.gate_net.specs.Growth.{Grows, Computes, ComputesAll}
use Rattle.gate_net.specs.Joined.{value_or, IsLineOrNone, ComputesOr}
use Rattle.gate_net.proofs.Kept.{grows_not, grows_twice, lines_kept, values_kept, bits_pushed}
use Rattle.gate_net.proofs.Joined.{literal_head, or_kept}
use Rattle.state_code.specs.Lines.{passes, rows_at, matches, matching, may_answer, none_of}
use Rattle.state_code.proofs.Decoded.{times_mono}
use Rattle.state_code.proofs.Selected.{by_test, count_from}

-- ---- one row

-- an input more, where what it asks is joined to what was met
pub literal_step : (inputs input care value : ℕ) (x : ℕ → Bool) (old new : Bool) → input < inputs
    → new ≡ (old && accepts (literal (bit_worth (inputs - 1 - input) care) (bit_worth (inputs - 1 - input) value)) (x input))
    → (new && passes (input + 1) (literals (inputs - (input + 1)) care value) x) ≡ (old && passes input (literals (inputs - input) care value) x)
literal_step inputs input care value x old new lt e =
    let left : inputs - (input + 1) ≡ inputs - 1 - input = omega arith in
    let head : literals (inputs - input) care value ≡ literal (bit_worth (inputs - 1 - input) care) (bit_worth (inputs - 1 - input) value) ∷ literals (inputs - 1 - input) care value
    = literal_head (inputs - input) (inputs - 1 - input) care value (omega arith) in
    let asked = accepts (literal (bit_worth (inputs - 1 - input) care) (bit_worth (inputs - 1 - input) value)) (x input) in
    let rest = passes (input + 1) (literals (inputs - 1 - input) care value) x in
    ap (λ (n : ℕ). new && passes (input + 1) (literals n care value) x) left
    ∙ ap (λ (b : Bool). b && rest) e
    ∙ and_assoc old asked rest
    ∙ ap (λ (list : List Literal). old && passes input list x) (sym head)

-- a row of which nothing is left
pub literals_done : (b : Bool) (n i care value : ℕ) (x : ℕ → Bool) (goal : Bool) → n ≡ 0 → (b && passes i (literals n care value) x) ≡ goal → b ≡ goal
literals_done b n i care value x goal e h =
    sym (and-true b) ∙ ap (λ (k : ℕ). b && passes i (literals k care value) x) (sym e) ∙ h

-- what a row asks of an input, joined to what was met
pub literal_made : (start mid new : GateNetwork) (made : Option Line) (wanted line : Line) (care kept val : Bool) (input : ℕ) → IsLineOrNone start made
    → Computes start mid (λ x s. same kept (x input)) wanted → Computes mid new (λ x s. value_or true mid x s made && line_value mid x s wanted) line → care ≡ true → kept ≡ val
    → ComputesOr true start new (λ x s. value_or true start x s made && accepts (literal care val) (x input)) (Some line)
literal_made start mid new made wanted line care kept val input held h k read e = record {
  value = λ x s.
      k.value x s
      ∙ ap₂ (λ (a b : Bool). a && b) (or_kept true start mid x s made h.grows held) (h.value x s)
      ∙ ap (λ (b : Bool). value_or true start x s made && same b (x input)) e
      ∙ ap (λ (b : Bool). value_or true start x s made && accepts (literal b val) (x input)) (sym read);
  within = k.within;
  grows = grows_twice start mid new h.grows k.grows;
}

-- all inputs, once none is left
pub row_computed : (start here : GateNetwork) (made : Option Line) (inputs input care value : ℕ) → Grows start here → IsLineOrNone here made → inputs ≤ input
    → ((x s : ℕ → Bool) → (value_or true here x s made && passes input (literals (inputs - input) care value) x) ≡ passes 0 (literals inputs care value) x)
    → ComputesOr true start here (λ x s. passes 0 (literals inputs care value) x) made
row_computed start here made inputs input care value grows within le h = record {
  value = λ x s. literals_done (value_or true here x s made) (inputs - input) input care value x (passes 0 (literals inputs care value) x) (omega arith) (h x s);
  within = within;
  grows = grows;
}

-- ---- one row that fails

not_or : (a b : Bool) → not (a || not b) ≡ (not a && b)
not_or true b = refl
not_or false true = refl
not_or false false = refl

accepts_flipped : (care val bit : Bool) → care ≡ true → same (not val) bit ≡ not (accepts (literal care val) bit)
accepts_flipped true true true e = refl
accepts_flipped true true false e = refl
accepts_flipped true false true e = refl
accepts_flipped true false false e = refl
accepts_flipped false val bit e = absurd (false≢true e)

-- that an input fails what a row asks, joined to what failed
pub failing_made : (start mid new : GateNetwork) (made : Option Line) (missed line : Line) (care kept val : Bool) (input : ℕ) → IsLineOrNone start made
    → Computes start mid (λ x s. same (not kept) (x input)) missed → Computes mid new (λ x s. value_or false mid x s made || line_value mid x s missed) line → care ≡ true → kept ≡ val
    → ComputesOr false start new (λ x s. value_or false start x s made || not (accepts (literal care val) (x input))) (Some line)
failing_made start mid new made missed line care kept val input held h k read e = record {
  value = λ x s.
      k.value x s
      ∙ ap₂ (λ (a b : Bool). a || b) (or_kept false start mid x s made h.grows held) (h.value x s)
      ∙ ap (λ (b : Bool). value_or false start x s made || b) (ap (λ (b : Bool). same (not b) (x input)) e ∙ accepts_flipped care val (x input) read);
  within = k.within;
  grows = grows_twice start mid new h.grows k.grows;
}

-- an input more, where that it fails is joined to what failed
pub failing_step : (inputs input care value : ℕ) (x : ℕ → Bool) (old new : Bool) → input < inputs
    → new ≡ (old || not (accepts (literal (bit_worth (inputs - 1 - input) care) (bit_worth (inputs - 1 - input) value)) (x input)))
    → (not new && passes (input + 1) (literals (inputs - (input + 1)) care value) x) ≡ (not old && passes input (literals (inputs - input) care value) x)
failing_step inputs input care value x old new lt e =
    literal_step inputs input care value x (not old) (not new) lt
    (ap not e ∙ not_or old (accepts (literal (bit_worth (inputs - 1 - input) care) (bit_worth (inputs - 1 - input) value)) (x input)))

-- all inputs, once none is left
pub failing_computed : (start here : GateNetwork) (made : Option Line) (inputs input care value : ℕ) → Grows start here → IsLineOrNone here made → inputs ≤ input
    → ((x s : ℕ → Bool) → (not (value_or false here x s made) && passes input (literals (inputs - input) care value) x) ≡ passes 0 (literals inputs care value) x)
    → ComputesOr false start here (λ x s. not (passes 0 (literals inputs care value) x)) made
failing_computed start here made inputs input care value grows within le h = record {
  value = λ x s.
      sym (not-not (value_or false here x s made))
      ∙ ap not (literals_done (not (value_or false here x s made)) (inputs - input) input care value x (passes 0 (literals inputs care value) x) (omega arith) (h x s));
  within = within;
  grows = grows;
}

-- ---- the rows of a state

-- a row's line at the end of those before it
pub row_added : (start new : GateNetwork) (lines lines' : List Line) (line : Line) (starts : Bool) (p : (ℕ → Bool) → Bool) → AreLines start lines → Computes start new (λ x s. p x) line → lines' ≡ lines ++ line ∷ []
    → starts ≡ true → ComputesAll start new (λ x s. line_values start x s lines ++ cond starts (p x ∷ []) []) lines'
row_added start new lines lines' line starts p within h e is =
    let pushed = bits_pushed start start new lines lines' line (λ x s. p x) (grows_not start) within h e in
    record {
      values = λ x s. pushed.values x s ∙ ap (λ (b : Bool). line_values start x s lines ++ cond b (p x ∷ []) []) (sym is);
      within = pushed.within;
      grows = pushed.grows;
    }

module _ (inputs q : ℕ) where
  -- the lines of one row more
  pub matching_more : (rows : List MachineRow) (i : ℕ) (d : MachineRow) (x : ℕ → Bool) → i < length rows
      → matching inputs q (take (i + 1) rows) x
      ≡ matching inputs q (take i rows) x ++ cond (starts_at (get_or rows i d).from q) (passes 0 (literals_of inputs (get_or rows i d).input) x ∷ []) []
  matching_more rows i d x lt =
      let f : MachineRow → Bool = λ row. passes 0 (literals_of inputs row.input) x in
      let row = get_or rows i d in
      ap (λ (list : List MachineRow). map f (filter (may_answer q) list)) (take_more rows i d lt)
      ∙ ap (map f) (filter-append (may_answer q) (take i rows) (get_or rows i d ∷ []))
      ∙ map-append f (filter (may_answer q) (take i rows)) (filter (may_answer q) (get_or rows i d ∷ []))
      ∙ ap (λ (list : List Bool). map f (filter (may_answer q) (take i rows)) ++ list) (one (may_answer q (get_or rows i d)) f (get_or rows i d))
    where
      one : (b : Bool) (g : MachineRow → Bool) (r : MachineRow) → map g (cond b (r ∷ []) []) ≡ cond b (g r ∷ []) []
      one true g r = refl
      one false g r = refl

-- the rows so far that may answer
pub rows_more : (q : ℕ) (rows : List MachineRow) (i : ℕ) (d : MachineRow) → i < length rows
    → count_by (may_answer q) (take (i + 1) rows) ≡ count_by (may_answer q) (take i rows) + weight_of (starts_at (get_or rows i d).from q)
rows_more q rows i d lt = by_test (may_answer q) rows i d (starts_at (get_or rows i d).from q) lt refl

-- what the rows so far add, and one more
pub rows_few : (q : ℕ) (rows : List MachineRow) (i : ℕ) (d : MachineRow) (k : ℕ) → i < length rows
    → (count_by (may_answer q) (take (i + 1) rows) * k ≡ count_by (may_answer q) (take i rows) * k + weight_of (starts_at (get_or rows i d).from q) * k)
    × (count_by (may_answer q) (take (i + 1) rows) * k ≤ count_by (may_answer q) rows * k)
rows_few q rows i d k lt = (
  ap (λ (n : ℕ). n * k) (rows_more q rows i d lt) ∙ add-mul (count_by (may_answer q) (take i rows)) (weight_of (starts_at (get_or rows i d).from q)) k,
  times_mono (count_by (may_answer q) (take (i + 1) rows)) (count_by (may_answer q) rows) k (count_from (may_answer q) rows (i + 1)),
)

-- the gates of all rows and those of the line for no row
pub rows_most : (found given inputs known : ℕ) → found ≡ given → inputs ≡ known → found * (3 * inputs + 1) + found * (3 * inputs + 2) ≡ given * (6 * known + 3)
rows_most found given inputs known e f = ap₂ (λ (n i : ℕ). n * (3 * i + 1) + n * (3 * i + 2)) e f ∙ omega arith

-- a row's lines more
pub row_pushed : (start here new : GateNetwork) (inputs q : ℕ) (rows : List MachineRow) (i : ℕ) (d : MachineRow) (lines lines' : List Line) → Grows start here → i < length rows
    → ((x s : ℕ → Bool) → line_values here x s lines ≡ matching inputs q (take i rows) x)
    → ComputesAll here new (λ x s. line_values here x s lines ++ cond (starts_at (get_or rows i d).from q) (passes 0 (literals_of inputs (get_or rows i d).input) x ∷ []) []) lines'
    → ComputesAll start new (λ x s. matching inputs q (take (i + 1) rows) x) lines'
row_pushed start here new inputs q rows i d lines lines' grows lt made added = record {
  values = λ x s.
      added.values x s
      ∙ ap (λ (bits : List Bool). bits ++ cond (starts_at (get_or rows i d).from q) (passes 0 (literals_of inputs (get_or rows i d).input) x ∷ []) []) (made x s)
      ∙ sym (matching_more inputs q rows i d x lt);
  within = added.within;
  grows = grows_twice start here new grows added.grows;
}

-- all rows, once none is left
pub rows_done : (start here : GateNetwork) (inputs q : ℕ) (rows : List MachineRow) (i : ℕ) (lines : List Line) → Grows start here → AreLines here lines → length rows ≤ i
    → ((x s : ℕ → Bool) → line_values here x s lines ≡ matching inputs q (take i rows) x) → ComputesAll start here (λ x s. matching inputs q rows x) lines
rows_done start here inputs q rows i lines grows within le made = record {
  values = λ x s. made x s ∙ ap (λ (list : List MachineRow). matching inputs q list x) (take_all i rows le);
  within = within;
  grows = grows;
}

-- ---- no row

-- that a row fails, joined to that those before it do
pub failed_made : (start mid new : GateNetwork) (made : Option Line) (missed line : Line) (starts : Bool) (p : (ℕ → Bool) → Bool) → IsLineOrNone start made
    → Computes start mid (λ x s. not (p x)) missed → Computes mid new (λ x s. value_or true mid x s made && line_value mid x s missed) line → starts ≡ true
    → ComputesOr true start new (λ x s. value_or true start x s made && not (starts && p x)) (Some line)
failed_made start mid new made missed line starts p held h k is = record {
  value = λ x s.
      k.value x s
      ∙ ap₂ (λ (a b : Bool). a && b) (or_kept true start mid x s made h.grows held) (h.value x s)
      ∙ ap (λ (b : Bool). value_or true start x s made && not (b && p x)) (sym is);
  within = k.within;
  grows = grows_twice start mid new h.grows k.grows;
}

none_cond : (starts p : Bool) → none_of (cond starts (p ∷ []) []) ≡ not (starts && p)
none_cond true true = refl
none_cond true false = refl
none_cond false p = refl

none_append : (as_ bs : List Bool) → none_of (as_ ++ bs) ≡ (none_of as_ && none_of bs)
none_append [] bs = refl
none_append (true ∷ as_) bs = refl
none_append (false ∷ as_) bs = none_append as_ bs

-- a row more of which none matches
pub none_more : (inputs q : ℕ) (rows : List MachineRow) (i : ℕ) (d : MachineRow) (x : ℕ → Bool) → i < length rows
    → none_of (matching inputs q (take (i + 1) rows) x)
    ≡ (none_of (matching inputs q (take i rows) x) && not (starts_at (get_or rows i d).from q && passes 0 (literals_of inputs (get_or rows i d).input) x))
none_more inputs q rows i d x lt =
    let starts = starts_at (get_or rows i d).from q in
    let p = passes 0 (literals_of inputs (get_or rows i d).input) x in
    ap none_of (matching_more inputs q rows i d x lt)
    ∙ none_append (matching inputs q (take i rows) x) (cond starts (p ∷ []) [])
    ∙ ap (λ (b : Bool). none_of (matching inputs q (take i rows) x) && b) (none_cond starts p)

-- all rows, once none is left
pub others_done : (start here : GateNetwork) (inputs q : ℕ) (rows : List MachineRow) (i : ℕ) (made : Option Line) → Grows start here → IsLineOrNone here made → length rows ≤ i
    → ((x s : ℕ → Bool) → value_or true here x s made ≡ none_of (matching inputs q (take i rows) x)) → ComputesOr true start here (λ x s. none_of (matching inputs q rows x)) made
others_done start here inputs q rows i made grows within le h = record {
  value = λ x s. h x s ∙ ap (λ (list : List MachineRow). none_of (matching inputs q list x)) (take_all i rows le);
  within = within;
  grows = grows;
}

-- ---- rows of numbers are rows of the table

map_cond : {X Y : Type 0} (b : Bool) (f : X → Y) (x : X) (xs : List X) → map f (cond b (x ∷ xs) xs) ≡ cond b (f x ∷ map f xs) (map f xs)
map_cond true f x xs = refl
map_cond false f x xs = refl

-- the rows that may answer are the table's
pub rows_of_table : (inputs outputs q : ℕ) (rows : List MachineRow) → filter (λ row. starts_at row.from q) (transitions_of inputs outputs rows) ≡ map (transition_of inputs outputs) (filter (may_answer q) rows)
rows_of_table inputs outputs q [] = refl
rows_of_table inputs outputs q (row ∷ rows) =
    ap (λ (list : List Transition). cond (starts_at row.from q) (transition_of inputs outputs row ∷ list) list) (rows_of_table inputs outputs q rows)
    ∙ sym (map_cond (starts_at row.from q) (transition_of inputs outputs) row (filter (may_answer q) rows))

map_twice : (inputs outputs : ℕ) (x : ℕ → Bool) (rows : List MachineRow) → map (λ row. passes 0 (literals_of inputs row.input) x) rows ≡ map (λ row. passes 0 row.input x) (map (transition_of inputs outputs) rows)
map_twice inputs outputs x [] = refl
map_twice inputs outputs x (row ∷ rows) = ap (λ (bits : List Bool). passes 0 (literals_of inputs row.input) x ∷ bits) (map_twice inputs outputs x rows)

module _ (M : StateTable) (q : ℕ) (rows : List MachineRow) (e : transitions_of M.inputs M.outputs rows ≡ M.rows) where
  same_rows : rows_at M q ≡ map (transition_of M.inputs M.outputs) (filter (may_answer q) rows)
  same_rows = ap (filter (λ row. starts_at row.from q)) (sym e) ∙ rows_of_table M.inputs M.outputs q rows

  pub matching_table : (x : ℕ → Bool) → matching M.inputs q rows x ≡ matches M q x
  matching_table x = map_twice M.inputs M.outputs x (filter (may_answer q) rows) ∙ ap (map (λ row. passes 0 row.input x)) (sym same_rows)

  pub count_table : count_by (may_answer q) rows ≡ length (rows_at M q)
  count_table = sym (ap length same_rows ∙ length-map (filter (may_answer q) rows) (transition_of M.inputs M.outputs) ∙ length-filter (may_answer q) rows)

  -- the rows' lines, and the line for no row
  pub rows_kept : (a b c : GateNetwork) (inputs : ℕ) (lines : List Line) → inputs ≡ M.inputs → ComputesAll a b (λ x s. matching inputs q rows x) lines → Grows b c → ComputesAll a c (λ x s. matches M q x) lines
  rows_kept a b c inputs lines same_inputs h grows = record {
    values = λ x s. values_kept b c x s lines grows h.within ∙ h.values x s ∙ ap (λ (n : ℕ). matching n q rows x) same_inputs ∙ matching_table x;
    within = lines_kept b c lines grows h.within;
    grows = grows_twice a b c h.grows grows;
  }

  pub other_kept : (a b c : GateNetwork) (inputs : ℕ) (other : Line) → inputs ≡ M.inputs → Grows a b
      → Computes b c (λ x s. none_of (matching inputs q rows x)) other → Computes a c (λ x s. none_of (matches M q x)) other
  other_kept a b c inputs other same_inputs grows k = record {
    value = λ x s. k.value x s ∙ ap none_of (ap (λ (n : ℕ). matching n q rows x) same_inputs ∙ matching_table x);
    within = k.within;
    grows = grows_twice a b c grows k.grows;
  }

-- ---- what a list of input bits lets pass

passes_list : (i : ℕ) (row : List Literal) (xs : List Bool) → passes i row (bit xs) ≡ lets_pass i row xs
passes_list i [] xs = refl
passes_list i (l ∷ row) xs = ap (λ (b : Bool). accepts l (bit xs i) && b) (passes_list (i + 1) row xs)

applied : (st ps ap_ : Bool) (bits bits' : List Bool) → bits ≡ bits' → ap_ ≡ (st && ps) → cond st (ps ∷ bits) bits ≡ cond st (ap_ ∷ bits') bits'
applied true ps ap_ bits bits' h e = ap₂ (λ (b : Bool) (list : List Bool). b ∷ list) (sym e) h
applied false ps ap_ bits bits' h e = h

matches_rows : (q : ℕ) (xs : List Bool) (rows : List Transition)
    → map (λ row. passes 0 row.input (bit xs)) (filter (λ row. starts_at row.from q) rows) ≡ map (applies q xs) (filter (λ row. starts_at row.from q) rows)
matches_rows q xs [] = refl
matches_rows q xs (row ∷ rows) =
    map_cond (starts_at row.from q) (λ r. passes 0 r.input (bit xs)) row (filter (λ r. starts_at r.from q) rows)
    ∙ applied (starts_at row.from q) (passes 0 row.input (bit xs)) (applies q xs row) (map (λ r. passes 0 r.input (bit xs)) (filter (λ r. starts_at r.from q) rows)) (map (applies q xs) (filter (λ r. starts_at r.from q) rows))
    (matches_rows q xs rows) (ap (λ (b : Bool). starts_at row.from q && b) (sym (passes_list 0 row.input xs)))
    ∙ sym (map_cond (starts_at row.from q) (applies q xs) row (filter (λ r. starts_at r.from q) rows))

-- a row's line says whether the row answers
pub matches_applies : (M : StateTable) (q : ℕ) (xs : List Bool) → matches M q (bit xs) ≡ map (applies q xs) (rows_at M q)
matches_applies M q xs = matches_rows q xs M.rows

none_step : (st ps : Bool) (row : Transition) (kept rest : List Transition) (f : Transition → Bool) → f row ≡ ps → ((none_of (map f kept) ≡ true) ↔ (rest ≡ []))
    → (none_of (map f (cond st (row ∷ kept) kept)) ≡ true) ↔ (cond (st && ps) (row ∷ rest) rest ≡ [])
none_step false ps row kept rest f e h = h
none_step true false row kept rest f e h =
    let same : none_of (map f (row ∷ kept)) ≡ none_of (map f kept) = ap (λ (b : Bool). not (b || list_any (λ v. v) (map f kept))) e in
    (λ t. h.0 (sym same ∙ t), λ t. same ∙ h.1 t)
none_step true true row kept rest f e h =
    let same : none_of (map f (row ∷ kept)) ≡ false = ap (λ (b : Bool). not (b || list_any (λ v. v) (map f kept))) e in
    (λ t. absurd (false≢true (sym same ∙ t)), λ t. absurd (cc))

none_rows : (q : ℕ) (xs : List Bool) (rows : List Transition)
    → (none_of (map (λ row. passes 0 row.input (bit xs)) (filter (λ row. starts_at row.from q) rows)) ≡ true) ↔ (filter (applies q xs) rows ≡ [])
none_rows q xs [] = (λ t. refl, λ t. refl)
none_rows q xs (row ∷ rows) =
    none_step (starts_at row.from q) (lets_pass 0 row.input xs) row (filter (λ r. starts_at r.from q) rows) (filter (applies q xs) rows) (λ r. passes 0 r.input (bit xs)) (passes_list 0 row.input xs) (none_rows q xs rows)

-- none of the rows' lines is 1 exactly where no row answers
pub none_answers : (M : StateTable) (q : ℕ) (xs : List Bool) → (none_of (matches M q (bit xs)) ≡ true) ↔ (answering M q xs ≡ [])
none_answers M q xs = none_rows q xs M.rows

-- the same of what was added
pub rows_apply : (a c : GateNetwork) (M : StateTable) (q : ℕ) (lines : List Line) → ComputesAll a c (λ x s. matches M q x) lines
    → (xs : List Bool) (s : ℕ → Bool) → line_values c (bit xs) s lines ≡ map (applies q xs) (rows_at M q)
rows_apply a c M q lines h xs s = h.values (bit xs) s ∙ matches_applies M q xs

pub none_apply : (a c : GateNetwork) (M : StateTable) (q : ℕ) (other : Line) → Computes a c (λ x s. none_of (matches M q x)) other
    → (xs : List Bool) (s : ℕ → Bool) → (line_value c (bit xs) s other ≡ true) ↔ (answering M q xs ≡ [])
none_apply a c M q other h xs s =
    let both = none_answers M q xs in
    (λ t. both.0 (sym (h.value (bit xs) s) ∙ t), λ t. h.value (bit xs) s ∙ both.1 t)
