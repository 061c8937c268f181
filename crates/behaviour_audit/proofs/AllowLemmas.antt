-- What a machine allows, row by row.
use Rattle.std.proofs.Common.{◌≡◌, ℕ, zero, suc, ◌+◌, ◌-◌, ◌/◌, ◌%◌, ◌^◌, ◌<◌, ◌≤◌, ◌==◌, Bool, true, false, not, cond, ◌&&◌, ◌||◌, bit_or, List, [], ◌∷◌, length, get_or, take, filter, replicate, refl, sym, ap, ap₂, ◌∙◌, subst, arith, All, IsTrue, Contains, inl, inr, ◌⊎◌, if◌then◌else◌}
use Rattle.std.specs.List.{list_any, list_all}
use Rattle.std.proofs.lemmas.Bool.{cases_Bool, true≢false}
use Rattle.std.proofs.lemmas.List.{get_or_default}
use Rattle.std.proofs.lemmas.List.Elements.{All-head, All-tail, All-weaker, All-map, All-contains_itself, All-nil, All-cons}
use Rattle.std.proofs.lemmas.List.Folds.{list_any_more}
use Rattle.tsc_bits.specs.Bits.{bit_worth, bits_of}
use Rattle.tsc_bits.proofs.Bits.{bit_worth-or, bits_of-mod, length-bits_of, get_or-bits_of, bit_worth-zero}
use Rattle.fault_secure.specs.Circuit.{bit}
use Rattle.fault_secure.specs.Logic.{StateTable, Transition, applies, answering, outputs_of_rows, next_of_rows, is_free_next, specifies, TableAllows, IsStateTable}
use Rattle.tsc_net.specs.MachineView.{transition_of, transitions_of, row_applies, no_row}
use Rattle.tsc_net.specs.declared.machine.MachineRow.{MachineRow}
use Rattle.tsc_net.proofs.MachineLemmas.{applies-row}
use Rattle.behaviour_audit.specs.Lanes.{Fits, asked_under}
use Rattle.lane_sim.proofs.LaneLemmas.{bit_of_ones}

-- ---- rows of a table

-- what holds of a row that answers holds of each of those that do, with their place in the table
module _ (q : ℕ) (x : List Bool) (table : List Transition) (G : Transition → Type 0) where
  abbrev Answers : Transition → Type 0
  Answers row = Contains table row × IsTrue (applies q x row) × G row

  answering_all : (rows : List Transition) → All (Contains table) rows → All (λ row. applies q x row ≡ true → G row) rows → All Answers (filter (applies q x) rows)
  answering_all [] inside all = All-nil Answers
  answering_all (row ∷ rows) inside all =
      by (applies q x row) refl (answering_all rows (All-tail (Contains table) row rows inside) (All-tail (λ r. applies q x r ≡ true → G r) row rows all))
    where
      by : (b : Bool) → applies q x row ≡ b → All Answers (filter (applies q x) rows) → All Answers (cond b (row ∷ filter (applies q x) rows) (filter (applies q x) rows))
      by true is rest = All-cons Answers row (filter (applies q x) rows) (All-head (Contains table) row rows inside, is, All-head (λ r. applies q x r ≡ true → G r) row rows all is) rest
      by false is rest = rest

-- no row answers
not_empty : {X : Type 0} (x : X) (xs : List X) → x ∷ xs ≡ [] → ⊥
not_empty x xs e = cc

none_answer : {X : Type 0} (p : X → Bool) (xs : List X) → filter p xs ≡ [] → list_any p xs ≡ false
none_answer p [] none = refl
none_answer {X} p (x ∷ xs) none = by (p x) (none_answer p xs) none
  where
    by : (b : Bool) → (filter p xs ≡ [] → list_any p xs ≡ false) → cond b (x ∷ filter p xs) (filter p xs) ≡ [] → (b || list_any p xs) ≡ false
    by true rest bad = absurd (not_empty x (filter p xs) bad)
    by false rest less = rest less

-- where some row specifies, what each row that does gives
some_specifies : {X : Type 0} (s : X → Bool) (A : Type 0) (xs : List X) → All (λ y. s y ≡ true → A) xs → list_all (λ y. not (s y)) xs ≡ false → A
some_specifies s A [] all some = absurd (true≢false some)
some_specifies {X} s A (y ∷ ys) all some = by (s y) refl (some_specifies s A ys (All-tail (λ z. s z ≡ true → A) y ys all)) some
  where
    by : (b : Bool) → s y ≡ b → (list_all (λ z. not (s z)) ys ≡ false → A) → (not b && list_all (λ z. not (s z)) ys) ≡ false → A
    by true is rest more = All-head (λ z. s z ≡ true → A) y ys all is
    by false is rest more = rest more

-- ---- outputs

-- the outputs fit a row: at each place that it specifies, and under another version than 2 at each, they have its bit
pub record FitsRow (many version : ℕ) (ys : List Bool) (row : Transition) : Type 0 where
  pub each : (place : ℕ) → place < many → (version == 2) ≡ false ⊎ (specifies row place ≡ true) → bit ys place ≡ bit row.outputs place

module _ (M : StateTable) (version q : ℕ) (x ys : List Bool) (sound : IsStateTable M) where
  at_place : (rows : List Transition) → answering M q x ≡ rows → All (Answers q x M.rows (FitsRow M.outputs version ys)) rows
      → (list_any (applies q x) M.rows ≡ false → (version == 2) ≡ false → (place : ℕ) → place < M.outputs → bit ys place ≡ false)
      → (place : ℕ) → place < M.outputs → (two : Bool) → (version == 2) ≡ two
      → IsTrue (two && list_all (λ row. not (specifies row place)) rows) ⊎ (bit ys place ≡ bit (outputs_of_rows M rows) place)
  at_place [] are all none place inside true is = inl refl
  at_place [] are all none place inside false is = inr (none (none_answer (applies q x) M.rows are) is place inside ∙ sym (no_bit M.outputs place))
    where
      no_bit : (n p : ℕ) → bit (replicate n false) p ≡ false
      no_bit zero p = refl
      no_bit (suc n) zero = refl
      no_bit (suc n) (suc p) = no_bit n p
  at_place (row ∷ rows) are all none place inside false is = inr ((All-head (Answers q x M.rows (FitsRow M.outputs version ys)) row rows all).2.each place inside (inl is))
  at_place (row ∷ rows) are all none place inside true is = elim (cases_Bool (list_all (λ r. not (specifies r place)) (row ∷ rows))) [
    | inl free ↦ inl free
    | inr some ↦ inr (some_specifies (λ (r : Transition). specifies r place) (bit ys place ≡ bit row.outputs place) (row ∷ rows)
        (All-weaker (Answers q x M.rows (FitsRow M.outputs version ys)) (λ (r : Transition). specifies r place ≡ true → bit ys place ≡ bit row.outputs place)
        (λ r is_ specified.
        is_.2.each place inside (inr specified)
        ∙ ap (λ (l : List Bool). bit l place) (sound.consistent q x r row is_.0 first.0 is_.1 first.1).outputs)
        (row ∷ rows) all) some)
  ]
    where
      first : Answers q x M.rows (FitsRow M.outputs version ys) row
      first = All-head (Answers q x M.rows (FitsRow M.outputs version ys)) row rows all

  pub outputs_allowed : length ys ≡ M.outputs → All (λ row. applies q x row ≡ true → FitsRow M.outputs version ys row) M.rows
      → (list_any (applies q x) M.rows ≡ false → (version == 2) ≡ false → (place : ℕ) → place < M.outputs → bit ys place ≡ false)
      → TableAllows M version (answering M q x) ys
  outputs_allowed sized fit none = record {
    sized = sized;
    each = λ place inside.
        at_place (answering M q x) refl (answering_all q x M.rows (FitsRow M.outputs version ys) M.rows (All-contains_itself M.rows) fit) none place inside (version == 2) refl;
  }

-- ---- the next state

pub next_chosen : (M : StateTable) (q : ℕ) (x : List Bool) (A : ℕ → Type 0) → All (λ row. applies q x row ≡ true → A row.next) M.rows → (list_any (applies q x) M.rows ≡ false → A M.reset)
    → A (next_of_rows M (answering M q x))
next_chosen M q x A fit none = by (answering M q x) refl (answering_all q x M.rows (λ row. A row.next) M.rows (All-contains_itself M.rows) fit)
  where
    by : (rows : List Transition) → answering M q x ≡ rows → All (Answers q x M.rows (λ row. A row.next)) rows → A (next_of_rows M rows)
    by [] are all = none (none_answer (applies q x) M.rows are)
    by (row ∷ rows) are all = (All-head (Answers q x M.rows (λ r. A r.next)) row rows all).2

-- ---- rows of numbers

module _ (inputs outputs place : ℕ) (rows : List MachineRow) where
  abbrev q : ℕ
  q = place / 2 ^ inputs

  abbrev input : ℕ
  input = place % 2 ^ inputs

  abbrev x : List Bool
  x = bits_of inputs place

  -- the row of the table answers where the row of numbers does
  row_answers : (row : MachineRow) → row.input.care < 2 ^ inputs → applies q x (transition_of inputs outputs row) ≡ row_applies q input row
  row_answers row narrow = ap (λ (bits : List Bool). applies q bits (transition_of inputs outputs row)) (sym (bits_of-mod inputs place)) ∙ applies-row inputs outputs q input row narrow

  pub none_of_table : All (λ row. row.input.care < 2 ^ inputs) rows → list_any (applies q x) (transitions_of inputs outputs rows) ≡ list_any (row_applies q input) rows
  none_of_table narrow = each rows narrow
    where
      each : (list : List MachineRow) → All (λ row. row.input.care < 2 ^ inputs) list → list_any (applies q x) (transitions_of inputs outputs list) ≡ list_any (row_applies q input) list
      each [] all = refl
      each (row ∷ list) all = ap₂ (λ (a b : Bool). a || b) (row_answers row (All-head (λ r. r.input.care < 2 ^ inputs) row list all)) (each list (All-tail (λ r. r.input.care < 2 ^ inputs) row list all))

  pub table_fits : (G : Transition → Type 0) → All (λ row. row.input.care < 2 ^ inputs) rows → All (λ row. row_applies q input row ≡ true → G (transition_of inputs outputs row)) rows
      → All (λ row. applies q x row ≡ true → G row) (transitions_of inputs outputs rows)
  table_fits G narrow fit =
      All-map (λ (t : Transition). applies q x t ≡ true → G t) (transition_of inputs outputs) rows
      (λ k d h applied. fit k d h (sym (row_answers (get_or rows k d) (narrow k d h)) ∙ applied))

-- ---- a walk over the rows

pub answered_more : (p : MachineRow → Bool) (rows : List MachineRow) (i k answered points : ℕ) → i < length rows → bit_worth k answered ≡ list_any p (take i rows)
    → bit_worth k points ≡ p (get_or rows i no_row) → bit_worth k (bit_or answered points) ≡ list_any p (take (i + 1) rows)
answered_more p rows i k answered points inside before here = bit_worth-or k answered points ∙ (ap₂ (λ (a b : Bool). a || b) before here ∙ sym (list_any_more p rows i no_row inside))

-- the row at a place that there is, whatever is read past the end
pub any_row : (rows : List MachineRow) (i : ℕ) → i < length rows → (P : MachineRow → Type 0) → P (get_or rows i no_row) → (d : MachineRow) → P (get_or rows i d)
any_row rows i inside P here d = subst P (get_or_default rows i no_row d inside) here

module _ (M : StateTable) (version place : ℕ) (rows : List MachineRow) (ys : List Bool) where
  abbrev at : MachineRow → Bool
  at = row_applies (place / 2 ^ M.inputs) (place % 2 ^ M.inputs)

  row_fits : M.outputs ≤ 64 → (row : MachineRow) → Fits M.outputs ys (asked_under version row.care) row.outputs → FitsRow M.outputs version ys (transition_of M.inputs M.outputs row)
  row_fits few row fits = record {
    each = λ p inside either.
        fits p inside (asked_there p inside (version == 2) refl either) ∙ sym (get_or-bits_of M.outputs row.outputs p inside);
  }
    where
      specified_there : (p : ℕ) → p < M.outputs → specifies (transition_of M.inputs M.outputs row) p ≡ bit_worth (M.outputs - 1 - p) row.care
      specified_there p inside =
          get_or_default (bits_of M.outputs row.care) p true false (omega (arith, length-bits_of M.outputs row.care)) ∙ get_or-bits_of M.outputs row.care p inside

      asked_there : (p : ℕ) → p < M.outputs → (two : Bool) → (version == 2) ≡ two → (version == 2) ≡ false ⊎ (specifies (transition_of M.inputs M.outputs row) p ≡ true)
          → bit_worth (M.outputs - 1 - p) (asked_under version row.care) ≡ true
      asked_there p inside false is either =
          ap (λ (b : Bool). bit_worth (M.outputs - 1 - p) (if b then row.care else 18446744073709551615)) is ∙ bit_of_ones (M.outputs - 1 - p) (omega arith)
      asked_there p inside true is (inl other) = absurd (true≢false (sym is ∙ other))
      asked_there p inside true is (inr specified) =
          ap (λ (b : Bool). bit_worth (M.outputs - 1 - p) (if b then row.care else 18446744073709551615)) is ∙ (sym (specified_there p inside) ∙ specified)

  pub machine_allows : IsStateTable M → transitions_of M.inputs M.outputs rows ≡ M.rows → All (λ row. row.input.care < 2 ^ M.inputs) rows → M.outputs ≤ 64 → length ys ≡ M.outputs
      → ((j : ℕ) → j < length rows → (d : MachineRow) → at (get_or rows j d) ≡ true → Fits M.outputs ys (asked_under version (get_or rows j d).care) (get_or rows j d).outputs)
      → (list_any at rows ≡ false → Fits M.outputs ys (asked_under version 0) 0) → TableAllows M version (answering M (place / 2 ^ M.inputs) (bits_of M.inputs place)) ys
  machine_allows sound are narrow few sized fits none =
      outputs_allowed M version (place / 2 ^ M.inputs) (bits_of M.inputs place) ys sound sized
      (subst (λ (list : List Transition). All (λ t. applies (place / 2 ^ M.inputs) (bits_of M.inputs place) t ≡ true → FitsRow M.outputs version ys t) list) are
      (table_fits M.inputs M.outputs place rows (FitsRow M.outputs version ys) narrow (λ j d h applied. row_fits few (get_or rows j d) (fits j h d applied))))
      (λ nothing one p inside.
      none (sym (none_of_table M.inputs M.outputs place rows narrow) ∙ (ap (list_any (applies (place / 2 ^ M.inputs) (bits_of M.inputs place))) are ∙ nothing)) p inside
      (ap (λ (b : Bool). bit_worth (M.outputs - 1 - p) (if b then 0 else 18446744073709551615)) one ∙ bit_of_ones (M.outputs - 1 - p) (omega arith))
      ∙ bit_worth-zero (M.outputs - 1 - p))

pub machine_goes : (M : StateTable) (place : ℕ) (rows : List MachineRow) (A : ℕ → Type 0) → transitions_of M.inputs M.outputs rows ≡ M.rows → All (λ row. row.input.care < 2 ^ M.inputs) rows
    → ((j : ℕ) → j < length rows → (d : MachineRow) → row_applies (place / 2 ^ M.inputs) (place % 2 ^ M.inputs) (get_or rows j d) ≡ true → A (get_or rows j d).next)
    → (list_any (row_applies (place / 2 ^ M.inputs) (place % 2 ^ M.inputs)) rows ≡ false → A M.reset)
    → A (next_of_rows M (answering M (place / 2 ^ M.inputs) (bits_of M.inputs place)))
machine_goes M place rows A are narrow fits none =
    next_chosen M (place / 2 ^ M.inputs) (bits_of M.inputs place) A
    (subst (λ (list : List Transition). All (λ t. applies (place / 2 ^ M.inputs) (bits_of M.inputs place) t ≡ true → A t.next) list) are
    (table_fits M.inputs M.outputs place rows (λ t. A t.next) narrow (λ j d h applied. fits j h d applied)))
    (λ nothing. none (sym (none_of_table M.inputs M.outputs place rows narrow) ∙ (ap (list_any (applies (place / 2 ^ M.inputs) (bits_of M.inputs place))) are ∙ nothing)))

-- ---- a free next state

all_unnamed : (rows : List Transition) → All (λ row. row.named ≡ false) rows → list_all (λ row. not row.named) rows ≡ true
all_unnamed [] all = refl
all_unnamed (row ∷ rows) all =
    ap₂ (λ (a b : Bool). not a && b) (All-head (λ (r : Transition). r.named ≡ false) row rows all) (all_unnamed rows (All-tail (λ (r : Transition). r.named ≡ false) row rows all))

-- where no row that answers names its next state, a plan of version 2 leaves it free
pub machine_frees : (M : StateTable) (place : ℕ) (rows : List MachineRow) → transitions_of M.inputs M.outputs rows ≡ M.rows → All (λ row. row.input.care < 2 ^ M.inputs) rows
    → ((j : ℕ) → j < length rows → (d : MachineRow) → row_applies (place / 2 ^ M.inputs) (place % 2 ^ M.inputs) (get_or rows j d) ≡ true → (get_or rows j d).named ≡ false)
    → IsTrue (is_free_next 2 (answering M (place / 2 ^ M.inputs) (bits_of M.inputs place)))
machine_frees M place rows are narrow unnamed =
    let q = place / 2 ^ M.inputs in
    let x = bits_of M.inputs place in
    let G : Transition → Type 0 = λ t. t.named ≡ false in
    let fit : All (λ t. applies q x t ≡ true → G t) M.rows
    = subst (λ (list : List Transition). All (λ t. applies q x t ≡ true → G t) list) are (table_fits M.inputs M.outputs place rows G narrow (λ j d h applied. unnamed j h d applied)) in
    all_unnamed (answering M q x) (All-weaker (Answers q x M.rows G) G (λ t is. is.2) (answering M q x) (answering_all q x M.rows G M.rows (All-contains_itself M.rows) fit))
