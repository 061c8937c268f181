-- Machines: what rows of numbers answer and allow, and that they are a state table.
use Rattle.std.proofs.Common.{◌≡◌, ◌⊎◌, ℕ, zero, suc, ◌+◌, ◌-◌, ◌<◌, ◌≤◌, ◌^◌, eqb, Bool, true, false, not, cond, ◌&&◌, ◌||◌, List, [], ◌∷◌, map, length, get_or, replicate, filter, find, Option, Some, None, IsTrue, All, bit_and, bit_or, bit_xor, take, refl, sym, ap, ap₂, ◌∙◌, subst, inl, inr, arith, Decides, pow_pos, eqb-true, eq-eqb}
use Rattle.std.specs.List.{list_any, list_all}
use Rattle.std.proofs.lemmas.Bool.{and_parts, and_from, and_right, cases_Bool, not-true, false≢true, true≢false, cases_lt}
use Rattle.std.proofs.lemmas.List.Folds.{list_any_more, list_any_none}
use Rattle.std.proofs.lemmas.List.{get_or_default}
use Rattle.std.proofs.lemmas.List.Elements.{All-head, All-tail, All-weaker, All-map, All-filter}
use Rattle.std.proofs.lemmas.Nat.Bits.{same_from_bits, bit_at_above, bit_at-zero}
use Rattle.tsc_bits.specs.Bits.{same, weight_of, bit_worth, bits_of}
use Rattle.tsc_bits.proofs.Bits.{bit_worth-and, bit_worth-or, weight_of-bit_worth, length-bits_of, get_or-bits_of, bit_worth-zero}
use Rattle.tsc_cover.specs.Cover.{Literal, Free, Wants, accepts, row_matches, literals}
use Rattle.tsc_cover.specs.Row.{IsRow}
use Rattle.tsc_cover.proofs.Row.{bit-differs, length-literals, narrow-value, row_matches-bits_of}
use Rattle.fault_secure.specs.Circuit.{bit}
use Rattle.fault_secure.specs.Logic.{Transition, StateTable, starts_at, lets_pass, applies, answering, outputs_of_rows, next_of_rows, specifies, is_free_output, is_free_next, TableAllows, IsTransitionOf, IsStateTable}
use Rattle.tsc_net.specs.Overlap.{agree, inputs_meet, share_state, overlap}
use Rattle.tsc_net.specs.MachineView.{MachineOf, transition_of, transitions_of, machine_of, outputs_row, row_applies, IsMachineRow, IsMachine}
use Rattle.tsc_net.specs.declared.machine.MachineRow.{MachineRow}

-- ---- the bits of a number

bit_worth-above : (k n x : ℕ) → x < 2 ^ n → n ≤ k → bit_worth k x ≡ false
bit_worth-above k n x h le = ap (λ w. eqb w 1) (bit_at_above x n k h le)

-- each bit of 0 is 0
pub bits_of-zero : (n : ℕ) → bits_of n 0 ≡ replicate n false
bits_of-zero zero = refl
bits_of-zero (suc n) = ap₂ (λ b bits. b ∷ bits) (bit_worth-zero n) (bits_of-zero n)

-- a number without a bit is 0
no_bits : (x : ℕ) → ((k : ℕ) → bit_worth k x ≡ false) → x ≡ 0
no_bits x h = same_from_bits x 0 (λ k. sym (weight_of-bit_worth k x) ∙ ap weight_of (h k) ∙ sym (bit_at-zero k))

-- ---- a row of numbers answers where its literals let the input pass

shifted : (bits x : List Bool) (b : Bool) (i n : ℕ) → ((k : ℕ) → k < suc n → get_or (b ∷ bits) k false ≡ bit x (i + k))
    → (k : ℕ) → k < n → get_or bits k false ≡ bit x (i + 1 + k)
shifted bits x b i n h k below = let e : i + suc k ≡ i + 1 + k = omega arith in h (suc k) (omega arith) ∙ ap (bit x) e

lets_pass-row_matches : (row : List Literal) (bits x : List Bool) (i : ℕ) → length row ≤ length bits
    → ((k : ℕ) → k < length row → get_or bits k false ≡ bit x (i + k)) → lets_pass i row x ≡ row_matches row bits
lets_pass-row_matches [] bits x i h e = refl
lets_pass-row_matches (l ∷ row) [] x i h e = absurd (omega arith)
lets_pass-row_matches (l ∷ row) (b ∷ bits) x i h e =
    let here : i + 0 ≡ i = omega arith in
    ap₂ (λ u v. u && v) (ap (accepts l) (sym (e 0 (omega arith) ∙ ap (bit x) here)))
    (lets_pass-row_matches row bits x (i + 1) (omega arith) (shifted bits x b i (length row) e))

-- a row of the table answers at a state and an input exactly where its row of numbers does
pub applies-row : (inputs outputs q input : ℕ) (row : MachineRow) → row.input.care < 2 ^ inputs
    → applies q (bits_of inputs input) (transition_of inputs outputs row) ≡ row_applies q input row
applies-row inputs outputs q input row narrow =
    let lits = literals inputs row.input.care row.input.value in
    let x = bits_of inputs input in
    let here : (k : ℕ) → k < length lits → get_or x k false ≡ bit x (0 + k) = λ k d. (let e : k ≡ 0 + k = omega arith in ap (bit x) e) in
    ap (λ b. starts_at row.from q && b)
    (lets_pass-row_matches lits x x 0 (omega (arith, length-literals inputs row.input.care row.input.value, length-bits_of inputs input)) here
    ∙ row_matches-bits_of inputs row.input.care row.input.value input narrow)

-- ---- the rows that answer

filter-map : {X Y : Type 0} (f : X → Y) (p : Y → Bool) (q : X → Bool) (xs : List X) → All (λ x. p (f x) ≡ q x) xs
    → filter p (map f xs) ≡ map f (filter q xs)
filter-map f p q [] h = refl
filter-map {X} f p q (x ∷ xs) h =
    let P : X → Type 0 = λ y. p (f y) ≡ q y in
    by (p (f x)) (q x) (All-head P x xs h) (filter-map f p q xs (All-tail P x xs h))
  where
    by : (a b : Bool) → a ≡ b → filter p (map f xs) ≡ map f (filter q xs)
        → cond a (f x ∷ filter p (map f xs)) (filter p (map f xs)) ≡ map f (cond b (x ∷ filter q xs) (filter q xs))
    by true true e rest = ap (λ ys. f x ∷ ys) rest
    by false false e rest = rest
    by true false e rest = cc
    by false true e rest = cc

pub first_of : {X : Type 0} → List X → Option X
first_of [] = None
first_of (x ∷ xs) = Some x

find-filter : {X : Type 0} (p : X → Bool) (xs : List X) → find p xs ≡ first_of (filter p xs)
unfolding first_of
find-filter p [] = refl
find-filter p (x ∷ xs) = by (p x) (find-filter p xs)
  where
    by : (b : Bool) → find p xs ≡ first_of (filter p xs) → cond b (Some x) (find p xs) ≡ first_of (cond b (x ∷ filter p xs) (filter p xs))
    by true e = refl
    by false e = e

-- a test of the rows that answer, whatever they are made into
not_any : {X Y : Type 0} (f : X → Y) (p : X → Bool) (g : Y → Bool) (xs : List X)
    → list_all (λ y. not (g y)) (map f (filter p xs)) ≡ not (list_any (λ x. p x && g (f x)) xs)
not_any f p g [] = refl
not_any f p g (x ∷ xs) = by (p x) (g (f x)) (not_any f p g xs)
  where
    by : (a b : Bool) → list_all (λ y. not (g y)) (map f (filter p xs)) ≡ not (list_any (λ x. p x && g (f x)) xs)
        → list_all (λ y. not (g y)) (map f (cond a (x ∷ filter p xs) (filter p xs))) ≡ not ((a && g (f x)) || list_any (λ x. p x && g (f x)) xs)
    by true b rest = inner (g (f x)) rest
      where
        inner : (b : Bool) → list_all (λ y. not (g y)) (map f (filter p xs)) ≡ not (list_any (λ x. p x && g (f x)) xs)
            → (not b && list_all (λ y. not (g y)) (map f (filter p xs))) ≡ not (b || list_any (λ x. p x && g (f x)) xs)
        inner true e = refl
        inner false e = e
    by false b rest = rest

pub specified_more : (p : MachineRow → Bool) (rows : List MachineRow) (i care more k : ℕ) (d : MachineRow) → i < length rows
    → bit_worth k care ≡ list_any (λ r. p r && bit_worth k r.care) (take i rows) → bit_worth k more ≡ (p (get_or rows i d) && bit_worth k (get_or rows i d).care)
    → bit_worth k (bit_or care more) ≡ list_any (λ r. p r && bit_worth k r.care) (take (i + 1) rows)
specified_more p rows i care more k d below before now =
    let g : MachineRow → Bool = λ r. p r && bit_worth k r.care in
    bit_worth-or k care more ∙ ap₂ (λ a b. a || b) before now ∙ sym (list_any_more g rows i d below)

-- ---- a machine

same_bits : (a b care : Bool) → care ≡ true → (not (same a b) && care) ≡ false → a ≡ b
same_bits true true care e h = refl
same_bits false false care e h = refl
same_bits true false care e h = absurd (true≢false (sym e ∙ h))
same_bits false true care e h = absurd (true≢false (sym e ∙ h))

same-equal : (a b : Bool) → a ≡ b → same a b ≡ true
same-equal true true e = refl
same-equal false false e = refl
same-equal true false e = absurd (true≢false e)
same-equal false true e = absurd (false≢true e)

list_any_agree : {X : Type 0} (p q : X → Bool) → ((x : X) → p x ≡ q x) → (xs : List X) → list_any p xs ≡ list_any q xs
list_any_agree p q h [] = refl
list_any_agree p q h (x ∷ xs) = ap₂ (λ a b. a || b) (h x) (list_any_agree p q h xs)

specified_at : (inputs outputs place : ℕ) (row : MachineRow) → place < outputs
    → specifies (transition_of inputs outputs row) place ≡ bit_worth (outputs - 1 - place) row.care
specified_at inputs outputs place row h =
    get_or_default (bits_of outputs row.care) place true false (let e = length-bits_of outputs row.care in omega arith)
    ∙ get_or-bits_of outputs row.care place h

module _ (inputs outputs states reset : ℕ) (rows : List MachineRow) (is : IsMachine inputs outputs states reset rows) where
  abbrev table : StateTable
  table = (machine_of inputs outputs states reset rows).table

  abbrev IsRowHere : MachineRow → Type 0
  IsRowHere row = IsMachineRow inputs outputs states reset row

  module _ (q input : ℕ) where
    abbrev here : List MachineRow
    here = filter (row_applies q input) rows

    pub answering-rows : answering table q (bits_of inputs input) ≡ transitions_of inputs outputs here
    answering-rows =
        let P : MachineRow → Type 0 = λ row. applies q (bits_of inputs input) (transition_of inputs outputs row) ≡ row_applies q input row in
        filter-map (transition_of inputs outputs) (applies q (bits_of inputs input)) (row_applies q input) rows
        (All-weaker IsRowHere P (λ row h. applies-row inputs outputs q input row h.input) rows is.each)

    outputs_first : (list : List MachineRow) (row : MachineRow) → Some row ≡ first_of list
        → bits_of outputs row.outputs ≡ outputs_of_rows table (transitions_of inputs outputs list)
    unfolding first_of
    outputs_first [] row e = cc
    outputs_first (r ∷ list) row e = let same : row ≡ r = cc in ap (λ (x : MachineRow). bits_of outputs x.outputs) same

    next_first : (list : List MachineRow) (row : MachineRow) → Some row ≡ first_of list
        → row.next ≡ next_of_rows table (transitions_of inputs outputs list)
    unfolding first_of
    next_first [] row e = cc
    next_first (r ∷ list) row e = let same : row ≡ r = cc in ap (λ (x : MachineRow). x.next) same

    none_first : (list : List MachineRow) → None ≡ first_of list → list ≡ []
    unfolding first_of
    none_first [] e = refl
    none_first (r ∷ list) e = cc

    row_first : (list : List MachineRow) (row : MachineRow) → All IsRowHere list → Some row ≡ first_of list → IsRowHere row
    unfolding first_of
    row_first [] row h e = cc
    row_first (r ∷ list) row h e = let same : row ≡ r = cc in subst IsRowHere (sym same) (All-head IsRowHere r list h)

    -- the answer of the first row that answers, and that where none does
    pub record IsAnswer (given state : ℕ) : Type 0 where
      pub chosen : bits_of outputs given ≡ outputs_of_rows table (answering table q (bits_of inputs input))
      pub goes : state ≡ next_of_rows table (answering table q (bits_of inputs input))
      pub narrow : given < 2 ^ outputs
      pub is_state : state < states

    pub first_answers : (row : MachineRow) → Some row ≡ find (row_applies q input) rows → IsAnswer row.outputs row.next
    first_answers row e =
        let found : Some row ≡ first_of here = e ∙ find-filter (row_applies q input) rows in
        let fit : IsRowHere row = row_first here row (All-filter (row_applies q input) IsRowHere rows is.each) found in
        record {
          chosen = outputs_first here row found ∙ ap (outputs_of_rows table) (sym answering-rows);
          goes = next_first here row found ∙ ap (next_of_rows table) (sym answering-rows);
          narrow = narrow-value outputs (outputs_row row) fit.given;
          is_state = fit.next;
        }

    pub none_answers : None ≡ find (row_applies q input) rows → IsAnswer 0 reset
    none_answers e =
        let none : here ≡ [] = none_first here (e ∙ find-filter (row_applies q input) rows) in
        let empty : answering table q (bits_of inputs input) ≡ [] = answering-rows ∙ ap (transitions_of inputs outputs) none in
        record {
          chosen = bits_of-zero outputs ∙ ap (outputs_of_rows table) (sym empty);
          goes = ap (next_of_rows table) (sym empty);
          narrow = pow_pos outputs;
          is_state = is.is_state;
        }

    -- what is free: an output that no row which answers specifies, a next state that none names
    free_output : (place care : ℕ) → place < outputs
        → bit_worth (outputs - 1 - place) care ≡ list_any (λ row. row_applies q input row && bit_worth (outputs - 1 - place) row.care) rows
        → is_free_output 2 (answering table q (bits_of inputs input)) place ≡ not (bit_worth (outputs - 1 - place) care)
    free_output place care below e =
        ap (λ list. is_free_output 2 list place) answering-rows
        ∙ not_any (transition_of inputs outputs) (row_applies q input) (λ row. specifies row place) rows
        ∙ ap not (list_any_agree (λ row. row_applies q input row && specifies (transition_of inputs outputs row) place)
        (λ row. row_applies q input row && bit_worth (outputs - 1 - place) row.care)
        (λ row. ap (λ b. row_applies q input row && b) (specified_at inputs outputs place row below)) rows ∙ sym e)

    pub free_next : (named : Bool) → named ≡ list_any (λ row. row_applies q input row && row.named) rows
        → is_free_next 2 (answering table q (bits_of inputs input)) ≡ not named
    free_next named e =
        ap (is_free_next 2) answering-rows
        ∙ not_any (transition_of inputs outputs) (row_applies q input) (λ row. row.named) rows
        ∙ ap not (sym e)

    module _ (given asked care : ℕ) (chosen : bits_of outputs given ≡ outputs_of_rows table (answering table q (bits_of inputs input)))
        (specified : (k : ℕ) → bit_worth k care ≡ list_any (λ row. row_applies q input row && bit_worth k row.care) rows) where
      -- the specified outputs that aren't the chosen ones
      abbrev wrong : ℕ
      wrong = bit_and (bit_xor asked given) care

      wrong_bit : (k : ℕ) → bit_worth k wrong ≡ (not (same (bit_worth k asked) (bit_worth k given)) && bit_worth k care)
      wrong_bit k = bit-differs k care given asked

      chosen_bit : (place : ℕ) → place < outputs → bit (outputs_of_rows table (answering table q (bits_of inputs input))) place ≡ bit_worth (outputs - 1 - place) given
      chosen_bit place below = ap (λ bits. bit bits place) (sym chosen) ∙ get_or-bits_of outputs given place below

      none_wrong : wrong ≡ 0 → TableAllows table 2 (answering table q (bits_of inputs input)) (bits_of outputs asked)
      none_wrong e = record { sized = length-bits_of outputs asked; each = each }
        where
          each : (place : ℕ) → place < outputs → IsTrue (is_free_output 2 (answering table q (bits_of inputs input)) place)
              ⊎ (bit (bits_of outputs asked) place ≡ bit (outputs_of_rows table (answering table q (bits_of inputs input))) place)
          each place below =
              let k = outputs - 1 - place in
              let zero_bit : bit_worth k wrong ≡ false = ap (bit_worth k) e ∙ bit_worth-zero k in
              elim (cases_Bool (bit_worth k care)) [
                | inl cared ↦ inr (get_or-bits_of outputs asked place below
                    ∙ same_bits (bit_worth k asked) (bit_worth k given) (bit_worth k care) cared (sym (wrong_bit k) ∙ zero_bit)
                    ∙ sym (chosen_bit place below))
                | inr free ↦ inl (free_output place care below (specified k) ∙ ap not free)
              ]

      all_right : TableAllows table 2 (answering table q (bits_of inputs input)) (bits_of outputs asked) → wrong ≡ 0
      all_right h = no_bits wrong (λ k. elim (cases_lt k outputs) [
        | inl below ↦ within k below
        | inr above ↦ wrong_bit k ∙ and_right (not (same (bit_worth k asked) (bit_worth k given))) (bit_worth k care) (beyond k above)
      ])
        where
          beyond : (k : ℕ) → outputs ≤ k → bit_worth k care ≡ false
          beyond k above =
              let P : MachineRow → Type 0 = λ row. (row_applies q input row && bit_worth k row.care) ≡ false in
              specified k ∙ list_any_none (λ row. row_applies q input row && bit_worth k row.care) rows
              (All-weaker IsRowHere P (λ row fit. and_right (row_applies q input row) (bit_worth k row.care) (bit_worth-above k outputs row.care fit.given.narrow above)) rows is.each)

          within : (k : ℕ) → k < outputs → bit_worth k wrong ≡ false
          within k below =
              let place = outputs - 1 - k in
              let is_place : place < outputs = omega arith in
              let back : outputs - 1 - place ≡ k = omega arith in
              let care_at : (j : ℕ) → j ≡ k → bit_worth j wrong ≡ false → bit_worth k wrong ≡ false = λ j e. let P : ℕ → Type 0 = λ i. bit_worth i wrong ≡ false in subst P e in
              let j = outputs - 1 - place in
              care_at j back (elim (h.each place is_place) [
                | inl free ↦ wrong_bit j ∙ and_right (not (same (bit_worth j asked) (bit_worth j given))) (bit_worth j care)
                    (not-true (bit_worth j care) (sym (free_output place care is_place (specified j)) ∙ free))
                | inr equal ↦ wrong_bit j ∙ ap (λ b. not b && bit_worth j care) (same-equal (bit_worth j asked) (bit_worth j given)
                    (sym (get_or-bits_of outputs asked place is_place) ∙ equal ∙ chosen_bit place is_place))
              ])

      pub wrong-Decides : Decides (eqb wrong 0) (TableAllows table 2 (answering table q (bits_of inputs input)) (bits_of outputs asked))
      wrong-Decides = (λ t. none_wrong (eqb-true wrong 0 t), λ h. eq-eqb wrong 0 (all_right h))

-- what is said of a machine's table, seen as a value
module _ (inputs outputs states reset : ℕ) (rows : List MachineRow) (value : MachineOf)
    (view : machine_of inputs outputs states reset rows ≡ value) (is : IsMachine inputs outputs states reset rows) where
  pub wrong_outputs : (q input given asked care : ℕ)
      → bits_of value.table.outputs given ≡ outputs_of_rows value.table (answering value.table q (bits_of value.table.inputs input))
      → ((k : ℕ) → bit_worth k care ≡ list_any (λ row. row_applies q input row && bit_worth k row.care) rows)
      → Decides (eqb (bit_and (bit_xor asked given) care) 0) (TableAllows value.table 2 (answering value.table q (bits_of value.table.inputs input)) (bits_of value.table.outputs asked))
  wrong_outputs q input given asked care chosen specified =
      let Q : MachineOf → Type 0 = λ v. bits_of v.table.outputs given ≡ outputs_of_rows v.table (answering v.table q (bits_of v.table.inputs input))
      → Decides (eqb (bit_and (bit_xor asked given) care) 0) (TableAllows v.table 2 (answering v.table q (bits_of v.table.inputs input)) (bits_of v.table.outputs asked)) in
      subst Q view (λ here. wrong-Decides inputs outputs states reset rows is q input given asked care here specified) chosen

  pub unnamed_next : (q input : ℕ) (named : Bool) → named ≡ list_any (λ row. row_applies q input row && row.named) rows
      → is_free_next 2 (answering value.table q (bits_of value.table.inputs input)) ≡ not named
  unnamed_next q input named e =
      let Q : MachineOf → Type 0 = λ v. is_free_next 2 (answering v.table q (bits_of v.table.inputs input)) ≡ not named in
      subst Q view (free_next inputs outputs states reset rows is q input named e)

-- ---- rows that answer at one state and input overlap

-- two literals that let the same bit pass agree
pub agree-from : (l m : Literal) (b : Bool) → accepts l b ≡ true → accepts m b ≡ true → agree l m ≡ true
agree-from Free m b h g = refl
agree-from (Wants w) Free b h g = refl
agree-from (Wants true) (Wants true) b h g = refl
agree-from (Wants false) (Wants false) b h g = refl
agree-from (Wants true) (Wants false) true h g = absurd (false≢true g)
agree-from (Wants true) (Wants false) false h g = absurd (false≢true h)
agree-from (Wants false) (Wants true) true h g = absurd (false≢true h)
agree-from (Wants false) (Wants true) false h g = absurd (false≢true g)

inputs_meet-from : (a b : List Literal) (x : List Bool) (i : ℕ) → lets_pass i a x ≡ true → lets_pass i b x ≡ true → inputs_meet a b ≡ true
inputs_meet-from [] b x i h g = refl
inputs_meet-from (l ∷ a) [] x i h g = refl
inputs_meet-from (l ∷ a) (m ∷ b) x i h g =
    let first : (accepts l (bit x i) ≡ true) × (lets_pass (i + 1) a x ≡ true) = and_parts _ _ h in
    let second : (accepts m (bit x i) ≡ true) × (lets_pass (i + 1) b x ≡ true) = and_parts _ _ g in
    and_from _ _ (agree-from l m (bit x i) first.0 second.0) (inputs_meet-from a b x (i + 1) first.1 second.1)

share_state-from : (a b : Option ℕ) (q : ℕ) → starts_at a q ≡ true → starts_at b q ≡ true → share_state a b ≡ true
share_state-from None b q h g = refl
share_state-from (Some from) None q h g = refl
share_state-from (Some from) (Some other) q h g = eq-eqb from other (eqb-true from q h ∙ sym (eqb-true other q g))

pub overlap-from_applies : (q : ℕ) (x : List Bool) (a b : Transition) → applies q x a ≡ true → applies q x b ≡ true → overlap a b ≡ true
overlap-from_applies q x a b h g =
    let first : (starts_at a.from q ≡ true) × (lets_pass 0 a.input x ≡ true) = and_parts _ _ h in
    let second : (starts_at b.from q ≡ true) × (lets_pass 0 b.input x ≡ true) = and_parts _ _ g in
    and_from _ _ (share_state-from a.from b.from q first.0 second.0) (inputs_meet-from a.input b.input x 0 first.1 second.1)

-- an output that a row doesn't specify is 0
unspecified_is_zero : (outputs place : ℕ) (row : MachineRow) → IsRow outputs (outputs_row row) → place < outputs
    → bit_worth (outputs - 1 - place) row.care ≡ false → bit (bits_of outputs row.outputs) place ≡ false
unspecified_is_zero outputs place row fit below e =
    let k = outputs - 1 - place in
    get_or-bits_of outputs row.outputs place below
    ∙ ap (bit_worth k) (sym fit.within)
    ∙ bit_worth-and k row.outputs row.care
    ∙ and_right (bit_worth k row.outputs) (bit_worth k row.care) e

-- the rows of a machine are a state table
pub is_state_table : (inputs outputs states reset : ℕ) (rows : List MachineRow) → IsMachine inputs outputs states reset rows
    → IsStateTable (machine_of inputs outputs states reset rows).table
is_state_table inputs outputs states reset rows is = record {
  reset = is.is_state;
  rows = All-map (IsTransitionOf M) (transition_of inputs outputs) rows (All-weaker IsRowHere (λ row. IsTransitionOf M (transition_of inputs outputs row)) transition rows is.each);
  consistent = λ q x a b in_a in_b h g. is.consistent a b in_a in_b (overlap-from_applies q x a b h g);
}
  where
    M : StateTable
    M = (machine_of inputs outputs states reset rows).table

    IsRowHere : MachineRow → Type 0
    IsRowHere row = IsMachineRow inputs outputs states reset row

    transition : (row : MachineRow) → IsRowHere row → IsTransitionOf M (transition_of inputs outputs row)
    transition row fit = record {
      input = length-literals inputs row.input.care row.input.value;
      outputs = length-bits_of outputs row.outputs;
      care = length-bits_of outputs row.care;
      from = fit.from;
      next = fit.next;
      specified = λ place below e. unspecified_is_zero outputs place row fit.given below (sym (specified_at inputs outputs place row below) ∙ e);
      unnamed = fit.unnamed;
    }
