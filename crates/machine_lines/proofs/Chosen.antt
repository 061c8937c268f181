-- What the lines of a state's rows and of no row choose: the bit of the state's answer.
use Rattle.std.proofs.Common.{◌≡◌, ◌↔◌, ℕ, zero, suc, Bool, true, false, cond, ◌&&◌, ◌||◌, List, [], ◌∷◌, ◌++◌, map, filter, length, refl, sym, ◌∙◌, ap, ap₂, arith}
use Rattle.std.specs.Prelude.{replicate, slice_index_or, Contains}
use Rattle.std.specs.List.{list_any, AllByRecursion}
use Rattle.std.proofs.lemmas.List.Elements.{recursion_from_All, All-contains_itself}
use Rattle.tsc_bits.proofs.Bools.{or_assoc, or-false}
use Rattle.fault_secure.specs.Circuit.{bit}
use Rattle.fault_secure.specs.declared.code.Code.{Code}
use Rattle.fault_secure.specs.Logic.{StateTable, Transition, starts_at, lets_pass, applies, answering, outputs_of_rows, next_of_rows, IsStateTable}
use Rattle.state_code.specs.Lines.{rows_at}
use Rattle.tsc_bits.specs.Counting.{some_both}
use Rattle.machine_lines.specs.MachineLines.{answer_word}
use Rattle.machine_lines.specs.Cases.{word_of}

-- a pair of bits more
pub some_both_more : (as_ bs : List Bool) (a b : Bool) → length as_ ≡ length bs → some_both (as_ ++ a ∷ []) (bs ++ b ∷ []) ≡ (some_both as_ bs || (a && b))
some_both_more [] [] a b e = or-false (a && b)
some_both_more [] (d ∷ bs) a b e = absurd (omega (arith, e))
some_both_more (c ∷ as_) [] a b e = absurd (omega (arith, e))
some_both_more (c ∷ as_) (d ∷ bs) a b e =
    ap (λ (v : Bool). (c && d) || v) (some_both_more as_ bs a b (omega (arith, e)))
    ∙ sym (or_assoc (c && d) (some_both as_ bs) (a && b))

module _ (p f : Transition → Bool) where
  any_cond : (b : Bool) (row : Transition) (kept : List Transition) (r : Bool) → r ≡ list_any f kept → ((b && f row) || r) ≡ list_any f (cond b (row ∷ kept) kept)
  any_cond true row kept r e = ap (λ (v : Bool). f row || v) e
  any_cond false row kept r e = e

  -- at some row both bits are 1: some row that passes has the bit
  any_passing : (rows : List Transition) → some_both (map p rows) (map f rows) ≡ list_any f (filter p rows)
  any_passing [] = refl
  any_passing (row ∷ rows) = any_cond (p row) row (filter p rows) (some_both (map p rows) (map f rows)) (any_passing rows)

  or_twice : (v r : Bool) → (v || (v || r)) ≡ (v || r)
  or_twice true r = refl
  or_twice false r = refl

  any_same : (v : Bool) (rows : List Transition) → AllByRecursion (λ row. f row ≡ v) rows → (v || list_any f rows) ≡ v
  any_same v [] all = or-false v
  any_same v (row ∷ rows) all = ap (λ (b : Bool). v || (b || list_any f rows)) all.0 ∙ or_twice v (list_any f rows) ∙ any_same v rows all.1

  kept_cond : (v b : Bool) (row : Transition) (kept : List Transition) → (b ≡ true → f row ≡ v) → AllByRecursion (λ r. f r ≡ v) kept → AllByRecursion (λ r. f r ≡ v) (cond b (row ∷ kept) kept)
  kept_cond v true row kept h all = (h refl, all)
  kept_cond v false row kept h all = all

  kept_same : (v : Bool) (rows : List Transition) → AllByRecursion (λ row. p row ≡ true → f row ≡ v) rows → AllByRecursion (λ row. f row ≡ v) (filter p rows)
  kept_same v [] all = tt
  kept_same v (row ∷ rows) all = kept_cond v (p row) row (filter p rows) all.0 (kept_same v rows all.1)

  -- the bit of the first row, 0 where there is none
  abbrev first_bit : List Transition → Bool
  first_bit [] = false
  first_bit (row ∷ rows) = f row

  -- any two rows that pass have the same bit
  abbrev Agree : List Transition → Type 0
  Agree rows = (a b : Transition) → Contains rows a → Contains rows b → p a ≡ true → p b ≡ true → f a ≡ f b

  agree_less : (row : Transition) (rows : List Transition) → Agree (row ∷ rows) → Agree rows
  agree_less row rows h a b in_a in_b = h a b (suc in_a.0, omega (arith, in_a.1), in_a.2) (suc in_b.0, omega (arith, in_b.1), in_b.2)

  first_cond : (b : Bool) (row : Transition) (kept : List Transition) → (b ≡ true → (f row || list_any f kept) ≡ f row) → list_any f kept ≡ first_bit kept
      → list_any f (cond b (row ∷ kept) kept) ≡ first_bit (cond b (row ∷ kept) kept)
  first_cond true row kept h e = h refl
  first_cond false row kept h e = e

  -- where those that pass agree, some has the bit exactly where the first does
  first_of_any : (rows : List Transition) → Agree rows → list_any f (filter p rows) ≡ first_bit (filter p rows)
  first_of_any [] agree = refl
  first_of_any (row ∷ rows) agree =
      first_cond (p row) row (filter p rows)
      (λ passes. any_same (f row) (filter p rows) (kept_same (f row) rows (recursion_from_All _ rows
      (λ k d lt. λ also.
      let inside : Contains rows (slice_index_or rows k d) = All-contains_itself rows k d lt in
      agree (slice_index_or rows k d) row (suc inside.0, omega (arith, inside.1), inside.2) (zero, omega arith, refl) also passes))))
      (first_of_any rows (agree_less row rows agree))

-- rows that answer are among those that may
filter_cond : (p : Transition → Bool) (st ps : Bool) (row : Transition) (kept rest : List Transition) → p row ≡ (st && ps) → filter p kept ≡ rest → filter p (cond st (row ∷ kept) kept) ≡ cond (st && ps) (row ∷ rest) rest
filter_cond p true ps row kept rest e h = ap₂ (λ (b : Bool) (list : List Transition). cond b (row ∷ list) list) e h
filter_cond p false ps row kept rest e h = h

filter_starting : (q : ℕ) (x : List Bool) (rows : List Transition) → filter (applies q x) (filter (λ row. starts_at row.from q) rows) ≡ filter (applies q x) rows
filter_starting q x [] = refl
filter_starting q x (row ∷ rows) =
    filter_cond (applies q x) (starts_at row.from q) (lets_pass 0 row.input x) row (filter (λ r. starts_at r.from q) rows) (filter (applies q x) rows) refl (filter_starting q x rows)

module _ (code : Code) (checks n : ℕ) (words : List ℕ) (M : StateTable) (place : ℕ) where
  -- the bit of the answer of some row
  abbrev pub answer_bit : Transition → Bool
  answer_bit row = bit (word_of code checks n words row.outputs row.next) place

  answer_cases : (rows : List Transition) (none d : Bool) → ((none ≡ true) ↔ (rows ≡ [])) → list_any answer_bit rows ≡ first_bit (λ _. true) answer_bit rows
      → d ≡ bit (word_of code checks n words (replicate M.outputs false) M.reset) place
      → (list_any answer_bit rows || (none && d)) ≡ bit (word_of code checks n words (outputs_of_rows M rows) (next_of_rows M rows)) place
  answer_cases [] none d h first e = ap (λ (b : Bool). b && d) (h.1 refl) ∙ e
  answer_cases (row ∷ rows) true d h first e = absurd (cc (h.0 refl))
  answer_cases (row ∷ rows) false d h first e = or-false (list_any answer_bit (row ∷ rows)) ∙ first

  -- the lines of the rows that may answer, and that of no row, choose the bit of the answer
  pub answer_chosen : (q : ℕ) (x : List Bool) (none d : Bool) → IsStateTable M → ((none ≡ true) ↔ (answering M q x ≡ []))
      → d ≡ bit (word_of code checks n words (replicate M.outputs false) M.reset) place
      → (some_both (map (applies q x) (rows_at M q)) (map answer_bit (rows_at M q)) || (none && d)) ≡ bit (answer_word code checks n words M x q) place
  answer_chosen q x none d table h e =
      let agree : Agree (applies q x) answer_bit M.rows = λ a b in_a in_b pass_a pass_b.
      let alike = table.consistent q x a b in_a in_b pass_a pass_b in
      ap₂ (λ (ys : List Bool) (next : ℕ). bit (word_of code checks n words ys next) place) alike.outputs alike.next in
      ap (λ (b : Bool). b || (none && d)) (any_passing (applies q x) answer_bit (rows_at M q) ∙ ap (list_any answer_bit) (filter_starting q x M.rows))
      ∙ answer_cases (answering M q x) none d h (first_of_any (applies q x) answer_bit M.rows agree) e
