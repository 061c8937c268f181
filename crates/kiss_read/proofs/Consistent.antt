-- A table without a conflict: rows that overlap answer alike.
use Rattle.std.proofs.Common.{◌≡◌, ℕ, zero, suc, ◌+◌, ◌<◌, ◌≤◌, Bool, true, false, not, cond, ◌&&◌, eqb, List, [], ◌∷◌, ◌++◌, length, take, get_or, position, Option, None, Some, refl, sym, ap, ap₂, ◌∙◌, subst, inl, inr, arith, eqb-true, append_assoc}
use Rattle.std.specs.List.{position_or_len}
use Rattle.std.proofs.lemmas.Bool.{and_parts, cases_order, ltb-false, not-false}
use Rattle.std.proofs.lemmas.List.{append-nil, get_or-take, get_or_default, length-take-le}
use Rattle.tsc_bits.specs.Bits.{same}
use Rattle.tsc_cover.specs.Cover.{Literal, Free, Wants}
use Rattle.fault_secure.specs.FaultSecure.{equal_bits}
use Rattle.fault_secure.specs.Logic.{Transition, AnswersAlike}
use Rattle.tsc_net.specs.Overlap.{agree, inputs_meet, overlap, share_state, AreConsistent}
use Rattle.kiss_read.specs.Conflict.{clash_or, conflict, first_clash, first_clash_behind}
use Rattle.kiss_read.specs.Clashes.{no_transition, the_row}
use Rattle.kiss_read.specs.declared.conflicts.Clash.{Clash}
use Rattle.fault_secure.proofs.EqualBits.{same_bits}

-- ---- no row conflicts with an earlier one

no_later : (found : Option ℕ) (place : ℕ) (later : Option Clash) → clash_or found place later ≡ None → (found ≡ None) × (later ≡ None)
no_later None place later e = (refl, e)
no_later (Some earlier) place later e = cc

none_found : (rows before : List Transition) → first_clash_behind before rows ≡ None → (k : ℕ) → k < length rows
    → position (conflict (the_row rows k)) (before ++ take k rows) ≡ None
none_found [] before e k h = absurd (omega arith)
none_found (row ∷ rows) before e zero h =
    ap (position (conflict row)) (append-nil before) ∙ (no_later (position (conflict row) before) (length before) _ e).0
none_found (row ∷ rows) before e (suc k) h =
    ap (position (conflict (the_row rows k))) (sym (append_assoc before (row ∷ []) (take k rows)))
    ∙ none_found rows (before ++ row ∷ []) (no_later (position (conflict row) before) (length before) _ e).1 k (omega arith)

passed_all : (p : Transition → Bool) (xs : List Transition) → length xs ≤ position_or_len p xs → (j : ℕ) → j < length xs → p (the_row xs j) ≡ false
passed_all p [] h j lt = absurd (omega arith)
passed_all p (x ∷ xs) h j lt = by (p x) refl h (passed_all p xs) j lt
  where
    by : (b : Bool) → p x ≡ b → suc (length xs) ≤ cond (not b) (1 + position_or_len p xs) 0
        → (length xs ≤ position_or_len p xs → (j : ℕ) → j < length xs → p (the_row xs j) ≡ false)
        → (j : ℕ) → j < suc (length xs) → p (the_row (x ∷ xs) j) ≡ false
    by true e g rest j lt = absurd (omega arith)
    by false e g rest zero lt = e
    by false e g rest (suc j) lt = rest (omega arith) j (omega arith)

no_position : (p : Transition → Bool) (xs : List Transition) → position p xs ≡ None → (j : ℕ) → j < length xs → p (the_row xs j) ≡ false
no_position p xs e = passed_all p xs (ltb-false (position_or_len p xs) (length xs) (by _ e))
  where
    by : (b : Bool) → cond b (Some (position_or_len p xs)) None ≡ None → b ≡ false
    by true f = cc
    by false f = refl

no_conflict : (rows : List Transition) → first_clash rows ≡ None → (later earlier : ℕ) → earlier < later → later < length rows
    → conflict (the_row rows later) (the_row rows earlier) ≡ false
no_conflict rows e later earlier lt below =
    let sized : length (take later rows) ≡ later = length-take-le later rows (omega arith) in
    ap (conflict (the_row rows later)) (sym (get_or-take later rows earlier no_transition lt))
    ∙ no_position (conflict (the_row rows later)) (take later rows) (none_found rows [] e later below) earlier (omega arith)

-- ---- overlapping is mutual

same_back : (a b : Bool) → same a b ≡ same b a
same_back true true = refl
same_back true false = refl
same_back false true = refl
same_back false false = refl

agree_back : (l m : Literal) → agree l m ≡ agree m l
agree_back Free Free = refl
agree_back Free (Wants b) = refl
agree_back (Wants a) Free = refl
agree_back (Wants a) (Wants b) = same_back a b

meet_back : (a b : List Literal) → inputs_meet a b ≡ inputs_meet b a
meet_back [] [] = refl
meet_back [] (m ∷ b) = refl
meet_back (l ∷ a) [] = refl
meet_back (l ∷ a) (m ∷ b) = ap₂ (λ x y. x && y) (agree_back l m) (meet_back a b)

eqb_back : (a b : ℕ) → eqb a b ≡ true → eqb b a ≡ true
eqb_back a b e = subst (λ n. eqb n a ≡ true) (eqb-true a b e) (subst (λ n. eqb a n ≡ true) (sym (eqb-true a b e)) e)

share_back : (a b : Option ℕ) → share_state a b ≡ true → share_state b a ≡ true
share_back None None e = refl
share_back None (Some b) e = refl
share_back (Some a) None e = refl
share_back (Some a) (Some b) e = eqb_back a b e

overlap_back : (a b : Transition) → overlap a b ≡ true → overlap b a ≡ true
overlap_back a b e =
    let parts = and_parts (share_state a.from b.from) (inputs_meet a.input b.input) e in
    ap₂ (λ x y. x && y) (share_back a.from b.from parts.0) (sym (meet_back a.input b.input) ∙ parts.1)

alike_of : (a b : Transition) → overlap a b ≡ true → conflict a b ≡ false → AnswersAlike a b
alike_of a b o c =
    let alike : (eqb a.next b.next && equal_bits a.outputs b.outputs) ≡ true =
    not-false _ (sym (ap (λ x. x && not (eqb a.next b.next && equal_bits a.outputs b.outputs)) o) ∙ c) in
    let parts = and_parts (eqb a.next b.next) (equal_bits a.outputs b.outputs) alike in
    record { next = eqb-true a.next b.next parts.0; outputs = same_bits a.outputs b.outputs parts.1 }

alike_back : (a b : Transition) → AnswersAlike a b → AnswersAlike b a
alike_back a b h = record { next = sym h.next; outputs = sym h.outputs }

row_at_place : (rows : List Transition) (row : Transition) (k : ℕ) → k < length rows → get_or rows k row ≡ row → the_row rows k ≡ row
row_at_place rows row k h e = get_or_default rows k no_transition row h ∙ e

pub are_consistent : (rows : List Transition) → first_clash rows ≡ None → AreConsistent rows
are_consistent rows e a b in_a in_b o =
    let at_a : the_row rows in_a.0 ≡ a = row_at_place rows a in_a.0 in_a.1 in_a.2 in
    let at_b : the_row rows in_b.0 ≡ b = row_at_place rows b in_b.0 in_b.1 in_b.2 in
    elim (cases_order in_a.0 in_b.0) [
      | inl same ↦
          let one : a ≡ b = sym at_a ∙ ap (the_row rows) same ∙ at_b in
          record { next = ap (λ (t : Transition). t.next) one; outputs = ap (λ (t : Transition). t.outputs) one }
      | inr other ↦ elim other [
        | inl first ↦
            alike_back b a (alike_of b a (overlap_back a b o) (sym (ap₂ conflict at_b at_a) ∙ no_conflict rows e in_b.0 in_a.0 first in_b.1))
        | inr second ↦
            alike_of a b o (sym (ap₂ conflict at_a at_b) ∙ no_conflict rows e in_a.0 in_b.0 second in_a.1)
      ]
    ]
