-- Lists of names: those of a line, those of a letter, and names that stand twice.
use Rattle.std.proofs.Common.{◌≡◌, ℕ, ◌+◌, ◌-◌, ◌<◌, ◌≤◌, ◌^◌, Bool, true, false, ◌||◌, if◌then◌else◌, eqb, List, [], ◌∷◌, ◌++◌, drop, length, Option, None, Some, refl, sym, ap, ap₂, ◌∙◌, subst, inl, inr, arith, eq-eqb, append_assoc, length-append, length-drop}
use Rattle.std.specs.List.{slice_range}
use Rattle.std.specs.Option.{is_some}
use Rattle.std.proofs.lemmas.Bool.{cases_lt}
use Rattle.std.proofs.lemmas.Fmt.{decimal_injective}
use Rattle.std.proofs.lemmas.List.{append-nil, take_all, get_or_append_left, get_or-append_right}
use Rattle.std.proofs.lemmas.List.FromFn.{get_or-map-range_with_len, length-map-range_with_len, map-range_with_len_more}
use Rattle.tsc_net.specs.Names.{has_text, with_text, text_at, IsNumbering}
use Rattle.tsc_net.specs.NetFault.{first_repeat, repeat_after}
use Rattle.tsc_net.proofs.NameLemmas.{numbering-with_text}
use Rattle.tsc_text.specs.TextLine.{TextLine}
use Rattle.table_lines.specs.NamesText.{are_wrong_names, later_line, names_or, numbered_name, numbered_names, wrong_at, wrong_names}

-- ---- the names of a letter, and of a line
pub next_number : (letter count : ℕ) → numbered_names letter (count + 1) ≡ numbered_names letter count ++ numbered_name letter count ∷ []
next_number letter count = map-range_with_len_more (numbered_name letter) 0 count count (omega arith)

pub count_of_numbers : (letter count : ℕ) → eqb (length (numbered_names letter count)) count ≡ true
count_of_numbers letter count = eq-eqb (length (numbered_names letter count)) count (length-map-range_with_len (numbered_name letter) 0 count)

pub count_of_names : (words : List (List ℕ)) → length (drop 1 words) ≡ length words - 1
count_of_names words = length-drop 1 words

pub all_names : (words : List (List ℕ)) (place : ℕ) → 1 ≤ place → length words ≤ place → slice_range words 1 place ≡ drop 1 words
all_names words place some h = take_all (place - 1) (drop 1 words) (omega (arith, length-drop 1 words))

number_at : (letter count k : ℕ) → k < count → text_at (numbered_names letter count) k ≡ numbered_name letter k
number_at letter count k h = get_or-map-range_with_len (numbered_name letter) 0 count k k [] h (omega arith)

-- ---- names that stand twice

repeat-append : (seen a b : List (List ℕ)) → is_some (repeat_after seen (a ++ b)) ≡ (is_some (repeat_after seen a) || is_some (repeat_after (seen ++ a) b))
repeat-append seen [] b = ap (λ s. is_some (repeat_after s b)) (sym (append-nil seen))
repeat-append seen (t ∷ a) b =
    by (has_text seen t) (repeat-append (seen ++ t ∷ []) a b ∙ ap (λ s. is_some (repeat_after (seen ++ t ∷ []) a) || is_some (repeat_after s b)) (append_assoc seen (t ∷ []) a))
  where
    by : (c : Bool) → is_some (repeat_after (seen ++ t ∷ []) (a ++ b)) ≡ (is_some (repeat_after (seen ++ t ∷ []) a) || is_some (repeat_after (seen ++ t ∷ a) b))
        → is_some (if c then Some t else repeat_after (seen ++ t ∷ []) (a ++ b))
        ≡ (is_some (if c then Some t else repeat_after (seen ++ t ∷ []) a) || is_some (repeat_after (seen ++ t ∷ a) b))
    by true e = refl
    by false e = e

pub repeat_both : (a b : List (List ℕ)) → is_some (first_repeat (a ++ b)) ≡ (is_some (repeat_after [] a) || is_some (repeat_after a b))
repeat_both a b = repeat-append [] a b

-- names of which none stands twice have different texts
numbering_after : (seen names : List (List ℕ)) → IsNumbering seen → repeat_after seen names ≡ None → IsNumbering (seen ++ names)
numbering_after seen [] is e = subst IsNumbering (sym (append-nil seen)) is
numbering_after seen (t ∷ names) is e = by (has_text seen t) refl (numbering_after (seen ++ t ∷ []) names) e
  where
    by : (b : Bool) → has_text seen t ≡ b → (IsNumbering (seen ++ t ∷ []) → repeat_after (seen ++ t ∷ []) names ≡ None → IsNumbering (seen ++ t ∷ [] ++ names))
        → (if b then Some t else repeat_after (seen ++ t ∷ []) names) ≡ None → IsNumbering (seen ++ t ∷ names)
    by true f rest g = cc
    by false f rest g =
        let added : with_text seen t ≡ seen ++ t ∷ [] = ap (λ b. if b then seen else seen ++ t ∷ []) f in
        subst IsNumbering (append_assoc seen (t ∷ []) names) (rest (subst IsNumbering added (numbering-with_text seen t is)) g)

-- names of which none stands twice are all different
pub none_twice : (names : List (List ℕ)) → is_some (first_repeat names) ≡ false → IsNumbering names
none_twice names e = numbering_after [] names (record { distinct = λ a b h k f. absurd (omega arith) }) (by (first_repeat names) e)
  where
    by : (o : Option (List ℕ)) → is_some o ≡ false → o ≡ None
    by None f = refl
    by (Some t) f = cc

-- the names of two letters have different texts
second : List ℕ → List ℕ
second [] = []
second (x ∷ xs) = xs

first : List ℕ → ℕ
first [] = 0
first (x ∷ xs) = x

same_number : (letter other m n : ℕ) → m < 2 ^ 64 → n < 2 ^ 64 → numbered_name letter m ≡ numbered_name other n → m ≡ n
unfolding second
same_number letter other m n h k e = decimal_injective m n h k (ap second e)

same_letter : (letter other m n : ℕ) → numbered_name letter m ≡ numbered_name other n → letter ≡ other
unfolding first
same_letter letter other m n e = ap first e

apart_letters : ◌≡◌ {A = ℕ} 105 111 → ⊥
apart_letters e = omega arith

module _ (inputs outputs : ℕ) (few_inputs : inputs ≤ 64) (few_outputs : outputs ≤ 64) where
  abbrev both : List (List ℕ)
  both = numbered_names 105 inputs ++ numbered_names 111 outputs

  sized : length (numbered_names 105 inputs) ≡ inputs
  sized = length-map-range_with_len (numbered_name 105) 0 inputs

  whole : length both ≡ inputs + outputs
  whole =
      let s = sized in
      let g = length-map-range_with_len (numbered_name 111) 0 outputs in
      omega (arith, length-append (numbered_names 105 inputs) (numbered_names 111 outputs))

  front : (a : ℕ) → a < inputs → text_at both a ≡ numbered_name 105 a
  front a d = get_or_append_left (numbered_names 105 inputs) (numbered_names 111 outputs) [] a (let e = sized in omega arith) ∙ number_at 105 inputs a d

  back : (a : ℕ) → inputs ≤ a → a < inputs + outputs → text_at both a ≡ numbered_name 111 (a - inputs)
  back a d f =
      get_or-append_right (numbered_names 105 inputs) (numbered_names 111 outputs) inputs a [] sized d ∙ number_at 111 outputs (a - inputs) (omega arith)

  apart : (a b : ℕ) → a < inputs + outputs → b < inputs + outputs → text_at both a ≡ text_at both b → a ≡ b
  apart a b la lb e = elim (cases_lt a inputs) [
    | inl fa ↦ elim (cases_lt b inputs) [
      | inl fb ↦ same_number 105 105 a b (omega arith) (omega arith) (sym (front a fa) ∙ e ∙ front b fb)
      | inr sb ↦ absurd (apart_letters (same_letter 105 111 a (b - inputs) (sym (front a fa) ∙ e ∙ back b sb lb)))
    ]
    | inr sa ↦ elim (cases_lt b inputs) [
      | inl fb ↦ absurd (apart_letters (sym (same_letter 111 105 (a - inputs) b (sym (back a sa la) ∙ e ∙ front b fb))))
      | inr sb ↦
          let f : a - inputs ≡ b - inputs = same_number 111 111 (a - inputs) (b - inputs) (omega arith) (omega arith) (sym (back a sa la) ∙ e ∙ back b sb lb) in
          omega arith
    ]
  ]

  -- the numbered names of inputs and of outputs are all different
  pub numbered_differ : IsNumbering (numbered_names 105 inputs ++ numbered_names 111 outputs)
  numbered_differ = record { distinct = λ a b ha hb. let w = whole in apart a b (omega (arith, w, ha)) (omega (arith, w, hb)) }

-- where neither line is there
pub no_input_line : (a b : Option TextLine) (letter count : ℕ) → later_line a b ≡ None → names_or a letter count ≡ numbered_names letter count
no_input_line None b letter count e = refl
no_input_line (Some line) None letter count e = cc
no_input_line (Some line) (Some other) letter count e = cc

-- where neither line is there, the names of the outputs are numbered ones
pub no_output_line : (a b : Option TextLine) (letter count : ℕ) → later_line a b ≡ None → names_or b letter count ≡ numbered_names letter count
no_output_line None None letter count e = refl
no_output_line None (Some line) letter count e = cc
no_output_line (Some line) None letter count e = cc
no_output_line (Some line) (Some other) letter count e = cc

pub no_fault_without : (a b : Option TextLine) (inputs outputs : ℕ) → later_line a b ≡ None → wrong_names a inputs b outputs ≡ None
no_fault_without a b inputs outputs e = ap (wrong_at (are_wrong_names (names_or a 105 inputs) inputs (names_or b 111 outputs) outputs)) e

pub no_fault_right : (a b : Option TextLine) (inputs outputs line : ℕ) → Some line ≡ later_line a b
    → false ≡ are_wrong_names (names_or a 105 inputs) inputs (names_or b 111 outputs) outputs → wrong_names a inputs b outputs ≡ None
no_fault_right a b inputs outputs line e f = sym (ap₂ wrong_at f e)

pub fault_wrong : (a b : Option TextLine) (inputs outputs line : ℕ) → Some line ≡ later_line a b
    → true ≡ are_wrong_names (names_or a 105 inputs) inputs (names_or b 111 outputs) outputs → wrong_names a inputs b outputs ≡ Some line
fault_wrong a b inputs outputs line e f = sym (ap₂ wrong_at f e)

-- so many numbered names are so many
pub count_of_numbered : (letter count : ℕ) → length (numbered_names letter count) ≡ count
count_of_numbered letter count = length-map-range_with_len (numbered_name letter) 0 count
