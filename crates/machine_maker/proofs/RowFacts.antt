-- What is true of each row that is drawn.
use Rattle.std.proofs.Common.{◌≡◌, refl, arith, ℕ, zero, suc, ◌*◌, ◌<◌, ◌≤◌, Bool, true, false, ◌&&◌, ◌==◌, if◌then◌else◌, List, [], ◌∷◌, ◌++◌, codes, length, ap, ap₂, ◌∙◌, mod-lt}
use Rattle.std.specs.List.{flat_map, AllByRecursion as Each}
use Rattle.std.proofs.lemmas.Fmt.{length-decimal-le}
use Rattle.std.proofs.lemmas.List.{length-append}
use Rattle.std.proofs.lemmas.List.Folds.{list_all-append}
use Rattle.std.proofs.lemmas.List.Concat.{flat_map-cons}
use Rattle.rand_pcg.specs.Lcg.{Lcg}
use Rattle.tsc_cover.specs.Text.{is_literal, is_row_text}
use Rattle.machine_maker.specs.Drawn.{character, characters, draw, DrawnRow, drawn_row, drawn_rows, generator, rows_of_number}
use Rattle.machine_maker.specs.MadeText.{made_text, row_line, state_name}

-- so many characters, each `0`, `1` or `-`
pub record IsPattern (width : ℕ) (text : List ℕ) : Type 0 where
  pub sized : length text ≡ width
  pub literals : is_row_text text ≡ true

-- a row of one of 48 states, one of its four
pub record IsRowOf (row : DrawnRow) : Type 0 where
  pub number : row.number < 4
  pub asked : IsPattern 5 row.asked
  pub state : row.state < 48
  pub next : row.next < 48
  pub outputs : IsPattern 8 row.outputs

literal_by : (zero_drawn one_drawn : Bool) → is_literal (if zero_drawn then 48 else (if one_drawn then 49 else 45)) ≡ true
literal_by true one = refl
literal_by false true = refl
literal_by false false = refl

pub is_character : (drawn : ℕ) → is_literal (character drawn) ≡ true
is_character drawn = literal_by (drawn == 0) (drawn == 1)

pub pattern_drawn : (count : ℕ) (g : Lcg) → IsPattern count (characters count g).0
unfolding characters
pattern_drawn zero g = record { sized = refl; literals = refl }
pattern_drawn (suc count) g =
    let before = characters count g in
    let is = pattern_drawn count g in
    let last = character (draw 3 before.1).0 in
    let longer = length-append before.0 (last ∷ []) in
    let same = is.sized in
    record {
      sized = omega (arith, longer, same);
      literals = list_all-append is_literal before.0 (last ∷ []) ∙ ap₂ (λ a b. a && b) is.literals (ap (λ b. b && true) (is_character (draw 3 before.1).0));
    }

next_below : (g : Lcg) → (draw 48 g).0 < 48
unfolding draw
next_below g = mod-lt _ (omega arith)

pub row_is : (place : ℕ) (g : Lcg) → place < 192 → IsRowOf (drawn_row place g).0
unfolding drawn_row
row_is place g within = record {
  number = omega arith;
  asked = pattern_drawn 5 g;
  state = omega arith;
  next = next_below (characters 5 g).1;
  outputs = pattern_drawn 8 _;
}

pub each_more : {A : Type 0} (P : A → Type 0) (xs : List A) (x : A) → Each P xs → P x → Each P (xs ++ x ∷ [])
each_more P [] x each p = (p, tt)
each_more P (y ∷ xs) x each p = (each.0, each_more P xs x each.1 p)

pub rows_are : (count : ℕ) (g : Lcg) → count ≤ 192 → Each IsRowOf (drawn_rows count g).0
unfolding drawn_rows
rows_are zero g few = tt
rows_are (suc count) g few =
    each_more IsRowOf (drawn_rows count g).0 (drawn_row count (drawn_rows count g).1).0 (rows_are count g (omega arith))
    (row_is count (drawn_rows count g).1 (omega arith))

pub rows_count : (count : ℕ) (g : Lcg) → length (drawn_rows count g).0 ≡ count
unfolding drawn_rows
rows_count zero g = refl
rows_count (suc count) g =
    let longer = length-append (drawn_rows count g).0 ((drawn_row count (drawn_rows count g).1).0 ∷ []) in
    let same = rows_count count g in
    omega (arith, longer, same)

-- the name of a state has at most three characters
pub short_name : (state : ℕ) → state < 48 → length (state_name state) ≤ 3
short_name state few = let digits = length-decimal-le 2 state (omega arith) (omega arith) (omega arith) in omega (arith, digits)

-- so a row's line has at most 25, and the text few
line_short : (row : DrawnRow) → IsRowOf row → length (row_line row) ≤ 25
line_short row is =
    let asked = row.asked in
    let l1 = length-append asked (32 ∷ (state_name row.state ++ (32 ∷ (state_name row.next ++ (32 ∷ (row.outputs ++ 10 ∷ [])))))) in
    let l2 = length-append (state_name row.state) (32 ∷ (state_name row.next ++ (32 ∷ (row.outputs ++ 10 ∷ [])))) in
    let l3 = length-append (state_name row.next) (32 ∷ (row.outputs ++ 10 ∷ [])) in
    let l4 = length-append row.outputs (10 ∷ []) in
    let s = short_name row.state is.state in
    let n = short_name row.next is.next in
    let a = is.asked.sized in
    let o = is.outputs.sized in
    omega (arith, l1, l2, l3, l4, s, n, a, o)

rows_short : (rows : List DrawnRow) → Each IsRowOf rows → length (flat_map row_line rows) ≤ 25 * length rows
rows_short [] each = omega arith
rows_short (row ∷ rows) each =
    let first = line_short row each.0 in
    let rest = rows_short rows each.1 in
    let both = length-append (row_line row) (flat_map row_line rows) in
    let cons = ap (λ (l : List ℕ). length l) (flat_map-cons row_line row rows) in
    omega (arith, first, rest, both, cons)

pub text_short : (number : ℕ) → length (made_text number) ≤ 67108864
text_short number =
    let rows = rows_of_number number in
    let few = rows_short rows (rows_are 192 (generator number) (omega arith)) in
    let count = rows_count 192 (generator number) in
    let both = length-append (flat_map row_line rows) (codes ".e" ++ 10 ∷ []) in
    omega (arith, few, count, both)
