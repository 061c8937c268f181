-- One more character, and one more row, of what is drawn.
use Rattle.std.proofs.Common.{◌≡◌, refl, arith, ℕ, suc, ◌+◌, ◌/◌, ◌%◌, List, [], ◌∷◌, ◌++◌, ap, sym, ◌∙◌}
use Rattle.std.proofs.lemmas.List.{append-nil, append_assoc, flat_map_more}
use Rattle.std.specs.List.{flat_map}
use Rattle.rand_pcg.specs.Lcg.{Lcg}
use Rattle.machine_maker.specs.Drawn.{character, characters, draw, drawn_row, drawn_rows}
use Rattle.machine_maker.specs.MadeText.{number_digits, row_line, state_name}

pub no_characters : (text : List ℕ) (g : Lcg) → text ≡ text ++ (characters 0 g).0
unfolding characters
no_characters text g = sym (append-nil text)

pub none_drawn : (g : Lcg) → g ≡ (characters 0 g).1
unfolding characters
none_drawn g = refl

pub one_character : (count : ℕ) (g now : Lcg) (before text new : List ℕ) (drawn byte : ℕ)
    → now ≡ (characters count g).1 → text ≡ before ++ (characters count g).0
    → drawn ≡ (draw 3 now).0 → byte ≡ character drawn → new ≡ text ++ byte ∷ []
    → new ≡ before ++ (characters (count + 1) g).0
unfolding characters
one_character count g now before text new drawn byte at so_far d b n =
    let e : count + 1 ≡ suc count = omega arith in rw e (
    n
    ∙ (ap (λ l. l ++ byte ∷ []) so_far
    ∙ (ap (λ c. (before ++ (characters count g).0) ++ c ∷ []) (b ∙ ap character (d ∙ ap (λ s. (draw 3 s).0) at))
    ∙ append_assoc before (characters count g).0 _)))

pub one_drawn : (count : ℕ) (g now left : Lcg) → now ≡ (characters count g).1 → left ≡ (draw 3 now).1 → left ≡ (characters (count + 1) g).1
unfolding characters
one_drawn count g now left at l = let e : count + 1 ≡ suc count = omega arith in rw e (l ∙ ap (λ s. (draw 3 s).1) at)

pub no_rows : (text : List ℕ) (g : Lcg) → text ≡ text ++ flat_map row_line (drawn_rows 0 g).0
unfolding drawn_rows
no_rows text g = sym (append-nil text)

pub no_row_drawn : (g : Lcg) → g ≡ (drawn_rows 0 g).1
unfolding drawn_rows
no_row_drawn g = refl

pub one_row : (place : ℕ) (g now : Lcg) (before text new : List ℕ)
    → now ≡ (drawn_rows place g).1 → text ≡ before ++ flat_map row_line (drawn_rows place g).0
    → new ≡ text ++ row_line (drawn_row place now).0
    → new ≡ before ++ flat_map row_line (drawn_rows (place + 1) g).0
unfolding drawn_rows
one_row place g now before text new at so_far n =
    let e : place + 1 ≡ suc place = omega arith in rw e (
    n
    ∙ (ap (λ l. l ++ row_line (drawn_row place now).0) so_far
    ∙ (ap (λ s. (before ++ flat_map row_line (drawn_rows place g).0) ++ row_line (drawn_row place s).0) at
    ∙ flat_map_more row_line before (drawn_rows place g).0 (drawn_row place (drawn_rows place g).1).0)))

pub one_row_drawn : (place : ℕ) (g now left : Lcg) → now ≡ (drawn_rows place g).1 → left ≡ (drawn_row place now).1
    → left ≡ (drawn_rows (place + 1) g).1
unfolding drawn_rows
one_row_drawn place g now left at l = let e : place + 1 ≡ suc place = omega arith in rw e (l ∙ ap (λ s. (drawn_row place s).1) at)

-- what is behind the characters of a row, and the generator behind it
pub row_left : (place : ℕ) (g asked drawn outputs : Lcg) → asked ≡ (characters 5 g).1 → drawn ≡ (draw 48 asked).1
    → outputs ≡ (characters 8 drawn).1 → outputs ≡ (drawn_row place g).1
unfolding drawn_row
row_left place g asked drawn outputs a d o = o ∙ (ap (λ s. (characters 8 s).1) d ∙ ap (λ s. (characters 8 (draw 48 s).1).1) a)

-- what was appended piece by piece
pieces : (before digits asked state next outputs : List ℕ)
    → ((((((before ++ digits) ++ asked) ++ (32 ∷ state)) ++ (32 ∷ next)) ++ 32 ∷ []) ++ outputs) ++ 10 ∷ []
    ≡ before ++ (digits ++ (asked ++ (32 ∷ (state ++ (32 ∷ (next ++ (32 ∷ (outputs ++ 10 ∷ []))))))))
pieces before digits asked state next outputs = grind (arith, append_assoc)

-- what is written of a row
pub row_written : (place : ℕ) (g asked drawn : Lcg) (before t1 t2 t3 t4 t5 t6 t7 : List ℕ) (next : ℕ)
    → t1 ≡ before ++ number_digits (place % 4) → t2 ≡ t1 ++ (characters 5 g).0 → asked ≡ (characters 5 g).1
    → t3 ≡ t2 ++ (32 ∷ state_name (place / 4)) → next ≡ (draw 48 asked).0 → drawn ≡ (draw 48 asked).1
    → t4 ≡ t3 ++ (32 ∷ state_name next) → t5 ≡ t4 ++ 32 ∷ [] → t6 ≡ t5 ++ (characters 8 drawn).0 → t7 ≡ t6 ++ 10 ∷ []
    → t7 ≡ before ++ row_line (drawn_row place g).0
unfolding drawn_row
row_written place g asked drawn before t1 t2 t3 t4 t5 t6 t7 next w1 w2 a w3 n d w4 w5 w6 w7 = rw (w7, w6, w5, w4, w3, w2, w1, d, n, a) (
    pieces before (number_digits (place % 4)) (characters 5 g).0 (state_name (place / 4)) (state_name (draw 48 (characters 5 g).1).0)
    (characters 8 (draw 48 (characters 5 g).1).1).0)
