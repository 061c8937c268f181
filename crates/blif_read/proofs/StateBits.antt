-- The bits of a state's word, and the words that are left.
use Rattle.std.proofs.Common.{◌≡◌, ℕ, Bool, true, false, ◌||◌, ◌&&◌, ◌==◌, List, [], ◌∷◌, ◌++◌, length, arith, refl, ap, subst, ◌∙◌, if◌then◌else◌}
use Rattle.std.proofs.lemmas.Grind.{common_steps}
use Rattle.tsc_bits.specs.Bits.{bits_of, bit_worth}
use Rattle.tsc_cover.specs.Cover.{Free, Wants, literals}
use Rattle.tsc_cover.specs.Text.{is_row_text, literal_of, literals_of_text}
use Rattle.tsc_text.specs.TextLine.{TextLine}
use Rattle.blif_read.specs.PlanLines.{is_bits}
use Rattle.blif_read.specs.PlanText.{bits_of_word, kind_in_plan, state_at, state_words}
use Rattle.blif_read.specs.Planned.{AreWide}
use Rattle.blif_read.proofs.RowWalk.{and_left, and_right}

-- bits are characters of a row
pub bits_are_row : (word : List ℕ) → is_bits word ≡ true → is_row_text word ≡ true
bits_are_row [] e = refl
bits_are_row (c ∷ word) e =
    let here : (c == 48 || c == 49) ≡ true = and_left (c == 48 || c == 49) (is_bits word) e in
    let rest : is_row_text word ≡ true = bits_are_row word (and_right (c == 48 || c == 49) (is_bits word) e) in
    ap (λ b. (b || c == 45) && is_row_text word) here ∙ rest

-- the literal of a bit wants it
wanted : (c : ℕ) → (c == 48 || c == 49) ≡ true → literal_of c ≡ Wants (c == 49)
wanted c e = by (c == 48) (c == 49) refl refl e
  where
    not_both : (c == 48) ≡ true → (c == 49) ≡ true → ⊥
    not_both e f =
        let m : c ≡ 48 = grind (arith, common_steps) in
        let n : c ≡ 49 = grind (arith, common_steps) in
        omega arith

    by : (a b : Bool) → (c == 48) ≡ a → (c == 49) ≡ b → (a || b) ≡ true → (if a then Wants false else (if b then Wants true else Free)) ≡ Wants b
    by true false f g e = refl
    by true true f g e = absurd (not_both f g)
    by false true f g e = refl
    by false false f g e = cc

-- what a kept literal wants is its bit
value_wanted : (care value wanted : Bool) → (if care then Wants value else Free) ≡ Wants wanted → value ≡ wanted
value_wanted true value wanted e = cc
value_wanted false value wanted e = cc

pub bits_kept : (word : List ℕ) (care value : ℕ) → is_bits word ≡ true → literals (length word) care value ≡ literals_of_text word
    → bits_of (length word) value ≡ bits_of_word word
bits_kept [] care value b e = refl
bits_kept (c ∷ word) care value b e =
    let here : (c == 48 || c == 49) ≡ true = and_left (c == 48 || c == 49) (is_bits word) b in
    let first : (if bit_worth (length word) care then Wants (bit_worth (length word) value) else Free) ≡ literal_of c = cc in
    let rest : literals (length word) care value ≡ literals_of_text word = cc in
    let bit : bit_worth (length word) value ≡ (c == 49) =
    value_wanted (bit_worth (length word) care) (bit_worth (length word) value) (c == 49) (first ∙ wanted c here) in
    let more : bits_of (length word) value ≡ bits_of_word word = bits_kept word care value (and_right (c == 48 || c == 49) (is_bits word) b) rest in
    ap (λ x. x ∷ bits_of (length word) value) bit ∙ ap (λ l. (c == 49) ∷ l) more

-- words of one width, of which some stand in front
wide_front : (width : ℕ) (front rest : List (List ℕ)) → AreWide width (front ++ rest) → AreWide width front × AreWide width rest
wide_front width [] rest h = (tt, h)
wide_front width (word ∷ front) rest h =
    let more = wide_front width front rest h.1 in
    ((h.0, more.0), more.1)

pub wide_here : (width : ℕ) (here rest : List TextLine) (line : TextLine) → here ≡ line ∷ rest → AreWide width (state_words here)
    → AreWide width (state_at (kind_in_plan line) line) × AreWide width (state_words rest)
wide_here width here rest line is a =
    wide_front width (state_at (kind_in_plan line) line) (state_words rest) (subst (λ l. AreWide width (state_words l)) is a)
