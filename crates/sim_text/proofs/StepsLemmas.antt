-- The step lines of a text.
use Rattle.std.proofs.Common.{◌≡◌, ℕ, zero, suc, ◌<◌, ◌==◌, Bool, true, false, if◌then◌else◌, List, [], ◌∷◌, length, map, get_or, All, Option, None, Some, refl, sym, ap, ◌∙◌, arith}
use Rattle.std.proofs.lemmas.List.{get_or-map, length-map}
use Rattle.std.proofs.lemmas.Option.{none-some}
use Rattle.tsc_text.specs.TextLine.{TextLine, no_line, the_word}
use Rattle.sim_text.specs.StepLines.{bit_of, is_step_word, is_step_line, first_misshapen, step_bits, all_steps}

-- ---- where no line is misshapen each is a step's

if_none : (b : Bool) (rest : Option ℕ) (number : ℕ) → (if b then rest else Some number) ≡ None → (b ≡ true) × (rest ≡ None)
if_none true rest number none = (refl, none)
if_none false rest number none = absurd (none-some number (sym none))

pub shaped_at : (inputs : ℕ) (lines : List TextLine) (i : ℕ) → first_misshapen inputs lines ≡ None → i < length lines → is_step_line inputs (get_or lines i no_line) ≡ true
shaped_at inputs [] i shaped inside = absurd (omega arith)
shaped_at inputs (line ∷ lines) zero shaped inside = (if_none (is_step_line inputs line) (first_misshapen inputs lines) line.number shaped).0
shaped_at inputs (line ∷ lines) (suc i) shaped inside =
    shaped_at inputs lines i (if_none (is_step_line inputs line) (first_misshapen inputs lines) line.number shaped).1 (omega arith)

module _ (inputs : ℕ) (line : TextLine) (is : is_step_line inputs line ≡ true) where
  is_word : is_step_word inputs (the_word line 0) ≡ true
  is_word = grind arith

-- the bits of a word
some_picked : (n : ℕ) (xs ys : List Bool) → 0 < n → (if n == 0 then xs else ys) ≡ ys
some_picked n xs ys some = let e : (n == 0) ≡ false = grind arith in ap (λ (b : Bool). if b then xs else ys) e

module _ (line : TextLine) where
  word_length : (inputs : ℕ) → 0 < inputs → is_step_word inputs (the_word line 0) ≡ true → length (the_word line 0) ≡ inputs
  word_length inputs some is = grind arith

  some_bits_of : (inputs : ℕ) → 0 < inputs → step_bits inputs line ≡ map bit_of (the_word line 0)
  some_bits_of inputs some = some_picked inputs [] (map bit_of (the_word line 0)) some

  length-step : (inputs : ℕ) → is_step_word inputs (the_word line 0) ≡ true → length (step_bits inputs line) ≡ inputs
  length-step zero is = refl
  length-step (suc n) is = ap length (some_bits_of (suc n) (omega arith)) ∙ (length-map (the_word line 0) bit_of ∙ word_length (suc n) (omega arith) is)

-- each step has as many bits as there are inputs
pub all_sized : (inputs : ℕ) (lines : List TextLine) → first_misshapen inputs lines ≡ None → All (λ (bits : List Bool). length bits ≡ inputs) (all_steps inputs lines)
all_sized inputs lines shaped i d inside =
    let h : i < length lines = omega (arith, length-map lines (step_bits inputs)) in
    ap length (get_or-map (step_bits inputs) lines i no_line d h)
    ∙ length-step (get_or lines i no_line) inputs (is_word inputs (get_or lines i no_line) (shaped_at inputs lines i shaped h))
