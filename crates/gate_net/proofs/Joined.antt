-- Covers as gates: what each step adds.
use Rattle.std.proofs.Common.{◌≡◌, ℕ, zero, suc, ◌+◌, ◌-◌, ◌<◌, ◌≤◌, Bool, true, false, ◌&&◌, ◌||◌, List, ◌∷◌, length, drop, get_or, Option, None, Some, Result, Ok, Err, IfOk, refl, sym, ◌∙◌, ap, ap₂, subst, arith}
use Rattle.std.proofs.lemmas.List.{drop_more, drop_all, get_or-map, length-map}
use Rattle.tsc_bits.specs.Bits.{bit_worth, same}
use Rattle.tsc_cover.specs.Cover.{Literal, accepts, literals, row_matches, some_row_matches}
use Rattle.tsc_cover.specs.Row.{literal, literals_of, literals_of_each}
use Rattle.tsc_cover.specs.declared.rows.Row01.{Row01}
use Rattle.gate_net.specs.declared.line.Line.{Line}
use Rattle.gate_net.specs.Signal.{Signal, value}
use Rattle.gate_net.specs.Gates.{GateNetwork, AreLines, line_value, line_values}
use Rattle.gate_net.specs.Growth.{Grows, IsAdded, Computes}
use Rattle.gate_net.specs.Joined.{value_or, IsLineOrNone, ComputesOr}
use Rattle.gate_net.proofs.Kept.{grows_twice, line_kept, value_kept, values_kept}
use Rattle.tsc_bits.proofs.Bools.{or-false}

-- a line that may be there is kept
pub or_kept : (empty : Bool) (a b : GateNetwork) (x s : ℕ → Bool) (made : Option Line) → Grows a b → IsLineOrNone a made → value_or empty b x s made ≡ value_or empty a x s made
or_kept empty a b x s None h within = refl
or_kept empty a b x s (Some line) h within = value_kept a b x s line h within

pub or_line_kept : (a b : GateNetwork) (made : Option Line) → Grows a b → IsLineOrNone a made → IsLineOrNone b made
or_line_kept a b None h within = tt
or_line_kept a b (Some line) h within = line_kept a b line h within

and_assoc : (a b c : Bool) → ((a && b) && c) ≡ (a && (b && c))
and_assoc true b c = refl
and_assoc false b c = refl

or_assoc : (a b c : Bool) → ((a || b) || c) ≡ (a || (b || c))
or_assoc true b c = refl
or_assoc false b c = refl

-- the first literal of a row over so many pins
pub literal_head : (n m care value : ℕ) → n ≡ m + 1 → literals n care value ≡ literal (bit_worth m care) (bit_worth m value) ∷ literals m care value
literal_head zero m care value e = absurd (omega arith)
literal_head (suc k) m care value e =
    let same_place : k ≡ m = omega arith in
    ap (λ (j : ℕ). literal (bit_worth j care) (bit_worth j value) ∷ literals j care value) same_place

-- the bits of lines from a place on, seen in a network that grew
pub bits_from : (start here : GateNetwork) (x s : ℕ → Bool) (pins : List Line) (pin : ℕ) (d : Line) → Grows start here → AreLines start pins → pin < length pins
    → drop pin (line_values start x s pins) ≡ line_value here x s (get_or pins pin d) ∷ drop (pin + 1) (line_values start x s pins)
bits_from start here x s pins pin d grows within lt =
    let lt' : pin < length (line_values start x s pins) = omega (arith, length-map pins (line_value start x s)) in
    drop_more (line_values start x s pins) pin (line_value start x s d) lt'
    ∙ ap (λ b. b ∷ drop (pin + 1) (line_values start x s pins))
    (get_or-map (line_value start x s) pins pin d (line_value start x s d) lt ∙ sym (value_kept start here x s (get_or pins pin d) grows (within pin d lt)))

module _ (start here new : GateNetwork) (pins : List Line) (width : ℕ) (row : Row01) where
  -- a pin more, where what it asks is joined to what was met
  pub row_step : (pin : ℕ) (made made' : Option Line) (d : Line) (x s : ℕ → Bool) → Grows start here → AreLines start pins → length pins ≡ width → pin < width
      → value_or true new x s made' ≡ (value_or true here x s made && accepts (literal (bit_worth (width - 1 - pin) row.care) (bit_worth (width - 1 - pin) row.value)) (line_value here x s (get_or pins pin d)))
      → (value_or true new x s made' && row_matches (literals (width - (pin + 1)) row.care row.value) (drop (pin + 1) (line_values start x s pins)))
      ≡ (value_or true here x s made && row_matches (literals (width - pin) row.care row.value) (drop pin (line_values start x s pins)))
  row_step pin made made' d x s grows within sized lt e =
      let bits = line_values start x s pins in
      let left : width - (pin + 1) ≡ width - 1 - pin = omega arith in
      let head : literals (width - pin) row.care row.value ≡ literal (bit_worth (width - 1 - pin) row.care) (bit_worth (width - 1 - pin) row.value) ∷ literals (width - 1 - pin) row.care row.value
      = literal_head (width - pin) (width - 1 - pin) row.care row.value (omega arith) in
      ap (λ (n : ℕ). value_or true new x s made' && row_matches (literals n row.care row.value) (drop (pin + 1) bits)) left
      ∙ ap (λ b. b && row_matches (literals (width - 1 - pin) row.care row.value) (drop (pin + 1) bits)) e
      ∙ and_assoc (value_or true here x s made) (accepts (literal (bit_worth (width - 1 - pin) row.care) (bit_worth (width - 1 - pin) row.value)) (line_value here x s (get_or pins pin d))) (row_matches (literals (width - 1 - pin) row.care row.value) (drop (pin + 1) bits))
      ∙ ap (λ (list : List Bool). value_or true here x s made && row_matches (literal (bit_worth (width - 1 - pin) row.care) (bit_worth (width - 1 - pin) row.value) ∷ literals (width - 1 - pin) row.care row.value) list)
      (sym (bits_from start here x s pins pin d grows within (omega arith)))
      ∙ ap (λ (list : List Literal). value_or true here x s made && row_matches list (drop pin bits)) (sym head)

module _ (start here mid new : GateNetwork) (pins : List Line) (width : ℕ) (rows : List Row01) where
  -- a row more, joined to those before it
  pub rows_step : (i : ℕ) (made made' : Option Line) (line : Line) (d : Row01) (x s : ℕ → Bool) → Grows start here → AreLines start pins → IsLineOrNone here made → i < length rows
      → Computes here mid (λ y t. row_matches (literals_of width (get_or rows i d)) (line_values here y t pins)) line
      → value_or false new x s made' ≡ (value_or false mid x s made || line_value mid x s line)
      → (value_or false new x s made' || some_row_matches (literals_of_each width (drop (i + 1) rows)) (line_values start x s pins))
      ≡ (value_or false here x s made || some_row_matches (literals_of_each width (drop i rows)) (line_values start x s pins))
  rows_step i made made' line d x s grows within held lt row e =
      let bits = line_values start x s pins in
      let rest = some_row_matches (literals_of_each width (drop (i + 1) rows)) bits in
      let matches = row_matches (literals_of width (get_or rows i d)) bits in
      let one : line_value mid x s line ≡ matches = row.value x s ∙ ap (row_matches (literals_of width (get_or rows i d))) (values_kept start here x s pins grows within) in
      ap (λ b. b || rest) (e ∙ ap₂ (λ a b. a || b) (or_kept false here mid x s made row.grows held) one)
      ∙ or_assoc (value_or false here x s made) matches rest
      ∙ ap (λ (list : List Row01). value_or false here x s made || some_row_matches (literals_of_each width list) bits) (sym (drop_more rows i d lt))

-- rows of which none is left
pub rows_done : (b : Bool) (width i : ℕ) (rows : List Row01) (bits : List Bool) (goal : Bool) → length rows ≤ i → (b || some_row_matches (literals_of_each width (drop i rows)) bits) ≡ goal → b ≡ goal
rows_done b width i rows bits goal le h =
    sym (or-false b) ∙ ap (λ (list : List Row01). b || some_row_matches (literals_of_each width list) bits) (sym (drop_all i rows le)) ∙ h

-- a line that is there computes what it was to compute, where there is one
pub some_computes : (empty : Bool) (old new : GateNetwork) (bit : (ℕ → Bool) → (ℕ → Bool) → Bool) (made : Option Line) (line : Line) → ComputesOr empty old new bit made → made ≡ Some line → Computes old new bit line
some_computes empty old new bit made line h e =
    let k : ComputesOr empty old new bit (Some line) = subst (ComputesOr empty old new bit) e h in
    record { value = k.value; within = k.within; grows = k.grows }

-- a constant that was added computes what was to be computed, where there is no line
pub none_computes : {E : Type 0} (empty : Bool) (old here new : GateNetwork) (bit : (ℕ → Bool) → (ℕ → Bool) → Bool) (made : Option Line) (signal : Signal) (result : Result Line E)
    → ComputesOr empty old here bit made → made ≡ None → ((x s : ℕ → Bool) → value x s signal ≡ empty) → IfOk result (IsAdded here new signal) → IfOk result (Computes old new bit)
none_computes empty old here new bit made signal (Err error) h e same added = tt
none_computes empty old here new bit made signal (Ok line) h e same added =
    let k : ComputesOr empty old here bit None = subst (ComputesOr empty old here bit) e h in
    record { value = λ x s. ap (value x s) added.means ∙ same x s ∙ k.value x s; within = added.within; grows = grows_twice old here new h.grows added.grows }

-- all rows, once none is left
pub rows_computed : (start here : GateNetwork) (pins : List Line) (width i : ℕ) (rows : List Row01) (made : Option Line) → Grows start here → IsLineOrNone here made → length rows ≤ i
    → ((x s : ℕ → Bool) → (value_or false here x s made || some_row_matches (literals_of_each width (drop i rows)) (line_values start x s pins)) ≡ some_row_matches (literals_of_each width rows) (line_values start x s pins))
    → ComputesOr false start here (λ x s. some_row_matches (literals_of_each width rows) (line_values start x s pins)) made
rows_computed start here pins width i rows made grows within le e = record {
  value = λ x s. rows_done (value_or false here x s made) width i rows (line_values start x s pins) (some_row_matches (literals_of_each width rows) (line_values start x s pins)) le (e x s);
  within = within;
  grows = grows;
}
