-- The clocks of the latches of a section are those of the same section at later numbers.
use Rattle.std.proofs.Common.{◌≡◌, ℕ, Bool, true, false, ◌&&◌, ◌||◌, List, [], ◌∷◌, refl, ap, ap₂, ◌∙◌}
use Rattle.tsc_text.specs.Joined.{moved, moved_line}
use Rattle.tsc_text.specs.TextLine.{TextLine}
use Rattle.tsc_net.proofs.NameLemmas.{bytes_eq_refl}
use Rattle.blif_read.specs.Clocks.{control_word, edge_word, has_clock}
use Rattle.mapping_answers.specs.MappedClocks.{has_other_clock, is_latch_line, is_other_clock, latch_lines, some_other_clock, with_latch}

-- a clock is no other one than itself
own_clock : (line : TextLine) → is_other_clock line line ≡ false
own_clock line = rw (bytes_eq_refl (edge_word line), bytes_eq_refl (control_word line)) (by (has_clock line && has_clock line))
  where
    by : (b : Bool) → (b && false) ≡ false
    by true = refl
    by false = refl

none_is_other : (lines : List TextLine) → some_other_clock lines lines ≡ false
none_is_other [] = refl
none_is_other (line ∷ lines) = ap₂ (λ a b. a || b) (own_clock line) (none_is_other lines)

-- no latch of a section has another clock than itself
pub own_clocks : (lines : List TextLine) → has_other_clock lines lines ≡ false
own_clocks lines = none_is_other (latch_lines lines)

latches_moved : (more : ℕ) (lines : List TextLine) → latch_lines (moved more lines) ≡ moved more (latch_lines lines)
latches_moved more [] = refl
latches_moved more (line ∷ lines) = ap (with_latch (is_latch_line line) (moved_line more line)) (latches_moved more lines) ∙ by (is_latch_line line)
  where
    by : (b : Bool) → with_latch b (moved_line more line) (moved more (latch_lines lines)) ≡ moved more (with_latch b line (latch_lines lines))
    by true = refl
    by false = refl

others_moved : (more : ℕ) (lines others : List TextLine) → some_other_clock lines (moved more others) ≡ some_other_clock lines others
others_moved more [] others = refl
others_moved more (line ∷ lines) [] = refl
others_moved more (line ∷ lines) (other ∷ others) = ap (λ b. is_other_clock line other || b) (others_moved more lines others)

-- a clock doesn't depend on the number of its line
pub clocks_moved : (more : ℕ) (lines others : List TextLine) → has_other_clock lines (moved more others) ≡ has_other_clock lines others
clocks_moved more lines others = ap (some_other_clock (latch_lines lines)) (latches_moved more others) ∙ others_moved more (latch_lines lines) (latch_lines others)
