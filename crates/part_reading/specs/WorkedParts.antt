-- The clocks of two sections, worked out: a register at the rising edge of `clk`, and after it one at the falling edge.
use Rattle.std.specs.Prelude.{◌≡◌, ℕ, ◌+◌, false, List, [], ◌∷◌, codes, refl, None, Some}
use Rattle.tsc_text.specs.TextLine.{TextLine}
use Rattle.blif_read.specs.Clocks.{clock_text}
use Rattle.blif_read.specs.declared.kinds.Kind.TheVariants.{AnyPlan}
use Rattle.part_reading.specs.PartClocks.{clock_line}

-- the lines of a section with one register: its inputs, and the line of its latch, which has this type
abbrev pub one_register : ℕ → List ℕ → List TextLine
one_register number edge =
    record { number = number; is_plan = false; words = codes ".inputs" ∷ codes "clk" ∷ codes "a" ∷ [] }
    ∷ record { number = number + 1; is_plan = false; words = codes ".latch" ∷ codes "a" ∷ codes "q" ∷ edge ∷ codes "clk" ∷ codes "0" ∷ [] }
    ∷ []

-- the second section's clock has another edge: the line of its first latch is refused
pub other_edge_is_refused : clock_line (clock_text AnyPlan (one_register 1 (codes "re"))) (one_register 5 (codes "fe")) ≡ Some 6
other_edge_is_refused = refl

-- it has the same one
pub same_clock_is_taken : clock_line (clock_text AnyPlan (one_register 1 (codes "re"))) (one_register 5 (codes "re")) ≡ None
same_clock_is_taken = refl

-- the first section has no register
pub first_clock_is_taken : clock_line None (one_register 5 (codes "fe")) ≡ None
first_clock_is_taken = refl
