-- The clocks of netlists one after another: those that have registers with a clock have the same one.
use Rattle.std.specs.Prelude.{◌≡◌, ℕ, Bool, true, false, not, ◌&&◌, if◌then◌else◌, List, All, Option, None, Some, IfSome}
use Rattle.std.specs.Str.{bytes_eq}
use Rattle.tsc_text.specs.TextLine.{TextLine}
use Rattle.blif_read.specs.Clocks.{clock_at, clock_misfit, first_latch, used_clock}
use Rattle.blif_read.specs.declared.clocks.Clock.{Clock}
use Rattle.blif_read.specs.declared.clocks.Edge.{Edge}
use Rattle.blif_read.specs.declared.clocks.Edge.TheVariants.{Rising, Falling}
use Rattle.module_join.specs.JointNet.{PlannedOf}

-- two edges are the same
abbrev pub is_same_edge : Edge → Edge → Bool
is_same_edge Rising Rising = true
is_same_edge Falling Falling = true
is_same_edge _ _ = false

-- two clocks have the same edge and the same control
abbrev pub is_same_clock : Clock → Clock → Bool
is_same_clock clock other = is_same_edge clock.edge other.edge && bytes_eq clock.control other.control

-- there are two clocks, and they differ
abbrev pub are_other_clocks : Option Clock → Option Clock → Bool
are_other_clocks (Some clock) (Some other) = not (is_same_clock clock other)
are_other_clocks _ _ = false

-- the first of two numbers of lines, if there is one
abbrev pub line_or : Option ℕ → Option ℕ → Option ℕ
line_or None later = later
line_or (Some line) later = Some line

-- the number of this line, the first of a latch, if there is one, where its clock differs from the one seen before
abbrev pub other_clock_at : Option Clock → Option TextLine → Option ℕ
other_clock_at seen None = None
other_clock_at seen (Some first) = if are_other_clocks seen (clock_at (Some first)) then Some first.number else None

-- the number of the line for which the clock of a section is refused, after a clock seen in earlier ones: the first line whose clock doesn't fit
-- that of the section's first latch; else that first latch's line, where the control is given or read by a line, or where the clock is another one
abbrev pub clock_line : Option Clock → List TextLine → Option ℕ
clock_line seen lines = line_or (clock_misfit lines) (line_or (used_clock lines) (other_clock_at seen (first_latch lines)))

-- a part has no clock, or this one
abbrev pub IsClockedBy : Option Clock → PlannedOf → Type 0
IsClockedBy clock part = IfSome part.clock (λ own. clock ≡ Some own)

-- so have all parts
abbrev pub AreClockedBy : Option Clock → List PlannedOf → Type 0
AreClockedBy clock parts = All (IsClockedBy clock) parts
