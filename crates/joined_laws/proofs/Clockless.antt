-- Lines of latches without a clock: no section is refused for them, and a netlist written without a clock has no others.
use Rattle.std.proofs.Common.{◌≡◌, ℕ, ◌+◌, Bool, true, false, not, ◌&&◌, if◌then◌else◌, List, [], ◌∷◌, ◌++◌, map, Option, None, Some, IfSome, refl, ap, ap₂, ◌∙◌}
use Rattle.std.specs.List.{list_all, list_any, flat_map}
use Rattle.std.proofs.lemmas.List.Folds.{list_all-append}
use Rattle.tsc_text.specs.Joined.{moved, moved_line}
use Rattle.tsc_text.specs.TextLine.{TextLine}
use Rattle.tsc_text.specs.Written.{WrittenLine, numbered}
use Rattle.tsc_text.proofs.Written.{Both, both}
use Rattle.tsc_net.specs.Named.{Named, NamedLatch}
use Rattle.blif_read.specs.Clocks.{clock_at, clock_text, control_word, edge_of, edge_word, first_latch, first_misfit, has_clock, is_latch, is_misfit, misfit_of, used_clock_at, uses_net}
use Rattle.blif_read.specs.Faults.{has_latch_shape}
use Rattle.blif_read.specs.LineKind.{kind_of}
use Rattle.blif_read.specs.declared.clocks.Clock.{Clock}
use Rattle.blif_read.specs.declared.kinds.Kind.TheVariants.{AnyPlan}
use Rattle.blif_read.specs.declared.kinds.LineKind.{LineKind}
use Rattle.blif_read.specs.declared.kinds.LineKind.TheVariants.{Latch}
use Rattle.blif_write.specs.Layout.{check_lines, head_lines, latch_line, node_lines, plan_lines, section_with, state_line}
use Rattle.blif_write.specs.NamedPlan.{NamedPlan}
use Rattle.blif_write.proofs.LineKinds.{AreKinds, at, is_no_latch, kind_written, kinds-nodes, kinds-plan}
use Rattle.blif_write.proofs.Told.{Marked, Marked-append, Marked-map, checks-marked}
use Rattle.part_reading.specs.PartClocks.{are_other_clocks, clock_line, line_or, other_clock_at}

-- the line isn't that of a latch with a clock
abbrev pub has_no_clock : TextLine → Bool
has_no_clock line = not (is_latch (kind_of line) && has_clock line)

-- so are all lines
abbrev pub AreClockless : List TextLine → Type 0
AreClockless lines = list_all has_no_clock lines ≡ true

-- ---- lines that are numbered higher

pub clockless_moved : (more : ℕ) (lines : List TextLine) → list_all has_no_clock (moved more lines) ≡ list_all has_no_clock lines
clockless_moved more [] = refl
clockless_moved more (line ∷ lines) = ap (λ b. has_no_clock line && b) (clockless_moved more lines)

-- have the same clock
pub clock_moved : (more : ℕ) (lines : List TextLine) → clock_text AnyPlan (moved more lines) ≡ clock_text AnyPlan lines
clock_moved more [] = refl
clock_moved more (line ∷ lines) = by (is_latch (kind_of line)) (clock_moved more lines)
  where
    by : (b : Bool) → clock_at (first_latch (moved more lines)) ≡ clock_at (first_latch lines)
        → clock_at (if b then Some (moved_line more line) else first_latch (moved more lines)) ≡ clock_at (if b then Some line else first_latch lines)
    by true later = refl
    by false later = later

-- ---- what refuses a clock doesn't refuse these

unclocked : (latch clocked : Bool) → not (latch && clocked) ≡ true → latch ≡ true → clocked ≡ false
unclocked true true h e = cc
unclocked true false h e = refl
unclocked false clocked h e = cc

first_clockless : (lines : List TextLine) → AreClockless lines → IfSome (first_latch lines) (λ first. has_clock first ≡ false)
first_clockless [] h = tt
first_clockless (line ∷ lines) h =
    let parts : Both (has_no_clock line) (list_all has_no_clock lines) = both _ _ h in
    by (is_latch (kind_of line)) refl parts.left (first_clockless lines parts.right)
  where
    by : (b : Bool) → is_latch (kind_of line) ≡ b → has_no_clock line ≡ true → IfSome (first_latch lines) (λ first. has_clock first ≡ false)
        → IfSome (if b then Some line else first_latch lines) (λ first. has_clock first ≡ false)
    by true is none later = unclocked (is_latch (kind_of line)) (has_clock line) none is
    by false is none later = later

fits : (latch shape clocked first same : Bool) → not (latch && clocked) ≡ true → first ≡ false
    → (latch && (shape && not (if clocked then same else not first))) ≡ false
fits false shape clocked first same h e = refl
fits true shape true first same h e = cc
fits true false false first same h e = refl
fits true true false true same h e = cc
fits true true false false same h e = refl

no_misfit : (first : TextLine) → has_clock first ≡ false → (lines : List TextLine) → AreClockless lines → first_misfit first lines ≡ None
no_misfit first e [] h = refl
no_misfit first e (line ∷ lines) h =
    let parts : Both (has_no_clock line) (list_all has_no_clock lines) = both _ _ h in
    let fit : is_misfit first line ≡ false = fits (is_latch (kind_of line)) (has_latch_shape line) (has_clock line) (has_clock first) _ parts.left e in
    ap (λ b. if b then Some line.number else first_misfit first lines) fit ∙ no_misfit first e lines parts.right

no_other : (seen : Option Clock) → are_other_clocks seen None ≡ false
no_other None = refl
no_other (Some clock) = refl

pub no_clock_line : (seen : Option Clock) (lines : List TextLine) → AreClockless lines → clock_line seen lines ≡ None
no_clock_line seen lines h = by (first_latch lines) (first_clockless lines h)
  where
    by : (first : Option TextLine) → IfSome first (λ line. has_clock line ≡ false)
        → line_or (misfit_of first lines) (line_or (used_clock_at first lines) (other_clock_at seen first)) ≡ None
    by None none = refl
    by (Some first) e =
        let unread : used_clock_at (Some first) lines ≡ None =
        ap (λ b. if (b && list_any (uses_net (control_word first)) lines) then Some first.number else None) e in
        let clock : clock_at (Some first) ≡ None =
        ap (λ b. if b then Some (record { edge = edge_of (edge_word first); control = control_word first }) else None) e in
        let same : other_clock_at seen (Some first) ≡ None =
        ap (λ c. if are_other_clocks seen c then Some first.number else None) clock ∙ ap (λ b. if b then Some first.number else None) (no_other seen) in
        ap (λ l. line_or l (line_or (used_clock_at (Some first) lines) (other_clock_at seen (Some first)))) (no_misfit first e lines h)
        ∙ (ap (λ l. line_or l (other_clock_at seen (Some first))) unread ∙ same)

-- ---- a netlist written without a clock

no_latch : (kind : LineKind) (clocked : Bool) → is_no_latch kind ≡ true → not (is_latch kind && clocked) ≡ true
no_latch Latch clocked h = cc
no_latch _ clocked h = refl

other_lines : (ws : List WrittenLine) → AreKinds is_no_latch ws → list_all (λ w. has_no_clock (at 0 w)) ws ≡ true
other_lines [] h = refl
other_lines (w ∷ ws) h =
    let parts : Both (is_no_latch (kind_written w)) (list_all (λ v. is_no_latch (kind_written v)) ws) = both _ _ h in
    ap₂ (λ a b. a && b) (no_latch (kind_written w) (has_clock (at 0 w)) parts.left) (other_lines ws parts.right)

latch_lines : (latches : List NamedLatch) → list_all (λ w. has_no_clock (at 0 w)) (map latch_line latches) ≡ true
latch_lines [] = refl
latch_lines (latch ∷ latches) = latch_lines latches

both_lines : (first second : List WrittenLine) → list_all (λ w. has_no_clock (at 0 w)) first ≡ true → list_all (λ w. has_no_clock (at 0 w)) second ≡ true
    → list_all (λ w. has_no_clock (at 0 w)) (first ++ second) ≡ true
both_lines first second h k = list_all-append (λ w. has_no_clock (at 0 w)) first second ∙ ap₂ (λ a b. a && b) h k

numbered_clockless : (n : ℕ) (ws : List WrittenLine) → list_all has_no_clock (numbered n ws) ≡ list_all (λ w. has_no_clock (at 0 w)) ws
numbered_clockless n [] = refl
numbered_clockless n (w ∷ ws) = ap (λ b. has_no_clock (at 0 w) && b) (numbered_clockless (n + 1) ws)

-- the lines of a plan are plan lines
pub plan-marked : (P : NamedPlan) → Marked (plan_lines P)
plan-marked P =
    (refl, Marked-append (check_lines P.code P) (map state_line P.states) (checks-marked P.code P) (Marked-map state_line P.states (λ _. refl)))

pub written_clockless : (N : Named) (plan : List WrittenLine) → Marked plan → AreClockless (numbered 1 (section_with N plan))
written_clockless N plan planned =
    numbered_clockless 1 (section_with N plan)
    ∙ both_lines ((head_lines N ++ plan) ++ map latch_line N.latches) (flat_map node_lines N.nodes)
    (both_lines (head_lines N ++ plan) (map latch_line N.latches)
    (both_lines (head_lines N) plan refl (other_lines plan (kinds-plan is_no_latch refl plan planned))) (latch_lines N.latches))
    (other_lines (flat_map node_lines N.nodes) (kinds-nodes is_no_latch refl refl N.nodes))
