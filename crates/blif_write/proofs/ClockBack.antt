-- The clock of the lines of a layout is that of its registers.
use Rattle.std.proofs.Common.{◌≡◌, ℕ, ◌+◌, ◌<◌, Bool, true, false, if◌then◌else◌, List, [], ◌∷◌, ◌++◌, length, map, refl, ap, ◌∙◌, arith, Option, None, Some}
use Rattle.std.specs.List.{list_all, flat_map, AllByRecursion as Each}
use Rattle.tsc_text.specs.TextLine.{TextLine}
use Rattle.tsc_text.specs.Written.{WrittenLine, numbered}
use Rattle.tsc_text.proofs.Written.{Both, both}
use Rattle.tsc_net.specs.Named.{Named, NamedLatch}
use Rattle.blif_read.specs.Clocks.{clock_at, clock_text, edge_of, first_latch, is_latch}
use Rattle.blif_read.specs.declared.clocks.Clock.{Clock}
use Rattle.blif_read.specs.declared.clocks.Edge.{Edge}
use Rattle.blif_read.specs.declared.clocks.Edge.TheVariants.{Rising, Falling}
use Rattle.blif_read.specs.declared.kinds.Kind.TheVariants.{Registers}
use Rattle.blif_read.specs.declared.kinds.LineKind.{LineKind}
use Rattle.blif_read.specs.declared.kinds.LineKind.TheVariants.{Latch}
use Rattle.blif_write.specs.Layout.{clocked_latch_line, node_lines, clocked_section}
use Rattle.blif_write.specs.RegisterText.{clock_words, type_word}
use Rattle.blif_write.proofs.LineKinds.{at, kind_written, AreKinds, is_no_latch, kinds-plan}
use Rattle.blif_write.proofs.ReadBack.{clocked-split}

latch-none : (k : LineKind) → is_no_latch k ≡ true → is_latch k ≡ false
latch-none Latch h = cc
latch-none _ h = refl

-- lines without a latch say nothing of it
first_latch-none : (n : ℕ) (ws : List WrittenLine) (rest : List TextLine) → AreKinds is_no_latch ws → first_latch (numbered n ws ++ rest) ≡ first_latch rest
first_latch-none n [] rest h = refl
first_latch-none n (w ∷ ws) rest h =
    let parts : Both (is_no_latch (kind_written w)) (list_all (λ v. is_no_latch (kind_written v)) ws) = both _ _ h in
    ap (λ (b : Bool). if b then Some (at n w) else first_latch (numbered (n + 1) ws ++ rest)) (latch-none (kind_written w) parts.left)
    ∙ first_latch-none (n + 1) ws rest parts.right

edge-read : (edge : Edge) → edge_of (type_word edge) ≡ edge
edge-read Rising = refl
edge-read Falling = refl

-- the line of a latch has its clock
clock-read : (clock : Option Clock) (l : NamedLatch) (n : ℕ) → clock_at (Some (at n (clocked_latch_line (clock_words clock) l))) ≡ clock
clock-read None l n = refl
clock-read (Some clock) l n = ap (λ (edge : Edge). Some (record { edge = edge; control = clock.control })) (edge-read clock.edge)

-- the first latch is that of the netlist, where it has one
first-found : (clock : List (List ℕ)) (N : Named) (plan : List WrittenLine) → Each (λ w. w.is_plan ≡ true) plan → (l : NamedLatch) (latches : List NamedLatch) → N.latches ≡ l ∷ latches
    → first_latch (numbered 1 (clocked_section clock N plan)) ≡ Some (at (4 + length plan) (clocked_latch_line clock l))
first-found clock N plan h l latches e =
    let m : ℕ = 4 + length plan in
    let nodes : List TextLine = numbered (4 + length (plan ++ map (clocked_latch_line clock) N.latches)) (flat_map node_lines N.nodes) in
    ap first_latch (clocked-split clock N plan)
    ∙ first_latch-none 4 plan (numbered m (map (clocked_latch_line clock) N.latches) ++ nodes) (kinds-plan is_no_latch refl plan h)
    ∙ ap (λ ls. first_latch (numbered m (map (clocked_latch_line clock) ls) ++ nodes)) e

-- the lines before `.end` have the clock, where there is a latch
pub clock-back : (clock : Option Clock) (N : Named) (plan : List WrittenLine) → Each (λ w. w.is_plan ≡ true) plan → (latches : List NamedLatch) → N.latches ≡ latches → 0 < length latches
    → clock_text Registers (numbered 1 (clocked_section (clock_words clock) N plan)) ≡ clock
clock-back clock N plan h [] e some = absurd (omega (arith, some))
clock-back clock N plan h (l ∷ latches) e some = ap clock_at (first-found (clock_words clock) N plan h l latches e) ∙ clock-read clock l (4 + length plan)
