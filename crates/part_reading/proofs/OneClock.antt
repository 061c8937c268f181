-- Parts of which nothing is refused have one clock.
use Rattle.std.proofs.Common.{◌≡◌, ℕ, Bool, true, false, not, ◌&&◌, List, [], ◌∷◌, ◌++◌, map, Option, None, Some, IfSome, refl, sym, subst, ap, ap₂, ◌∙◌}
use Rattle.std.specs.Prelude.{if◌then◌else◌}
use Rattle.std.specs.Str.{bytes_eq}
use Rattle.std.proofs.lemmas.List.Elements.{All-cons, All-nil}
use Rattle.tsc_text.specs.TextLine.{TextLine}
use Rattle.tsc_net.proofs.NameLemmas.{bytes_eq_same}
use Rattle.blif_read.specs.Clocks.{clock_at, clock_misfit, clock_text, first_latch, used_clock}
use Rattle.blif_read.specs.Denotes.{refusal}
use Rattle.blif_read.specs.RegisterFault.{clock_refusal}
use Rattle.blif_read.specs.declared.clocks.Clock.{Clock}
use Rattle.blif_read.specs.declared.clocks.Edge.{Edge}
use Rattle.blif_read.specs.declared.clocks.Edge.TheVariants.{Rising, Falling}
use Rattle.blif_read.specs.declared.kinds.Kind.TheVariants.{AnyPlan}
use Rattle.module_join.specs.JoinParts.{parts_as, planned_as}
use Rattle.module_join.specs.JointNet.{clock_or, joint_clock}
use Rattle.module_join.specs.declared.part.Part.{Part}
use Rattle.text_sections.specs.Refused.{section_refusal}
use Rattle.text_sections.proofs.SectionLemmas.{none_first, none_later}
use Rattle.part_reading.specs.PartClocks.{AreClockedBy, IsClockedBy, are_other_clocks, clock_line, is_same_clock, is_same_edge, line_or, other_clock_at}
use Rattle.part_reading.specs.PartRefusal.{part_clock_refusal, part_refusal, sections_refusal}
use Rattle.part_reading.specs.Parts.{planned_of}

-- ---- two clocks that are the same

same_edge : (edge other : Edge) → is_same_edge edge other ≡ true → edge ≡ other
same_edge Rising Rising e = refl
same_edge Rising Falling e = cc
same_edge Falling Rising e = cc
same_edge Falling Falling e = refl

abbrev with_clock : Edge → List ℕ → Clock
with_clock edge control = record { edge = edge; control = control }

same_clock : (clock other : Clock) → is_same_clock clock other ≡ true → clock ≡ other
same_clock clock other e = by (is_same_edge clock.edge other.edge) refl e
  where
    by : (b : Bool) → is_same_edge clock.edge other.edge ≡ b → (b && bytes_eq clock.control other.control) ≡ true → clock ≡ other
    by true edges controls = ap₂ with_clock (same_edge clock.edge other.edge edges) (bytes_eq_same clock.control other.control controls)
    by false edges controls = cc

-- ---- the clock of parts

clock_or_assoc : (one two three : Option Clock) → clock_or (clock_or one two) three ≡ clock_or one (clock_or two three)
clock_or_assoc None two three = refl
clock_or_assoc (Some clock) two three = refl

clock_or_none : (clock : Option Clock) → clock_or clock None ≡ clock
clock_or_none None = refl
clock_or_none (Some clock) = refl

-- one part more at the end
pub clock_push : (parts : List Part) (part : Part) → joint_clock (parts_as (parts ++ part ∷ [])) ≡ clock_or (joint_clock (parts_as parts)) part.clock
clock_push [] part = clock_or_none part.clock
clock_push (first ∷ parts) part =
    ap (clock_or first.clock) (clock_push parts part) ∙ sym (clock_or_assoc first.clock (joint_clock (parts_as parts)) part.clock)

-- ---- a section of which nothing is refused

line_none : (first later : Option ℕ) → line_or first later ≡ None → later ≡ None
line_none None later e = e
line_none (Some line) later e = cc

no_clock_line : (line : Option ℕ) → section_refusal AnyPlan (clock_refusal line) ≡ None → line ≡ None
no_clock_line None e = refl
no_clock_line (Some line) e = cc

-- its clock is none, or the one that was seen
seen_clock : (seen : Option Clock) (first : Option TextLine) → other_clock_at seen first ≡ None
    → (later : Option Clock) → IfSome (clock_at first) (λ own. clock_or seen (clock_or (clock_at first) later) ≡ Some own)
seen_clock seen None e later = tt
seen_clock seen (Some first) e later = by seen (clock_at (Some first)) e
  where
    by : (seen own : Option Clock) → (if are_other_clocks seen own then Some first.number else None) ≡ None
        → IfSome own (λ clock. clock_or seen (clock_or own later) ≡ Some clock)
    by seen None none = tt
    by None (Some own) none = refl
    by (Some clock) (Some own) none = same (is_same_clock clock own) refl none
      where
        same : (b : Bool) → is_same_clock clock own ≡ b → (if not b then Some first.number else None) ≡ None → Some clock ≡ Some own
        same true is none = ap Some (same_clock clock own is)
        same false is none = cc

clocked_part : (seen : Option Clock) (section : List TextLine) → part_refusal seen section ≡ None
    → (later : Option Clock) → IsClockedBy (clock_or seen (clock_or (clock_text AnyPlan section) later)) (planned_as (planned_of section))
clocked_part seen section e later =
    let refused : section_refusal AnyPlan (part_clock_refusal seen section) ≡ None =
    none_later (section_refusal AnyPlan (refusal AnyPlan section)) (section_refusal AnyPlan (part_clock_refusal seen section)) e in
    let line : clock_line seen section ≡ None = no_clock_line (clock_line seen section) refused in
    let other : other_clock_at seen (first_latch section) ≡ None =
    line_none (used_clock section) (other_clock_at seen (first_latch section))
    (line_none (clock_misfit section) (line_or (used_clock section) (other_clock_at seen (first_latch section))) line) in
    seen_clock seen (first_latch section) other later

-- ---- sections of which nothing is refused, after a clock seen in earlier ones

pub one_clock : (seen : Option Clock) (sections : List (List TextLine)) → sections_refusal seen sections ≡ None
    → AreClockedBy (clock_or seen (joint_clock (parts_as (map planned_of sections)))) (parts_as (map planned_of sections))
one_clock seen [] e = All-nil (IsClockedBy (clock_or seen None))
one_clock seen (section ∷ sections) e =
    let own = clock_text AnyPlan section in
    let later = joint_clock (parts_as (map planned_of sections)) in
    let first = part_refusal seen section in
    let rest = sections_refusal (clock_or seen own) sections in
    let P : Option Clock → Type 0 = λ clock. AreClockedBy clock (parts_as (map planned_of sections)) in
    All-cons (IsClockedBy (clock_or seen (clock_or own later))) (planned_as (planned_of section)) (parts_as (map planned_of sections))
    (clocked_part seen section (none_first first rest e) later)
    (subst P (clock_or_assoc seen own later) (one_clock (clock_or seen own) sections (none_later first rest e)))
