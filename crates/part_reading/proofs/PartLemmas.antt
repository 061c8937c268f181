-- The sections of lines one after another, by the places at which they begin; and what was read of them so far.
use Rattle.std.proofs.Common.{◌≡◌, ℕ, suc, ◌+◌, ◌-◌, ◌<◌, ◌≤◌, Bool, true, false, cond, not, List, [], ◌∷◌, ◌++◌, All, length, map, drop, Option, None, Some, Result, Ok, Err, IfOk, OnOk, refl, sym, ap, ap₂, subst, ◌∙◌, inl, inr, arith, append_assoc, append-nil, length-append, length-drop, one-add}
use Rattle.std.specs.Prelude.{take}
use Rattle.std.specs.List.{position_or_len, slice_range}
use Rattle.std.proofs.lemmas.Bool.{cases_lt, lt-ltb, le-ltb}
use Rattle.std.proofs.lemmas.List.{drop-drop, drop_all, length-map}
use Rattle.std.proofs.lemmas.List.Elements.{All-nil, All-push}
use Rattle.tsc_text.specs.TextLine.{TextLine}
use Rattle.tsc_text.specs.Section.{is_end_line}
use Rattle.tsc_text.specs.declared.section.End.TheVariants.{Blif as BlifEnd}
use Rattle.tsc_text.specs.declared.section.Section.{Section}
use Rattle.blif_read.specs.Clocks.{clock_text}
use Rattle.blif_read.specs.declared.clocks.Clock.{Clock}
use Rattle.blif_read.specs.declared.kinds.Kind.TheVariants.{AnyPlan}
use Rattle.module_join.specs.JoinParts.{parts_as}
use Rattle.module_join.specs.JointNet.{clock_or, joint_clock}
use Rattle.module_join.specs.declared.part.Part.{Part}
use Rattle.refusals.specs.declared.refusal.Refusal.{Refusal}
use Rattle.refusals.specs.declared.limit.Limit.TheVariants.{Parts}
use Rattle.refusals.specs.declared.text_refusal.TextRefusal.{TextRefusal}
use Rattle.refusals.specs.declared.text_refusal.TextRefusal.TheVariants.{TooMany}
use Rattle.text_sections.specs.Denoted.{lines_from, section_from}
use Rattle.text_sections.specs.Refused.{IsRefusedBy, first_of}
use Rattle.text_sections.proofs.SectionLemmas.{behind_within, refused_first}
use Rattle.part_reading.specs.PartClocks.{AreClockedBy}
use Rattle.part_reading.specs.PartRefusal.{count_refusal, has_too_many_parts, part_refusal, parts_refusal, sections_refusal}
use Rattle.part_reading.specs.Parts.{IsPartOf, parts_of, planned_of, sections_behind, sections_of, with_line}
use Rattle.part_reading.proofs.OneClock.{clock_push, one_clock}

-- ---- the first section of some lines, and those behind it

-- the place of the first end line
abbrev place : List TextLine → ℕ
place lines = position_or_len (is_end_line BlifEnd) lines

-- the sections of lines: the lines before the first end line, and the sections of those behind it
abbrev IsCut : List TextLine → Type 0
IsCut lines = sections_behind lines ≡ take (place lines) lines ∷ sections_behind (drop (place lines + 1) lines)

longer : (line : TextLine) (lines : List TextLine) (p : ℕ)
    → take (1 + p) (line ∷ lines) ∷ sections_behind (drop ((1 + p) + 1) (line ∷ lines)) ≡ (line ∷ take p lines) ∷ sections_behind (drop (p + 1) lines)
longer line lines p =
    let taken : 1 + p ≡ suc p = one-add p in
    let dropped : (1 + p) + 1 ≡ suc (p + 1) = omega arith in
    ap₂ (λ n m. take n (line ∷ lines) ∷ sections_behind (drop m (line ∷ lines))) taken dropped

cut : (line : TextLine) (lines : List TextLine) → IsCut (line ∷ lines)
cut line [] = by (is_end_line BlifEnd line)
  where
    by : (b : Bool) → with_line b line [] ≡ take (cond (not b) (1 + 0) 0) (line ∷ []) ∷ sections_behind (drop (cond (not b) (1 + 0) 0 + 1) (line ∷ []))
    by true = refl
    by false = refl
cut line (next ∷ lines) = by (is_end_line BlifEnd line) (cut next lines)
  where
    by : (b : Bool) → IsCut (next ∷ lines)
        → with_line b line (sections_behind (next ∷ lines))
        ≡ take (cond (not b) (1 + place (next ∷ lines)) 0) (line ∷ next ∷ lines) ∷ sections_behind (drop (cond (not b) (1 + place (next ∷ lines)) 0 + 1) (line ∷ next ∷ lines))
    by true later = refl
    by false later = ap (with_line false line) later ∙ sym (longer line (next ∷ lines) (place (next ∷ lines)))

some_cut : (lines : List TextLine) → 0 < length lines → IsCut lines
some_cut [] some = absurd (omega (arith, some))
some_cut (line ∷ lines) some = cut line lines

-- ---- the same by places

-- the lines between a place and the one so many further on are as many first ones from that place on
pub range_is : (lines : List TextLine) (from count : ℕ) → slice_range lines from (from + count) ≡ take count (drop from lines)
range_is lines from count = let e : (from + count) - from ≡ count = omega arith in ap (λ n. take n (drop from lines)) e

-- the lines behind a section
behind_is : (lines : List TextLine) (from : ℕ)
    → drop (section_from lines from).next lines ≡ drop (place (drop from lines) + 1) (drop from lines)
behind_is lines from =
    let p = place (drop from lines) in
    let past = from + p in
    let both : drop (p + 1) (drop from lines) ≡ drop (from + (p + 1)) lines = drop-drop (p + 1) from lines in
    elim (cases_lt past (length lines)) [
      | inl there ↦
          (let same : past + 1 ≡ from + (p + 1) = omega arith in
          ap (λ b. drop (cond b (past + 1) past) lines) (lt-ltb past (length lines) there) ∙ (ap (λ n. drop n lines) same ∙ sym both))
      | inr none ↦
          (ap (λ b. drop (cond b (past + 1) past) lines) (le-ltb past (length lines) none)
          ∙ (drop_all past lines none ∙ sym (both ∙ drop_all (from + (p + 1)) lines (omega (arith, none)))))
    ]

-- the sections from a place on at which one begins
pub next_section : (lines : List TextLine) (from : ℕ) → from < length lines
    → sections_behind (drop from lines) ≡ lines_from lines from ∷ sections_behind (drop (section_from lines from).next lines)
next_section lines from there =
    some_cut (drop from lines) (omega (arith, there, length-drop from lines))
    ∙ ap₂ (λ (section rest : List TextLine). section ∷ sections_behind rest) (sym (range_is lines from (place (drop from lines)))) (sym (behind_is lines from))

-- and all sections, of which there is one at least
pub first_section_is : (lines : List TextLine) → sections_of lines ≡ lines_from lines 0 ∷ sections_behind (drop (section_from lines 0).next lines)
first_section_is [] = refl
first_section_is (line ∷ lines) = next_section (line ∷ lines) 0 (omega arith)

-- it ends behind its place
pub next_rises : (lines : List TextLine) (from : ℕ) (section : Section) → section ≡ section_from lines from → from < length lines → from < section.next
next_rises lines from section is there =
    let past = from + place (drop from lines) in
    let P : Section → Type 0 = λ s. from < s.next in
    let Q : Bool → Type 0 = λ b. from < cond b (past + 1) past in
    subst P (sym is)
    (elim (cases_lt past (length lines)) [
      | inl below ↦ subst Q (sym (lt-ltb past (length lines) below)) (omega arith)
      | inr none ↦ subst Q (sym (le-ltb past (length lines) none)) (omega (arith, none, there))
    ])

-- ---- how many there are

pub none_left : (lines : List TextLine) (from : ℕ) → length lines ≤ from → sections_behind (drop from lines) ≡ []
none_left lines from past = ap sections_behind (drop_all from lines past)

pub one_more : (lines : List TextLine) (from : ℕ) (section : Section) → section ≡ section_from lines from → (count : ℕ) → from < length lines
    → count + length (sections_behind (drop from lines)) ≡ length (sections_behind lines)
    → (count + 1) + length (sections_behind (drop section.next lines)) ≡ length (sections_behind lines)
one_more lines from section is count there counted =
    let P : Section → Type 0 = λ s. (count + 1) + length (sections_behind (drop s.next lines)) ≡ length (sections_behind lines) in
    let e = ap length (next_section lines from there) in subst P (sym is) (omega (arith, counted, e))

-- too many of them are refused
too_many : (lines : List TextLine) → 64 < length (sections_behind lines) → has_too_many_parts lines ≡ true
too_many [] many = absurd (omega (arith, many))
too_many (line ∷ lines) many = lt-ltb 64 (length (sections_behind (line ∷ lines))) many

few_enough : (lines : List TextLine) → length (sections_behind lines) ≤ 64 → has_too_many_parts lines ≡ false
few_enough [] few = refl
few_enough (line ∷ lines) few = le-ltb 64 (length (sections_behind (line ∷ lines))) few

pub refused_count : (lines : List TextLine) → 64 < length (sections_behind lines) → parts_refusal lines ≡ Some (TooMany Parts)
refused_count lines many = ap (λ b. first_of (count_refusal b) (sections_refusal None (sections_of lines))) (too_many lines many)

-- where there are at most 64 sections, lines as parts are refused exactly as their sections are
pub refused_parts : (lines : List TextLine) → length (sections_behind lines) ≤ 64 → parts_refusal lines ≡ sections_refusal None (sections_of lines)
refused_parts lines few = ap (λ b. first_of (count_refusal b) (sections_refusal None (sections_of lines))) (few_enough lines few)

pub few_parts : (lines : List TextLine) (parts : List Part) → parts ≡ parts_of lines → length (sections_behind lines) ≤ 64 → length parts ≤ 64
few_parts [] parts are few = let e = ap length are in omega (arith, e)
few_parts (line ∷ lines) parts are few =
    let e = ap length are in
    let n = length-map (sections_behind (line ∷ lines)) planned_of in
    omega (arith, e, n, few)

-- ---- what was read of the sections before a place

-- the clock that parts have
abbrev seen_in : List Part → Option Clock
seen_in parts = joint_clock (parts_as parts)

-- the netlists of the sections before a place: what is left are the sections from there on
pub record AreReadTo (lines : List TextLine) (from : ℕ) (parts : List Part) : Type 0 where
  pub within : from ≤ length lines
  pub exact : parts_of lines ≡ parts ++ map planned_of (sections_behind (drop from lines))
  pub refused : sections_refusal None (sections_of lines) ≡ sections_refusal (seen_in parts) (sections_behind (drop from lines))
  pub planned : All (IsPartOf lines) parts
  pub some : 0 < length parts

module _ (lines : List TextLine) (from : ℕ) (parts more : List Part) (sections : List (List TextLine))
    (cut_so : sections ≡ lines_from lines from ∷ sections_behind (drop (section_from lines from).next lines))
    (added : more ≡ parts ++ planned_of (lines_from lines from) ∷ []) where
  abbrev here : List TextLine
  here = lines_from lines from

  abbrev rest : List (List TextLine)
  rest = sections_behind (drop (section_from lines from).next lines)

  one_read : (given : List Part) → given ≡ parts ++ map planned_of sections → given ≡ more ++ map planned_of rest
  one_read given exact =
      exact
      ∙ (ap (λ s. parts ++ map planned_of s) cut_so
      ∙ (sym (append_assoc parts (planned_of here ∷ []) (map planned_of rest))
      ∙ ap (λ l. l ++ map planned_of rest) (sym added)))

  -- the clock that was seen so far
  seen_more : seen_in more ≡ clock_or (seen_in parts) (clock_text AnyPlan here)
  seen_more = ap seen_in added ∙ clock_push parts (planned_of here)

  one_allowed : part_refusal (seen_in parts) here ≡ None → sections_refusal (seen_in parts) sections ≡ sections_refusal (seen_in more) rest
  one_allowed none =
      ap (sections_refusal (seen_in parts)) cut_so
      ∙ (ap (λ r. first_of r (sections_refusal (clock_or (seen_in parts) (clock_text AnyPlan here)) rest)) none
      ∙ ap (λ c. sections_refusal c rest) (sym seen_more))

  pub one_refused : (given : Refusal) → IsRefusedBy (part_refusal (seen_in parts) here) given → IsRefusedBy (sections_refusal (seen_in parts) sections) given
  one_refused given refused =
      let P : Option TextRefusal → Type 0 = λ r. IsRefusedBy r given in
      subst P (ap (sections_refusal (seen_in parts)) (sym cut_so))
      (refused_first (part_refusal (seen_in parts) here) (sections_refusal (clock_or (seen_in parts) (clock_text AnyPlan here)) rest) given refused)

  one_planned : All (IsPartOf lines) parts → IsPartOf lines (planned_of here) → All (IsPartOf lines) more
  one_planned are is =
      let one : Part = planned_of here in
      subst (All (IsPartOf lines)) (sym added) (All-push (IsPartOf lines) parts one are is)

-- where there is no part yet, no clock was seen
unseen : (parts : List Part) → parts ≡ [] → None ≡ seen_in parts
unseen parts none = ap seen_in (sym none)

-- the first section was read
pub first_read : (lines : List TextLine) (next : ℕ) (parts more : List Part) → next ≡ (section_from lines 0).next → next ≤ length lines → parts ≡ []
    → more ≡ parts ++ planned_of (lines_from lines 0) ∷ [] → part_refusal (joint_clock (parts_as parts)) (lines_from lines 0) ≡ None
    → IsPartOf lines (planned_of (lines_from lines 0)) → AreReadTo lines next more
first_read lines next parts more at within none added allowed is =
    let P : ℕ → Type 0 = λ n. n ≤ length lines → AreReadTo lines n more in
    let begun : parts_of lines ≡ parts ++ map planned_of (sections_of lines) = ap (λ (l : List Part). l ++ parts_of lines) (sym none) in
    let empty : All (IsPartOf lines) parts = subst (All (IsPartOf lines)) (sym none) (All-nil (IsPartOf lines)) in
    let made : P (section_from lines 0).next = λ inside. record {
      within = inside;
      exact = one_read lines 0 parts more (sections_of lines) (first_section_is lines) added (parts_of lines) begun;
      refused =
          ap (λ c. sections_refusal c (sections_of lines)) (unseen parts none)
          ∙ one_allowed lines 0 parts more (sections_of lines) (first_section_is lines) added allowed;
      planned = one_planned lines 0 parts more (sections_of lines) (first_section_is lines) added empty is;
      some = (let e = ap length added in omega (arith, e, length-append parts (planned_of (lines_from lines 0) ∷ [])));
    } in
    subst P (sym at) made within

-- a further one was
pub next_read : (lines : List TextLine) (from : ℕ) (section : Section) (parts more : List Part) → from < length lines → section ≡ section_from lines from
    → AreReadTo lines from parts → more ≡ parts ++ planned_of (lines_from lines from) ∷ []
    → part_refusal (joint_clock (parts_as parts)) (lines_from lines from) ≡ None
    → IsPartOf lines (planned_of (lines_from lines from)) → AreReadTo lines section.next more
next_read lines from section parts more there at are added allowed is =
    let P : Section → Type 0 = λ s. AreReadTo lines s.next more in
    let cut_so = next_section lines from there in
    let sections = sections_behind (drop from lines) in
    let made : P (section_from lines from) = record {
      within = behind_within lines from (section_from lines from) refl (omega (arith, there));
      exact = one_read lines from parts more sections cut_so added (parts_of lines) are.exact;
      refused = are.refused ∙ one_allowed lines from parts more sections cut_so added allowed;
      planned = one_planned lines from parts more sections cut_so added are.planned is;
      some = (let e = ap length added in omega (arith, e, length-append parts (planned_of (lines_from lines from) ∷ [])));
    } in
    subst P (sym at) made

-- a further one is refused
pub next_refused : (lines : List TextLine) (from : ℕ) (parts : List Part) (given : Refusal) → from < length lines → AreReadTo lines from parts
    → IsRefusedBy (part_refusal (joint_clock (parts_as parts)) (lines_from lines from)) given → IsRefusedBy (sections_refusal None (sections_of lines)) given
next_refused lines from parts given there are refused =
    let P : Option TextRefusal → Type 0 = λ r. IsRefusedBy r given in
    let more : List Part = parts ++ planned_of (lines_from lines from) ∷ [] in
    subst P (sym are.refused) (one_refused lines from parts more (sections_behind (drop from lines)) (next_section lines from there) refl given refused)

-- the first one is
pub first_refused : (lines : List TextLine) (parts : List Part) (given : Refusal) → parts ≡ []
    → IsRefusedBy (part_refusal (joint_clock (parts_as parts)) (lines_from lines 0)) given → IsRefusedBy (sections_refusal None (sections_of lines)) given
first_refused lines parts given none refused =
    let P : Option Clock → Type 0 = λ c. IsRefusedBy (sections_refusal c (sections_of lines)) given in
    let more : List Part = parts ++ planned_of (lines_from lines 0) ∷ [] in
    subst P (sym (unseen parts none)) (one_refused lines 0 parts more (sections_of lines) (first_section_is lines) refl given refused)

-- nothing is left: all were read
module _ (lines : List TextLine) (from : ℕ) (parts : List Part) (past : length lines ≤ from) (are : AreReadTo lines from parts) where
  pub all_read : parts ≡ parts_of lines
  all_read = sym (are.exact ∙ (ap (λ s. parts ++ map planned_of s) (none_left lines from past) ∙ append-nil parts))

  pub all_allowed : sections_refusal None (sections_of lines) ≡ None
  all_allowed = are.refused ∙ ap (sections_refusal (seen_in parts)) (none_left lines from past)

-- parts that nothing refuses have one clock
pub all_clocked : (lines : List TextLine) (read : Result (List Part) Refusal) → IfOk read (λ parts. parts ≡ parts_of lines)
    → OnOk read (sections_refusal None (sections_of lines) ≡ None) → IfOk read (λ parts. AreClockedBy (joint_clock (parts_as parts)) (parts_as parts))
all_clocked lines (Err given) are allowed = tt
all_clocked lines (Ok parts) are allowed =
    let P : List Part → Type 0 = λ ps. AreClockedBy (joint_clock (parts_as ps)) (parts_as ps) in
    subst P (sym are) (one_clock None (sections_of lines) allowed)
