-- Nothing refuses plan lines that are put into a section, nor this section with them.
use Rattle.std.proofs.Common.{◌≡◌, ℕ, suc, ◌+◌, ◌<◌, ◌≤◌, Bool, true, false, ◌||◌, cond, if◌then◌else◌, nat_le, List, [], ◌∷◌, ◌++◌, codes, length, map, slice_index_or, None, Some, refl, sym, ap, subst, ◌∙◌, arith}
use Rattle.std.specs.List.{filter}
use Rattle.std.proofs.lemmas.Grind.{common_steps}
use Rattle.std.proofs.lemmas.List.{length-map}
use Rattle.std.specs.Str.{bytes_eq}
use Rattle.tsc_text.specs.Bytes.{begins_with_dot}
use Rattle.tsc_text.specs.TextLine.{TextLine, the_word}
use Rattle.tsc_net.specs.NetFault.{fault_of as net_fault}
use Rattle.blif_read.specs.Denotes.{refusal_of_plan}
use Rattle.blif_read.specs.Faults.{fault_of, has_init, has_latch_shape, is_long, latch_fault, limit, limit_in}
use Rattle.blif_read.specs.FirstFault.{fault_or, first_fault, first_fault_after}
use Rattle.blif_read.specs.LineKind.{kind_of, kind_of_word}
use Rattle.blif_read.specs.NamedText.{latches_at, latches_of, named_text}
use Rattle.blif_read.specs.PlanLines.{plan_kind, has_plan_shape}
use Rattle.blif_read.specs.Refusal.{first_refusal, refusal_of_line, refusal_of_net}
use Rattle.blif_read.specs.Seen.{is_plan, seen_of, seen_behind}
use Rattle.blif_read.specs.declared.cause.Cause.TheVariants.{LatchInit, PlanShape, WordCount}
use Rattle.tsc_text.specs.declared.which.Which.TheVariants.{NameBytes, Latches as LatchCount}
use Rattle.fault_secure.specs.Circuit.{LatchOf}
use Rattle.tsc_net.specs.NetlistOf.{named_latches, named_of}
use Rattle.blif_read.specs.declared.kinds.Kind.TheVariants.{Netlist, Unplanned}
use Rattle.blif_read.specs.declared.kinds.LineKind.{LineKind}
use Rattle.blif_read.specs.declared.kinds.LineKind.TheVariants.{PlanLine, Model, Inputs, Outputs, Names, Latch, OtherDirective, Row}
use Rattle.blif_read.specs.declared.plan_lines.PlanKind.{PlanKind}
use Rattle.blif_read.specs.declared.plan_lines.PlanKind.TheVariants.{CodeLine, GroupLine, CheckLine, StateLine, WatchLine, OtherLine}
use Rattle.blif_read.specs.declared.seen.Seen.{Seen}
use Rattle.blif_read.proofs.Counts.{few_parts}
use Rattle.blif_read.proofs.CleanLines.{no_fault_here, no_fault_later}
use Rattle.blif_read.proofs.NotRefused.{no_line_fault, no_net_fault}
use Rattle.blif_read.proofs.Scanned.{first_fault_is}
use Rattle.mapped_laws.specs.MappedLaws.{plan_words, section_net}
use Rattle.mapped_laws.proofs.PlanWords.{as_line}
use Rattle.mapped_laws.proofs.PlanRefusals.{put_plan_lines_are_allowed}
use Rattle.put_plan_laws.specs.PutPlans.{PutPlanLinesAreAllowedAsANetlist}
use Rattle.put_plan_laws.proofs.OtherFaults.{kind_by}

-- ---- the shape of plan lines is in their words

abbrev AreShaped : Bool → List (List (List ℕ)) → Type 0
AreShaped has_plan [] = Unit {0}
AreShaped has_plan (words ∷ rest) =
    (has_plan_shape (plan_kind (slice_index_or words 0 [])) has_plan (as_line words) ≡ true) × AreShaped true rest

shape_of_words : (kind : PlanKind) (has_plan : Bool) (line : TextLine) → has_plan_shape kind has_plan line ≡ has_plan_shape kind has_plan (as_line line.words)
shape_of_words CodeLine has_plan line = refl
shape_of_words GroupLine has_plan line = refl
shape_of_words CheckLine has_plan line = refl
shape_of_words StateLine has_plan line = refl
shape_of_words WatchLine has_plan line = refl
shape_of_words OtherLine has_plan line = refl

is_shaped : (b : Bool) → (if b then None else Some PlanShape) ≡ None → b ≡ true
is_shaped true e = refl
is_shaped false e = cc

-- a first word says no plan line
no_plan_word : (word : List ℕ) → is_plan (kind_of_word word) ≡ false
no_plan_word word =
    by (bytes_eq word (codes ".model")) (bytes_eq word (codes ".inputs")) (bytes_eq word (codes ".outputs")) (bytes_eq word (codes ".names"))
    (bytes_eq word (codes ".latch")) (begins_with_dot word)
  where
    by : (model inputs outputs names latch other : Bool)
        → is_plan (if model then Model else (if inputs then Inputs else (if outputs then Outputs else (if names then Names else (if latch then Latch else (if other then OtherDirective else Row)))))) ≡ false
    by true inputs outputs names latch other = refl
    by false true outputs names latch other = refl
    by false false true names latch other = refl
    by false false false true latch other = refl
    by false false false false true other = refl
    by false false false false false true = refl
    by false false false false false false = refl

-- ---- plan lines without a fault have their shape

shaped_after : (lines : List TextLine) (seen : Seen) → first_fault_after Netlist seen lines ≡ None → AreShaped seen.has_plan (plan_words lines)
shaped_after [] seen e = tt
shaped_after (line ∷ lines) seen e =
    let later = first_fault_after Netlist (seen_behind seen (kind_of line) line) lines in
    by line.is_plan (no_fault_here (fault_of Netlist seen (kind_of line) line) line later e)
    (shaped_after lines (seen_behind seen (kind_of line) line) (no_fault_later (fault_of Netlist seen (kind_of line) line) line later e))
  where
    by : (b : Bool) → fault_of Netlist seen (if b then PlanLine else kind_by line) line ≡ None
        → AreShaped (is_plan (if b then PlanLine else kind_by line) || seen.has_plan) (plan_words lines)
        → AreShaped seen.has_plan (map (λ (l : TextLine). l.words) (cond b (line ∷ filter (λ (l : TextLine). l.is_plan) lines) (filter (λ (l : TextLine). l.is_plan) lines)))
    by true none rest = (
      sym (shape_of_words (plan_kind (the_word line 0)) seen.has_plan line)
          ∙ is_shaped (has_plan_shape (plan_kind (the_word line 0)) seen.has_plan line) none,
      rest,
    )
    by false none rest = subst (λ (b : Bool). AreShaped (b || seen.has_plan) (plan_words lines)) (no_plan_word (the_word line 0)) rest

-- ---- and where they have it, no line has a fault that has none where they are passed over

few_limit : (count : ℕ) (long : Bool) → count < 64 → limit (if long then Some NameBytes else (if nat_le 32768 count then Some LatchCount else None)) ≡ None
    → limit (if long then Some NameBytes else (if nat_le 64 count then Some LatchCount else None)) ≡ None
few_limit count true few e = cc
few_limit count false few e = ap (λ (b : Bool). limit (if b then Some LatchCount else None)) below
  where
    below : nat_le 64 count ≡ false
    below = grind (arith, common_steps)

-- a latch passes no limit where there are few
few_latch : (seen : Seen) (line : TextLine) → seen.latches < 64 → latch_fault Unplanned seen line ≡ None → latch_fault Netlist seen line ≡ None
few_latch seen line few e = by (has_latch_shape line) (has_init line) (is_long (the_word line 1)) e
  where
    by : (shape init long : Bool)
        → (if shape then (if init then limit (if long then Some NameBytes else limit_in LatchCount 32768 seen.latches (the_word line 2 ∷ [])) else Some LatchInit) else Some WordCount) ≡ None
        → (if shape then (if init then limit (if long then Some NameBytes else limit_in LatchCount 64 seen.latches (the_word line 2 ∷ [])) else Some LatchInit) else Some WordCount) ≡ None
    by false init long e = cc
    by true false long e = cc
    by true true true e = cc
    by true true false e = few_limit seen.latches (is_long (the_word line 2)) few e

-- the latches of a line of this kind and of those after it
abbrev latches_on : LineKind → TextLine → List TextLine → ℕ
latches_on kind line lines = length (latches_at kind line ++ latches_of lines)

other_fault : (seen : Seen) (kind : LineKind) (line : TextLine) (lines : List TextLine) → is_plan kind ≡ false → seen.latches + latches_on kind line lines ≤ 64
    → fault_of Unplanned seen kind line ≡ None → fault_of Netlist seen kind line ≡ None
other_fault seen PlanLine line lines other few e = cc
other_fault seen Model line lines other few e = e
other_fault seen Inputs line lines other few e = e
other_fault seen Outputs line lines other few e = e
other_fault seen Names line lines other few e = e
other_fault seen Latch line lines other few e = few_latch seen line (omega arith) e
other_fault seen OtherDirective line lines other few e = e
other_fault seen Row line lines other few e = e

few_later : (seen : Seen) (kind : LineKind) (line : TextLine) (lines : List TextLine) → seen.latches + latches_on kind line lines ≤ 64
    → (seen_behind seen kind line).latches + length (latches_of lines) ≤ 64
few_later seen Latch line lines few = omega arith
few_later seen PlanLine line lines few = omega arith
few_later seen Model line lines few = omega arith
few_later seen Inputs line lines few = omega arith
few_later seen Outputs line lines few = omega arith
few_later seen Names line lines few = omega arith
few_later seen OtherDirective line lines few = omega arith
few_later seen Row line lines few = omega arith

allowed_after : (lines : List TextLine) (seen : Seen) → seen.latches + length (latches_of lines) ≤ 64 → first_fault_after Unplanned seen lines ≡ None
    → AreShaped seen.has_plan (plan_words lines) → first_fault_after Netlist seen lines ≡ None
allowed_after [] seen few e shaped = refl
allowed_after (line ∷ lines) seen few e shaped =
    let fault = fault_of Unplanned seen (kind_of line) line in
    let later = first_fault_after Unplanned (seen_behind seen (kind_of line) line) lines in
    let here = by line.is_plan few (no_fault_here fault line later e) shaped in
    ap (λ cause. fault_or cause line (first_fault_after Netlist (seen_behind seen (kind_of line) line) lines)) here.0
    ∙ allowed_after lines (seen_behind seen (kind_of line) line) (few_later seen (kind_of line) line lines few) (no_fault_later fault line later e) here.1
  where
    by : (b : Bool) → seen.latches + latches_on (if b then PlanLine else kind_by line) line lines ≤ 64
        → fault_of Unplanned seen (if b then PlanLine else kind_by line) line ≡ None
        → AreShaped seen.has_plan (map (λ (l : TextLine). l.words) (cond b (line ∷ filter (λ (l : TextLine). l.is_plan) lines) (filter (λ (l : TextLine). l.is_plan) lines)))
        → (fault_of Netlist seen (if b then PlanLine else kind_by line) line ≡ None) × AreShaped (is_plan (if b then PlanLine else kind_by line) || seen.has_plan) (plan_words lines)
    by true few none shaped = (
      ap (λ (b : Bool). if b then None else Some PlanShape) (shape_of_words (plan_kind (the_word line 0)) seen.has_plan line ∙ shaped.0),
      shaped.1,
    )
    by false few none shaped = (
      other_fault seen (kind_by line) line lines (no_plan_word (the_word line 0)) few none,
      subst (λ (b : Bool). AreShaped (b || seen.has_plan) (plan_words lines)) (sym (no_plan_word (the_word line 0))) shaped,
    )

-- ---- the section

-- a netlist has as many latches by names as its section has lines of them
latch_count : (names : List (List ℕ)) (at : ℕ) (latches : List LatchOf) → length (named_latches names at latches) ≡ length latches
latch_count names at [] = refl
latch_count names at (l ∷ latches) = ap suc (latch_count names (at + 1) latches)

as_many : (lines : List TextLine) → length (named_of (section_net lines)).latches ≡ length (latches_of lines)
as_many lines = latch_count _ _ (section_net lines).circuit.latches ∙ length-map (latches_of lines) _

few_others : (lines others : List TextLine) → first_fault Netlist lines ≡ None → (named_of (section_net lines)).latches ≡ (named_of (section_net others)).latches
    → 0 + length (latches_of others) ≤ 64
few_others lines others none same =
    let few = (few_parts Netlist lines none).latches in
    omega (arith, few, as_many lines, as_many others, ap length same)

pub put_plan_lines_are_allowed_as_a_netlist : PutPlanLinesAreAllowedAsANetlist
put_plan_lines_are_allowed_as_a_netlist lines others put =
    let seen = seen_of [] in
    let clean = no_line_fault Netlist lines put.allowed in
    let shaped : AreShaped false (plan_words lines) = shaped_after lines seen (sym (first_fault_is Netlist [] lines) ∙ clean) in
    let none : first_fault Netlist others ≡ None =
    first_fault_is Netlist [] others
    ∙ allowed_after others seen (few_others lines others clean put.names.latches) (sym (first_fault_is Unplanned [] others) ∙ no_line_fault Unplanned others put.readable)
    (subst (AreShaped false) (sym put.words) shaped) in
    ap (λ fault. first_refusal (first_refusal (refusal_of_line fault) (refusal_of_net (net_fault (named_text others)))) (refusal_of_plan Netlist others)) none
    ∙ ap (λ fault. first_refusal (refusal_of_net fault) (refusal_of_plan Netlist others)) (no_net_fault Unplanned others put.readable)
    ∙ put_plan_lines_are_allowed Unplanned lines others put
