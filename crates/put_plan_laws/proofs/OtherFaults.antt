-- Where plan lines are passed over, whether nothing refuses a section is in the words of its other lines.
use Rattle.std.proofs.Common.{◌≡◌, ℕ, ◌+◌, Bool, true, false, not, cond, if◌then◌else◌, List, [], ◌∷◌, map, Option, None, Some, refl, sym, ap, ap₂, ◌∙◌, arith}
use Rattle.std.specs.List.{filter}
use Rattle.tsc_text.specs.TextLine.{TextLine, the_word}
use Rattle.tsc_net.specs.NetFault.{fault_of as net_fault}
use Rattle.blif_read.specs.Faults.{fault_of, row_fault}
use Rattle.blif_read.specs.FirstFault.{fault_or, first_fault, first_fault_after}
use Rattle.blif_read.specs.LineKind.{kind_of_word}
use Rattle.blif_read.specs.NamedText.{named_text}
use Rattle.blif_read.specs.Refusal.{first_refusal, refusal_of_line, refusal_of_net}
use Rattle.blif_read.specs.Seen.{seen_of, seen_behind}
use Rattle.blif_read.specs.declared.cause.Cause.{Cause}
use Rattle.blif_read.specs.declared.cause.LineFault.{LineFault}
use Rattle.blif_read.specs.declared.kinds.Kind.TheVariants.{Unplanned}
use Rattle.blif_read.specs.declared.kinds.LineKind.{LineKind}
use Rattle.blif_read.specs.declared.kinds.LineKind.TheVariants.{PlanLine, Model, Inputs, Outputs, Names, Latch, OtherDirective, Row}
use Rattle.blif_read.specs.declared.seen.OpenCover.{OpenCover}
use Rattle.blif_read.specs.declared.seen.Seen.{Seen}
use Rattle.blif_read.proofs.NotRefused.{no_line_fault, no_net_fault}
use Rattle.blif_read.proofs.Scanned.{first_fault_is}
use Rattle.put_plan_laws.specs.PutPlans.{other_words, PutPlanLinesArePassedOver}
use Rattle.put_plan_laws.proofs.OtherLines.{as_other, bare_of, same_text}

-- ---- whether there is a fault

abbrev is_fine : Option LineFault → Bool
is_fine None = true
is_fine (Some fault) = false

abbrev fine_and : Option Cause → Bool → Bool
fine_and None later = later
fine_and (Some cause) later = false

fine_or : (cause : Option Cause) (line : TextLine) (later : Option LineFault) → is_fine (fault_or cause line later) ≡ fine_and cause (is_fine later)
fine_or None line later = refl
fine_or (Some cause) line later = refl

fine_none : (fault : Option LineFault) → is_fine fault ≡ true → fault ≡ None
fine_none None e = refl
fine_none (Some fault) e = cc

-- ---- what is seen, but for a plan

abbrev unplanned : Seen → Seen
unplanned seen = record {
  has_model = seen.has_model;
  has_plan = false;
  cover = seen.cover;
  inputs = seen.inputs;
  outputs = seen.outputs;
  nodes = seen.nodes;
  latches = seen.latches;
}

plus_none : (n : ℕ) → n + 0 ≡ n
plus_none n = omega arith

abbrev seen_with : Seen → ℕ → ℕ → ℕ → ℕ → Seen
seen_with seen inputs outputs nodes latches = record {
  has_model = seen.has_model;
  has_plan = false;
  cover = seen.cover;
  inputs = inputs;
  outputs = outputs;
  nodes = nodes;
  latches = latches;
}

-- a plan line changes nothing else
plan_line_passed : (seen : Seen) (line : TextLine) → unplanned (seen_behind seen PlanLine line) ≡ unplanned seen
plan_line_passed seen line =
    ap₂ (λ inputs outputs. seen_with seen inputs outputs (seen.nodes + 0) (seen.latches + 0)) (plus_none seen.inputs) (plus_none seen.outputs)
    ∙ ap₂ (λ nodes latches. seen_with seen seen.inputs seen.outputs nodes latches) (plus_none seen.nodes) (plus_none seen.latches)

seen_behind_other : (kind : LineKind) (seen : Seen) (line : TextLine)
    → unplanned (seen_behind seen kind line) ≡ unplanned (seen_behind (unplanned seen) kind (as_other line.words))
seen_behind_other PlanLine seen line = refl
seen_behind_other Model seen line = refl
seen_behind_other Inputs seen line = refl
seen_behind_other Outputs seen line = refl
seen_behind_other Names seen line = refl
seen_behind_other Latch seen line = refl
seen_behind_other OtherDirective seen line = refl
seen_behind_other Row seen line = refl

-- ---- the fault of a line

row_fault_of_words : (cover : Option OpenCover) (line : TextLine) → row_fault cover line ≡ row_fault cover (as_other line.words)
row_fault_of_words None line = refl
row_fault_of_words (Some cover) line = refl

fault_of_words : (kind : LineKind) (seen : Seen) (line : TextLine)
    → fault_of Unplanned seen kind line ≡ fault_of Unplanned (unplanned seen) kind (as_other line.words)
fault_of_words PlanLine seen line = refl
fault_of_words Model seen line = refl
fault_of_words Inputs seen line = refl
fault_of_words Outputs seen line = refl
fault_of_words Names seen line = refl
fault_of_words Latch seen line = refl
fault_of_words OtherDirective seen line = refl
fault_of_words Row seen line = row_fault_of_words seen.cover line

-- ---- line by line

-- the kind of a line that is no plan line
abbrev pub kind_by : TextLine → LineKind
kind_by line = kind_of_word (the_word line 0)

same_fault : (kind : LineKind) (line : TextLine) (seen other : Seen) → unplanned seen ≡ unplanned other
    → fault_of Unplanned seen kind line ≡ fault_of Unplanned other kind (as_other line.words)
same_fault kind line seen other e =
    fault_of_words kind seen line
    ∙ ap (λ s. fault_of Unplanned s kind (as_other line.words)) e
    ∙ sym (fault_of_words kind other (as_other line.words))

same_behind : (kind : LineKind) (line : TextLine) (seen other : Seen) → unplanned seen ≡ unplanned other
    → unplanned (seen_behind seen kind line) ≡ unplanned (seen_behind other kind (as_other line.words))
same_behind kind line seen other e =
    seen_behind_other kind seen line
    ∙ ap (λ s. unplanned (seen_behind s kind (as_other line.words))) e
    ∙ sym (seen_behind_other kind other (as_other line.words))

fine_from_bare : (lines : List TextLine) (seen other : Seen) → unplanned seen ≡ unplanned other
    → is_fine (first_fault_after Unplanned seen lines) ≡ is_fine (first_fault_after Unplanned other (bare_of lines))
fine_from_bare [] seen other e = refl
fine_from_bare (line ∷ lines) seen other e =
    by line.is_plan (fine_from_bare lines (seen_behind seen PlanLine line) other (plan_line_passed seen line ∙ e))
    (fine_from_bare lines (seen_behind seen (kind_by line) line) (seen_behind other (kind_by line) (as_other line.words)) (same_behind (kind_by line) line seen other e))
  where
    by : (b : Bool)
        → is_fine (first_fault_after Unplanned (seen_behind seen PlanLine line) lines) ≡ is_fine (first_fault_after Unplanned other (bare_of lines))
        → is_fine (first_fault_after Unplanned (seen_behind seen (kind_by line) line) lines)
        ≡ is_fine (first_fault_after Unplanned (seen_behind other (kind_by line) (as_other line.words)) (bare_of lines))
        → is_fine (fault_or (fault_of Unplanned seen (if b then PlanLine else kind_by line) line) line (first_fault_after Unplanned (seen_behind seen (if b then PlanLine else kind_by line) line) lines))
        ≡ is_fine (first_fault_after Unplanned other (map as_other (map (λ (l : TextLine). l.words) (cond (not b) (line ∷ filter (λ (l : TextLine). not l.is_plan) lines) (filter (λ (l : TextLine). not l.is_plan) lines)))))
    by true passed rest = passed
    by false passed rest =
        fine_or (fault_of Unplanned seen (kind_by line) line) line (first_fault_after Unplanned (seen_behind seen (kind_by line) line) lines)
        ∙ ap₂ fine_and (same_fault (kind_by line) line seen other e) rest
        ∙ sym (fine_or (fault_of Unplanned other (kind_by line) (as_other line.words)) (as_other line.words)
        (first_fault_after Unplanned (seen_behind other (kind_by line) (as_other line.words)) (bare_of lines)))

-- ---- the section

no_fault_of_others : (bare others : List TextLine) → other_words others ≡ other_words bare → first_fault Unplanned bare ≡ None → first_fault Unplanned others ≡ None
no_fault_of_others bare others e none =
    let seen = seen_of [] in
    let there : is_fine (first_fault_after Unplanned seen others) ≡ is_fine (first_fault_after Unplanned seen bare) =
    fine_from_bare others seen seen refl
    ∙ ap (λ words. is_fine (first_fault_after Unplanned seen (map as_other words))) e
    ∙ sym (fine_from_bare bare seen seen refl) in
    first_fault_is Unplanned [] others
    ∙ fine_none (first_fault_after Unplanned seen others) (there ∙ ap is_fine (sym (first_fault_is Unplanned [] bare) ∙ none))

pub put_plan_lines_are_passed_over : PutPlanLinesArePassedOver
put_plan_lines_are_passed_over bare others e allowed =
    ap (λ fault. first_refusal (first_refusal (refusal_of_line fault) (refusal_of_net (net_fault (named_text others)))) None)
    (no_fault_of_others bare others e (no_line_fault Unplanned bare allowed))
    ∙ ap (λ fault. first_refusal (refusal_of_net fault) None) (ap net_fault (same_text others bare e) ∙ no_net_fault Unplanned bare allowed)
