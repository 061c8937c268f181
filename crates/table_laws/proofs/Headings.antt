-- Lines that nothing refuses: no line has a fault, they state how many inputs and outputs there are, and their names fit.
use Rattle.std.proofs.Common.{◌≡◌, ℕ, ◌≤◌, Bool, true, false, ◌&&◌, if◌then◌else◌, List, [], ◌∷◌, ◌++◌, Option, Some, None, refl, sym, ap, subst, arith, append_assoc}
use Rattle.std.specs.Option.{option_map, is_some}
use Rattle.std.proofs.lemmas.Bool.{false≢true}
use Rattle.std.proofs.lemmas.List.{append-nil}
use Rattle.tsc_text.specs.TextLine.{TextLine}
use Rattle.table_lines.specs.FirstFault.{first_fault_behind}
use Rattle.table_lines.specs.LineFaults.{number_in}
use Rattle.table_lines.specs.declared.cause.LineFault.{LineFault}
use Rattle.table_lines.proofs.LineFacts.{no_fault}
use Rattle.pla_read.specs.Selections.{count_in, has_line, line_of}
use Rattle.pla_read.specs.Faults.{fault_behind, first_fault}
use Rattle.pla_read.specs.Refusal.{first_refusal, heading_refusal, last_number, line_refusal, refusal, wrong_names_in}
use Rattle.pla_read.specs.Survey.{survey_of, IsFewBits, IsWithin}
use Rattle.pla_read.specs.declared.kinds.LineKind.{LineKind}
use Rattle.pla_read.specs.declared.kinds.LineKind.TheVariants.{Inputs, Outputs}
use Rattle.pla_read.specs.declared.error.PlaError.{PlaError}
use Rattle.pla_read.specs.declared.error.PlaError.TheVariants.{Header}
use Rattle.pla_read.proofs.Surveyed.{within_push}

-- ---- the counts keep their limits behind each line

within_behind : (lines before : List TextLine) → first_fault_behind fault_behind before lines ≡ None → IsWithin (survey_of before) → IsWithin (survey_of (before ++ lines))
within_behind [] before e within = subst (λ list. IsWithin (survey_of list)) (sym (append-nil before)) within
within_behind (line ∷ lines) before e within =
    let parts = no_fault (fault_behind before line) line (first_fault_behind fault_behind (before ++ line ∷ []) lines) e in
    subst (λ list. IsWithin (survey_of list)) (append_assoc before (line ∷ []) lines)
    (within_behind lines (before ++ line ∷ []) parts.1 (within_push before line parts.0 within))

lines_within : (lines : List TextLine) → first_fault lines ≡ None → IsWithin (survey_of lines)
lines_within lines e = within_behind lines [] e (record { few_inputs = tt; few_outputs = tt; few_rows = omega arith })

-- ---- what the lines state

-- the first line of a kind states this number
pub record IsCount (kind : LineKind) (lines : List TextLine) : Type 0 where
  pub count : ℕ
  pub is : count_in kind lines ≡ Some count
  pub some : 1 ≤ count
  pub few : count ≤ 64

stated : (kind : LineKind) (lines : List TextLine) → IsFewBits (count_in kind lines) → has_line kind lines ≡ true → IsCount kind lines
stated kind lines few has = by (line_of kind lines) refl few has
  where
    by : (o : Option TextLine) → line_of kind lines ≡ o → IsFewBits (option_map number_in o) → is_some o ≡ true → IsCount kind lines
    by None found few e = absurd (false≢true e)
    by (Some line) found few e = record { count = number_in line; is = ap (option_map number_in) found; some = few.0; few = few.1 }

-- nothing refuses the lines, as it is taken apart
pub record IsAllowed (lines : List TextLine) : Type 0 where
  pub sound : first_fault lines ≡ None
  pub inputs : IsCount Inputs lines
  pub outputs : IsCount Outputs lines
  pub names : wrong_names_in lines ≡ None

both_pass : (fault : Option LineFault) (heading : Option PlaError) → first_refusal (option_map line_refusal fault) heading ≡ None → (fault ≡ None) × (heading ≡ None)
both_pass None heading e = (refl, e)
both_pass (Some fault) heading e = cc

heading_parts : (a b : Bool) (wrong : Option ℕ) (last : ℕ) → (if a && b then option_map Header wrong else Some (Header last)) ≡ None
    → (a ≡ true) × (b ≡ true) × (wrong ≡ None)
heading_parts true true None last e = (refl, refl, refl)
heading_parts true true (Some line) last e = cc
heading_parts true false wrong last e = cc
heading_parts false b wrong last e = cc

-- lines that aren't refused have no fault, state their inputs and outputs, and give no wrong names
pub allowed_parts : (lines : List TextLine) → refusal lines ≡ None → IsAllowed lines
allowed_parts lines e =
    let parts = both_pass (first_fault lines) (heading_refusal lines) e in
    let heading = heading_parts (has_line Inputs lines) (has_line Outputs lines) (wrong_names_in lines) (last_number lines) parts.1 in
    let within = lines_within lines parts.0 in
    record {
      sound = parts.0;
      inputs = stated Inputs lines within.few_inputs heading.0;
      outputs = stated Outputs lines within.few_outputs heading.1;
      names = heading.2;
    }
