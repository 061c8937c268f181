-- A netlist whose plan lists its states is read alike where a plan may list none.
use Rattle.std.proofs.Common.{◌≡◌, ℕ, zero, suc, ◌+◌, Bool, true, false, not, ◌||◌, ◌==◌, if◌then◌else◌, nat_le, List, [], ◌∷◌, ◌++◌, length, Option, None, Some, refl, sym, ap, ◌∙◌, arith}
use Rattle.std.specs.Option.{unwrap_or}
use Rattle.std.proofs.lemmas.Grind.{common_steps}
use Rattle.std.proofs.lemmas.List.{length-map}
use Rattle.tsc_text.specs.Bytes.{bad_line}
use Rattle.tsc_text.specs.Lines.{lines_of}
use Rattle.tsc_text.specs.TextLine.{TextLine, the_word}
use Rattle.tsc_text.specs.declared.which.Which.TheVariants.{NameBytes, Latches as LatchCount}
use Rattle.tsc_net.specs.NetFault.{fault_of as net_fault}
use Rattle.tsc_net.specs.NetlistOf.{NetlistOf, netlist_of}
use Rattle.blif_read.specs.Clocks.{clock_misfit, first_latch, is_latch, misfit_of}
use Rattle.blif_read.specs.Denotes.{plan_at, plan_text, refusal, refusal_of_plan}
use Rattle.blif_read.specs.Faults.{fault_behind, fault_of, has_init, has_latch_shape, is_long, latch_fault, limit, limit_in}
use Rattle.blif_read.specs.FirstFault.{fault_or, first_fault, first_fault_behind}
use Rattle.blif_read.specs.LineKind.{kind_of, kind_of_word}
use Rattle.blif_read.specs.NamedText.{latches_at, latches_of, named_text}
use Rattle.blif_read.specs.PlanFault.{first_unknown, is_empty, is_right, head_refusal, name_refusal, plan_refusal, shape_refusal}
use Rattle.blif_read.specs.PlanLines.{has_any_shape, has_plan_shape, plan_kind}
use Rattle.blif_read.specs.PlanText.{code_in, code_line, is_watch_line, kind_in_plan, seen_net, state_words, watch_lines, weight_of}
use Rattle.blif_read.specs.Refusal.{first_refusal as first_of_section, netlist_refusal, refusal_of_line, refusal_of_net}
use Rattle.blif_read.specs.RegisterFault.{any_plan_refusal, clock_refusal, fits_registers, lists_states, register_refusal_at, stateless_misfit}
use Rattle.blif_read.specs.Seen.{seen_of}
use Rattle.blif_read.specs.declared.cause.Cause.{Cause}
use Rattle.blif_read.specs.declared.cause.Cause.TheVariants.{LatchInit, PlanShape, WordCount}
use Rattle.blif_read.specs.declared.cause.LineFault.{LineFault}
use Rattle.blif_read.specs.declared.error.BlifError.{BlifError}
use Rattle.blif_read.specs.declared.error.BlifError.TheVariants.{PlanShape as PlanShapeAt}
use Rattle.blif_read.specs.declared.kinds.Kind.TheVariants.{AnyPlan, Netlist}
use Rattle.blif_read.specs.declared.kinds.LineKind.{LineKind}
use Rattle.blif_read.specs.declared.kinds.LineKind.TheVariants.{PlanLine, Model, Inputs, Outputs, Names, Latch, OtherDirective, Row}
use Rattle.blif_read.specs.declared.plan_lines.PlanKind.{PlanKind}
use Rattle.blif_read.specs.declared.plan_lines.PlanKind.TheVariants.{CodeLine, GroupLine, CheckLine, StateLine, WatchLine, OtherLine}
use Rattle.blif_read.specs.declared.seen.Seen.{Seen}
use Rattle.blif_read.proofs.NotRefused.{no_line_fault, no_net_fault}
use Rattle.blif_read.proofs.PlanMade.{keeps_all, HasFit}
use Rattle.blif_read.proofs.RuleWalk.{count_no}
use Rattle.text_sections.specs.Denoted.{first_any_plan, first_lines, first_plan, no_plan}
use Rattle.text_sections.specs.Refused.{byte_refusal, first_refusal, left_over, lines_refusal, refusal_from, section_refusal, text_refusal}
use Rattle.text_sections.proofs.SectionLemmas.{allowed_both, none_first, none_later}

-- ---- line by line

-- a count below 64 is below 32,768
no_limit : (count : ℕ) (long : Bool) → limit (if long then Some NameBytes else (if nat_le 64 count then Some LatchCount else None)) ≡ None
    → limit (if long then Some NameBytes else (if nat_le 32768 count then Some LatchCount else None)) ≡ None
no_limit count true e = cc
no_limit count false e = by (nat_le 64 count) refl e
  where
    more : nat_le 64 count ≡ false → nat_le 32768 count ≡ false
    more f = grind (arith, common_steps)

    by : (b : Bool) → nat_le 64 count ≡ b → limit (if b then Some LatchCount else None) ≡ None → limit (if nat_le 32768 count then Some LatchCount else None) ≡ None
    by true is e = cc
    by false is e = ap (λ b. limit (if b then Some LatchCount else None)) (more is)

-- a latch that has no fault where there are at most 64 has none where there are at most 32,768
pub any_latch : (seen : Seen) (line : TextLine) → latch_fault Netlist seen line ≡ None → latch_fault AnyPlan seen line ≡ None
any_latch seen line e = by (has_latch_shape line) (has_init line) (is_long (the_word line 1)) e
  where
    by : (shape init long : Bool)
        → (if shape then (if init then limit (if long then Some NameBytes else limit_in LatchCount 64 seen.latches (the_word line 2 ∷ [])) else Some LatchInit) else Some WordCount) ≡ None
        → (if shape then (if init then limit (if long then Some NameBytes else limit_in LatchCount 32768 seen.latches (the_word line 2 ∷ [])) else Some LatchInit) else Some WordCount) ≡ None
    by false init long e = cc
    by true false long e = cc
    by true true true e = cc
    by true true false e = no_limit seen.latches (is_long (the_word line 2)) e

-- a plan line that has its shape has it where something may be watched
any_shape : (k : PlanKind) (has_plan : Bool) (line : TextLine) → has_plan_shape k has_plan line ≡ true → has_any_shape k has_plan line ≡ true
any_shape WatchLine has_plan line e = cc
any_shape CodeLine has_plan line e = e
any_shape GroupLine has_plan line e = e
any_shape CheckLine has_plan line e = e
any_shape StateLine has_plan line e = e
any_shape OtherLine has_plan line e = e

shape_is : (b : Bool) → (if b then None else Some PlanShape) ≡ None → b ≡ true
shape_is true e = refl
shape_is false e = cc

any_fault : (seen : Seen) (kind : LineKind) (line : TextLine) → fault_of Netlist seen kind line ≡ None → fault_of AnyPlan seen kind line ≡ None
any_fault seen PlanLine line e =
    let k = plan_kind (the_word line 0) in
    ap (λ (b : Bool). if b then None else Some PlanShape) (any_shape k seen.has_plan line (shape_is (has_plan_shape k seen.has_plan line) e))
any_fault seen Model line e = e
any_fault seen Inputs line e = e
any_fault seen Outputs line e = e
any_fault seen Names line e = e
any_fault seen Latch line e = any_latch seen line e
any_fault seen OtherDirective line e = e
any_fault seen Row line e = e

none_of_two : (cause : Option Cause) (line : TextLine) (later : Option LineFault) → fault_or cause line later ≡ None → (cause ≡ None) × (later ≡ None)
none_of_two None line later e = (refl, e)
none_of_two (Some cause) line later e = cc

any_fault_behind : (back lines : List TextLine) → first_fault_behind Netlist back lines ≡ None → first_fault_behind AnyPlan back lines ≡ None
any_fault_behind back [] e = refl
any_fault_behind back (line ∷ lines) e =
    let both = none_of_two (fault_behind Netlist back line) line (first_fault_behind Netlist (line ∷ back) lines) e in
    ap (λ cause. fault_or cause line (first_fault_behind AnyPlan (line ∷ back) lines)) (any_fault (seen_of back) (kind_of line) line both.0)
    ∙ any_fault_behind (line ∷ back) lines both.1

-- ---- nothing is watched

no_watch_here : (seen : Seen) (line : TextLine) → fault_of Netlist seen (kind_of line) line ≡ None → is_watch_line (kind_in_plan line) ≡ false
no_watch_here seen line e = by line.is_plan e
  where
    shaped : (k : PlanKind) → has_plan_shape k seen.has_plan line ≡ true → is_watch_line k ≡ false
    shaped WatchLine e = cc
    shaped CodeLine e = refl
    shaped GroupLine e = refl
    shaped CheckLine e = refl
    shaped StateLine e = refl
    shaped OtherLine e = refl

    by : (b : Bool) → fault_of Netlist seen (if b then PlanLine else kind_of_word (the_word line 0)) line ≡ None
        → is_watch_line (if b then plan_kind (the_word line 0) else OtherLine) ≡ false
    by true e = shaped (plan_kind (the_word line 0)) (shape_is (has_plan_shape (plan_kind (the_word line 0)) seen.has_plan line) e)
    by false e = refl

no_watch : (back lines : List TextLine) → first_fault_behind Netlist back lines ≡ None → watch_lines lines ≡ 0
no_watch back [] e = refl
no_watch back (line ∷ lines) e =
    let both = none_of_two (fault_behind Netlist back line) line (first_fault_behind Netlist (line ∷ back) lines) e in
    count_no (λ line. is_watch_line (kind_in_plan line)) line lines (no_watch_here (seen_of back) line both.0) ∙ no_watch (line ∷ back) lines both.1

-- ---- without latches there is no clock

latch_or : (k : LineKind) (line : TextLine) (later : List TextLine) → length (latches_at k line ++ latches_of later) ≡ 0 → (is_latch k ≡ false) × (length (latches_of later) ≡ 0)
latch_or Latch line later e = absurd (omega arith)
latch_or PlanLine line later e = (refl, e)
latch_or Model line later e = (refl, e)
latch_or Inputs line later e = (refl, e)
latch_or Outputs line later e = (refl, e)
latch_or Names line later e = (refl, e)
latch_or OtherDirective line later e = (refl, e)
latch_or Row line later e = (refl, e)

no_latch_line : (lines : List TextLine) → length (latches_of lines) ≡ 0 → first_latch lines ≡ None
no_latch_line [] e = refl
no_latch_line (line ∷ lines) e =
    let both = latch_or (kind_of line) line lines e in
    ap (λ (b : Bool). if b then Some line else first_latch lines) both.0 ∙ no_latch_line lines both.1

-- ---- the plan

-- a netlist is as a plan sees it that lists its states
seen_same : (lists : Bool) (net : NetlistOf) → (lists ≡ false → length net.circuit.latches ≡ 0) → seen_net lists net ≡ net
seen_same true net few = refl
seen_same false net few = by net.circuit.latches (few refl)
  where
    inputs_same : (n : ℕ) → n + 0 ≡ n
    inputs_same n = omega arith

    by : (latches : List _) → length latches ≡ 0
        → record net { circuit = record net.circuit { inputs = net.circuit.inputs + length latches; latches = [] } } ≡ record net { circuit = record net.circuit { latches = latches } }
    by [] e = ap (λ n. record net { circuit = record net.circuit { inputs = n; latches = [] } }) (inputs_same net.circuit.inputs)
    by (l ∷ latches) e = absurd (omega arith)

-- states are listed where there are latches
are_listed : (lines : List TextLine) (latches : ℕ) → HasFit latches (state_words lines) → lists_states lines ≡ false → latches ≡ 0
are_listed lines latches fit none = by latches refl
  where
    weightless : (words : List (List ℕ)) → not (is_empty words) ≡ false → weight_of words ≡ 0
    weightless [] e = refl
    weightless (word ∷ words) e = cc

    by : (n : ℕ) → latches ≡ n → latches ≡ 0
    by zero e = e
    by (suc n) e = absurd (omega (arith, (fit.some (omega arith)).0, weightless (state_words lines) none))

none_pair : (a b : Option BlifError) → first_of_section a b ≡ None → (a ≡ None) × (b ≡ None)
none_pair None b e = (refl, e)
none_pair (Some a) b e = cc

right_is : (b : Bool) (error : BlifError) → (if b then None else Some error) ≡ None → b ≡ true
right_is true error e = refl
right_is false error e = cc

named_none : (line : Option ℕ) (later : Option BlifError) → name_refusal line later ≡ None → later ≡ None
named_none None later e = e
named_none (Some line) later e = cc

module _ (lines : List TextLine) (sound : refusal Netlist lines ≡ None) where
  abbrev net : NetlistOf
  net = netlist_of (named_text lines)

  faultless : first_fault Netlist lines ≡ None
  faultless = no_line_fault Netlist lines sound

  planned : plan_refusal lines net ≡ None
  planned = (none_pair (netlist_refusal Netlist lines) (refusal_of_plan Netlist lines) sound).1

  fit_at : (head : Option TextLine) → head_refusal head lines net ≡ None → HasFit (length net.circuit.latches) (state_words lines)
  fit_at None e = cc
  fit_at (Some head) e =
      let shape = named_none (first_unknown net.names lines) (shape_refusal head lines net) e in
      (keeps_all (code_in head) lines net (right_is (is_right (code_in head) lines net) (PlanShapeAt head.number) shape)).fit

  fit : HasFit (length net.circuit.latches) (state_words lines)
  fit = fit_at (code_line lines) planned

  -- where it lists no states it has no latches
  pub stateless : lists_states lines ≡ false → length net.circuit.latches ≡ 0
  stateless none = are_listed lines (length net.circuit.latches) fit none

  -- to its plan the netlist is as it is
  seen : seen_net (lists_states lines) net ≡ net
  seen = seen_same (lists_states lines) net stateless

  seen_planned : plan_refusal lines (seen_net (lists_states lines) net) ≡ None
  seen_planned = ap (plan_refusal lines) seen ∙ planned

  no_latches : lists_states lines ≡ false → length (latches_of lines) ≡ 0
  no_latches none = sym (length-map (latches_of lines) _) ∙ stateless none

  unclocked : stateless_misfit lines ≡ None
  unclocked = by (lists_states lines) refl
    where
      by : (b : Bool) → lists_states lines ≡ b → (if b then None else clock_misfit lines) ≡ None
      by true is = refl
      by false is = ap (λ first. misfit_of first lines) (no_latch_line lines (no_latches is))

  fitting : (head : TextLine) → fits_registers head lines net ≡ true
  fitting head = by (lists_states lines) refl
    where
      counted : (watch_lines lines == 0) ≡ true
      counted = ap (λ n. n == 0) (no_watch [] lines faultless)

      zero_is : (n : ℕ) → n ≡ 0 → (n == 0) ≡ true
      zero_is n e = ap (λ n. n == 0) e

      some : (b c rest : Bool) → b ≡ true → c ≡ true → (if b then c else rest) ≡ true
      some b c rest e f = ap (λ b. if b then c else rest) e ∙ f

      or_true : (b : Bool) → (b || true) ≡ true
      or_true true = refl
      or_true false = refl

      by : (b : Bool) → lists_states lines ≡ b → fits_registers head lines net ≡ true
      by true is = some _ _ _ (ap (λ b. (length net.circuit.latches == 0) || b) is ∙ or_true (length net.circuit.latches == 0)) counted
      by false is = some _ _ _ (ap (λ b. b || lists_states lines) (zero_is (length net.circuit.latches) (stateless is))) counted

  registered : (head : Option TextLine) → register_refusal_at head lines net ≡ None
  registered None = refl
  registered (Some head) = ap (λ (b : Bool). if b then clock_refusal (stateless_misfit lines) else Some (PlanShapeAt head.number)) (fitting head) ∙ ap clock_refusal unclocked

  any_planned : any_plan_refusal lines net ≡ None
  any_planned = ap (λ first. first_of_section first (register_refusal_at (code_line lines) lines net)) seen_planned ∙ registered (code_line lines)

  -- lines that aren't refused as a netlist whose plan lists its states aren't refused as one whose plan may list none
  pub netlists_are_any : refusal AnyPlan lines ≡ None
  netlists_are_any =
      ap (λ fault. first_of_section (first_of_section (refusal_of_line fault) (refusal_of_net (net_fault (named_text lines)))) (any_plan_refusal lines net))
      (any_fault_behind [] lines faultless)
      ∙ (ap (λ fault. first_of_section (refusal_of_net fault) (any_plan_refusal lines net)) (no_net_fault Netlist lines sound) ∙ any_planned)

  -- and they state the same plan
  pub any_plan_is : plan_text AnyPlan lines net ≡ plan_text Netlist lines net
  any_plan_is = ap (plan_at (code_line lines) lines) seen

-- ---- the same of the first section of lines, and of a text

section_none : (error : Option BlifError) → section_refusal Netlist error ≡ None → error ≡ None
section_none None e = refl
section_none (Some error) e = cc

-- lines that begin with a netlist whose plan lists its states
pub any_first : (lines : List TextLine) → first_refusal Netlist lines ≡ None → first_refusal AnyPlan lines ≡ None
any_first lines e = ap (section_refusal AnyPlan) (netlists_are_any (first_lines lines) (section_none (refusal Netlist (first_lines lines)) e))

-- their plan is that of a section whose plan may list none
pub any_first_plan : (lines : List TextLine) → first_refusal Netlist lines ≡ None → first_any_plan lines ≡ first_plan lines
any_first_plan lines e = ap (λ p. unwrap_or p no_plan) (any_plan_is (first_lines lines) (section_none (refusal Netlist (first_lines lines)) e))

-- a text that is such a netlist alone
pub any_text : (text : List ℕ) → text_refusal Netlist text ≡ None → text_refusal AnyPlan text ≡ None
any_text text e =
    let lines = lines_of text in
    let all : lines_refusal Netlist lines ≡ None = none_later (byte_refusal (bad_line text)) (lines_refusal Netlist lines) e in
    allowed_both (byte_refusal (bad_line text)) (lines_refusal AnyPlan lines) (none_first (byte_refusal (bad_line text)) (lines_refusal Netlist lines) e)
    (allowed_both (refusal_from AnyPlan lines 0) (left_over lines) (any_first lines (none_first (refusal_from Netlist lines 0) (left_over lines) all))
    (none_later (refusal_from Netlist lines 0) (left_over lines) all))
