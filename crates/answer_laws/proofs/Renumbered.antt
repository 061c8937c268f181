-- What lines of a netlist denote, and whether they are refused, doesn't depend on their numbers.
use Rattle.std.proofs.Common.{◌≡◌, ℕ, ◌+◌, Bool, true, false, cond, codes, not, ◌&&◌, ◌==◌, if◌then◌else◌, List, [], ◌∷◌, ◌++◌, map, length, nat_le, slice_index_or, Option, None, Some, refl, sym, ap, ap₂, ◌∙◌}
use Rattle.std.specs.List.{flat_map, list_any}
use Rattle.std.proofs.lemmas.List.Folds.{fold-map}
use Rattle.std.specs.Option.{is_some}
use Rattle.tsc_cover.specs.Cover.{CoverTable}
use Rattle.tsc_cover.specs.Text.{literals_of_text}
use Rattle.tsc_text.specs.TextLine.{TextLine, the_word}
use Rattle.tsc_text.specs.Joined.{moved, moved_line}
use Rattle.fault_secure.specs.CodePlan.{CodePlan}
use Rattle.fault_secure.specs.declared.code.Code.{Code}
use Rattle.fault_secure.specs.declared.code.Code.TheVariants.{Parity, Berger, MOutOfN}
use Rattle.tsc_net.specs.Named.{NamedLatch, NamedNode}
use Rattle.tsc_net.specs.Names.{find_text}
use Rattle.tsc_net.specs.NetFault.{fault_of as net_fault}
use Rattle.tsc_net.specs.NetlistOf.{NetlistOf, netlist_of}
use Rattle.blif_read.specs.Denotes.{plan_at, plan_text, refusal}
use Rattle.blif_read.specs.Faults.{fault_of, plan_line_fault, row_fault}
use Rattle.blif_read.specs.FirstFault.{fault_or, first_fault, first_fault_after}
use Rattle.blif_read.specs.LineKind.{kind_of, net_of, pins_of, width_of}
use Rattle.blif_read.specs.NamedText.{input_names, inputs_of, latches_at, latches_of, model_at, model_or, named_text, node_at, nodes_at, nodes_of, output_names, outputs_of}
use Rattle.blif_read.specs.PlanFault.{first_unknown, fits_latches, has_checks_for, has_lines_for, head_refusal, is_right, name_refusal, plan_refusal, shape_refusal}
use Rattle.blif_read.specs.PlanLines.{has_plan_shape, plan_kind}
use Rattle.blif_read.specs.PlanText.{bits_of_word, check_lines, check_names, checks_at, checks_for, code_line, code_in, group_check_at, group_checks, group_lines, group_outputs, group_outputs_at, groups_for, is_check_line, is_group_line, kind_in_plan, names_at, net_named, output_place, plan_with, source_outputs, state_at, state_words, version_of, weight_of}
use Rattle.blif_read.specs.Refusal.{first_refusal, netlist_refusal, refusal_of_line, refusal_of_net}
use Rattle.blif_read.specs.Rows.{cover_with, input_of, is_on_set, rows_at, rows_of}
use Rattle.blif_read.specs.Seen.{seen_behind, seen_of}
use Rattle.blif_read.specs.declared.cause.Cause.{Cause}
use Rattle.blif_read.specs.declared.cause.Cause.TheVariants as cause
use Rattle.blif_read.specs.declared.cause.LineFault.{LineFault}
use Rattle.blif_read.specs.declared.error.BlifError.{BlifError}
use Rattle.blif_read.specs.declared.error.BlifError.TheVariants.{PlanShape}
use Rattle.blif_read.specs.declared.kinds.Kind.TheVariants.{Netlist}
use Rattle.blif_read.specs.declared.kinds.LineKind.{LineKind}
use Rattle.blif_read.specs.declared.kinds.LineKind.TheVariants.{PlanLine, Model, Inputs, Outputs, Names, Latch, OtherDirective, Row}
use Rattle.blif_read.specs.declared.plan_lines.PlanKind.{PlanKind}
use Rattle.blif_read.specs.declared.plan_lines.PlanKind.TheVariants.{CodeLine, GroupLine, CheckLine, StateLine, WatchLine, OtherLine}
use Rattle.blif_read.specs.declared.seen.OpenCover.{OpenCover}
use Rattle.blif_read.specs.declared.seen.Seen.{Seen}
use Rattle.blif_read.proofs.Scanned.{first_fault_is}

-- two functions of the kind of a line agree where they agree at each kind
by_kind : {A : Type 0} (f g : LineKind → A) → f PlanLine ≡ g PlanLine → f Model ≡ g Model → f Inputs ≡ g Inputs → f Outputs ≡ g Outputs
    → f Names ≡ g Names → f Latch ≡ g Latch → f OtherDirective ≡ g OtherDirective → f Row ≡ g Row → (kind : LineKind) → f kind ≡ g kind
by_kind f g plan model inputs outputs names latch other row PlanLine = plan
by_kind f g plan model inputs outputs names latch other row Model = model
by_kind f g plan model inputs outputs names latch other row Inputs = inputs
by_kind f g plan model inputs outputs names latch other row Outputs = outputs
by_kind f g plan model inputs outputs names latch other row Names = names
by_kind f g plan model inputs outputs names latch other row Latch = latch
by_kind f g plan model inputs outputs names latch other row OtherDirective = other
by_kind f g plan model inputs outputs names latch other row Row = row

by_plan_kind : {A : Type 0} (f g : PlanKind → A) → f CodeLine ≡ g CodeLine → f GroupLine ≡ g GroupLine → f CheckLine ≡ g CheckLine
    → f StateLine ≡ g StateLine → f WatchLine ≡ g WatchLine → f OtherLine ≡ g OtherLine → (kind : PlanKind) → f kind ≡ g kind
by_plan_kind f g code group check state watch other CodeLine = code
by_plan_kind f g code group check state watch other GroupLine = group
by_plan_kind f g code group check state watch other CheckLine = check
by_plan_kind f g code group check state watch other StateLine = state
by_plan_kind f g code group check state watch other WatchLine = watch
by_plan_kind f g code group check state watch other OtherLine = other

module _ (more : ℕ) where
  -- ---- the netlist

  model_moved : (model : List ℕ) (lines : List TextLine) → model_or model (moved more lines) ≡ model_or model lines
  model_moved model [] = refl
  model_moved model (line ∷ lines) =
      ap (λ m. model_or m (moved more lines))
      (by_kind (λ k. model_at model k (moved_line more line)) (λ k. model_at model k line) refl refl refl refl refl refl refl refl (kind_of line))
      ∙ model_moved (model_at model (kind_of line) line) lines

  inputs_moved : (lines : List TextLine) → inputs_of (moved more lines) ≡ inputs_of lines
  inputs_moved [] = refl
  inputs_moved (line ∷ lines) =
      ap₂ (λ xs ys. xs ++ ys)
      (by_kind (λ k. input_names k (moved_line more line)) (λ k. input_names k line) refl refl refl refl refl refl refl refl (kind_of line)) (inputs_moved lines)

  outputs_moved : (lines : List TextLine) → outputs_of (moved more lines) ≡ outputs_of lines
  outputs_moved [] = refl
  outputs_moved (line ∷ lines) =
      ap₂ (λ xs ys. xs ++ ys)
      (by_kind (λ k. output_names k (moved_line more line)) (λ k. output_names k line) refl refl refl refl refl refl refl refl (kind_of line)) (outputs_moved lines)

  latches_moved : (lines : List TextLine) → latches_of (moved more lines) ≡ latches_of lines
  latches_moved [] = refl
  latches_moved (line ∷ lines) =
      ap₂ (λ (xs ys : List NamedLatch). xs ++ ys)
      (by_kind (λ k. latches_at k (moved_line more line)) (λ k. latches_at k line) refl refl refl refl refl refl refl refl (kind_of line)) (latches_moved lines)

  rows_moved : (lines : List TextLine) → rows_of (moved more lines) ≡ moved more (rows_of lines)
  rows_moved [] = refl
  rows_moved (line ∷ lines) =
      ap (λ rows. rows_at (kind_of line) (moved_line more line) rows) (rows_moved lines)
      ∙ by_kind (λ k. rows_at k (moved_line more line) (moved more (rows_of lines))) (λ k. moved more (rows_at k line (rows_of lines)))
      refl refl refl refl refl refl refl refl (kind_of line)

  set_moved : (rows : List TextLine) → is_on_set (moved more rows) ≡ is_on_set rows
  set_moved [] = refl
  set_moved (row ∷ rows) = refl

  literals_moved : (rows : List TextLine)
      → map (λ row. literals_of_text (input_of row.words)) (moved more rows) ≡ map (λ row. literals_of_text (input_of row.words)) rows
  literals_moved [] = refl
  literals_moved (row ∷ rows) = ap (λ xs. literals_of_text (input_of row.words) ∷ xs) (literals_moved rows)

  cover_moved : (width : ℕ) (lines : List TextLine) → cover_with width (rows_of (moved more lines)) ≡ cover_with width (rows_of lines)
  cover_moved width lines =
      let rows = rows_of lines in
      ap (cover_with width) (rows_moved lines)
      ∙ (ap (λ on. record { width = width; on = on; rows = map (λ row. literals_of_text (input_of row.words)) (moved more rows) }) (set_moved rows)
      ∙ ap (λ literals. record { width = width; on = is_on_set rows; rows = literals }) (literals_moved rows))

  node_moved : (line : TextLine) (lines : List TextLine) → node_at (moved_line more line) (moved more lines) ≡ node_at line lines
  node_moved line lines =
      let with_cover : CoverTable → NamedNode = λ c. record { reads = pins_of line; out = net_of line; cover = c } in
      ap with_cover (cover_moved (width_of line) lines)

  nodes_moved : (lines : List TextLine) → nodes_of (moved more lines) ≡ nodes_of lines
  nodes_moved [] = refl
  nodes_moved (line ∷ lines) =
      ap₂ (λ (xs ys : List NamedNode). xs ++ ys)
      (by_kind (λ k. nodes_at k (moved_line more line) (moved more lines)) (λ k. nodes_at k line lines)
      refl refl refl refl (ap (λ n. n ∷ []) (node_moved line lines)) refl refl refl (kind_of line)) (nodes_moved lines)

  -- lines with other numbers are the same netlist by names
  pub named_moved : (lines : List TextLine) → named_text (moved more lines) ≡ named_text lines
  named_moved lines =
      let model = model_moved (codes "model") lines in
      let inputs = inputs_moved lines in
      let outputs = outputs_moved lines in
      let latches = latches_moved lines in
      let nodes = nodes_moved lines in
      cc

  -- ---- the plan

  abbrev head_moved : Option TextLine → Option TextLine
  head_moved None = None
  head_moved (Some line) = Some (moved_line more line)

  code_line_moved : (lines : List TextLine) → code_line (moved more lines) ≡ head_moved (code_line lines)
  code_line_moved [] = refl
  code_line_moved (line ∷ lines) = choice line.is_plan (code_line_moved lines)
    where
      choice : (b : Bool) → code_line (moved more lines) ≡ head_moved (code_line lines)
          → (if b then Some (moved_line more line) else code_line (moved more lines)) ≡ head_moved (if b then Some line else code_line lines)
      choice true later = refl
      choice false later = later

  picked_moved : {A : Type 0} (f : TextLine → List A) → ((line : TextLine) → f (moved_line more line) ≡ f line) → (lines : List TextLine)
      → flat_map f (moved more lines) ≡ flat_map f lines
  picked_moved f same [] = refl
  picked_moved f same (line ∷ lines) = ap₂ (λ xs ys. xs ++ ys) (same line) (picked_moved f same lines)

  group_outputs_moved : (lines : List TextLine) → group_outputs (moved more lines) ≡ group_outputs lines
  group_outputs_moved lines =
      picked_moved (λ line. group_outputs_at (kind_in_plan line) line)
      (λ line. by_plan_kind (λ k. group_outputs_at k (moved_line more line)) (λ k. group_outputs_at k line) refl refl refl refl refl refl (kind_in_plan line)) lines

  group_checks_moved : (lines : List TextLine) → group_checks (moved more lines) ≡ group_checks lines
  group_checks_moved lines =
      picked_moved (λ line. group_check_at (kind_in_plan line) line)
      (λ line. by_plan_kind (λ k. group_check_at k (moved_line more line)) (λ k. group_check_at k line) refl refl refl refl refl refl (kind_in_plan line)) lines

  check_names_moved : (lines : List TextLine) → check_names (moved more lines) ≡ check_names lines
  check_names_moved lines =
      picked_moved (λ line. checks_at (kind_in_plan line) line)
      (λ line. by_plan_kind (λ k. checks_at k (moved_line more line)) (λ k. checks_at k line) refl refl refl refl refl refl (kind_in_plan line)) lines

  state_words_moved : (lines : List TextLine) → state_words (moved more lines) ≡ state_words lines
  state_words_moved lines =
      picked_moved (λ line. state_at (kind_in_plan line) line)
      (λ line. by_plan_kind (λ k. state_at k (moved_line more line)) (λ k. state_at k line) refl refl refl refl refl refl (kind_in_plan line)) lines

  group_lines_moved : (lines : List TextLine) → group_lines (moved more lines) ≡ group_lines lines
  group_lines_moved lines = fold-map (λ (count : ℕ) (line : TextLine). count + cond (is_group_line (kind_in_plan line)) 1 0) (moved_line more) 0 lines

  check_lines_moved : (lines : List TextLine) → check_lines (moved more lines) ≡ check_lines lines
  check_lines_moved lines = fold-map (λ (count : ℕ) (line : TextLine). count + cond (is_check_line (kind_in_plan line)) 1 0) (moved_line more) 0 lines

  groups_moved : (code : Code) (net : NetlistOf) (lines : List TextLine) → groups_for code net (moved more lines) ≡ groups_for code net lines
  groups_moved Parity net lines = ap (λ groups. map (λ names. map (output_place net) names) groups) (group_outputs_moved lines)
  groups_moved Berger net lines = refl
  groups_moved MOutOfN net lines = refl

  checks_moved : (code : Code) (lines : List TextLine) → checks_for code (moved more lines) ≡ checks_for code lines
  checks_moved Parity lines = group_checks_moved lines
  checks_moved Berger lines = check_names_moved lines
  checks_moved MOutOfN lines = check_names_moved lines

  fit_moved : (code : Code) (lines : List TextLine) → has_lines_for code (moved more lines) ≡ has_lines_for code lines
  fit_moved Parity lines = ap (λ (n : ℕ). n == 0) (check_lines_moved lines)
  fit_moved Berger lines = ap₂ (λ (m n : ℕ). m == 0 && n == 1) (group_lines_moved lines) (check_lines_moved lines)
  fit_moved MOutOfN lines = ap₂ (λ (m n : ℕ). m == 0 && n == 1) (group_lines_moved lines) (check_lines_moved lines)

  module _ (net : NetlistOf) where
    -- the plan that lines with this code line state
    stated_moved : (head : TextLine) (lines : List TextLine) → plan_with (moved_line more head) (moved more lines) net ≡ plan_with head lines net
    stated_moved head lines =
        let code = code_in head in
        let stated : List (List ℕ) → List (List ℕ) → List (List ℕ) → CodePlan = λ checks groups words. record {
          version = version_of head;
          code = code_in head;
          outputs = source_outputs net;
          checks = map (net_named net) checks;
          groups = groups;
          latches = length net.circuit.latches;
          weight = weight_of words;
          states = map bits_of_word words;
          rail1 = slice_index_or net.circuit.outputs (source_outputs net) 0;
          rail2 = slice_index_or net.circuit.outputs (source_outputs net + 1) 0;
        } in
        ap (λ checks. stated checks (groups_for code net (moved more lines)) (state_words (moved more lines))) (checks_moved code lines)
        ∙ (ap (λ groups. stated (checks_for code lines) groups (state_words (moved more lines))) (groups_moved code net lines)
        ∙ ap (λ words. stated (checks_for code lines) (groups_for code net lines) words) (state_words_moved lines))

    -- they state the same plan of a netlist
    pub plan_moved : (lines : List TextLine) → plan_text Netlist (moved more lines) net ≡ plan_text Netlist lines net
    plan_moved lines = ap (λ head. plan_at head (moved more lines) net) (code_line_moved lines) ∙ by_head (code_line lines)
      where
        by_head : (head : Option TextLine) → plan_at (head_moved head) (moved more lines) net ≡ plan_at head lines net
        by_head None = refl
        by_head (Some head) = ap Some (stated_moved head lines)

    -- its rules
    right_moved : (code : Code) (lines : List TextLine) → is_right code (moved more lines) net ≡ is_right code lines net
    right_moved code lines =
        let right : Bool → List (List ℕ) → List (List ℕ) → List (List ℕ) → Bool = λ fit groups checks words.
        ((nat_le 3 (length net.circuit.outputs) && nat_le (length net.circuit.outputs) 66) && nat_le (length net.circuit.latches) 64)
        && ((fit && has_checks_for code (source_outputs net) groups (length checks)) && fits_latches (length net.circuit.latches) words) in
        ap (λ fit. right fit (groups_for code net (moved more lines)) (checks_for code (moved more lines)) (state_words (moved more lines))) (fit_moved code lines)
        ∙ (ap (λ groups. right (has_lines_for code lines) groups (checks_for code (moved more lines)) (state_words (moved more lines))) (groups_moved code net lines)
        ∙ (ap (λ checks. right (has_lines_for code lines) (groups_for code net lines) checks (state_words (moved more lines))) (checks_moved code lines)
        ∙ ap (λ words. right (has_lines_for code lines) (groups_for code net lines) (checks_for code lines) words) (state_words_moved lines)))

    -- no name that isn't a net's
    abbrev is_unknown : List (List ℕ) → Bool
    is_unknown names = list_any (λ name. not (is_some (find_text net.names name))) names

    names_known : (lines : List TextLine) → first_unknown net.names lines ≡ None → first_unknown net.names (moved more lines) ≡ None
    names_known [] known = refl
    names_known (line ∷ lines) known =
        ap (λ names. if is_unknown names then Some (line.number + more) else first_unknown net.names (moved more lines))
        (by_plan_kind (λ k. names_at k (moved_line more line)) (λ k. names_at k line) refl refl refl refl refl refl (kind_in_plan line))
        ∙ choice (is_unknown (names_at (kind_in_plan line) line)) known (λ later. names_known lines later)
      where
        choice : (b : Bool) → (if b then Some line.number else first_unknown net.names lines) ≡ None
            → (first_unknown net.names lines ≡ None → first_unknown net.names (moved more lines) ≡ None)
            → (if b then Some (line.number + more) else first_unknown net.names (moved more lines)) ≡ None
        choice true known later = cc
        choice false known later = later known

    shape_right : (head : TextLine) (lines : List TextLine) → shape_refusal head lines net ≡ None
        → shape_refusal (moved_line more head) (moved more lines) net ≡ None
    shape_right head lines right =
        ap (λ b. if b then None else Some (PlanShape (head.number + more))) (right_moved (code_in head) lines) ∙ choice (is_right (code_in head) lines net) right
      where
        choice : (b : Bool) → (if b then None else Some (PlanShape head.number)) ≡ None → (if b then None else Some (PlanShape (head.number + more))) ≡ None
        choice true right = refl
        choice false right = cc

    known_first : (unknown : Option ℕ) (later : Option BlifError) → name_refusal unknown later ≡ None → (unknown ≡ None) × (later ≡ None)
    known_first None later e = (refl, e)
    known_first (Some line) later e = cc

    plan_allowed : (lines : List TextLine) → plan_refusal lines net ≡ None → plan_refusal (moved more lines) net ≡ None
    plan_allowed lines allowed = ap (λ head. head_refusal head (moved more lines) net) (code_line_moved lines) ∙ by_head (code_line lines) allowed
      where
        by_head : (head : Option TextLine) → head_refusal head lines net ≡ None → head_refusal (head_moved head) (moved more lines) net ≡ None
        by_head None allowed = cc
        by_head (Some head) allowed =
            let both = known_first (first_unknown net.names lines) (shape_refusal head lines net) allowed in
            ap (λ unknown. name_refusal unknown (shape_refusal (moved_line more head) (moved more lines) net)) (names_known lines both.0)
            ∙ shape_right head lines both.1

  -- ---- the lines

  plan_fault_moved : (seen : Seen) (line : TextLine) → plan_line_fault Netlist seen (moved_line more line) ≡ plan_line_fault Netlist seen line
  plan_fault_moved seen line =
      ap (λ b. if b then None else Some cause.PlanShape)
      (by_plan_kind (λ k. has_plan_shape k seen.has_plan (moved_line more line)) (λ k. has_plan_shape k seen.has_plan line) refl refl refl refl refl refl
      (plan_kind (the_word line 0)))

  row_fault_moved : (cover : Option OpenCover) (line : TextLine) → row_fault cover (moved_line more line) ≡ row_fault cover line
  row_fault_moved None line = refl
  row_fault_moved (Some cover) line = refl

  fault_moved : (seen : Seen) (line : TextLine) → fault_of Netlist seen (kind_of line) (moved_line more line) ≡ fault_of Netlist seen (kind_of line) line
  fault_moved seen line =
      by_kind (λ k. fault_of Netlist seen k (moved_line more line)) (λ k. fault_of Netlist seen k line)
      (plan_fault_moved seen line) refl refl refl refl refl refl (row_fault_moved seen.cover line) (kind_of line)

  seen_moved : (seen : Seen) (line : TextLine) → seen_behind seen (kind_of line) (moved_line more line) ≡ seen_behind seen (kind_of line) line
  seen_moved seen line =
      by_kind (λ k. seen_behind seen k (moved_line more line)) (λ k. seen_behind seen k line) refl refl refl refl refl refl refl refl (kind_of line)

  no_fault_first : (found : Option Cause) (line : TextLine) (later : Option LineFault) → fault_or found line later ≡ None → (found ≡ None) × (later ≡ None)
  no_fault_first None line later e = (refl, e)
  no_fault_first (Some found) line later e = cc

  no_fault : (lines : List TextLine) (seen : Seen) → first_fault_after Netlist seen lines ≡ None → first_fault_after Netlist seen (moved more lines) ≡ None
  no_fault [] seen none = refl
  no_fault (line ∷ lines) seen none =
      let kind = kind_of line in
      let both = no_fault_first (fault_of Netlist seen kind line) line (first_fault_after Netlist (seen_behind seen kind line) lines) none in
      ap (λ found. fault_or found (moved_line more line) (first_fault_after Netlist (seen_behind seen kind (moved_line more line)) (moved more lines)))
      (fault_moved seen line ∙ both.0)
      ∙ (ap (λ s. first_fault_after Netlist s (moved more lines)) (seen_moved seen line) ∙ no_fault lines (seen_behind seen kind line) both.1)

  -- ---- the section

  first_of_two : (first later : Option BlifError) → first_refusal first later ≡ None → (first ≡ None) × (later ≡ None)
  first_of_two None later e = (refl, e)
  first_of_two (Some first) later e = cc

  of_line_none : (found : Option LineFault) → refusal_of_line found ≡ None → found ≡ None
  of_line_none None e = refl
  of_line_none (Some found) e = cc

  -- where nothing refuses the lines as a netlist with its plan, nothing does with other numbers
  pub refusal_moved : (lines : List TextLine) → refusal Netlist lines ≡ None → refusal Netlist (moved more lines) ≡ None
  refusal_moved lines allowed =
      let named = named_text lines in
      let both = first_of_two (netlist_refusal Netlist lines) (plan_refusal lines (netlist_of named)) allowed in
      let parts = first_of_two (refusal_of_line (first_fault Netlist lines)) (refusal_of_net (net_fault named)) both.0 in
      let faultless : first_fault Netlist (moved more lines) ≡ None =
      first_fault_is Netlist [] (moved more lines)
      ∙ no_fault lines (seen_of []) (sym (first_fault_is Netlist [] lines) ∙ of_line_none (first_fault Netlist lines) parts.0) in
      let net : refusal_of_net (net_fault (named_text (moved more lines))) ≡ None = ap (λ n. refusal_of_net (net_fault n)) (named_moved lines) ∙ parts.1 in
      let plan : plan_refusal (moved more lines) (netlist_of (named_text (moved more lines))) ≡ None =
      ap (λ n. plan_refusal (moved more lines) (netlist_of n)) (named_moved lines) ∙ plan_allowed (netlist_of named) lines both.1 in
      ap (λ found. first_refusal (first_refusal (refusal_of_line found) (refusal_of_net (net_fault (named_text (moved more lines)))))
      (plan_refusal (moved more lines) (netlist_of (named_text (moved more lines))))) faultless
      ∙ (ap (λ r. first_refusal r (plan_refusal (moved more lines) (netlist_of (named_text (moved more lines))))) net ∙ plan)
