-- A plan is stated by the words of the plan lines alone, so it stays where these lines are put into another section.
use Rattle.std.proofs.Common.{◌≡◌, ℕ, ◌+◌, Bool, true, false, cond, if◌then◌else◌, List, [], ◌∷◌, ◌++◌, codes, length, map, slice_index_or, Option, None, Some, refl, sym, ap, ap₂, ◌∙◌}
use Rattle.std.specs.List.{filter, flat_map}
use Rattle.std.specs.Str.{bytes_eq}
use Rattle.tsc_text.specs.TextLine.{TextLine, the_word}
use Rattle.fault_secure.specs.CodePlan.{CodePlan}
use Rattle.fault_secure.specs.declared.code.Code.{Code}
use Rattle.fault_secure.specs.declared.code.Code.TheVariants.{Parity, Berger, MOutOfN}
use Rattle.tsc_net.specs.NetlistOf.{NetlistOf}
use Rattle.blif_read.specs.Denotes.{plan_at, plan_text, refusal_of_plan}
use Rattle.blif_read.specs.PlanLines.{plan_kind}
use Rattle.blif_read.specs.PlanText.{kind_in_plan, code_line, version_of, code_named, code_in, group_outputs_at, group_check_at, checks_at, state_at, state_words, bits_of_word, weight_of, source_outputs, net_named, output_place, groups_for, checks_for, plan_with}
use Rattle.blif_read.specs.Refusal.{netlist_refusal, first_refusal}
use Rattle.blif_read.specs.declared.error.BlifError.{BlifError}
use Rattle.blif_read.specs.declared.kinds.Kind.TheVariants.{Netlist}
use Rattle.blif_read.specs.declared.plan_lines.PlanKind.{PlanKind}
use Rattle.blif_read.specs.declared.plan_lines.PlanKind.TheVariants.{CodeLine, GroupLine, CheckLine, StateLine, WatchLine, OtherLine}
use Rattle.blif_read.proofs.PlannedLines.{planned_section}
use Rattle.mapping_laws.specs.Mapping.{moved_plan}
use Rattle.mapping_reading.specs.Pins.{at_of}
use Rattle.mapping_reading.specs.NamedMapping.{moved_by_name}
use Rattle.mapped_laws.specs.MappedLaws.{plan_words, section_net, PlansAreInPlanLines, PutPlanLinesMove}
use Rattle.mapped_laws.proofs.BuiltNetlists.{section_is_built}
use Rattle.mapped_laws.proofs.PlanMoved.{is_allowed, plans_move_by_name}

-- ---- what is picked of a plan line depends on its words

-- a plan line with these words
abbrev pub as_line : List (List ℕ) → TextLine
as_line words = record { number = 0; is_plan = true; words = words }

pub record IsOfWords {X : Type 0} (pick : PlanKind → TextLine → List X) : Type 0 where
  pub other : (line : TextLine) → pick OtherLine line ≡ []
  pub same : (kind : PlanKind) (line : TextLine) → pick kind line ≡ pick kind (as_line line.words)

module _ {X : Type 0} (pick : PlanKind → TextLine → List X) (of : IsOfWords pick) where
  abbrev pub picked : List TextLine → List X
  picked lines = flat_map (λ line. pick (kind_in_plan line) line) lines

  abbrev in_words : List (List ℕ) → List X
  in_words words = pick (plan_kind (slice_index_or words 0 [])) (as_line words)

  from_words : (lines : List TextLine) → picked lines ≡ flat_map in_words (plan_words lines)
  from_words [] = refl
  from_words (line ∷ lines) = by line.is_plan (from_words lines)
    where
      by : (b : Bool) → picked lines ≡ flat_map in_words (plan_words lines)
          → (pick (if b then plan_kind (the_word line 0) else OtherLine) line ++ picked lines)
          ≡ flat_map in_words (map (λ (l : TextLine). l.words) (cond b (line ∷ filter (λ (l : TextLine). l.is_plan) lines) (filter (λ (l : TextLine). l.is_plan) lines)))
      by true rest = ap₂ (λ (a b : List X). a ++ b) (of.same (plan_kind (the_word line 0)) line) rest
      by false rest = ap (λ (a : List X). a ++ picked lines) (of.other line) ∙ rest

  pub same_picked : (lines others : List TextLine) → plan_words lines ≡ plan_words others → picked lines ≡ picked others
  same_picked lines others e = from_words lines ∙ ap (flat_map in_words) e ∙ sym (from_words others)

groups_of_words : IsOfWords group_outputs_at
groups_of_words = record { other = λ line. refl; same = same }
  where
    same : (kind : PlanKind) (line : TextLine) → group_outputs_at kind line ≡ group_outputs_at kind (as_line line.words)
    same CodeLine line = refl
    same GroupLine line = refl
    same CheckLine line = refl
    same StateLine line = refl
    same WatchLine line = refl
    same OtherLine line = refl

group_checks_of_words : IsOfWords group_check_at
group_checks_of_words = record { other = λ line. refl; same = same }
  where
    same : (kind : PlanKind) (line : TextLine) → group_check_at kind line ≡ group_check_at kind (as_line line.words)
    same CodeLine line = refl
    same GroupLine line = refl
    same CheckLine line = refl
    same StateLine line = refl
    same WatchLine line = refl
    same OtherLine line = refl

checks_of_words : IsOfWords checks_at
checks_of_words = record { other = λ line. refl; same = same }
  where
    same : (kind : PlanKind) (line : TextLine) → checks_at kind line ≡ checks_at kind (as_line line.words)
    same CodeLine line = refl
    same GroupLine line = refl
    same CheckLine line = refl
    same StateLine line = refl
    same WatchLine line = refl
    same OtherLine line = refl

states_of_words : IsOfWords state_at
states_of_words = record { other = λ line. refl; same = same }
  where
    same : (kind : PlanKind) (line : TextLine) → state_at kind line ≡ state_at kind (as_line line.words)
    same CodeLine line = refl
    same GroupLine line = refl
    same CheckLine line = refl
    same StateLine line = refl
    same WatchLine line = refl
    same OtherLine line = refl

-- ---- the code line

abbrev pub words_of : Option TextLine → Option (List (List ℕ))
words_of None = None
words_of (Some line) = Some line.words

abbrev pub first_words : List (List (List ℕ)) → Option (List (List ℕ))
first_words [] = None
first_words (words ∷ rest) = Some words

pub head_words : (lines : List TextLine) → words_of (code_line lines) ≡ first_words (plan_words lines)
head_words [] = refl
head_words (line ∷ lines) = by line.is_plan (head_words lines)
  where
    by : (b : Bool) → words_of (code_line lines) ≡ first_words (plan_words lines)
        → words_of (if b then Some line else code_line lines)
        ≡ first_words (map (λ (l : TextLine). l.words) (cond b (line ∷ filter (λ (l : TextLine). l.is_plan) lines) (filter (λ (l : TextLine). l.is_plan) lines)))
    by true rest = refl
    by false rest = rest

-- ---- the plan

module _ (net : NetlistOf) (lines others : List TextLine) (e : plan_words lines ≡ plan_words others) where
  pub same_groups : (code : Code) → groups_for code net lines ≡ groups_for code net others
  same_groups Parity = ap (map (λ names. map (output_place net) names)) (same_picked group_outputs_at groups_of_words lines others e)
  same_groups Berger = refl
  same_groups MOutOfN = refl

  pub same_checks : (code : Code) → checks_for code lines ≡ checks_for code others
  same_checks Parity = same_picked group_check_at group_checks_of_words lines others e
  same_checks Berger = same_picked checks_at checks_of_words lines others e
  same_checks MOutOfN = same_picked checks_at checks_of_words lines others e

  pub same_states : state_words lines ≡ state_words others
  same_states = same_picked state_at states_of_words lines others e

  abbrev version_in : List (List ℕ) → ℕ
  version_in words = if bytes_eq (slice_index_or words 0 []) (codes "1") then 1 else 2

  abbrev code_of : List (List ℕ) → Code
  code_of words = code_named (slice_index_or words 1 [])

  abbrev stated : ℕ → Code → List (List ℕ) → List (List ℕ) → List (List ℕ) → CodePlan
  stated version code checks groups states = record {
    version = version;
    code = code;
    outputs = source_outputs net;
    checks = map (net_named net) checks;
    groups = groups;
    latches = length net.circuit.latches;
    weight = weight_of states;
    states = map bits_of_word states;
    rail1 = slice_index_or net.circuit.outputs (source_outputs net) 0;
    rail2 = slice_index_or net.circuit.outputs (source_outputs net + 1) 0;
  }

  same_plan : (head other : TextLine) → head.words ≡ other.words → plan_with head lines net ≡ plan_with other others net
  same_plan head other same =
      ap (λ words. stated (version_in words) (code_of words) (checks_for (code_of words) lines) (groups_for (code_of words) net lines) (state_words lines)) same
      ∙ ap₂ (λ checks groups. stated (version_of other) (code_in other) checks groups (state_words lines)) (same_checks (code_in other)) (same_groups (code_in other))
      ∙ ap (stated (version_of other) (code_in other) (checks_for (code_in other) others) (groups_for (code_in other) net others)) same_states

  same_plan_at : (head other : Option TextLine) → words_of head ≡ words_of other → plan_at head lines net ≡ plan_at other others net
  same_plan_at None None same = refl
  same_plan_at (Some head) (Some other) same =
      let words : head.words ≡ other.words = cc in ap (λ P. Some P) (same_plan head other words)
  same_plan_at None (Some other) same = cc
  same_plan_at (Some head) None same = cc

pub plans_are_in_plan_lines : PlansAreInPlanLines
plans_are_in_plan_lines lines others net e =
    same_plan_at net lines others e (code_line lines) (code_line others) (head_words lines ∙ ap first_words e ∙ sym (head_words others))

-- ---- plan lines that are put into the mapped netlist's section

-- of a section that nothing refuses, nothing refuses the netlist, nor the plan
pub both_allowed : (first second : Option BlifError) → first_refusal first second ≡ None → (first ≡ None) × (second ≡ None)
both_allowed None second e = (refl, e)
both_allowed (Some error) second e = cc

abbrev moved_option : (ℕ → ℕ) → Option CodePlan → Option CodePlan
moved_option at None = None
moved_option at (Some P) = Some (moved_plan at P)

pub put_plan_lines_move : PutPlanLinesMove
put_plan_lines_move kind lines others P put planned =
    let N = section_net lines in
    let G = section_net others in
    let both = both_allowed (netlist_refusal Netlist lines) (refusal_of_plan Netlist lines) put.allowed in
    let plan = is_allowed lines N both.1 in
    let head = plan.head in
    let here : plan_text Netlist lines N ≡ Some (plan_with head lines N) = ap (λ o. plan_at o lines N) plan.is in
    let there : plan_text Netlist lines G ≡ Some (plan_with head lines G) = ap (λ o. plan_at o lines G) plan.is in
    let moved = plans_move_by_name head lines N G (section_is_built Netlist lines put.allowed) (section_is_built kind others put.readable) put.names
    (planned_section lines both.0) both.1 in
    plans_are_in_plan_lines others lines G put.words
    ∙ there
    ∙ ap (λ Q. Some Q) moved
    ∙ ap (moved_option (at_of G.circuit (moved_by_name N G))) (sym here ∙ planned)
