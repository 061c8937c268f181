-- Plan lines read with a netlist that has the names of another one: the same plan, moved by names.
use Rattle.std.proofs.Common.{◌≡◌, ℕ, ◌+◌, ◌-◌, ◌<◌, ◌≤◌, ◌==◌, ◌||◌, ◌&&◌, nat_le, nat_lt, Bool, true, false, not, cond, if◌then◌else◌, List, [], ◌∷◌, ◌++◌, length, map, take, drop, slice_index_or, Option, None, Some, position, All, refl, sym, ap, ap₂, ◌∙◌, subst, inl, inr, arith}
use Rattle.std.specs.List.{list_any, position_or_len}
use Rattle.std.specs.Option.{is_some, unwrap_or}
use Rattle.std.proofs.lemmas.List.{length-map, length-drop, get_or-drop, get_or-map, take-map}
use Rattle.std.proofs.lemmas.List.Elements.{All-nil, All-cons, All-head, All-tail, All-append, All-take}
use Rattle.std.proofs.lemmas.Bool.{cases_eq, eq-eqb, ne_eqb}
use Rattle.tsc_bits.proofs.Lists.{map_agrees}
use Rattle.tsc_text.specs.TextLine.{TextLine}
use Rattle.fault_secure.specs.Circuit.{nets}
use Rattle.fault_secure.specs.CodePlan.{CodePlan}
use Rattle.fault_secure.specs.declared.code.Code.{Code}
use Rattle.fault_secure.specs.declared.code.Code.TheVariants.{Parity, Berger, MOutOfN}
use Rattle.mapping_laws.specs.Mapping.{moved_plan, moved_latch}
use Rattle.tsc_net.specs.Names.{has_text, text_at, place_of_text, find_text}
use Rattle.tsc_net.specs.NetlistOf.{NetlistOf, IsBuilt}
use Rattle.tsc_net.proofs.NameLemmas.{place_within, text_at_place, has_text_at, find-there, found-has}
use Rattle.tsc_net.proofs.BuildLemmas.{map-map}
use Rattle.blif_read.specs.LineKind.{names_of, pins_of, net_of}
use Rattle.blif_read.specs.Planned.{IsPlannedAt, ArePlanned}
use Rattle.blif_read.specs.PlanText.{code_line, version_of, code_in, kind_in_plan, names_at, group_outputs, group_outputs_at, group_checks, group_check_at, check_names, checks_at, state_words, weight_of, bits_of_word, source_outputs, net_named, output_place, groups_for, checks_for, plan_with}
use Rattle.blif_read.specs.PlanFault.{first_unknown, has_lines_for, has_checks_for, fits_latches, is_right, shape_refusal, name_refusal, head_refusal}
use Rattle.blif_read.specs.declared.plan_lines.PlanKind.{PlanKind}
use Rattle.blif_read.specs.declared.plan_lines.PlanKind.TheVariants.{CodeLine, GroupLine, CheckLine, StateLine, WatchLine, OtherLine}
use Rattle.blif_read.specs.declared.error.BlifError.{BlifError}
use Rattle.blif_read.specs.declared.error.BlifError.TheVariants.{PlanShape}
use Rattle.blif_read.proofs.PlanMade.{keeps_all}
use Rattle.mapping_reading.specs.Pins.{at_of}
use Rattle.mapping_reading.specs.MovedNets.{HaveMoved}
use Rattle.mapping_reading.specs.NamedMapping.{moved_by_name}
use Rattle.mapping_reading.proofs.NamesMoved.{names_move, text_of_place}
use Rattle.mapped_laws.specs.MappedLaws.{PlanLinesStayAllowed, PlansMoveByName}

-- ---- the names that plan lines have

abbrev pub There : List (List ℕ) → List ℕ → Type 0
There names text = has_text names text ≡ true

abbrev pub is_unknown : List (List ℕ) → List ℕ → Bool
is_unknown names text = not (is_some (find_text names text))

all_there : (names texts : List (List ℕ)) → list_any (is_unknown names) texts ≡ false → All (There names) texts
all_there names [] e = All-nil (There names)
all_there names (text ∷ texts) e = by (is_some (find_text names text)) (found-has names text) e (all_there names texts)
  where
    by : (b : Bool) → b ≡ has_text names text → (not b || list_any (is_unknown names) texts) ≡ false
        → (list_any (is_unknown names) texts ≡ false → All (There names) texts) → All (There names) (text ∷ texts)
    by true has e rest = All-cons (There names) text texts (sym has) (rest e)
    by false has e rest = cc

pub none_unknown : (names texts : List (List ℕ)) → All (There names) texts → list_any (is_unknown names) texts ≡ false
none_unknown names [] there = refl
none_unknown names (text ∷ texts) there =
    ap₂ (λ x y. x || y) (ap not (found-has names text ∙ All-head (There names) text texts there))
    (none_unknown names texts (All-tail (There names) text texts there))

-- the last word of a line of three is one of its names
last_there : (names : List (List ℕ)) (line : TextLine) → 3 ≤ length line.words → All (There names) (names_of line) → There names (net_of line)
last_there names line long there =
    let low : length line.words - 2 < length (drop 1 line.words) = omega (arith, length-drop 1 line.words) in
    let place : 1 + (length line.words - 2) ≡ length line.words - 1 = omega arith in
    let same : slice_index_or (drop 1 line.words) (length line.words - 2) [] ≡ net_of line =
    get_or-drop 1 line.words (length line.words - 2) [] ∙ ap (λ n. slice_index_or line.words n []) place in
    subst (There names) same (there (length line.words - 2) [] low)

pins_there : (names : List (List ℕ)) (line : TextLine) → All (There names) (names_of line) → All (There names) (pins_of line)
pins_there names line there = All-take (There names) ((length line.words - 1) - 1) (names_of line) there

module _ (names : List (List ℕ)) where
  pub there_here : (line : TextLine) (lines : List TextLine) → first_unknown names (line ∷ lines) ≡ None
      → All (There names) (names_at (kind_in_plan line) line) × (first_unknown names lines ≡ None)
  there_here line lines e = by (list_any (is_unknown names) (names_at (kind_in_plan line) line)) refl e
    where
      by : (b : Bool) → list_any (is_unknown names) (names_at (kind_in_plan line) line) ≡ b
          → (if b then Some line.number else first_unknown names lines) ≡ None
          → All (There names) (names_at (kind_in_plan line) line) × (first_unknown names lines ≡ None)
      by true f e = cc
      by false f e = (all_there names (names_at (kind_in_plan line) line) f, e)

  there_in_checks : (lines : List TextLine) → first_unknown names lines ≡ None → All (There names) (check_names lines)
  there_in_checks [] e = All-nil (There names)
  there_in_checks (line ∷ lines) e =
      let here = there_here line lines e in
      by (kind_in_plan line) here.0 (there_in_checks lines here.1)
    where
      by : (k : PlanKind) → All (There names) (names_at k line) → All (There names) (check_names lines)
          → All (There names) (checks_at k line ++ check_names lines)
      by CheckLine h rest = All-append (There names) (names_of line) (check_names lines) h rest
      by CodeLine h rest = rest
      by GroupLine h rest = rest
      by StateLine h rest = rest
      by WatchLine h rest = rest
      by OtherLine h rest = rest

  there_in_group_checks : (lines : List TextLine) → ArePlanned lines → first_unknown names lines ≡ None → All (There names) (group_checks lines)
  there_in_group_checks [] planned e = All-nil (There names)
  there_in_group_checks (line ∷ lines) planned e =
      let here = there_here line lines e in
      by (kind_in_plan line) planned.0 here.0 (there_in_group_checks lines planned.1 here.1)
    where
      by : (k : PlanKind) → IsPlannedAt k line → All (There names) (names_at k line) → All (There names) (group_checks lines)
          → All (There names) (group_check_at k line ++ group_checks lines)
      by GroupLine p h rest = All-cons (There names) (net_of line) (group_checks lines) (last_there names line p h) rest
      by CodeLine p h rest = rest
      by CheckLine p h rest = rest
      by StateLine p h rest = rest
      by WatchLine p h rest = rest
      by OtherLine p h rest = rest

  there_for : (code : Code) (lines : List TextLine) → ArePlanned lines → first_unknown names lines ≡ None → All (There names) (checks_for code lines)
  there_for Parity lines planned e = there_in_group_checks lines planned e
  there_for Berger lines planned e = there_in_checks lines e
  there_for MOutOfN lines planned e = there_in_checks lines e

  there_in_groups : (lines : List TextLine) → first_unknown names lines ≡ None → All (All (There names)) (group_outputs lines)
  there_in_groups [] e = All-nil (All (There names))
  there_in_groups (line ∷ lines) e =
      let here = there_here line lines e in
      by (kind_in_plan line) here.0 (there_in_groups lines here.1)
    where
      by : (k : PlanKind) → All (There names) (names_at k line) → All (All (There names)) (group_outputs lines)
          → All (All (There names)) (group_outputs_at k line ++ group_outputs lines)
      by GroupLine h rest = All-cons (All (There names)) (pins_of line) (group_outputs lines) (pins_there names line h) rest
      by CodeLine h rest = rest
      by CheckLine h rest = rest
      by StateLine h rest = rest
      by WatchLine h rest = rest
      by OtherLine h rest = rest

  -- names that are all there in another list aren't unknown there
  none_unknown_there : (others : List (List ℕ)) → ((text : List ℕ) → There names text → There others text) → (lines : List TextLine)
      → first_unknown names lines ≡ None → first_unknown others lines ≡ None
  none_unknown_there others goes [] e = refl
  none_unknown_there others goes (line ∷ lines) e =
      let here = there_here line lines e in
      let there : All (There others) (names_at (kind_in_plan line) line) = λ k d h. goes _ (here.0 k d h) in
      ap (λ (b : Bool). if b then Some line.number else first_unknown others lines) (none_unknown others (names_at (kind_in_plan line) line) there)
      ∙ none_unknown_there others goes lines here.1

-- ---- nets by their names

module _ (N G : NetlistOf) (first : IsBuilt N) (second : IsBuilt G) (have : HaveMoved N.circuit G.circuit (moved_by_name N G)) where
  abbrev at : ℕ → ℕ
  at = at_of G.circuit (moved_by_name N G)

  within : (net : ℕ) → net < nets N.circuit → at net < nets G.circuit
  within net h = have.within net (nets G.circuit) (omega (arith, have.sized))

  goes : (net : ℕ) → net < nets N.circuit → at net ≡ place_of_text G.names (text_at N.names net)
  goes net h = get_or-map (place_of_text G.names) N.names net [] (nets G.circuit) (omega (arith, first.sized))

  text_there : (net : ℕ) → net < nets N.circuit → text_at G.names (at net) ≡ text_at N.names net
  text_there net h =
      let low = within net h in
      let is = goes net h in
      ap (text_at G.names) is ∙ text_of_place G.names (text_at N.names net) (omega (arith, second.sized))

  apart : (a b : ℕ) → a < nets N.circuit → b < nets N.circuit → at a ≡ at b → a ≡ b
  apart a b h k e = first.numbering.distinct a b (omega (arith, first.sized)) (omega (arith, first.sized))
      (sym (text_there a h) ∙ ap (text_at G.names) e ∙ text_there b k)

  named : (text : List ℕ) → There N.names text → net_named N text ≡ place_of_text N.names text
  named text there = ap (λ o. unwrap_or o 0) (find-there N.names text there)

  named_low : (text : List ℕ) → There N.names text → net_named N text < nets N.circuit
  named_low text there = let is = named text there in let low = place_within N.names text there in omega (arith, first.sized)

  -- a name of N's is one of G's
  named_text : (text : List ℕ) → There N.names text → text_at N.names (net_named N text) ≡ text
  named_text text there = ap (text_at N.names) (named text there) ∙ text_at_place N.names text there

  there_too : (text : List ℕ) → There N.names text → There G.names text
  there_too text there =
      let net = net_named N text in
      let low = named_low text there in
      let inside = within net low in
      has_text_at G.names text (at net) (omega (arith, second.sized)) (text_there net low ∙ named_text text there)

  net_moves : (text : List ℕ) → There N.names text → net_named G text ≡ at (net_named N text)
  net_moves text there =
      ap (λ o. unwrap_or o 0) (find-there G.names text (there_too text there))
      ∙ ap (place_of_text G.names) (sym (named_text text there))
      ∙ sym (goes (net_named N text) (named_low text there))

  checks_move : (texts : List (List ℕ)) → All (There N.names) texts → map (net_named G) texts ≡ map at (map (net_named N) texts)
  checks_move texts there =
      map_agrees (There N.names) (net_named G) (λ text. at (net_named N text)) net_moves texts there ∙ sym (map-map at (net_named N) texts)

  -- ---- outputs

  outputs_counted : length G.circuit.outputs ≡ length N.circuit.outputs
  outputs_counted = ap length have.outputs ∙ length-map N.circuit.outputs at

  latches_counted : length G.circuit.latches ≡ length N.circuit.latches
  latches_counted = ap length have.latches ∙ length-map N.circuit.latches (moved_latch at)

  abbrev sources : ℕ
  sources = source_outputs N

  sources_counted : source_outputs G ≡ sources
  sources_counted = ap (λ n. n - 2) outputs_counted

  same_test : (a b : ℕ) → a < nets N.circuit → b < nets N.circuit → (at a == at b) ≡ (a == b)
  same_test a b h k = elim (cases_eq a b) [
    | inl e ↦ eq-eqb (at a) (at b) (ap at e) ∙ sym (eq-eqb a b e)
    | inr other ↦ ne_eqb (at a) (at b) (λ e. other (apart a b h k e)) ∙ sym (ne_eqb a b other)
  ]

  place_stays : (net : ℕ) → net < nets N.circuit → (outputs : List ℕ) → All (λ output. output < nets N.circuit) outputs
      → position_or_len (λ output. output == at net) (map at outputs) ≡ position_or_len (λ output. output == net) outputs
  place_stays net h [] low = refl
  place_stays net h (output ∷ outputs) low =
      let Low : ℕ → Type 0 = λ output. output < nets N.circuit in
      ap₂ (λ (b : Bool) (n : ℕ). cond (not b) (1 + n) 0) (same_test output net (All-head Low output outputs low) h)
      (place_stays net h outputs (All-tail Low output outputs low))

  output_stays : (text : List ℕ) → There N.names text → output_place G text ≡ output_place N text
  output_stays text there =
      let net = net_named N text in
      let Low : ℕ → Type 0 = λ output. output < nets N.circuit in
      let shown = take sources N.circuit.outputs in
      let low : All Low shown = All-take Low sources N.circuit.outputs first.closed.outputs in
      ap₂ (λ n many. unwrap_or (position (λ output. output == n) (take many G.circuit.outputs)) many) (net_moves text there) sources_counted
      ∙ ap (λ outputs. unwrap_or (position (λ output. output == at net) (take sources outputs)) sources) have.outputs
      ∙ ap (λ outputs. unwrap_or (position (λ output. output == at net) outputs) sources) (take-map at sources N.circuit.outputs)
      ∙ ap₂ (λ (place count : ℕ). unwrap_or (cond (nat_lt place count) (Some place) None) sources) (place_stays net (named_low text there) shown low)
      (length-map shown at)

  groups_stay : (groups : List (List (List ℕ))) → All (All (There N.names)) groups
      → map (λ names. map (output_place G) names) groups ≡ map (λ names. map (output_place N) names) groups
  groups_stay groups there = map_agrees (All (There N.names)) (λ names. map (output_place G) names) (λ names. map (output_place N) names)
      (λ names all. map_agrees (There N.names) (output_place G) (output_place N) output_stays names all) groups there

  rail_moves : (place : ℕ) → place < length N.circuit.outputs
      → slice_index_or G.circuit.outputs place 0 ≡ at (slice_index_or N.circuit.outputs place 0)
  rail_moves place h = ap (λ outputs. slice_index_or outputs place 0) have.outputs ∙ get_or-map at N.circuit.outputs place 0 0 h

  -- ---- the plan

  module _ (lines : List TextLine) (planned : ArePlanned lines) (known : first_unknown N.names lines ≡ None) where
    groups_same : (code : Code) → groups_for code G lines ≡ groups_for code N lines
    groups_same Parity = groups_stay (group_outputs lines) (there_in_groups N.names lines known)
    groups_same Berger = refl
    groups_same MOutOfN = refl

    known_there : first_unknown G.names lines ≡ None
    known_there = none_unknown_there N.names G.names there_too lines known

    -- the rules of a plan ask the same
    abbrev rules : Code → ℕ → ℕ → ℕ → List (List ℕ) → Bool
    rules code outputs latches places groups =
        ((nat_le 3 outputs && nat_le outputs 66) && nat_le latches 64)
        && ((has_lines_for code lines && has_checks_for code places groups (length (checks_for code lines))) && fits_latches latches (state_words lines))

    right_same : (code : Code) → is_right code lines G ≡ is_right code lines N
    right_same code =
        ap₂ (λ outputs latches. rules code outputs latches (source_outputs G) (groups_for code G lines)) outputs_counted latches_counted
        ∙ ap₂ (λ places groups. rules code (length N.circuit.outputs) (length N.circuit.latches) places groups) sources_counted (groups_same code)

    abbrev plan_of : TextLine → ℕ → List ℕ → List (List ℕ) → ℕ → ℕ → ℕ → CodePlan
    plan_of head outputs checks groups latches rail1 rail2 = record {
      version = version_of head;
      code = code_in head;
      outputs = outputs;
      checks = checks;
      groups = groups;
      latches = latches;
      weight = weight_of (state_words lines);
      states = map bits_of_word (state_words lines);
      rail1 = rail1;
      rail2 = rail2;
    }

    plan_moves : (head : TextLine) → 2 ≤ length N.circuit.outputs → plan_with head lines G ≡ moved_plan at (plan_with head lines N)
    plan_moves head two =
        let code = code_in head in
        let outputs = G.circuit.outputs in
        ap₂ (λ checks groups. plan_of head (source_outputs G) checks groups (length G.circuit.latches) (slice_index_or outputs (source_outputs G) 0) (slice_index_or outputs (source_outputs G + 1) 0))
        (checks_move (checks_for code lines) (there_for N.names code lines planned known)) (groups_same code)
        ∙ ap₂ (λ places latches. plan_of head places (map at (map (net_named N) (checks_for code lines))) (groups_for code N lines) latches (slice_index_or outputs places 0) (slice_index_or outputs (places + 1) 0))
        sources_counted latches_counted
        ∙ ap₂ (λ rail other. plan_of head sources (map at (map (net_named N) (checks_for code lines))) (groups_for code N lines) (length N.circuit.latches) rail other)
        (rail_moves sources (omega arith)) (rail_moves (sources + 1) (omega arith))

-- ---- what the refusal says

-- a plan that isn't refused has a code line, by which it keeps its rules, and names nets alone
pub record IsAllowed (lines : List TextLine) (N : NetlistOf) : Type 0 where
  pub head : TextLine
  pub is : code_line lines ≡ Some head
  pub known : first_unknown N.names lines ≡ None
  pub right : is_right (code_in head) lines N ≡ true

-- plan lines that their code line doesn't refuse are allowed in this sense
pub is_allowed : (lines : List TextLine) (N : NetlistOf) → head_refusal (code_line lines) lines N ≡ None → IsAllowed lines N
is_allowed lines N e = by (code_line lines) refl e
  where
    shape : (head : TextLine) (b : Bool) → (if b then None else Some (PlanShape head.number)) ≡ None → b ≡ true
    shape head true e = refl
    shape head false e = cc

    name : (o : Option ℕ) (later : Option BlifError) → name_refusal o later ≡ None → (o ≡ None) × (later ≡ None)
    name None later e = (refl, e)
    name (Some number) later e = cc

    by : (o : Option TextLine) → code_line lines ≡ o → head_refusal o lines N ≡ None → IsAllowed lines N
    by None is e = cc
    by (Some head) is e =
        let both = name (first_unknown N.names lines) (shape_refusal head lines N) e in
        record { head = head; is = is; known = both.0; right = shape head (is_right (code_in head) lines N) both.1 }

pub plan_lines_stay_allowed : PlanLinesStayAllowed
plan_lines_stay_allowed lines N G first second same planned e =
    let have = names_move N G first second same in
    let allowed = is_allowed lines N e in
    ap (λ o. head_refusal o lines G) allowed.is
    ∙ ap (λ o. name_refusal o (shape_refusal allowed.head lines G)) (known_there N G first second have lines planned allowed.known)
    ∙ ap (λ (b : Bool). if b then None else Some (PlanShape allowed.head.number))
    (right_same N G first second have lines planned allowed.known (code_in allowed.head) ∙ allowed.right)

pub plans_move_by_name : PlansMoveByName
plans_move_by_name head lines N G first second same planned e =
    let have = names_move N G first second same in
    let allowed = is_allowed lines N e in
    let least = (keeps_all (code_in allowed.head) lines N allowed.right).least in
    plan_moves N G first second have lines planned allowed.known head (omega (arith, least))
