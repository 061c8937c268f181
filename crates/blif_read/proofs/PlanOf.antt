-- A plan whose names are nets is of its netlist.
use Rattle.std.proofs.Common.{◌≡◌, ℕ, ◌+◌, ◌-◌, ◌<◌, ◌≤◌, Bool, true, false, not, ◌&&◌, ◌||◌, List, [], ◌∷◌, ◌++◌, length, get_or, drop, arith, refl, ap, sym, subst, ◌∙◌, Option, Some, None, if◌then◌else◌, length-drop}
use Rattle.std.specs.List.{list_all, list_any}
use Rattle.std.specs.Option.{is_some, unwrap_or}
use Rattle.std.specs.Str.{bytes_eq}
use Rattle.std.proofs.lemmas.List.{get_or-drop}
use Rattle.std.proofs.lemmas.List.Quantifiers.{position-Some}
use Rattle.fault_secure.specs.Circuit.{Circuit, nets}
use Rattle.fault_secure.specs.CodePlan.{IsPlanOf}
use Rattle.tsc_net.specs.Names.{find_text}
use Rattle.tsc_net.specs.NetlistOf.{NetlistOf, IsBuilt}
use Rattle.fault_secure.specs.declared.code.Code.{Code}
use Rattle.fault_secure.specs.declared.code.Code.TheVariants.{Parity, Berger, MOutOfN}
use Rattle.tsc_text.specs.TextLine.{TextLine}
use Rattle.blif_read.specs.LineKind.{names_of, net_of}
use Rattle.blif_read.specs.PlanText.{plan_with, code_in, source_outputs, checks_for, group_checks, group_check_at, check_names, checks_at, groups_for, kind_in_plan, names_at, net_named, seen_circuit, seen_net}
use Rattle.blif_read.specs.PlanFault.{first_unknown}
use Rattle.blif_read.specs.Planned.{IsPlannedAt, ArePlanned}
use Rattle.blif_read.specs.declared.plan_lines.PlanKind.{PlanKind}
use Rattle.blif_read.specs.declared.plan_lines.PlanKind.TheVariants.{CodeLine, GroupLine, CheckLine, StateLine, WatchLine, OtherLine}
use Rattle.blif_read.proofs.PlanMade.{KeepsAll, all_by, all_map}

-- a net has the name
abbrev pub is_known : List (List ℕ) → List ℕ → Bool
is_known names name = is_some (find_text names name)

none_unknown : (names texts : List (List ℕ)) → list_any (λ name. not (is_known names name)) texts ≡ false → list_all (is_known names) texts ≡ true
none_unknown names [] e = refl
none_unknown names (text ∷ texts) e = by (is_known names text) e (none_unknown names texts)
  where
    by : (b : Bool) → (not b || list_any (λ name. not (is_known names name)) texts) ≡ false
        → (list_any (λ name. not (is_known names name)) texts ≡ false → list_all (is_known names) texts ≡ true) → (b && list_all (is_known names) texts) ≡ true
    by true e rest = rest e
    by false e rest = cc

known_front : (names a b : List (List ℕ)) → list_all (is_known names) a ≡ true → list_all (is_known names) b ≡ true → list_all (is_known names) (a ++ b) ≡ true
known_front names [] b e f = f
known_front names (x ∷ a) b e f = by (is_known names x) e (λ r. known_front names a b r f)
  where
    by : (c : Bool) → (c && list_all (is_known names) a) ≡ true → (list_all (is_known names) a ≡ true → list_all (is_known names) (a ++ b) ≡ true)
        → (c && list_all (is_known names) (a ++ b)) ≡ true
    by true e rest = rest e
    by false e rest = cc

-- the last word of a line is one of its names
last_known : (names : List (List ℕ)) (line : TextLine) → 3 ≤ length line.words → list_all (is_known names) (names_of line) ≡ true → is_known names (net_of line) ≡ true
last_known names line h e =
    let at : length line.words - 2 < length (drop 1 line.words) = omega (arith, length-drop 1 line.words) in
    let known : is_known names (get_or (drop 1 line.words) (length line.words - 2) []) ≡ true =
    all_by (is_known names) (λ name. is_known names name ≡ true) (λ name t. t) (drop 1 line.words) e (length line.words - 2) [] at in
    let place : 1 + (length line.words - 2) ≡ length line.words - 1 = omega arith in
    let same : get_or (drop 1 line.words) (length line.words - 2) [] ≡ net_of line =
    get_or-drop 1 line.words (length line.words - 2) [] ∙ ap (λ n. get_or line.words n []) place in
    subst (λ name. is_known names name ≡ true) same known

-- no name of the lines is unknown, so the checks are known
module _ (names : List (List ℕ)) where
  no_unknown_here : (line : TextLine) (lines : List TextLine) → first_unknown names (line ∷ lines) ≡ None → list_all (is_known names) (names_at (kind_in_plan line) line) ≡ true
  no_unknown_here line lines e = none_unknown names (names_at (kind_in_plan line) line) (by (list_any (λ name. not (is_known names name)) (names_at (kind_in_plan line) line)) e)
    where
      by : (b : Bool) → (if b then Some line.number else first_unknown names lines) ≡ None → b ≡ false
      by true e = cc
      by false e = refl

  no_unknown_later : (line : TextLine) (lines : List TextLine) → first_unknown names (line ∷ lines) ≡ None → first_unknown names lines ≡ None
  no_unknown_later line lines e = by (list_any (λ name. not (is_known names name)) (names_at (kind_in_plan line) line)) e
    where
      by : (b : Bool) → (if b then Some line.number else first_unknown names lines) ≡ None → first_unknown names lines ≡ None
      by true e = cc
      by false e = e

  check_names_known : (lines : List TextLine) → first_unknown names lines ≡ None → list_all (is_known names) (check_names lines) ≡ true
  check_names_known [] e = refl
  check_names_known (line ∷ lines) e =
      by (kind_in_plan line) (no_unknown_here line lines e) (check_names_known lines (no_unknown_later line lines e))
    where
      by : (k : PlanKind) → list_all (is_known names) (names_at k line) ≡ true → list_all (is_known names) (check_names lines) ≡ true
          → list_all (is_known names) (checks_at k line ++ check_names lines) ≡ true
      by CheckLine h r = known_front names (names_of line) (check_names lines) h r
      by CodeLine h r = r
      by GroupLine h r = r
      by StateLine h r = r
      by WatchLine h r = r
      by OtherLine h r = r

  group_checks_known : (lines : List TextLine) → ArePlanned lines → first_unknown names lines ≡ None → list_all (is_known names) (group_checks lines) ≡ true
  group_checks_known [] p e = refl
  group_checks_known (line ∷ lines) p e =
      by (kind_in_plan line) p.0 (no_unknown_here line lines e) (group_checks_known lines p.1 (no_unknown_later line lines e))
    where
      by : (k : PlanKind) → IsPlannedAt k line → list_all (is_known names) (names_at k line) ≡ true → list_all (is_known names) (group_checks lines) ≡ true
          → list_all (is_known names) (group_check_at k line ++ group_checks lines) ≡ true
      by GroupLine p h r = ap (λ b. b && list_all (is_known names) (group_checks lines)) (last_known names line p h) ∙ r
      by CodeLine p h r = r
      by CheckLine p h r = r
      by StateLine p h r = r
      by WatchLine p h r = r
      by OtherLine p h r = r

  checks_known : (code : Code) (lines : List TextLine) → ArePlanned lines → first_unknown names lines ≡ None → list_all (is_known names) (checks_for code lines) ≡ true
  checks_known Parity lines p e = group_checks_known lines p e
  checks_known Berger lines p e = check_names_known lines e
  checks_known MOutOfN lines p e = check_names_known lines e

-- a known name names a net
known_is_net : (net : NetlistOf) → length net.names ≡ nets net.circuit → (name : List ℕ) → is_known net.names name ≡ true → net_named net name < nets net.circuit
known_is_net net s name e = by (find_text net.names name) refl e
  where
    by : (o : Option ℕ) → find_text net.names name ≡ o → is_some o ≡ true → unwrap_or o 0 < nets net.circuit
    by None f e = cc
    by (Some i) f e = omega (arith, (position-Some (bytes_eq name) net.names i [] f).0, s)

-- to a plan the groups are those of the netlist
pub seen_groups : (lists : Bool) (code : Code) (net : NetlistOf) (lines : List TextLine) → groups_for code (seen_net lists net) lines ≡ groups_for code net lines
seen_groups lists Parity net lines = refl
seen_groups lists Berger net lines = refl
seen_groups lists MOutOfN net lines = refl

-- to a plan all nets are as many as they are
pub seen_nets : (lists : Bool) (C : Circuit) → nets (seen_circuit lists C) ≡ nets C
seen_nets true C = refl
seen_nets false C = omega arith

pub plan_is_of : (lists : Bool) (head : TextLine) (lines : List TextLine) (net : NetlistOf) → ArePlanned lines → KeepsAll (code_in head) lines (seen_net lists net)
    → first_unknown net.names lines ≡ None → IsBuilt net → IsPlanOf (seen_circuit lists net.circuit) (plan_with head lines (seen_net lists net))
plan_is_of lists head lines net planned keeps known checked =
    let seen = seen_net lists net in
    let same : nets seen.circuit ≡ nets net.circuit = seen_nets lists net.circuit in
    let sized : length seen.names ≡ nets seen.circuit = checked.sized ∙ sym same in
    let inside : (place : ℕ) → place < length net.circuit.outputs → get_or net.circuit.outputs place 0 < nets seen.circuit =
    λ place h. subst (λ n. get_or net.circuit.outputs place 0 < n) (sym same) (checked.closed.outputs place 0 h) in
    record {
      outputs = two keeps.least;
      rail1 = refl;
      rail2 = refl;
      checks = all_map (net_named seen) (λ n. n < nets seen.circuit) (checks_for (code_in head) lines)
          (all_by (is_known net.names) (λ name. net_named seen name < nets seen.circuit) (known_is_net seen sized) (checks_for (code_in head) lines)
          (checks_known net.names (code_in head) lines planned known));
      rails = (inside (source_outputs net) (first_in keeps.least), inside (source_outputs net + 1) (second_in keeps.least));
      latches = refl;
    }
  where
    two : 3 ≤ length net.circuit.outputs → length net.circuit.outputs ≡ (length net.circuit.outputs - 2) + 2
    two h = omega arith

    first_in : 3 ≤ length net.circuit.outputs → length net.circuit.outputs - 2 < length net.circuit.outputs
    first_in h = omega arith

    second_in : 3 ≤ length net.circuit.outputs → (length net.circuit.outputs - 2) + 1 < length net.circuit.outputs
    second_in h = omega arith
