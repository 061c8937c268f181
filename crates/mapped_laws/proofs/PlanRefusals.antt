-- What refuses a plan is in the words of the plan lines, so nothing refuses it where these lines are put into another section.
use Rattle.std.proofs.Common.{◌≡◌, ℕ, ◌+◌, Bool, true, false, cond, ◌&&◌, ◌==◌, nat_le, if◌then◌else◌, List, [], ◌∷◌, length, map, slice_index_or, count_by, Option, None, Some, All, refl, sym, ap, ap₂, subst, ◌∙◌, arith}
use Rattle.std.specs.List.{filter}
use Rattle.std.proofs.lemmas.List.Elements.{All-nil, All-append}
use Rattle.std.proofs.lemmas.List.Sums.{sum_by-cons}
use Rattle.tsc_bits.proofs.Lists.{all_left, all_right}
use Rattle.tsc_text.specs.TextLine.{TextLine, the_word}
use Rattle.fault_secure.specs.declared.code.Code.{Code}
use Rattle.fault_secure.specs.declared.code.Code.TheVariants.{Parity, Berger, MOutOfN}
use Rattle.tsc_net.specs.NetlistOf.{NetlistOf}
use Rattle.blif_read.specs.Denotes.{refusal_of_plan}
use Rattle.blif_read.specs.PlanFault.{first_unknown, has_lines_for, has_checks_for, fits_latches, is_right, head_refusal, name_refusal, shape_refusal}
use Rattle.blif_read.specs.PlanLines.{plan_kind}
use Rattle.blif_read.specs.PlanText.{kind_in_plan, code_line, code_in, code_named, names_at, is_group_line, is_check_line, state_words, source_outputs, groups_for, checks_for}
use Rattle.blif_read.specs.Refusal.{netlist_refusal}
use Rattle.blif_read.specs.declared.error.BlifError.TheVariants.{PlanShape}
use Rattle.blif_read.specs.declared.kinds.Kind.TheVariants.{Netlist}
use Rattle.blif_read.specs.declared.plan_lines.PlanKind.{PlanKind}
use Rattle.blif_read.specs.declared.plan_lines.PlanKind.TheVariants.{CodeLine, GroupLine, CheckLine, StateLine, WatchLine, OtherLine}
use Rattle.blif_read.proofs.PlannedLines.{planned_section}
use Rattle.mapped_laws.specs.MappedLaws.{plan_words, section_net, PlanRefusalsAreInPlanLines, PutPlanLinesAreAllowed}
use Rattle.mapped_laws.proofs.BuiltNetlists.{section_is_built}
use Rattle.mapped_laws.proofs.PlanMoved.{There, none_unknown, there_here, IsAllowed, is_allowed, plan_lines_stay_allowed}
use Rattle.mapped_laws.proofs.PlanWords.{IsOfWords, as_line, picked, same_picked, words_of, first_words, head_words, same_groups, same_checks, same_states, both_allowed}

-- ---- names

names_of_words : IsOfWords names_at
names_of_words = record { other = λ line. refl; same = same }
  where
    same : (kind : PlanKind) (line : TextLine) → names_at kind line ≡ names_at kind (as_line line.words)
    same CodeLine line = refl
    same GroupLine line = refl
    same CheckLine line = refl
    same StateLine line = refl
    same WatchLine line = refl
    same OtherLine line = refl

module _ (names : List (List ℕ)) where
  abbrev named : List TextLine → List (List ℕ)
  named lines = picked names_at names_of_words lines

  all_there_in : (lines : List TextLine) → first_unknown names lines ≡ None → All (There names) (named lines)
  all_there_in [] e = All-nil (There names)
  all_there_in (line ∷ lines) e =
      let here = there_here names line lines e in
      All-append (There names) (names_at (kind_in_plan line) line) (named lines) here.0 (all_there_in lines here.1)

  none_unknown_in : (lines : List TextLine) → All (There names) (named lines) → first_unknown names lines ≡ None
  none_unknown_in [] there = refl
  none_unknown_in (line ∷ lines) there =
      let here = names_at (kind_in_plan line) line in
      ap (λ (b : Bool). if b then Some line.number else first_unknown names lines) (none_unknown names here (all_left (There names) here (named lines) there))
      ∙ none_unknown_in lines (all_right (There names) here (named lines) there)

-- ---- counts

plus_none : (a b c : ℕ) → a ≡ 0 → b ≡ c → a + b ≡ c
plus_none a b c z e = omega arith

count_cons : {X : Type 0} (q : X → Bool) (x : X) (xs : List X) → count_by q (x ∷ xs) ≡ cond (q x) 1 0 + count_by q xs
count_cons q x xs = sum_by-cons (λ y. cond (q y) 1 0) x xs

module _ (p : PlanKind → Bool) (no : p OtherLine ≡ false) where
  abbrev counted : List TextLine → ℕ
  counted lines = count_by (λ (line : TextLine). p (kind_in_plan line)) lines

  abbrev is_in : List (List ℕ) → Bool
  is_in words = p (plan_kind (slice_index_or words 0 []))

  counted_words : (lines : List TextLine) → counted lines ≡ count_by is_in (plan_words lines)
  counted_words [] = refl
  counted_words (line ∷ lines) = count_cons (λ (l : TextLine). p (kind_in_plan l)) line lines ∙ by line.is_plan (counted_words lines)
    where
      by : (b : Bool) → counted lines ≡ count_by is_in (plan_words lines)
          → cond (p (if b then plan_kind (the_word line 0) else OtherLine)) 1 0 + counted lines
          ≡ count_by is_in (map (λ (l : TextLine). l.words) (cond b (line ∷ filter (λ (l : TextLine). l.is_plan) lines) (filter (λ (l : TextLine). l.is_plan) lines)))
      by true rest =
          ap (λ (n : ℕ). cond (p (plan_kind (the_word line 0))) 1 0 + n) rest ∙ sym (count_cons is_in line.words (plan_words lines))
      by false rest = plus_none (cond (p OtherLine) 1 0) (counted lines) (count_by is_in (plan_words lines)) (ap (λ (b : Bool). cond {A = ℕ} b 1 0) no) rest

  same_counted : (lines others : List TextLine) → plan_words lines ≡ plan_words others → counted lines ≡ counted others
  same_counted lines others e = counted_words lines ∙ ap (count_by is_in) e ∙ sym (counted_words others)

-- ---- what refuses a plan

module _ (net : NetlistOf) (lines others : List TextLine) (e : plan_words lines ≡ plan_words others) where
  same_lines_for : (code : Code) → has_lines_for code lines ≡ has_lines_for code others
  same_lines_for Parity = ap (λ n. n == 0) (same_counted is_check_line refl lines others e)
  same_lines_for Berger =
      ap₂ (λ n m. n == 0 && m == 1) (same_counted is_group_line refl lines others e) (same_counted is_check_line refl lines others e)
  same_lines_for MOutOfN =
      ap₂ (λ n m. n == 0 && m == 1) (same_counted is_group_line refl lines others e) (same_counted is_check_line refl lines others e)

  abbrev rules : Code → Bool → List (List ℕ) → List (List ℕ) → List (List ℕ) → Bool
  rules code fitting groups checks states =
      ((nat_le 3 (length net.circuit.outputs) && nat_le (length net.circuit.outputs) 66) && nat_le (length net.circuit.latches) 64)
      && ((fitting && has_checks_for code (source_outputs net) groups (length checks)) && fits_latches (length net.circuit.latches) states)

  same_right : (code : Code) → is_right code lines net ≡ is_right code others net
  same_right code =
      ap₂ (λ fitting groups. rules code fitting groups (checks_for code lines) (state_words lines)) (same_lines_for code) (same_groups net lines others e code)
      ∙ ap₂ (λ checks states. rules code (has_lines_for code others) (groups_for code net others) checks states)
      (same_checks net lines others e code) (same_states net lines others e)

  same_known : first_unknown net.names lines ≡ None → first_unknown net.names others ≡ None
  same_known known = none_unknown_in net.names others
      (subst (All (There net.names)) (same_picked names_at names_of_words lines others e) (all_there_in net.names lines known))

  stays_allowed : (head : TextLine) → code_line lines ≡ Some head → is_right (code_in head) lines net ≡ true → first_unknown net.names others ≡ None
      → (other : Option TextLine) → words_of other ≡ Some head.words → head_refusal other others net ≡ None
  stays_allowed head is right known None same = cc
  stays_allowed head is right known (Some other) same =
      let words : head.words ≡ other.words = cc in
      let coded : code_in head ≡ code_in other = ap (λ (w : List (List ℕ)). code_named (slice_index_or w 1 [])) words in
      let right_there : is_right (code_in other) others net ≡ true =
      subst (λ code. is_right code others net ≡ true) coded (sym (same_right (code_in head)) ∙ right) in
      ap (λ o. name_refusal o (shape_refusal other others net)) known
      ∙ ap (λ (b : Bool). if b then None else Some (PlanShape other.number)) right_there

pub plan_refusals_are_in_plan_lines : PlanRefusalsAreInPlanLines
plan_refusals_are_in_plan_lines lines others net e allowed =
    let plan : IsAllowed lines net = is_allowed lines net allowed in
    stays_allowed net lines others e plan.head plan.is plan.right (same_known net lines others e plan.known) (code_line others)
    (head_words others ∙ ap first_words (sym e) ∙ sym (head_words lines) ∙ ap words_of plan.is)

-- nothing refuses plan lines that are put into a mapped netlist's section
pub put_plan_lines_are_allowed : PutPlanLinesAreAllowed
put_plan_lines_are_allowed kind lines others put =
    let both = both_allowed (netlist_refusal Netlist lines) (refusal_of_plan Netlist lines) put.allowed in
    plan_refusals_are_in_plan_lines lines others (section_net others) (sym put.words)
    (plan_lines_stay_allowed lines (section_net lines) (section_net others) (section_is_built Netlist lines put.allowed)
    (section_is_built kind others put.readable) put.names (planned_section lines both.0) both.1)
