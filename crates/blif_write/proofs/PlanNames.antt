-- Which lines and which names the plan lines of a layout have.
use Rattle.std.proofs.Common.{◌≡◌, ℕ, ◌+◌, ◌<◌, Bool, true, false, not, cond, ◌||◌, if◌then◌else◌, List, [], ◌∷◌, ◌++◌, length, map, get_or, count_by, refl, sym, ap, ap₂, ◌∙◌, subst, arith, append-nil, All, None, Some}
use Rattle.std.specs.List.{flat_map, list_any}
use Rattle.std.specs.Option.{is_some}
use Rattle.std.proofs.lemmas.List.Elements.{All-nil, All-append, All-cons, All-head, All-tail, All-map, All-weaker}
use Rattle.std.proofs.lemmas.List.Sums.{sum_by-cons}
use Rattle.tsc_text.specs.TextLine.{TextLine}
use Rattle.tsc_text.specs.Written.{numbered}
use Rattle.fault_secure.specs.CodePlan.{CodePlan, IsPlanOf, IsWellMade, HasShape, concat_places}
use Rattle.fault_secure.specs.declared.code.Code.{Code}
use Rattle.fault_secure.specs.declared.code.Code.TheVariants.{Parity, Berger, MOutOfN}
use Rattle.tsc_net.specs.Names.{find_text, has_text, text_at}
use Rattle.tsc_net.specs.NetlistOf.{NetlistOf, IsBuilt, named_of}
use Rattle.tsc_net.proofs.NameLemmas.{found-has}
use Rattle.blif_read.specs.PlanFault.{first_unknown}
use Rattle.blif_read.specs.PlanText.{kind_in_plan, names_at}
use Rattle.blif_read.specs.declared.plan_lines.PlanKind.{PlanKind}
use Rattle.blif_read.specs.declared.plan_lines.PlanKind.TheVariants.{CodeLine, GroupLine, CheckLine, StateLine, OtherLine}
use Rattle.blif_write.specs.Layout.{group_line, check_lines, section_lines}
use Rattle.blif_write.specs.NamedPlan.{NamedPlan, named_plan, named_groups, named_group, output_name}
use Rattle.blif_write.proofs.NetBack.{outputs-below, text-there, texts-there}
use Rattle.blif_write.proofs.PlanBack.{IsSelection, sel-plan, sel-section}
use Rattle.blif_write.proofs.PlanStated.{flat-nothing}
use Rattle.tsc_bits.proofs.Lists.{all_left, all_right}

-- the lines of a layout with its plan
abbrev pub lines_with : NetlistOf → CodePlan → List TextLine
lines_with net P = numbered 1 (section_lines (named_of net) (named_plan net P))

-- one for each plan line whose kind passes a test
module _ (test : PlanKind → Bool) where
  abbrev mark : PlanKind → TextLine → List ℕ
  mark kind line = cond (test kind) (0 ∷ []) []

  abbrev marks : List TextLine → List ℕ
  marks lines = flat_map (λ line. mark (kind_in_plan line) line) lines

  marks-counted : (lines : List TextLine) → count_by (λ line. test (kind_in_plan line)) lines ≡ length (marks lines)
  marks-counted [] = refl
  marks-counted (line ∷ lines) = sum_by-cons (λ (l : TextLine). cond (test (kind_in_plan l)) 1 0) line lines ∙ by (test (kind_in_plan line)) (marks-counted lines)
    where
      by : (b : Bool) → count_by (λ line. test (kind_in_plan line)) lines ≡ length (marks lines)
          → cond b 1 0 + count_by (λ line. test (kind_in_plan line)) lines ≡ length (cond {A = List ℕ} b (0 ∷ []) [] ++ marks lines)
      by true e = omega (arith, e)
      by false e = omega (arith, e)

  module _ (other : test OtherLine ≡ false) (code : test CodeLine ≡ false) (state : test StateLine ≡ false) where
    unmarked : (kind : PlanKind) → test kind ≡ false → cond {A = List ℕ} (test kind) (0 ∷ []) [] ≡ []
    unmarked kind e = ap (λ (b : Bool). cond {A = List ℕ} b (0 ∷ []) []) e

    marks-sel : IsSelection mark marks
    marks-sel = record { none = refl; more = λ line lines. refl; other = λ line. unmarked OtherLine other; code = λ line. unmarked CodeLine code }

    counted : (net : NetlistOf) (P : CodePlan) → IsWellMade P → (m : List ℕ)
        → ((n : ℕ) (rest : List TextLine) → marks (numbered n (check_lines P.code (named_plan net P)) ++ rest) ≡ m ++ marks rest)
        → count_by (λ line. test (kind_in_plan line)) (lines_with net P) ≡ length m
    counted net P made m checks =
        marks-counted (lines_with net P)
        ∙ ap (λ (xs : List ℕ). length xs) (sel-section mark marks marks-sel (named_of net) (named_plan net P) made.versioned (λ bits. []) (λ bits n. unmarked StateLine state) m checks
        ∙ ap (λ (xs : List ℕ). m ++ xs) (flat-nothing P.states) ∙ append-nil m)

    -- under parity, where no group is counted, none is
    pub no-group : (net : NetlistOf) (P : CodePlan) → IsWellMade P → P.code ≡ Parity → test GroupLine ≡ false → count_by (λ line. test (kind_in_plan line)) (lines_with net P) ≡ 0
    no-group net P made e group =
        let groups : List (List (List ℕ)) = (named_plan net P).groups in
        counted net P made []
        (λ n rest. ap (λ c. marks (numbered n (check_lines c (named_plan net P)) ++ rest)) e
        ∙ sel-plan mark marks marks-sel group_line (λ names. []) groups (λ names m. unmarked GroupLine group) n rest
        ∙ ap (λ (xs : List ℕ). xs ++ marks rest) (flat-nothing groups))

    -- else the check line is counted, where check lines are
    pub one-check : (net : NetlistOf) (P : CodePlan) → IsWellMade P → (kind : Code) → P.code ≡ kind → (kind ≡ Parity → ⊥)
        → count_by (λ line. test (kind_in_plan line)) (lines_with net P) ≡ length (cond {A = List ℕ} (test CheckLine) (0 ∷ []) [])
    one-check net P made kind e apart =
        counted net P made (cond {A = List ℕ} (test CheckLine) (0 ∷ []) [])
        (λ n rest. ap (λ c. marks (numbered n (check_lines c (named_plan net P)) ++ rest)) e ∙ one kind apart n rest)
      where
        one : (kind : Code) → (kind ≡ Parity → ⊥) → (n : ℕ) (rest : List TextLine)
            → marks (numbered n (check_lines kind (named_plan net P)) ++ rest) ≡ cond {A = List ℕ} (test CheckLine) (0 ∷ []) [] ++ marks rest
        one Parity apart n rest = absurd (apart refl)
        one Berger apart n rest = refl
        one MOutOfN apart n rest = refl

-- the nets that the plan lines name, in order
abbrev plan_names : List TextLine → List (List ℕ)
plan_names lines = flat_map (λ line. names_at (kind_in_plan line) line) lines

names-sel : IsSelection names_at plan_names
names-sel = record { none = refl; more = λ line lines. refl; other = λ line. refl; code = λ line. refl }

abbrev There : List (List ℕ) → List ℕ → Type 0
There names text = has_text names text ≡ true

-- lines that name nets alone have no unknown name
all-known : (names texts : List (List ℕ)) → All (There names) texts → list_any (λ name. not (is_some (find_text names name))) texts ≡ false
all-known names [] h = refl
all-known names (text ∷ texts) h =
    ap₂ (λ x y. x || y) (ap not (found-has names text ∙ All-head (There names) text texts h)) (all-known names texts (All-tail (There names) text texts h))

none-unknown : (names : List (List ℕ)) (lines : List TextLine) → All (There names) (plan_names lines) → first_unknown names lines ≡ None
none-unknown names [] h = refl
none-unknown names (line ∷ lines) h =
    let here : List (List ℕ) = names_at (kind_in_plan line) line in
    ap (λ (b : Bool). if b then Some line.number else first_unknown names lines) (all-known names here (all_left (There names) here (plan_names lines) h))
    ∙ none-unknown names lines (all_right (There names) here (plan_names lines) h)

-- the names of groups are there, where the places are of outputs and the checks are nets
module _ (net : NetlistOf) (outputs : All (λ i. i < length net.names) net.circuit.outputs) where
  abbrev IsPlace : ℕ → Type 0
  IsPlace place = place < length net.circuit.outputs

  abbrev IsNet : ℕ → Type 0
  IsNet i = i < length net.names

  group-there : (places : List ℕ) (check : ℕ) → All IsPlace places → IsNet check → All (There net.names) (named_group net places check)
  group-there places check low known =
      All-append (There net.names) (map (output_name net) places) (text_at net.names check ∷ [])
      (All-map (There net.names) (output_name net) places
      (All-weaker IsPlace (λ place. There net.names (output_name net place)) (λ place h. text-there net.names (get_or net.circuit.outputs place 0) (outputs place 0 h)) places low))
      (All-cons (There net.names) (text_at net.names check) [] (text-there net.names check known) (All-nil (There net.names)))

  groups-there : (groups : List (List ℕ)) (checks : List ℕ) → All IsPlace (concat_places groups) → All IsNet checks → All (There net.names) (flat_map (λ names. names) (named_groups net groups checks))
  groups-there [] checks low known = All-nil (There net.names)
  groups-there (group ∷ groups) [] low known = All-nil (There net.names)
  groups-there (group ∷ groups) (check ∷ checks) low known =
      All-append (There net.names) (named_group net group check) (flat_map (λ names. names) (named_groups net groups checks))
      (group-there group check (all_left IsPlace group (concat_places groups) low) (All-head IsNet check checks known))
      (groups-there groups checks (all_right IsPlace group (concat_places groups) low) (All-tail IsNet check checks known))

-- the names of the lines of the checks
abbrev check_texts : Code → NamedPlan → List (List ℕ)
check_texts Parity Q = flat_map (λ names. names) Q.groups
check_texts Berger Q = Q.checks
check_texts MOutOfN Q = Q.checks

texts-back : (code : Code) (Q : NamedPlan) (n : ℕ) (rest : List TextLine) → plan_names (numbered n (check_lines code Q) ++ rest) ≡ check_texts code Q ++ plan_names rest
texts-back Parity Q n rest = sel-plan names_at plan_names names-sel group_line (λ names. names) Q.groups (λ names m. refl) n rest
texts-back Berger Q n rest = refl
texts-back MOutOfN Q n rest = refl

texts-known : (net : NetlistOf) → IsBuilt net → (P : CodePlan) → IsPlanOf net.circuit P → (code : Code) → HasShape code P → All (There net.names) (check_texts code (named_plan net P))
texts-known net c P of code shape = by code shape
  where
    checks : All (λ i. i < length net.names) P.checks
    checks = subst (λ most. All (λ i. i < most) P.checks) (sym c.sized) of.checks

    by : (code : Code) → HasShape code P → All (There net.names) (check_texts code (named_plan net P))
    by Parity shape =
        groups-there net (outputs-below net c) P.groups P.checks
        (All-weaker (λ place. place < P.outputs) (λ place. place < length net.circuit.outputs) (λ place h. let count = of.outputs in omega arith) (concat_places P.groups) shape.within) checks
    by Berger shape = texts-there net.names P.checks checks
    by MOutOfN shape = texts-there net.names P.checks checks

-- the plan lines of a layout name nets alone
pub no-unknown : (net : NetlistOf) → IsBuilt net → (P : CodePlan) → IsWellMade P → IsPlanOf net.circuit P → first_unknown net.names (lines_with net P) ≡ None
no-unknown net c P made of =
    let Q : NamedPlan = named_plan net P in
    let texts : List (List ℕ) = check_texts P.code Q in
    let all : plan_names (lines_with net P) ≡ texts =
    sel-section names_at plan_names names-sel (named_of net) Q made.versioned (λ bits. []) (λ bits n. refl) texts (texts-back P.code Q)
    ∙ ap (λ (more : List (List ℕ)). texts ++ more) (flat-nothing P.states) ∙ append-nil texts in
    none-unknown net.names (lines_with net P) (subst (All (There net.names)) (sym all) (texts-known net c P of P.code made.shape))
