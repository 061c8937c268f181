-- The groups and the state words of a plan, one by one.
use Rattle.std.proofs.Common.{◌≡◌, ℕ, ◌<◌, ◌≤◌, List, [], ◌∷◌, length, map, refl, sym, ap, ◌∙◌, subst, All, arith, Result, Ok, Err, OnOk}
use Rattle.std.proofs.lemmas.List.Elements.{All-nil, All-cons, All-head, All-tail}
use Rattle.std.specs.declared.alloc.AllocError.{AllocError}
use Rattle.tsc_bits.specs.Bits.{bits_of}
use Rattle.fault_secure.specs.Circuit.{Circuit, nets}
use Rattle.fault_secure.specs.CodePlan.{CodePlan, concat_places, HasShape, HasGroups, IsWellMade}
use Rattle.tsc_net.specs.NetlistOf.{NetlistOf}
use Rattle.tsc_net.specs.PlanView.{net_numbers, plan_of, KeepsRules}
use Rattle.fault_secure.specs.declared.code.Code.{Code}
use Rattle.fault_secure.specs.declared.code.Code.TheVariants.{Parity}
use Rattle.tsc_net.specs.declared.ids.NetId.{NetId}
use Rattle.tsc_net.specs.declared.plan.Group.{Group}
use Rattle.tsc_net.specs.declared.plan.Plan.TheInside.{Inside}
use Rattle.blif_write.specs.Layout.{group_line, state_line, check_lines}
use Rattle.blif_write.specs.NamedPlan.{named_groups, named_plan}
use Rattle.blif_write.specs.NetLines.{FitsGroup, line_of_group, line_of_state}
use Rattle.tsc_bits.proofs.Lists.{all_left, all_right}

abbrev pub places_of : List Group → List (List ℕ)
places_of groups = map (λ group. group.places) groups

abbrev pub checks_of : List Group → List NetId
checks_of groups = map (λ group. group.check) groups

-- each group of a plan that is of the circuit fits it
pub groups-fit : (C : Circuit) (groups : List Group) (outputs : ℕ) → outputs ≤ length C.outputs → All (λ place. place < outputs) (concat_places (places_of groups)) → All (λ net. net < nets C) (net_numbers (checks_of groups)) → All (FitsGroup C) groups
groups-fit C [] outputs few places checks = All-nil (FitsGroup C)
groups-fit C (group ∷ groups) outputs few places checks =
    let Within : ℕ → Type 0 = λ place. place < outputs in
    let Known : ℕ → Type 0 = λ net. net < nets C in
    let here = all_left Within group.places (concat_places (places_of groups)) places in
    All-cons (FitsGroup C) group groups
    (record { places = λ k d h. let at = here k d h in omega (arith, at); check = All-head Known group.check.number (net_numbers (checks_of groups)) checks })
    (groups-fit C groups outputs few
    (all_right Within group.places (concat_places (places_of groups)) places)
    (All-tail Known group.check.number (net_numbers (checks_of groups)) checks))

-- under parity the groups of a plan fit the circuit, where it has the plan's outputs and checks
pub plan-groups-fit : (C : Circuit) (p : Inside) (P : CodePlan) → plan_of p ≡ P → p.code ≡ Parity → KeepsRules p → P.outputs ≤ length C.outputs → All (λ net. net < nets C) P.checks → All (FitsGroup C) p.groups
plan-groups-fit C p P e code rules few known =
    let Few : CodePlan → Type 0 = λ Q. Q.outputs ≤ length C.outputs in
    let Checked : CodePlan → Type 0 = λ Q. All (λ net. net < nets C) Q.checks in
    let Shaped : Code → Type 0 = λ c. HasShape c (plan_of p) in
    let shape : HasGroups (plan_of p) = subst Shaped code rules.well_made.shape in
    let Known : List NetId → Type 0 = λ list. All (λ net. net < nets C) (net_numbers list) in
    let checks : Known (checks_of p.groups) = subst Known (sym (rules.same_checks code)) (subst Checked (sym e) known) in
    groups-fit C p.groups p.outputs (subst Few (sym e) few) shape.within checks

group-lines : (net : NetlistOf) (groups : List Group) → map group_line (named_groups net (places_of groups) (net_numbers (checks_of groups))) ≡ map (line_of_group net) groups
group-lines net [] = refl
group-lines net (group ∷ groups) = ap (λ lines. line_of_group net group ∷ lines) (group-lines net groups)

-- under parity the lines of the checks are those of the groups
pub check_lines-parity : (net : NetlistOf) (p : Inside) → p.code ≡ Parity → checks_of p.groups ≡ p.checks → check_lines (plan_of p).code (named_plan net (plan_of p)) ≡ map (line_of_group net) p.groups
check_lines-parity net p code checks =
    ap (λ c. check_lines c (named_plan net (plan_of p))) code
    ∙ ap (λ list. map group_line (named_groups net (places_of p.groups) (net_numbers list))) (sym checks)
    ∙ group-lines net p.groups

pub state_lines-words : (width : ℕ) (words : List ℕ) → map state_line (map (bits_of width) words) ≡ map (line_of_state width) words
state_lines-words width [] = refl
state_lines-words width (word ∷ words) = ap (λ lines. line_of_state width word ∷ lines) (state_lines-words width words)

pub on-ok : {A : Type 0} (r : Result (Unit {0}) AllocError) → A → OnOk r A
on-ok (Ok _) a = a
on-ok (Err _) a = tt

pub made-on-ok : (r : Result (Unit {0}) AllocError) (p : Inside) (P : CodePlan) → plan_of p ≡ P → IsWellMade (plan_of p) → OnOk r (IsWellMade P)
made-on-ok (Ok _) p P e h = subst IsWellMade e h
made-on-ok (Err _) p P e h = tt
