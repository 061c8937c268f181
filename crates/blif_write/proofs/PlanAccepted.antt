-- The plan that the lines of a layout state is not refused.
use Rattle.std.proofs.Common.{◌≡◌, ℕ, ◌<◌, ◌==◌, Bool, true, ◌&&◌, if◌then◌else◌, List, length, map, refl, sym, ap, ap₂, ◌∙◌, arith, None, Some, nat_le, eq-eqb}
use Rattle.std.proofs.lemmas.Bool.{and_from, le-leb}
use Rattle.std.proofs.lemmas.List.{length-map}
use Rattle.tsc_text.specs.TextLine.{TextLine}
use Rattle.fault_secure.specs.CodePlan.{CodePlan, IsPlanOf, IsWellMade, HasShape, HasStates}
use Rattle.fault_secure.specs.declared.code.Code.{Code}
use Rattle.fault_secure.specs.declared.code.Code.TheVariants.{Parity, Berger, MOutOfN}
use Rattle.tsc_net.specs.Names.{text_at}
use Rattle.tsc_net.specs.NetlistOf.{NetlistOf, IsBuilt}
use Rattle.blif_read.specs.PlanFault.{fits_code, fits_latches, has_checks_for, has_lines_for, is_right, name_refusal, plan_refusal, shape_refusal}
use Rattle.blif_read.specs.PlanText.{checks_for, code_named, group_lines, check_lines, groups_for, is_check_line, is_group_line, source_outputs, state_words}
use Rattle.blif_read.specs.declared.error.BlifError.TheVariants.{PlanShape}
use Rattle.blif_write.specs.Layout.{code_line, code_word, word_of_bits}
use Rattle.blif_write.specs.Writable.{IsWritable}
use Rattle.blif_write.proofs.LineKinds.{at}
use Rattle.blif_write.proofs.PlanNames.{lines_with, no-group, no-unknown, one-check}
use Rattle.blif_write.proofs.PlanRules.{parts-pass, states-pass, width-passes}
use Rattle.blif_write.proofs.PlanStated.{check_names-back, code-back, group_checks-back, groups-stated, places-low, state_words-back}
use Rattle.blif_write.proofs.StateWords.{weight-back}

-- the lines are those of the code
lines-pass : (net : NetlistOf) (P : CodePlan) → IsWellMade P → (code : Code) → P.code ≡ code → has_lines_for code (lines_with net P) ≡ true
lines-pass net P made Parity e = eq-eqb (check_lines (lines_with net P)) 0 (no-group is_check_line refl refl refl net P made e refl)
lines-pass net P made Berger e =
    and_from (group_lines (lines_with net P) == 0) (check_lines (lines_with net P) == 1)
    (eq-eqb (group_lines (lines_with net P)) 0 (one-check is_group_line refl refl refl net P made Berger e (λ f. cc)))
    (eq-eqb (check_lines (lines_with net P)) 1 (one-check is_check_line refl refl refl net P made Berger e (λ f. cc)))
lines-pass net P made MOutOfN e =
    and_from (group_lines (lines_with net P) == 0) (check_lines (lines_with net P) == 1)
    (eq-eqb (group_lines (lines_with net P)) 0 (one-check is_group_line refl refl refl net P made MOutOfN e (λ f. cc)))
    (eq-eqb (check_lines (lines_with net P)) 1 (one-check is_check_line refl refl refl net P made MOutOfN e (λ f. cc)))

-- as many checks as the plan has
checks-counted : (net : NetlistOf) (P : CodePlan) → IsWellMade P → (code : Code) → P.code ≡ code → length (checks_for code (lines_with net P)) ≡ length P.checks
checks-counted net P made Parity e = ap (λ (xs : List (List ℕ)). length xs) (group_checks-back net P made e) ∙ length-map P.checks (text_at net.names)
checks-counted net P made Berger e = ap (λ (xs : List (List ℕ)). length xs) (check_names-back net P made Berger e (λ f. cc)) ∙ length-map P.checks (text_at net.names)
checks-counted net P made MOutOfN e = ap (λ (xs : List (List ℕ)). length xs) (check_names-back net P made MOutOfN e (λ f. cc)) ∙ length-map P.checks (text_at net.names)

-- the groups and the number of checks are those of the code
shape-passes : (P : CodePlan) → 0 < P.outputs → (code : Code) → HasShape code P → has_checks_for code P.outputs P.groups (length P.checks) ≡ true
shape-passes P some Parity shape = parts-pass P.outputs P.groups shape.within shape.once
shape-passes P some Berger shape = width-passes P.outputs (length P.checks) some shape.1
shape-passes P some MOutOfN shape = eq-eqb (length P.checks) P.outputs shape.1

states-fit : (P : CodePlan) → HasStates P → fits_latches P.latches (map word_of_bits P.states) ≡ true
states-fit P h =
    states-pass P.latches P.weight P.states (weight-back P.states P.latches P.weight (λ e. (h.none e).1) (λ k. (h.some k).0) h.weighed)
    (λ e. (h.none e).0) (λ k. ((h.some k).1, (h.some k).2)) h.sized h.weighed h.distinct

module _ (net : NetlistOf) (w : IsWritable net) (c : IsBuilt net) (P : CodePlan) (made : IsWellMade P) (of : IsPlanOf net.circuit P) where
  code-passes : fits_code P.code net (lines_with net P) ≡ true
  code-passes =
      let lines : List TextLine = lines_with net P in
      and_from (has_lines_for P.code lines) (has_checks_for P.code (source_outputs net) (groups_for P.code net lines) (length (checks_for P.code lines)))
      (lines-pass net P made P.code refl)
      (ap₂ (λ outputs groups. has_checks_for P.code outputs groups (length (checks_for P.code lines))) (places-low net P of) (groups-stated net w c P made of P.code refl)
      ∙ ap (has_checks_for P.code P.outputs P.groups) (checks-counted net P made P.code refl)
      ∙ shape-passes P made.some_output P.code made.shape)

  latches-pass : fits_latches (length net.circuit.latches) (state_words (lines_with net P)) ≡ true
  latches-pass = ap₂ fits_latches (sym of.latches) (state_words-back net P made) ∙ states-fit P made.states

  plan-right : is_right P.code (lines_with net P) net ≡ true
  plan-right =
      let outputs : ℕ = length net.circuit.outputs in
      let latches : ℕ = length net.circuit.latches in
      let some = made.some_output in
      let count = of.outputs in
      and_from ((nat_le 3 outputs && nat_le outputs 66) && nat_le latches 64) (fits_code P.code net (lines_with net P) && fits_latches latches (state_words (lines_with net P)))
      (and_from (nat_le 3 outputs && nat_le outputs 66) (nat_le latches 64)
      (and_from (nat_le 3 outputs) (nat_le outputs 66) (le-leb 3 outputs (omega arith)) (le-leb outputs 66 w.outputs))
      (le-leb latches 64 w.latches))
      (and_from (fits_code P.code net (lines_with net P)) (fits_latches latches (state_words (lines_with net P))) code-passes latches-pass)

  -- the plan of the lines has no refusal
  pub plan-accepted : plan_refusal (lines_with net P) net ≡ None
  plan-accepted =
      let lines : List TextLine = lines_with net P in
      let head : TextLine = at 4 (code_line P.version P.code) in
      let code : code_named (code_word P.code) ≡ P.code = code-back P.code in
      let shape : shape_refusal head lines net ≡ None =
      ap (λ k. if is_right k lines net then None else Some (PlanShape head.number)) code ∙ ap (λ (b : Bool). if b then None else Some (PlanShape head.number)) plan-right in
      ap (λ unknown. name_refusal unknown (shape_refusal head lines net)) (no-unknown net c P made of) ∙ shape
