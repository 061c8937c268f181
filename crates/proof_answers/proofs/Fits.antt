-- Whether a question is asked, as it is computed, and what a refutation is refused for.
use Rattle.std.proofs.Common.{◌≡◌, ◌↔◌, Bool, true, false, List, length, Option, Some, None, refl, sym, ap, ◌∙◌, subst}
use Rattle.std.specs.Prelude.{ℕ, ◌==◌, ◌&&◌, IsTrue, if◌then◌else◌}
use Rattle.std.proofs.lemmas.Bool.{and_from, and_parts, eq-eqb, eqb-true, false_from_ne_true}
use Rattle.fault_secure.specs.declared.code.Code.{Code}
use Rattle.fault_secure.specs.declared.code.Code.TheVariants.{Parity, Berger, MOutOfN}
use Rattle.fault_secure.specs.Circuit.{Circuit}
use Rattle.fault_secure.specs.CodePlan.{CodePlan}
use Rattle.fault_secure.specs.Exposing.{listed_states}
use Rattle.fault_secure.specs.Logic.{Logic, Network, inputs_of, outputs_count, states_of}
use Rattle.audit.specs.Verdict.{FitsSource}
use Rattle.blif_read.specs.PlanText.{is_parity}
use Rattle.tsc_text.specs.TextLine.{TextLine}
use Rattle.refutation_text.specs.declared.fault.RefutationFault.{RefutationFault}
use Rattle.refusals.specs.declared.refusal.Refusal.{Refusal}
use Rattle.text_sections.specs.Refused.{IsRefusedBy}
use Rattle.question_answers.specs.declared.reason.NoQuestion.{NoQuestion}
use Rattle.question_answers.specs.declared.reason.NoQuestion.TheVariants.{Shape, Latched, Parity as NoParity}
use Rattle.question_answers.specs.NoQuestion.{FitsQuestion, IsFirstMisfit}
use Rattle.question_answers.proofs.Determined.{fits_or_other}
use Rattle.proof_answers.specs.Laws.{IsLookedAtWhereAsked}
use Rattle.proof_answers.specs.Refused.{fault_refusal, fits_question, fits_source, question_fault, refutation_refusal}

is_parity_true : (code : Code) → code ≡ Parity → is_parity code ≡ true
is_parity_true Parity is = refl
is_parity_true Berger is = cc
is_parity_true MOutOfN is = cc

is_parity_back : (code : Code) → is_parity code ≡ true → code ≡ Parity
is_parity_back Parity is = refl
is_parity_back Berger is = cc
is_parity_back MOutOfN is = cc

fits_source_true : (M : Logic) (N : Circuit) (P : CodePlan) → FitsSource M N P → fits_source M N P ≡ true
fits_source_true M N P fits =
    and_from (N.inputs == inputs_of M) _ (eq-eqb _ _ fits.inputs)
    (and_from (P.outputs == outputs_count M) (listed_states P == states_of M) (eq-eqb _ _ fits.outputs) (eq-eqb _ _ fits.states))

fits_source_back : (M : Logic) (N : Circuit) (P : CodePlan) → fits_source M N P ≡ true → FitsSource M N P
fits_source_back M N P is =
    let inputs = and_parts (N.inputs == inputs_of M) (P.outputs == outputs_count M && listed_states P == states_of M) is in
    let others = and_parts (P.outputs == outputs_count M) (listed_states P == states_of M) inputs.1 in
    record { inputs = eqb-true _ _ inputs.0; outputs = eqb-true _ _ others.0; states = eqb-true _ _ others.1 }

pub fits_true : (C N : Circuit) (P : CodePlan) → FitsQuestion C N P → fits_question C N P ≡ true
fits_true C N P fits =
    and_from (fits_source (Network C) N P) (length N.latches == 0 && is_parity P.code) (fits_source_true (Network C) N P fits.fits)
    (and_from (length N.latches == 0) (is_parity P.code) (eq-eqb _ _ fits.latches) (is_parity_true P.code fits.parity))

pub fits_back : (C N : Circuit) (P : CodePlan) → fits_question C N P ≡ true → FitsQuestion C N P
fits_back C N P is =
    let shape = and_parts (fits_source (Network C) N P) (length N.latches == 0 && is_parity P.code) is in
    let others = and_parts (length N.latches == 0) (is_parity P.code) shape.1 in
    record { fits = fits_source_back (Network C) N P shape.0; latches = eqb-true _ _ others.0; parity = is_parity_back P.code others.1 }

pub looked_at_where_asked : IsLookedAtWhereAsked
looked_at_where_asked C N P = (λ is. fits_back C N P is, λ fits. fits_true C N P fits)

-- a first reason why none is asked excludes that it is
pub misfit_excludes : (C N : Circuit) (P : CodePlan) (why : NoQuestion) → IsFirstMisfit C N P why → FitsQuestion C N P → ⊥
misfit_excludes C N P (Shape what) misfit fits = fits_or_other C N P what fits.fits misfit
misfit_excludes C N P Latched misfit fits = misfit.1 fits.latches
misfit_excludes C N P NoParity misfit fits = misfit.1.1 fits.parity

module _ (C N : Circuit) (P : CodePlan) (refutation : List TextLine) where
  -- where the question is asked, its refutation is refused for its first fault
  pub refusal_of_fault : FitsQuestion C N P → refutation_refusal C N P refutation ≡ fault_refusal (question_fault C N P refutation)
  refusal_of_fault fits = ap (λ b. if b then fault_refusal (question_fault C N P refutation) else None) (fits_true C N P fits)

  -- and where it isn't, for none
  pub no_refusal : (why : NoQuestion) → IsFirstMisfit C N P why → refutation_refusal C N P refutation ≡ None
  no_refusal why misfit =
      ap (λ b. if b then fault_refusal (question_fault C N P refutation) else None)
      (false_from_ne_true (fits_question C N P) (λ is. misfit_excludes C N P why misfit (fits_back C N P is)))

  pub fault_allowed : (fault : Option RefutationFault) → FitsQuestion C N P → fault ≡ question_fault C N P refutation → fault ≡ None → refutation_refusal C N P refutation ≡ None
  fault_allowed fault fits is none = refusal_of_fault fits ∙ ap fault_refusal (sym is ∙ none)

  pub fault_refused : (fault : RefutationFault) → FitsQuestion C N P → Some fault ≡ question_fault C N P refutation
      → refutation_refusal C N P refutation ≡ fault_refusal (Some fault)
  fault_refused fault fits is = refusal_of_fault fits ∙ ap fault_refusal (sym is)
