-- An audit of the checker has one answer at most.
use Rattle.std.proofs.Common.{◌≡◌, ℕ, ◌<◌, ◌≤◌, inl, inr, Bool, List, Option, Some, None, refl, sym, ◌∙◌, ap, ap₂, arith}
use Rattle.std.proofs.lemmas.Bool.{cases_lt}
use Rattle.tsc_bits.specs.Bits.{bits_of}
use Rattle.fault_secure.specs.Circuit.{Circuit}
use Rattle.fault_secure.specs.CodePlan.{CodePlan}
use Rattle.fault_secure.specs.Structure.{IsCodeDisjoint}
use Rattle.tsc_net.specs.declared.ids.NetId.{NetId}
use Rattle.checker_audit.specs.Misjudged.{monitored_count, Misjudges, IsFirstMisjudged}
use Rattle.checker_audit.specs.CheckerAnswer.{IsCheckerAnswer}
use Rattle.checker_audit.specs.declared.reason.CheckerReason.{CheckerReason}
use Rattle.checker_audit.specs.declared.reason.CheckerReason.TheVariants.{Word, Net}
use Rattle.checker_audit.proofs.Misfits.{realised_rails_match, one_mismatch}

module _ (N : Circuit) (P : CodePlan) where
  disjoint_judges : (bits : List Bool) → IsCodeDisjoint N P → Misjudges N P bits → ⊥
  disjoint_judges bits disjoint wrong = wrong.wrong (disjoint.decides wrong.valuation wrong.settles)

  one_value : (a b : ℕ) → IsFirstMisjudged N P a → IsFirstMisjudged N P b → a ≡ b
  one_value a b first second = elim (cases_lt a b) [
    | inl low ↦ absurd (second.2 a low first.1)
    | inr high ↦ elim (cases_lt b a) [ inl low ↦ absurd (first.2 b low second.1) | inr low ↦ omega arith ]
  ]

  same_net : (a b : NetId) → a.number ≡ b.number → a ≡ b
  same_net a b e = let made : ℕ → NetId = λ n. record { number = n } in ap made e

  -- of a netlist with its plan there is at most one answer: two are the same
  pub one_answer : (a b : Option CheckerReason) → IsCheckerAnswer N P a → IsCheckerAnswer N P b → a ≡ b
  one_answer None None first second = refl
  one_answer None (Some (Word value width)) first second = absurd (disjoint_judges (bits_of (monitored_count N P) value) (first.0 second.0) second.2.1)
  one_answer None (Some (Net net)) first second = absurd (realised_rails_match N P net.number (first.1 second.0) second.1)
  one_answer (Some (Word value width)) None first second = absurd (disjoint_judges (bits_of (monitored_count N P) value) (second.0 first.0) first.2.1)
  one_answer (Some (Word value width)) (Some (Word other wide)) first second = ap Some (ap₂ Word (one_value value other first.2 second.2) (first.1 ∙ sym second.1))
  one_answer (Some (Word value width)) (Some (Net net)) first second = (let few : monitored_count N P ≤ 20 = first.0 in let many : 20 < monitored_count N P = second.0 in absurd (omega arith))
  one_answer (Some (Net net)) None first second = absurd (realised_rails_match N P net.number (second.1 first.0) first.1)
  one_answer (Some (Net net)) (Some (Word value width)) first second = (let few : monitored_count N P ≤ 20 = second.0 in let many : 20 < monitored_count N P = first.0 in absurd (omega arith))
  one_answer (Some (Net net)) (Some (Net other)) first second = ap Some (ap Net (same_net net other (one_mismatch N P net.number other.number first.1 second.1)))
