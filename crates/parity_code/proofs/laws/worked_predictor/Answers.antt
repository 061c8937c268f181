use Rattle.std.proofs.Common.{◌≡◌, [], ◌∷◌, refl, arith}
use Rattle.std.specs.Fmt.{decimal}
use Rattle.std.proofs.lemmas.Fmt.{decimal_digit}
use Rattle.parity_code.specs.Predictors.{copy_text, with_copies, with_predictor}
use Rattle.net_cones.specs.ConeMarks.{cone_marks}
use Rattle.parity_code.proofs.laws.worked_predictor.Goals as goal

zero_is : decimal 0 ≡ 48 ∷ []
zero_is = decimal_digit 0 (omega arith)

one_is : decimal 1 ≡ 49 ∷ []
one_is = decimal_digit 1 (omega arith)

pub returns-clause-nodes : goal.returns-clause-nodes
unfolding copy_text with_copies with_predictor cone_marks
returns-clause-nodes c = rw (zero_is, one_is) refl

pub returns-clause-names : goal.returns-clause-names
unfolding copy_text with_copies with_predictor cone_marks
returns-clause-names c = rw (zero_is, one_is) refl

pub returns-clause-checks : goal.returns-clause-checks
unfolding copy_text with_copies with_predictor cone_marks
returns-clause-checks c = rw (zero_is, one_is) refl
