use Rattle.std.proofs.Common.{◌≤◌, [], length, refl, ap, sym, subst, arith}
use Rattle.fault_secure.specs.CodePlan.{CodePlan, HasWidth, IsUnorderedCode}
use Rattle.code_checkers.specs.declared.word_sizes.WordSizes.{WordSizes}
use Rattle.code_checkers.specs.SizedWords.{HasPlan}
use Rattle.code_checkers.proofs.Sizes.{checker-few}
use Rattle.code_checkers.proofs.SizedWords.{checker_of}
use Rattle.net_writing.proofs.CheckerSteps.{checker_over}
use Rattle.unate_synth.proofs.Sizes.{few-checks, checker-most, square-small}
use Rattle.unate_synth.proofs.StatedChecks.{width_of}
use Rattle.unate_synth.proofs.checking.unordered_checker.Goals as goal

-- the plan has as many checks as its code has for its outputs
width : (S : WordSizes) (has : HasPlan S []) → IsUnorderedCode S.code → HasWidth has.plan.code has.plan.outputs (length has.plan.checks)
width S has unordered = (width_of has.plan.code has.plan (subst (λ (T : WordSizes). IsUnorderedCode T.code) (sym has.sizes) unordered) has.well_made.shape).0

pub word_checker-requires-clause-checks : goal.word_checker-requires-clause-checks
word_checker-requires-clause-checks c =
    let has = c.requires.plan in
    let few = few-checks has.plan.code has.plan.outputs _ (width c.args.sizes has c.requires.unordered) has.well_made.most_outputs in
    omega (arith, few, ap (λ (T : WordSizes). T.checks) has.sizes)

pub returns-clause-over : goal.returns-clause-over
returns-clause-over c = checker_over c.args.sizes [] c.in_ok-gates.gates c.requires.plan c.in_ok-gates.ensures.made

pub returns-clause-small : goal.returns-clause-small
returns-clause-small c =
    let has = c.requires.plan in
    let P : CodePlan = has.plan in
    let few = checker-few P c.in_ok-gates.gates (checker_of c.args.sizes [] P c.in_ok-gates.gates has.sizes has.grouped c.in_ok-gates.ensures.made) in
    let unordered = subst (λ (T : WordSizes). IsUnorderedCode T.code) (sym has.sizes) c.requires.unordered in
    let most = checker-most P P.code refl unordered (width c.args.sizes has c.requires.unordered) in
    let latches : P.latches ≤ 64 = omega (arith, ap (λ (T : WordSizes). T.latches) has.sizes, c.requires.latches) in
    omega (arith, few, most, square-small P.outputs has.well_made.most_outputs, square-small P.latches latches, has.well_made.most_outputs, latches)
