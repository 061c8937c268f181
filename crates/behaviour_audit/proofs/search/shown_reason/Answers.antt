use Rattle.std.proofs.Common.{ℕ, Option, Some, None, refl, sym, ap, ◌∙◌, subst}
use Rattle.fault_secure.specs.CodePlan.{CodePlan, IsCodeword}
use Rattle.fault_secure.specs.Logic.{inputs_of}
use Rattle.tsc_bits.specs.Bits.{bits_of}
use Rattle.tsc_net.specs.SourceView.{logic_of}
use Rattle.behaviour_audit.specs.Trial.{IsFirstWrong}
use Rattle.behaviour_audit.proofs.StepLemmas.{word_holds, output_fails, outputs_before_hold, all_hold}
use Rattle.behaviour_audit.proofs.search.shown_reason.Goals as goal

pub returns-in-Some : goal.returns-in-Some
returns-in-Some c =
    let M = logic_of c.args.audited.now.source.now in
    let N = c.args.audited.now.net.now.circuit in
    let P = c.args.audited.now.plan.now in
    let point = c.args.point in
    let w = c.args.word.now in
    let ys = c.outputs_part.result.now in
    let place = c.in-Some.bit in
    let codeword : IsCodeword P w = c.is_codeword.ensures.codeword.0 c.if-not-is_codeword.false in
    let found : IsFirstWrong M c.plan.inside.version point.state (bits_of (inputs_of M) point.input) ys (Some place)
    = subst (λ (r : Option ℕ). IsFirstWrong M c.plan.inside.version point.state (bits_of (inputs_of M) point.input) ys r) c.in-Some.is c.first_wrong.ensures.wrong in
    let wrong : IsFirstWrong M P.version point.state (bits_of (inputs_of M) point.input) ys (Some place)
    = subst (λ (n : ℕ). IsFirstWrong M n point.state (bits_of (inputs_of M) point.input) ys (Some place)) (ap (λ (Q : CodePlan). Q.version) c.plan.view_is) found in
    record {
      answer = (
        refl,
        refl,
        word_holds M N P point w c.requires.fit c.requires.word codeword,
        output_fails M N P point w c.requires.fit c.requires.word ys place c.outputs_part.ensures.part c.outputs_part.ensures.sized wrong,
        outputs_before_hold M N P point w c.requires.fit c.requires.word ys place c.outputs_part.ensures.part wrong,
      );
      lanes = c.is_codeword.ensures.room ∙ sym c.requires.lanes;
    }

pub returns-in-None : goal.returns-in-None
returns-in-None c =
    let M = logic_of c.args.audited.now.source.now in
    let N = c.args.audited.now.net.now.circuit in
    let P = c.args.audited.now.plan.now in
    let point = c.args.point in
    let w = c.args.word.now in
    let ys = c.outputs_part.result.now in
    let codeword : IsCodeword P w = c.is_codeword.ensures.codeword.0 c.if-not-is_codeword.false in
    let found : IsFirstWrong M c.plan.inside.version point.state (bits_of (inputs_of M) point.input) ys None
    = subst (λ (r : Option ℕ). IsFirstWrong M c.plan.inside.version point.state (bits_of (inputs_of M) point.input) ys r) c.in-None.is c.first_wrong.ensures.wrong in
    let right : IsFirstWrong M P.version point.state (bits_of (inputs_of M) point.input) ys None
    = subst (λ (n : ℕ). IsFirstWrong M n point.state (bits_of (inputs_of M) point.input) ys None) (ap (λ (Q : CodePlan). Q.version) c.plan.view_is) found in
    record {
      answer = all_hold M N P point w c.requires.fit c.requires.word ys c.args.chosen.now c.outputs_part.ensures.part c.outputs_part.ensures.sized codeword c.requires.chosen c.requires.room right;
      lanes = c.is_codeword.ensures.room ∙ sym c.requires.lanes;
    }
