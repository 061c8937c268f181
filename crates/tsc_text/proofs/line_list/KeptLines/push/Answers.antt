use Rattle.std.proofs.Common.{◌≡◌, ◌<◌, ◌∷◌, ◌++◌, [], ℕ, List, length, arith, sym, ap, subst, ◌∙◌}
use Rattle.std.proofs.lemmas.Result.{on_err_weaker, on_ok_weaker}
use Rattle.tsc_text.specs.declared.jumps.Jump.{Jump}
use Rattle.tsc_text.specs.Jumps.{AreJumps, lines_of_marks, with_number}
use Rattle.tsc_text.specs.Row.{KeptLine, Mark, kept_line}
use Rattle.tsc_text.proofs.JumpLines.{in_any_case, length-lines_from, more-jumps, lines_from-number, lines_from-told, told-jumps}
use Rattle.tsc_text.proofs.line_list.KeptLines.push.Goals as goal

pub tell_number-requires-clause-few : goal.tell_number-requires-clause-few
tell_number-requires-clause-few c = omega (arith, length-lines_from c.self.inside.jumps 0 c.self.inside.marks, ap length c.self.view_is)

pub invariant_of-self-2 : goal.invariant_of-self-2
invariant_of-self-2 c =
    let s = c.self.inside in
    let few : length s.marks < 4294967296 = omega (arith, length-lines_from s.jumps 0 s.marks, ap length c.self.view_is) in
    let told : AreJumps c.tell_number.new.jumps s.marks =
    told-jumps s.jumps c.tell_number.new.jumps s.marks c.len.result c.args.number c.len.ensures.count c.in_ok-tell_number.ensures.ok c.self.invariant in
    in_any_case c.push.result
    (on_ok_weaker c.push.result (λ e. more-jumps c.tell_number.new.jumps s.marks c.push.new.self c.args.mark e few told) c.push.ensures.ok)
    (on_err_weaker c.push.result (λ e. subst (λ (marks : List Mark). AreJumps c.tell_number.new.jumps marks) (sym e) told) c.push.ensures.err)

pub returns-clause-ok : goal.returns-clause-ok
returns-clause-ok c =
    let s = c.self.inside in
    let told : c.tell_number.new.jumps ≡ with_number s.jumps (length s.marks) c.args.number =
    c.in_ok-tell_number.ensures.ok ∙ ap (λ (n : ℕ). with_number s.jumps n c.args.number) c.len.ensures.count in
    on_ok_weaker c.push.result (λ e. ap (lines_of_marks c.tell_number.new.jumps 0) e ∙ ap (λ (js : List Jump). lines_of_marks js 0 (s.marks ++ c.args.mark ∷ [])) told
    ∙ lines_from-number s.jumps s.marks c.args.number c.args.mark c.self.invariant.listed
    ∙ ap (λ (lines : List KeptLine). lines ++ kept_line c.args.number c.args.mark ∷ []) c.self.view_is) c.push.ensures.ok

pub returns-clause-err : goal.returns-clause-err
returns-clause-err c =
    let s = c.self.inside in
    let told : c.tell_number.new.jumps ≡ with_number s.jumps (length s.marks) c.args.number =
    c.in_ok-tell_number.ensures.ok ∙ ap (λ (n : ℕ). with_number s.jumps n c.args.number) c.len.ensures.count in
    on_err_weaker c.push.result (λ e. ap (lines_of_marks c.tell_number.new.jumps 0) e ∙ ap (λ (js : List Jump). lines_of_marks js 0 s.marks) told
    ∙ lines_from-told s.jumps s.marks c.args.number ∙ c.self.view_is) c.push.ensures.err
