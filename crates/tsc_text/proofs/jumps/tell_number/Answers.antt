use Rattle.std.proofs.Common.{◌≡◌, ℕ, ◌∷◌, List, length, get_or, sym, ap, ◌∙◌}
use Rattle.std.proofs.lemmas.Result.{on_ok_weaker}
use Rattle.tsc_text.specs.declared.jumps.Jump.{Jump}
use Rattle.tsc_text.specs.Jumps.{first_jump, number_behind}
use Rattle.tsc_text.proofs.JumpLines.{told-with, told-without}
use Rattle.tsc_text.proofs.jumps.tell_number.Goals as goal

-- the number behind the last jump
behind : (jumps seen : List Jump) (count line told : ℕ) (last : Jump) → told ≡ number_behind last line → last ≡ get_or (first_jump ∷ seen) count first_jump → seen ≡ jumps → count ≡ length jumps
    → told ≡ number_behind (get_or (first_jump ∷ jumps) (length jumps) first_jump) line
behind jumps seen count line told last e f g h =
    e ∙ ap (λ (j : Jump). number_behind j line) (f ∙ ap (λ (js : List Jump). get_or (first_jump ∷ js) count first_jump) g ∙ ap (λ (n : ℕ). get_or (first_jump ∷ jumps) n first_jump) h)

pub returns-then-number_behind-number-clause-ok : goal.returns-then-number_behind-number-clause-ok
returns-then-number_behind-number-clause-ok c =
    sym (told-without c.args.jumps.now c.args.line c.args.number c.number_behind.result c.requires.behind
    (behind c.args.jumps.now c.as_slice.result.now c.len.result c.args.line c.number_behind.result c.jump_before-last.result
    c.number_behind.ensures.number c.jump_before-last.ensures.jump c.as_slice.ensures.whole c.len.ensures.count) c.if-number_behind-number.true)

pub returns-clause-ok : goal.returns-clause-ok
returns-clause-ok c =
    let other : c.number_behind.result ≡ c.args.number → ⊥ = c.if-number_behind-number.false in
    on_ok_weaker c.push.result (λ e. e ∙ sym (told-with c.args.jumps.now c.args.line c.args.number c.number_behind.result c.requires.behind
    (behind c.args.jumps.now c.as_slice.result.now c.len.result c.args.line c.number_behind.result c.jump_before-last.result
    c.number_behind.ensures.number c.jump_before-last.ensures.jump c.as_slice.ensures.whole c.len.ensures.count) other)) c.push.ensures.ok
