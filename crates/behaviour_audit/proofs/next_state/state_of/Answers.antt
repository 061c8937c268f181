use Rattle.std.proofs.Common.{◌≡◌, ℕ, ◌%◌, ◌^◌, ◌==◌, Bool, false, length, map, position, Some, if◌then◌else◌, sym, ap, ◌∙◌, subst}
use Rattle.std.proofs.lemmas.Bool.{ne_eqb}
use Rattle.tsc_bits.specs.Bits.{bits_of}
use Rattle.fault_secure.specs.CodePlan.{CodePlan}
use Rattle.fault_secure.specs.FaultSecure.{equal_bits, state_at}
use Rattle.behaviour_audit.proofs.StateLemmas.{found_by_number}
use Rattle.behaviour_audit.proofs.next_state.state_of.Goals as goal

pub returns-else-width-eq0 : goal.returns-else-width-eq0
returns-else-width-eq0 c =
    let bits = c.args.bits.now in
    let states = c.plan.inside.states in
    let sized : length bits ≡ states.width = c.requires.sized ∙ sym (ap (λ (P : CodePlan). P.latches) c.plan.view_is) in
    let some : (states.width == 0) ≡ false = ne_eqb states.width 0 (λ e. c.if-width-eq0.false (c.width.ensures.width ∙ e)) in
    record {
      state = subst (λ (P : CodePlan). c.place_of.result ≡ state_at P bits) c.plan.view_is
          (c.place_of.ensures.place
          ∙ (ap (λ (n : ℕ). position (λ word. word % 2 ^ states.width == n) states.words) c.number_of.ensures.number
          ∙ (sym (found_by_number bits states.width states.words sized)
          ∙ sym (ap (λ (b : Bool). if b then Some 0 else position (equal_bits bits) (map (bits_of states.width) states.words)) some))));
    }
