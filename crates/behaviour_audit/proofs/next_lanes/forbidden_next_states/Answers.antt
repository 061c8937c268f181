use Rattle.std.proofs.Common.{◌≡◌, ℕ, ◌+◌, ◌/◌, ◌^◌, ◌<◌, bit_or, IsTrue, inl, inr, refl, sym, ap, ◌∙◌, subst}
use Rattle.tsc_bits.specs.Bits.{bits_of}
use Rattle.fault_secure.specs.CodePlan.{CodePlan}
use Rattle.fault_secure.specs.Logic.{answering, is_free_next, next_of_rows}
use Rattle.code_lanes.specs.Lanes.{column}
use Rattle.code_lanes.proofs.LaneLemmas.{neither}
use Rattle.behaviour_audit.proofs.LaneLemmas.{either}
use Rattle.behaviour_audit.proofs.StateLemmas.{is_listed}
use Rattle.behaviour_audit.proofs.next_lanes.forbidden_next_states.Goals as goal

pub returns : goal.returns
returns c =
    let M = c.args.machine.now.table in
    let P = c.args.plan.now in
    let next = c.args.next.now in
    let named = c.named_next.result in
    let others = c.unlisted.result in
    let two : P.version ≡ 2 = sym (ap (λ (Q : CodePlan). Q.version) c.plan.view_is) ∙ c.if-plan-ne2.false in
    record {
      arrives = λ k few zero_.
          let rows = answering M ((c.args.base + k) / 2 ^ M.inputs) (bits_of M.inputs (c.args.base + k)) in
          elim (either k c.wrong_next_states-wrong.result (bit_or named others) zero_) [
            | inl chosen ↦ record { state = next_of_rows M rows; arrives = c.wrong_next_states-wrong.ensures.chosen k few chosen; allowed = inl refl }
            | inr both ↦
                let parts = (neither k named others).0 both in
                let listed = c.unlisted.ensures.listed k few parts.1 in
                let free : IsTrue (is_free_next P.version rows) = subst (λ (n : ℕ). IsTrue (is_free_next n rows)) (sym two) (c.named_next.ensures.free k few parts.0) in
                let within : listed.0 < M.states = subst (λ (n : ℕ). listed.0 < n) c.requires.states (is_listed P (column k next) listed.0 listed.1) in
                record { state = listed.0; arrives = listed.1; allowed = inr (free, within) }
          ];
    }
