use Rattle.std.proofs.Common.{◌≡◌, ℕ, ◌-◌, ◌≤◌, Bool, List, sym, ap, ◌∙◌, arith}
use Rattle.tsc_bits.specs.Bits.{bits_of, bit_worth}
use Rattle.tsc_bits.proofs.Bits.{length-bits_of, get_or-bits_of}
use Rattle.fault_secure.specs.Circuit.{bit}
use Rattle.behaviour_audit.proofs.SourceLemmas.{allowed_bit}
use Rattle.behaviour_audit.proofs.outputs.machine_allows_bit.Goals as goal

pub returns : goal.returns
returns c =
    let M = c.args.machine.now.table in
    let given = c.answer-answer.result.outputs in
    let mixed = c.with_bit-outputs.result in
    let place = c.args.place in
    let many : c.outputs.result ≡ M.outputs = c.outputs.ensures.outputs in
    let few : M.outputs ≤ 64 = omega (arith, c.outputs.ensures.few) in
    record {
      allowed = allowed_bit M c.args.point.state (bits_of M.inputs c.args.point.input) place c.args.bit (bits_of M.outputs mixed) c.answer-answer.result.next c.allows.result
          c.requires.place (length-bits_of M.outputs mixed)
          (get_or-bits_of M.outputs mixed place c.requires.place ∙ (ap (λ (k : ℕ). bit_worth (k - 1 - place) mixed) (sym many) ∙ c.with_bit-outputs.ensures.put))
          (λ k below other.
          get_or-bits_of M.outputs mixed k below
          ∙ (c.with_bit-outputs.ensures.others (M.outputs - 1 - k) (omega arith) (λ same. other (omega arith))
          ∙ (sym (get_or-bits_of M.outputs given k below)
          ∙ ap (λ (l : List Bool). bit l k) c.answer-answer.ensures.outputs)))
          c.answer-answer.ensures.next c.allows.ensures.allowed;
    }
