use Rattle.tsc_bits.specs.Bits.{bits_of}
use Rattle.tsc_bits.proofs.Bits.{length-bits_of}
use Rattle.behaviour_audit.proofs.SourceLemmas.{allowed_next}
use Rattle.behaviour_audit.proofs.next_state.machine_allows_next.Goals as goal

pub returns-then-version-eq2 : goal.returns-then-version-eq2
returns-then-version-eq2 c =
    let M = c.args.machine.now.table in
    let given = c.answer-answer.result.outputs in
    record {
      allowed = allowed_next M c.args.point.state (bits_of M.inputs c.args.point.input) c.args.next c.args.version (bits_of M.outputs given) c.allows.result
          c.if-version-eq2.true (length-bits_of M.outputs given) c.answer-answer.ensures.outputs c.allows.ensures.allowed;
    }
