use Rattle.std.proofs.Common.{◌≤◌, ap, ◌∙◌, arith}
use Rattle.tsc_bits.specs.Bits.{bits_of}
use Rattle.fault_secure.specs.CodePlan.{CodePlan}
use Rattle.fault_secure.specs.FaultSecure.{state_at}
use Rattle.lane_sim.proofs.PuttingLemmas.{listed_has_word}
use Rattle.behaviour_audit.proofs.LaneLemmas.{column_is}
use Rattle.behaviour_audit.proofs.StateLemmas.{state_of_word}
use Rattle.behaviour_audit.proofs.next_lanes.other_words.Goals as goal

pub state_word-requires : goal.state_word-requires
state_word-requires c = record { state = listed_has_word c.args.plan.now c.args.state c.requires.state }

pub returns : goal.returns
returns c =
    let P = c.args.plan.now in
    let word = c.state_word.result in
    let wide = ap (λ (Q : CodePlan). Q.latches) c.plan.view_is in
    record {
      word = λ k few zero_.
          let most : P.latches ≤ 64 = omega arith in
          ap (state_at P) (column_is k word P.latches c.args.lanes.now c.requires.sized most (c.misfits.ensures.fits k few zero_))
          ∙ state_of_word P c.args.state (bits_of P.latches word) c.requires.made.states.distinct c.state_word.ensures.word;
    }
