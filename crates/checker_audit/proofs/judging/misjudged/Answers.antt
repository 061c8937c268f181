use Rattle.std.proofs.Common.{ℕ, List, Bool, map, not, ap, sym, ◌∙◌, arith}
use Rattle.std.specs.Prelude.{slice_index}
use Rattle.tsc_bits.specs.Bits.{bit_worth}
use Rattle.tsc_bits.specs.Counting.{differ}
use Rattle.fault_secure.specs.Circuit.{bit}
use Rattle.fault_secure.specs.CodePlan.{CodePlan}
use Rattle.code_lanes.specs.Lanes.{column}
use Rattle.code_lanes.proofs.LaneLemmas.{bit_of_column, differ_bit}
use Rattle.monitored_nets.proofs.WordWithin.{word_within}
use Rattle.checker_audit.proofs.TriedValues.{tried_at}
use Rattle.checker_audit.proofs.judging.misjudged.Goals as goal

pub gather-requires-clause-within : goal.gather-requires-clause-within
gather-requires-clause-within c = λ k d h.
    (let b = word_within c.args.net.now.circuit c.args.plan.now c.args.word.now c.requires.plan c.nets-nets.ensures.checked.closed c.requires.word k d h in
    let s = c.requires.sized in omega arith)

pub returns : goal.returns
returns c = record {
  tried = λ base p low shows.
      let N = c.args.net.now.circuit in
      let P = c.args.plan.now in
      let v : List Bool = column p c.args.words.now in
      let first : ℕ = slice_index c.args.words.now c.plan.inside.rail1.number in
      let second : ℕ = slice_index c.args.words.now c.plan.inside.rail2.number in
      tried_at N P base p c.args.words.now (column p c.gather.new.lanes) (bit_worth p first) (bit_worth p second) (bit_worth p c.no_codewords.result) _ low shows
      (c.gather.ensures.lanes p ∙ ap (map (bit v)) c.requires.word)
      (sym (bit_of_column p c.args.words.now c.plan.inside.rail1.number) ∙ ap (λ (Q : CodePlan). bit v Q.rail1) c.plan.view_is)
      (sym (bit_of_column p c.args.words.now c.plan.inside.rail2.number) ∙ ap (λ (Q : CodePlan). bit v Q.rail2) c.plan.view_is)
      (c.no_codewords.ensures.codewords p low)
      (differ_bit p c.no_codewords.result c.negated.result
      ∙ ap (λ (b : Bool). differ (bit_worth p c.no_codewords.result) b) (c.negated.ensures.bits p low ∙ ap not (differ_bit p first second)));
}
