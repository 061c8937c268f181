-- A taken number is passed over.
use Rattle.std.proofs.Common.{◌≡◌, ◌+◌, ◌-◌, ◌++◌, List, ℕ, sym, ◌∙◌, suc, length, arith, length-append}
use Rattle.tsc_net.proofs.FreshLemmas.{free_number-next}
use Rattle.machine_synth.proofs.fresh.fresh_number.Goals as goal

pub loop-number-preserved : goal.loop-number-preserved
loop-number-preserved c =
    let names : List (List ℕ) = c.args.inputs.now ++ c.args.outputs.now in
    let number = c.loop-number.number in
    let sized = length-append c.args.inputs.now c.args.outputs.now in
    let step : length names - number ≡ suc (length names - (number + 1)) = omega (arith, sized) in
    sym (free_number-next 116 names (length names - number) (length names - (number + 1)) number step (sym c.in_ok-is_taken.ensures.taken ∙ c.if-not-branch.false)) ∙ c.loop-number.invariant
