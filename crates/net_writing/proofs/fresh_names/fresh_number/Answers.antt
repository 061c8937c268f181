-- A taken number is passed over.
use Rattle.std.proofs.Common.{◌≡◌, ◌+◌, ◌-◌, sym, ◌∙◌, suc, length, arith}
use Rattle.tsc_net.proofs.FreshLemmas.{free_number-next}
use Rattle.net_writing.proofs.fresh_names.fresh_number.Goals as goal

pub loop-number-preserved : goal.loop-number-preserved
loop-number-preserved c =
    let names = c.args.source.now.names in
    let number = c.loop-number.number in
    let sized = c.nets-count.ensures.checked.sized in
    let count = c.nets-count.ensures.count in
    let test = c.loop-number-test.true in
    let step : length names - number ≡ suc (length names - (number + 1)) = omega arith in
    sym (free_number-next 116 names (length names - number) (length names - (number + 1)) number step (sym c.in_ok-is_taken.ensures.taken ∙ c.if-not-branch.false)) ∙ c.loop-number.invariant
