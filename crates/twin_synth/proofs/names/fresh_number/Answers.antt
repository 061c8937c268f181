-- A taken number is passed over.
use Rattle.std.proofs.Common.{◌≡◌, ◌+◌, ◌-◌, ◌++◌, sym, ◌∙◌, suc, length, arith, length-append}
use Rattle.std.specs.Option.{option_copied}
use Rattle.tsc_net.proofs.FreshLemmas.{free_number-next}
use Rattle.twin_synth.proofs.PushedSteps.{free_here}
use Rattle.twin_synth.specs.Pushed.{control_words}
use Rattle.twin_synth.proofs.names.fresh_number.Goals as goal

pub loop-number-preserved : goal.loop-number-preserved
loop-number-preserved c =
    let words = control_words (option_copied c.args.control) in
    let names = c.args.source.now.names ++ words in
    let number = c.loop-number.number in
    let long = length-append c.args.source.now.names words in
    let step : length names - number ≡ suc (length names - (number + 1)) = omega (arith, long) in
    sym (free_number-next 116 names (length names - number) (length names - (number + 1)) number step (sym c.in_ok-is_taken.ensures.taken ∙ c.if-not-branch.false)) ∙ c.loop-number.invariant

pub returns-then-not-branch : goal.returns-then-not-branch
returns-then-not-branch c =
    let words = control_words (option_copied c.args.control) in
    let names = c.args.source.now.names ++ words in
    let number = c.loop-number.number in
    let long = length-append c.args.source.now.names words in
    let step : length names - number ≡ suc (length names - (number + 1)) = omega (arith, long) in
    record { number = sym (free_here names (length names - number) (length names - (number + 1)) number step (sym c.in_ok-is_taken.ensures.taken ∙ c.if-not-branch.true)) ∙ c.loop-number.invariant }
