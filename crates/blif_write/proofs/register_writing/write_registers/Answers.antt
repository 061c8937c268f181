use Rattle.std.proofs.Common.{◌≡◌, ℕ, List, [], sym, subst, arith}
use Rattle.std.proofs.lemmas.Grind.{common_steps}
use Rattle.tsc_net.specs.NetlistOf.{named_of}
use Rattle.tsc_net.specs.PlanView.{net_numbers}
use Rattle.blif_write.specs.Layout.{clocked_layout}
use Rattle.blif_write.specs.RegisterText.{clock_words, lists_of, register_plan_lines, register_text}
use Rattle.blif_write.specs.Told.{TellsRegisters}
use Rattle.blif_write.proofs.After.{after_lines-append, after_lines-text}
use Rattle.blif_write.proofs.Filled.{clocked-filled, register_plan-filled}
use Rattle.blif_write.proofs.RegistersTold.{made-told, registers-told}
use Rattle.blif_write.proofs.register_writing.write_registers.Goals as goal

pub returns-clause-text : goal.returns-clause-text
returns-clause-text c =
    let net = c.args.net.now in
    let plan = c.args.plan.now in
    let watches = lists_of (net_numbers c.args.watch.now) in
    let clock = clock_words c.args.clock.now in
    let lines = register_plan_lines net plan watches in
    let law = after_lines-text [] (clocked_layout clock (named_of net) lines) (clocked-filled clock (named_of net) lines (register_plan-filled net plan watches)) in
    grind (arith, common_steps, after_lines-append, law)

pub returns-clause-told : goal.returns-clause-told
returns-clause-told c = λ told word.
    let net = c.args.net.now in
    let plan = c.args.plan.now in
    let clock = c.args.clock.now in
    let watch = net_numbers c.args.watch.now in
    let lines = register_plan_lines net plan (lists_of watch) in
    let checked = c.nets-nets.ensures.checked in
    let written : c.push_end_line.new.out ≡ register_text clock net plan (lists_of watch) = returns-clause-text c in
    let Read : List ℕ → Type 0 = λ text. TellsRegisters clock text net lines in
    subst Read (sym written) (registers-told clock net lines checked told word
    (made-told net plan watch checked told c.in_ok-push_register_plan.ensures.well_made c.requires.of_net c.requires.watched))
