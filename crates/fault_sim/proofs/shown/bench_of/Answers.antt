use Rattle.std.proofs.Common.{◌≡◌, ℕ, ◌<◌, List, All, IfOk, sym, ◌∙◌, subst}
use Rattle.fault_secure.specs.Circuit.{nets}
use Rattle.fault_sim.proofs.ShownLemmas.{watched_are, watched_inside}
use Rattle.tsc_net.proofs.NetNumbers.{all_numbers}
use Rattle.fault_sim.proofs.shown.bench_of.Goals as goal

pub open-requires-clause-watched : goal.open-requires-clause-watched
open-requires-clause-watched c =
    let N = c.args.net.now.circuit in
    let shown = c.args.shown.now in
    let are = c.in_ok-watched.ensures.nets
    ∙ watched_are N shown.plan.now shown.outputs.items shown.next.items shown.latches.items c.requires.shown.outputs c.requires.shown.next c.requires.shown.latches in
    all_numbers (λ net. net < nets N) c.in_ok-watched.watched
    (subst (λ (numbers : List ℕ). All (λ net. net < nets N) numbers) (sym are) (watched_inside N shown.plan.now c.nets-checked.ensures.checked.closed c.requires.plan))

pub returns-clause-watched : goal.returns-clause-watched
returns-clause-watched c =
    let N = c.args.net.now.circuit in
    let shown = c.args.shown.now in
    let are = c.in_ok-watched.ensures.nets
    ∙ watched_are N shown.plan.now shown.outputs.items shown.next.items shown.latches.items c.requires.shown.outputs c.requires.shown.next c.requires.shown.latches in
    subst (λ (nets : List ℕ). IfOk c.open.result (λ bench. bench.watched ≡ nets)) are c.open.ensures.watched
