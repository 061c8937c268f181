use Rattle.std.proofs.Common.{ℕ, List, map, length, sym, ap, subst, arith}
use Rattle.std.proofs.lemmas.Result.{on_ok_weaker}
use Rattle.std.proofs.lemmas.List.{length-map}
use Rattle.fault_secure.specs.CodePlan.{monitored}
use Rattle.fault_secure.proofs.PlanSizes.{monitored_count}
use Rattle.tsc_net.specs.declared.ids.NetId.{NetId}
use Rattle.monitored_nets.proofs.WordWithin.{word_within}
use Rattle.tsc_net.specs.PlanView.{net_numbers}
use Rattle.diagrams.proofs.Waits.{same_error}
use Rattle.cover_diagrams.specs.Covering.{StandForPins}
use Rattle.cover_diagrams.proofs.RunningOrs.{pins_kept}
use Rattle.circuit_diagrams.specs.Stated.{net_function, circuit_functions}
use Rattle.circuit_diagrams.specs.Steps.{AreBuilt, AreAdded, AreShortOf}
use Rattle.circuit_diagrams.proofs.Adding.{added_first, added_then, short_first, short_then, built_then}
use Rattle.wide_diagrams.specs.Wide.{word_functions}
use Rattle.wide_diagrams.proofs.wide.beside_rows.Goals as goal

pub circuit_rows-requires-clause-roots : goal.circuit_rows-requires-clause-roots
circuit_rows-requires-clause-roots c = word_within c.args.net.now.circuit c.args.plan.now c.args.monitored.now c.requires.plan c.nets-nets.ensures.checked.closed c.requires.word

pub compared_rows-requires-clause-sized : goal.compared_rows-requires-clause-sized
compared_rows-requires-clause-sized c =
    omega (arith, ap length c.deref.ensures.value, c.in-Ok.ensures.sized, length-map c.args.monitored.now (λ (net : NetId). net.number), ap length c.requires.word, monitored_count c.args.net.now.circuit c.args.plan.now c.requires.plan, c.requires.plan.latches)

pub returns-in-Ok-clause-added : goal.returns-in-Ok-clause-added
returns-in-Ok-clause-added c = λ fs v vals F.
    let old = c.args.diagrams.now in
    let mid = c.circuit_rows.new.diagrams in
    let stand = subst (λ (nets : List ℕ). StandForPins mid (map (net_function v) nets) c.deref.result.now) c.requires.word
    (subst (StandForPins mid (map (net_function v) (net_numbers c.args.monitored.now))) (sym c.deref.ensures.value) (c.in-Ok.ensures.stand v vals)) in
    added_then old mid c.compared_rows.new.diagrams (circuit_functions c.args.net.now.circuit v (monitored c.args.net.now.circuit c.args.plan.now)) _
    (subst (λ (nets : List ℕ). AreAdded old mid (circuit_functions c.args.net.now.circuit v nets)) c.requires.word (c.in-Ok.ensures.added v vals))
    (c.compared_rows.ensures.added fs (word_functions c.args.net.now.circuit v c.args.plan.now) (pins_kept old mid fs c.args.firsts.now c.len-rows.ensures.diagram c.in-Ok.ensures.grown F) stand)

pub returns-in-Ok-clause-built : goal.returns-in-Ok-clause-built
returns-in-Ok-clause-built c = λ fs v vals F.
    let old = c.args.diagrams.now in
    let mid = c.circuit_rows.new.diagrams in
    let stand = subst (λ (nets : List ℕ). StandForPins mid (map (net_function v) nets) c.deref.result.now) c.requires.word
    (subst (StandForPins mid (map (net_function v) (net_numbers c.args.monitored.now))) (sym c.deref.ensures.value) (c.in-Ok.ensures.stand v vals)) in
    on_ok_weaker c.compared_rows.result
    (λ rest. built_then mid c.compared_rows.new.diagrams (circuit_functions c.args.net.now.circuit v (monitored c.args.net.now.circuit c.args.plan.now)) _ c.in-Ok.ensures.grown.diagram c.compared_rows.ensures.grown
    (subst (λ (nets : List ℕ). AreBuilt mid (circuit_functions c.args.net.now.circuit v nets)) c.requires.word (c.in-Ok.ensures.built v vals)) rest)
    (c.compared_rows.ensures.built fs (word_functions c.args.net.now.circuit v c.args.plan.now) (pins_kept old mid fs c.args.firsts.now c.len-rows.ensures.diagram c.in-Ok.ensures.grown F) stand)

pub returns-in-Ok-clause-rows : goal.returns-in-Ok-clause-rows
returns-in-Ok-clause-rows c = λ fs v vals F.
    let old = c.args.diagrams.now in
    let mid = c.circuit_rows.new.diagrams in
    let stand = subst (λ (nets : List ℕ). StandForPins mid (map (net_function v) nets) c.deref.result.now) c.requires.word
    (subst (StandForPins mid (map (net_function v) (net_numbers c.args.monitored.now))) (sym c.deref.ensures.value) (c.in-Ok.ensures.stand v vals)) in
    c.compared_rows.ensures.rows fs (word_functions c.args.net.now.circuit v c.args.plan.now) (pins_kept old mid fs c.args.firsts.now c.len-rows.ensures.diagram c.in-Ok.ensures.grown F) stand

pub returns-in-Ok-clause-short : goal.returns-in-Ok-clause-short
returns-in-Ok-clause-short c = λ spent fs v vals F.
    let old = c.args.diagrams.now in
    let mid = c.circuit_rows.new.diagrams in
    let stand = subst (λ (nets : List ℕ). StandForPins mid (map (net_function v) nets) c.deref.result.now) c.requires.word
    (subst (StandForPins mid (map (net_function v) (net_numbers c.args.monitored.now))) (sym c.deref.ensures.value) (c.in-Ok.ensures.stand v vals)) in
    short_then old mid c.compared_rows.new.diagrams (circuit_functions c.args.net.now.circuit v (monitored c.args.net.now.circuit c.args.plan.now)) _ c.in-Ok.ensures.grown (c.compared_rows.ensures.short spent fs (word_functions c.args.net.now.circuit v c.args.plan.now) (pins_kept old mid fs c.args.firsts.now c.len-rows.ensures.diagram c.in-Ok.ensures.grown F) stand)

pub returns-in-Err-clause-added : goal.returns-in-Err-clause-added
returns-in-Err-clause-added c = λ fs v vals F.
    let old = c.args.diagrams.now in
    let mid = c.circuit_rows.new.diagrams in
    added_first old mid (circuit_functions c.args.net.now.circuit v (monitored c.args.net.now.circuit c.args.plan.now)) _
    (subst (λ (nets : List ℕ). AreAdded old mid (circuit_functions c.args.net.now.circuit v nets)) c.requires.word (c.in-Err.ensures.added v vals))

pub returns-in-Err-clause-short : goal.returns-in-Err-clause-short
returns-in-Err-clause-short c = λ spent fs v vals F.
    let old = c.args.diagrams.now in
    let mid = c.circuit_rows.new.diagrams in
    short_first old mid (circuit_functions c.args.net.now.circuit v (monitored c.args.net.now.circuit c.args.plan.now)) _
    (subst (λ (nets : List ℕ). AreShortOf old mid (circuit_functions c.args.net.now.circuit v nets)) c.requires.word (c.in-Err.ensures.short (same_error c.in-Err.e _ spent) v vals))
