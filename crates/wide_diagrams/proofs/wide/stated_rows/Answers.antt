use Rattle.std.proofs.Common.{ℕ, List, map, sym, subst}
use Rattle.std.proofs.lemmas.Result.{on_ok_weaker}
use Rattle.fault_secure.specs.Circuit.{nets}
use Rattle.net_cones.proofs.ConeNets.{numbers_below}
use Rattle.tsc_net.specs.PlanView.{net_numbers}
use Rattle.diagrams.proofs.Waits.{same_error}
use Rattle.cover_diagrams.specs.Covering.{StandForPins}
use Rattle.circuit_diagrams.specs.Stated.{net_function, circuit_functions}
use Rattle.circuit_diagrams.specs.Steps.{AreBuilt, AreAdded, AreShortOf}
use Rattle.circuit_diagrams.proofs.Adding.{added_first, added_then, short_first, short_then, built_then}
use Rattle.wide_diagrams.proofs.wide.stated_rows.Goals as goal

pub circuit_rows-requires-clause-roots : goal.circuit_rows-requires-clause-roots
circuit_rows-requires-clause-roots c = numbers_below (nets c.args.source.now.circuit) c.args.source.now.circuit.outputs c.outputs-shown.result.now c.nets-source.ensures.checked.closed.outputs c.outputs-shown.ensures.outputs

pub returns-in-Ok-clause-added : goal.returns-in-Ok-clause-added
returns-in-Ok-clause-added c = λ vs v vals_source vals.
    let old = c.args.diagrams.now in
    let mid = c.circuit_rows.new.diagrams in
    let stand = subst (λ (nets : List ℕ). StandForPins mid (map (net_function vs) nets) c.deref.result.now) c.outputs-shown.ensures.outputs
    (subst (StandForPins mid (map (net_function vs) (net_numbers c.outputs-shown.result.now))) (sym c.deref.ensures.value) (c.in-Ok.ensures.stand vs vals_source)) in
    added_then old mid c.beside_rows.new.diagrams (circuit_functions c.args.source.now.circuit vs (c.args.source.now.circuit.outputs)) _
    (subst (λ (nets : List ℕ). AreAdded old mid (circuit_functions c.args.source.now.circuit vs nets)) c.outputs-shown.ensures.outputs (c.in-Ok.ensures.added vs vals_source))
    (c.beside_rows.ensures.added (map (net_function vs) c.args.source.now.circuit.outputs) v vals stand)

pub returns-in-Ok-clause-built : goal.returns-in-Ok-clause-built
returns-in-Ok-clause-built c = λ vs v vals_source vals.
    let old = c.args.diagrams.now in
    let mid = c.circuit_rows.new.diagrams in
    let stand = subst (λ (nets : List ℕ). StandForPins mid (map (net_function vs) nets) c.deref.result.now) c.outputs-shown.ensures.outputs
    (subst (StandForPins mid (map (net_function vs) (net_numbers c.outputs-shown.result.now))) (sym c.deref.ensures.value) (c.in-Ok.ensures.stand vs vals_source)) in
    on_ok_weaker c.beside_rows.result
    (λ rest. built_then mid c.beside_rows.new.diagrams (circuit_functions c.args.source.now.circuit vs (c.args.source.now.circuit.outputs)) _ c.in-Ok.ensures.grown.diagram c.beside_rows.ensures.grown
    (subst (λ (nets : List ℕ). AreBuilt mid (circuit_functions c.args.source.now.circuit vs nets)) c.outputs-shown.ensures.outputs (c.in-Ok.ensures.built vs vals_source)) rest)
    (c.beside_rows.ensures.built (map (net_function vs) c.args.source.now.circuit.outputs) v vals stand)

pub returns-in-Ok-clause-rows : goal.returns-in-Ok-clause-rows
returns-in-Ok-clause-rows c = λ vs v vals_source vals.
    let old = c.args.diagrams.now in
    let mid = c.circuit_rows.new.diagrams in
    let stand = subst (λ (nets : List ℕ). StandForPins mid (map (net_function vs) nets) c.deref.result.now) c.outputs-shown.ensures.outputs
    (subst (StandForPins mid (map (net_function vs) (net_numbers c.outputs-shown.result.now))) (sym c.deref.ensures.value) (c.in-Ok.ensures.stand vs vals_source)) in
    c.beside_rows.ensures.rows (map (net_function vs) c.args.source.now.circuit.outputs) v vals stand

pub returns-in-Ok-clause-short : goal.returns-in-Ok-clause-short
returns-in-Ok-clause-short c = λ spent vs v vals_source vals.
    let old = c.args.diagrams.now in
    let mid = c.circuit_rows.new.diagrams in
    let stand = subst (λ (nets : List ℕ). StandForPins mid (map (net_function vs) nets) c.deref.result.now) c.outputs-shown.ensures.outputs
    (subst (StandForPins mid (map (net_function vs) (net_numbers c.outputs-shown.result.now))) (sym c.deref.ensures.value) (c.in-Ok.ensures.stand vs vals_source)) in
    short_then old mid c.beside_rows.new.diagrams (circuit_functions c.args.source.now.circuit vs (c.args.source.now.circuit.outputs)) _ c.in-Ok.ensures.grown (c.beside_rows.ensures.short spent (map (net_function vs) c.args.source.now.circuit.outputs) v vals stand)

pub returns-in-Err-clause-added : goal.returns-in-Err-clause-added
returns-in-Err-clause-added c = λ vs v vals_source vals.
    let old = c.args.diagrams.now in
    let mid = c.circuit_rows.new.diagrams in
    added_first old mid (circuit_functions c.args.source.now.circuit vs (c.args.source.now.circuit.outputs)) _
    (subst (λ (nets : List ℕ). AreAdded old mid (circuit_functions c.args.source.now.circuit vs nets)) c.outputs-shown.ensures.outputs (c.in-Err.ensures.added vs vals_source))

pub returns-in-Err-clause-short : goal.returns-in-Err-clause-short
returns-in-Err-clause-short c = λ spent vs v vals_source vals.
    let old = c.args.diagrams.now in
    let mid = c.circuit_rows.new.diagrams in
    short_first old mid (circuit_functions c.args.source.now.circuit vs (c.args.source.now.circuit.outputs)) _
    (subst (λ (nets : List ℕ). AreShortOf old mid (circuit_functions c.args.source.now.circuit vs nets)) c.outputs-shown.ensures.outputs (c.in-Err.ensures.short (same_error c.in-Err.e _ spent) vs vals_source))
