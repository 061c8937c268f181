use Rattle.std.proofs.Common.{◌<◌, ℕ, Bool, List, ◌++◌, map, length, All, sym, ap, ◌∙◌, subst}
use Rattle.std.specs.List.{range_with_len, flat_map, filter}
use Rattle.std.proofs.lemmas.List.Elements.{All-map}
use Rattle.fault_secure.specs.Circuit.{nets, bit}
use Rattle.tsc_net.specs.Order.{fan_ins, evaluation_order}
use Rattle.tsc_net.specs.PlanView.{net_numbers}
use Rattle.tsc_net.specs.declared.ids.NetId.{NetId}
use Rattle.diagrams.specs.Building.{input_bit}
use Rattle.circuit_diagrams.specs.Stated.{node_functions}
use Rattle.circuit_diagrams.specs.Steps.{AreBuilt, AreAdded, AreShortOf}
use Rattle.circuit_diagrams.specs.NetRows.{NetsStand, ReadsMarked}
use Rattle.circuit_diagrams.proofs.NetWalk.{pins_inside}
use Rattle.circuit_diagrams.proofs.MarkedReads.{marked_reads, roots_stand}
use Rattle.circuit_diagrams.proofs.circuits.marked_rows.Goals as goal

pub filled_rows-requires-clause-reads : goal.filled_rows-requires-clause-reads
filled_rows-requires-clause-reads c =
    subst (ReadsMarked c.args.net.now.circuit c.args.marks.now) c.order-order.ensures.order
    (marked_reads c.args.net.now.circuit (net_numbers c.args.roots.now) c.order-order.result.now c.args.marks.now c.requires.latches c.requires.cone c.order-order.ensures.whole c.order-order.ensures.order
    c.nets-nets.ensures.checked.closed)

pub returns-in-Ok-rows_of-clause-inside : goal.returns-in-Ok-rows_of-clause-inside
returns-in-Ok-rows_of-clause-inside c =
    pins_inside (length c.filled_rows.new.diagrams.rows) c.deref.result.now c.in-Ok-rows_of.found.items c.args.roots.now
    (subst (All (λ row. row < length c.filled_rows.new.diagrams.rows)) (sym c.deref.ensures.value) c.in-Ok.ensures.inside)
    (subst (λ (n : ℕ). All (λ (net : NetId). net.number < n) c.args.roots.now) (sym (ap length c.deref.ensures.value ∙ c.in-Ok.ensures.sized)) c.requires.roots)
    c.in-Ok-rows_of.ensures.rows

pub returns-in-Ok-rows_of-clause-added : goal.returns-in-Ok-rows_of-clause-added
returns-in-Ok-rows_of-clause-added c = λ v vals.
    let N = c.args.net.now.circuit in
    subst (λ (m : List Bool). AreAdded c.args.diagrams.now c.filled_rows.new.diagrams (map input_bit (range_with_len 0 N.inputs) ++ flat_map (node_functions N v) (filter (bit m) (evaluation_order (fan_ins N))))) c.requires.computed
    (c.in-Ok.ensures.added v vals)

pub returns-in-Ok-rows_of-clause-built : goal.returns-in-Ok-rows_of-clause-built
returns-in-Ok-rows_of-clause-built c = λ v vals.
    let N = c.args.net.now.circuit in
    subst (λ (m : List Bool). AreBuilt c.filled_rows.new.diagrams (map input_bit (range_with_len 0 N.inputs) ++ flat_map (node_functions N v) (filter (bit m) (evaluation_order (fan_ins N))))) c.requires.computed
    (c.in-Ok.ensures.built v vals)

pub returns-in-Ok-rows_of-clause-stand : goal.returns-in-Ok-rows_of-clause-stand
returns-in-Ok-rows_of-clause-stand c = λ v vals.
    let N = c.args.net.now.circuit in
    let order = c.order-order.result.now in
    roots_stand N (net_numbers c.args.roots.now) order c.args.marks.now c.requires.latches c.requires.cone c.order-order.ensures.whole c.order-order.ensures.order
    c.filled_rows.new.diagrams v c.deref.result.now c.in-Ok-rows_of.found.items c.in-Ok-rows_of.ensures.rows
    (All-map (λ n. n < nets N) (λ (net : NetId). net.number) c.args.roots.now c.requires.roots)
    (subst (NetsStand c.filled_rows.new.diagrams N v c.args.marks.now order (length order)) (sym c.deref.ensures.value)
    (subst (λ (o : List ℕ). NetsStand c.filled_rows.new.diagrams N v c.args.marks.now o (length o) c.in-Ok.rows.items) (sym c.order-order.ensures.order) (c.in-Ok.ensures.stand v vals)))

pub returns-clause-short : goal.returns-clause-short
returns-clause-short c = λ spent v vals.
    let N = c.args.net.now.circuit in
    subst (λ (m : List Bool). AreShortOf c.args.diagrams.now c.filled_rows.new.diagrams (map input_bit (range_with_len 0 N.inputs) ++ flat_map (node_functions N v) (filter (bit m) (evaluation_order (fan_ins N))))) c.requires.computed
    (c.in-Err.ensures.short spent v vals)
