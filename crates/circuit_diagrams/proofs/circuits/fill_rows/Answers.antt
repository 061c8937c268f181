use Rattle.std.proofs.Common.{ℕ, List, length, slice_index, sym, subst, arith}
use Rattle.fault_secure.specs.Circuit.{bit}
use Rattle.diagrams.specs.Building.{input_bit}
use Rattle.cover_diagrams.specs.Covering.{HasRow}
use Rattle.circuit_diagrams.specs.Stated.{node_functions}
use Rattle.circuit_diagrams.specs.NetRows.{NetsStand, ReadsMarked}
use Rattle.circuit_diagrams.proofs.Lists.{each-range}
use Rattle.circuit_diagrams.proofs.MarkedReads.{order_all}
use Rattle.circuit_diagrams.proofs.Filling.{fill_begun, fill_added, fill_built, fill_short_first, fill_short}
use Rattle.circuit_diagrams.proofs.circuits.fill_rows.Goals as goal

pub returns-in-Ok-node_rows-clause-added : goal.returns-in-Ok-node_rows-clause-added
returns-in-Ok-node_rows-clause-added c = λ v vals.
    fill_added (node_functions c.args.net.now.circuit v) (bit c.args.marks.now) _ _ c.inputs.ensures.count _ _ c.order-order.ensures.order
    c.args.diagrams.now c.input_rows.new.diagrams c.node_rows.new.diagrams c.in-Ok.ensures.added (c.in-Ok-node_rows.ensures.added v vals)

pub returns-in-Ok-node_rows-clause-built : goal.returns-in-Ok-node_rows-clause-built
returns-in-Ok-node_rows-clause-built c = λ v vals.
    fill_built (node_functions c.args.net.now.circuit v) (bit c.args.marks.now) _ _ c.inputs.ensures.count _ _ c.order-order.ensures.order
    c.input_rows.new.diagrams c.node_rows.new.diagrams c.in-Ok.ensures.added.grown.diagram (c.in-Ok-node_rows.ensures.added v vals).grown
    (each-range (HasRow c.input_rows.new.diagrams) input_bit 0 _ (λ i low high. (slice_index c.input_rows.new.rows i, c.in-Ok.ensures.stand i (omega arith))))
    (c.in-Ok-node_rows.ensures.built v vals)

pub returns-in-Ok-node_rows-clause-stand : goal.returns-in-Ok-node_rows-clause-stand
returns-in-Ok-node_rows-clause-stand c = λ v vals.
    subst (λ (o : List ℕ). NetsStand c.node_rows.new.diagrams c.args.net.now.circuit v c.args.marks.now o (length o) c.node_rows.new.rows) c.order-order.ensures.order
    (c.in-Ok-node_rows.ensures.stand v vals)

pub returns-in-Err-node_rows-clause-added : goal.returns-in-Err-node_rows-clause-added
returns-in-Err-node_rows-clause-added c = λ v vals.
    fill_added (node_functions c.args.net.now.circuit v) (bit c.args.marks.now) _ _ c.inputs.ensures.count _ _ c.order-order.ensures.order
    c.args.diagrams.now c.input_rows.new.diagrams c.node_rows.new.diagrams c.in-Ok.ensures.added (c.in-Err-node_rows.ensures.added v vals)

pub returns-in-Err-node_rows-clause-short : goal.returns-in-Err-node_rows-clause-short
returns-in-Err-node_rows-clause-short c = λ spent v vals.
    fill_short (node_functions c.args.net.now.circuit v) (bit c.args.marks.now) _ _ c.inputs.ensures.count _ _ c.order-order.ensures.order
    c.args.diagrams.now c.input_rows.new.diagrams c.node_rows.new.diagrams c.in-Ok.ensures.added.grown (c.in-Err-node_rows.ensures.short spent v vals)

pub returns-in-Err-clause-added : goal.returns-in-Err-clause-added
returns-in-Err-clause-added c = λ v vals.
    fill_begun (node_functions c.args.net.now.circuit v) (bit c.args.marks.now) _ _ c.inputs.ensures.count _ _ c.order-order.ensures.order c.args.diagrams.now c.input_rows.new.diagrams c.in-Err.ensures.added

pub returns-in-Err-clause-short : goal.returns-in-Err-clause-short
returns-in-Err-clause-short c = λ spent v vals.
    fill_short_first (node_functions c.args.net.now.circuit v) (bit c.args.marks.now) _ _ c.inputs.ensures.count _ _ c.order-order.ensures.order c.args.diagrams.now c.input_rows.new.diagrams (c.in-Err.ensures.short spent)

pub node_rows-requires-clause-within : goal.node_rows-requires-clause-within
node_rows-requires-clause-within c = order_all c.args.net.now.circuit _ c.order-order.ensures.order

pub node_rows-requires-clause-reads : goal.node_rows-requires-clause-reads
node_rows-requires-clause-reads c = subst (ReadsMarked c.args.net.now.circuit c.args.marks.now) (sym c.order-order.ensures.order) c.requires.reads
