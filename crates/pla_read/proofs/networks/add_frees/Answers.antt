-- The names, then the nodes over them.
use Rattle.std.proofs.Common.{List, ℕ, All, sym, length, ◌∙◌, subst, arith}
use Rattle.tsc_net.specs.PartsView.{IsName}
use Rattle.pla_read.specs.Shaped.{table_as}
use Rattle.pla_read.proofs.Collected.{begun_many, frees_shown, names_with}
use Rattle.pla_read.proofs.Segments.{shown_many, shown_within}
use Rattle.pla_read.proofs.networks.add_frees.Goals as goal

pub add_gate_nodes-requires-clause-lefts : goal.add_gate_nodes-requires-clause-lefts
add_gate_nodes-requires-clause-lefts c =
    shown_within c.add_fresh_names-2.new.parts.names c.as_slice.result.now c.in_ok-lefts.lefts (length c.begin.new.parts.names) c.args.table.now.outputs
    c.as_slice.ensures.whole c.in_ok-lefts.ensures.numbers (omega (arith, c.in_ok-lefts.ensures.counted, c.in_ok-barred.ensures.counted))

pub add_gate_nodes-requires-clause-barred : goal.add_gate_nodes-requires-clause-barred
add_gate_nodes-requires-clause-barred c =
    shown_within c.add_fresh_names-2.new.parts.names c.as_slice-2.result.now c.in_ok-barred.barred (length c.add_fresh_names.new.parts.names) c.args.table.now.outputs
    c.as_slice-2.ensures.whole c.in_ok-barred.ensures.numbers (omega (arith, c.in_ok-barred.ensures.counted))

pub add_gate_nodes-requires-clause-outs : goal.add_gate_nodes-requires-clause-outs
add_gate_nodes-requires-clause-outs c =
    shown_within c.add_fresh_names-2.new.parts.names c.as_slice-3.result.now c.in_ok-outs.outs (length c.args.names.now.inputs) (length c.args.names.now.outputs)
    c.as_slice-3.ensures.whole c.in_ok-outs.ensures.names
    (begun_many c.args.names.now.inputs c.args.names.now.outputs c.begin.new.parts c.add_fresh_names-2.new.parts.names c.in_ok-outs.ensures.begun
    (omega (arith, c.in_ok-lefts.ensures.counted, c.in_ok-barred.ensures.counted)))

pub add_gate_nodes-requires-clause-lefts_count : goal.add_gate_nodes-requires-clause-lefts_count
add_gate_nodes-requires-clause-lefts_count c =
    shown_many c.as_slice.result.now c.in_ok-lefts.lefts (length c.begin.new.parts.names) c.args.table.now.outputs c.as_slice.ensures.whole c.in_ok-lefts.ensures.numbers
    ∙ sym (shown_many c.as_slice-3.result.now c.in_ok-outs.outs (length c.args.names.now.inputs) (length c.args.names.now.outputs) c.as_slice-3.ensures.whole c.in_ok-outs.ensures.names
    ∙ c.requires.outputs)

pub add_gate_nodes-requires-clause-barred_count : goal.add_gate_nodes-requires-clause-barred_count
add_gate_nodes-requires-clause-barred_count c =
    shown_many c.as_slice-2.result.now c.in_ok-barred.barred (length c.add_fresh_names.new.parts.names) c.args.table.now.outputs c.as_slice-2.ensures.whole c.in_ok-barred.ensures.numbers
    ∙ sym (shown_many c.as_slice-3.result.now c.in_ok-outs.outs (length c.args.names.now.inputs) (length c.args.names.now.outputs) c.as_slice-3.ensures.whole c.in_ok-outs.ensures.names
    ∙ c.requires.outputs)

pub add_rows_nodes-requires-clause-outs : goal.add_rows_nodes-requires-clause-outs
add_rows_nodes-requires-clause-outs c =
    subst (λ (names : List (List ℕ)). All (IsName names) c.as_slice-4.result.now)
    (sym (names_with c.add_fresh_names-2.new.parts c.add_gate_nodes.new.parts _ c.in_ok-add_gate_nodes.ensures.added))
    (shown_within c.add_fresh_names-2.new.parts.names c.as_slice-4.result.now c.in_ok-lefts.lefts (length c.begin.new.parts.names) c.args.table.now.outputs
    c.as_slice-4.ensures.whole c.in_ok-lefts.ensures.numbers (omega (arith, c.in_ok-lefts.ensures.counted, c.in_ok-barred.ensures.counted)))

pub add_rows_nodes-requires-clause-count : goal.add_rows_nodes-requires-clause-count
add_rows_nodes-requires-clause-count c =
    shown_many c.as_slice-4.result.now c.in_ok-lefts.lefts (length c.begin.new.parts.names) c.args.table.now.outputs c.as_slice-4.ensures.whole c.in_ok-lefts.ensures.numbers

pub add_rows_nodes-requires-2-clause-outs : goal.add_rows_nodes-requires-2-clause-outs
add_rows_nodes-requires-2-clause-outs c =
    subst (λ (names : List (List ℕ)). All (IsName names) c.as_slice-5.result.now)
    (sym (names_with c.add_gate_nodes.new.parts c.add_rows_nodes.new.parts _ c.in_ok-add_rows_nodes.ensures.added
    ∙ names_with c.add_fresh_names-2.new.parts c.add_gate_nodes.new.parts _ c.in_ok-add_gate_nodes.ensures.added))
    (shown_within c.add_fresh_names-2.new.parts.names c.as_slice-5.result.now c.in_ok-barred.barred (length c.add_fresh_names.new.parts.names) c.args.table.now.outputs
    c.as_slice-5.ensures.whole c.in_ok-barred.ensures.numbers (omega (arith, c.in_ok-barred.ensures.counted)))

pub add_rows_nodes-requires-2-clause-count : goal.add_rows_nodes-requires-2-clause-count
add_rows_nodes-requires-2-clause-count c =
    shown_many c.as_slice-5.result.now c.in_ok-barred.barred (length c.add_fresh_names.new.parts.names) c.args.table.now.outputs c.as_slice-5.ensures.whole c.in_ok-barred.ensures.numbers

pub returns : goal.returns
returns c = record {
  frees = frees_shown c.args.names.now.inputs c.args.names.now.outputs (table_as c.args.table.now) c.begin.new.parts c.add_fresh_names.new.parts c.add_fresh_names-2.new.parts
      c.in_ok-outs.outs c.in_ok-lefts.lefts c.in_ok-barred.barred c.in_ok-outs.ensures.begun c.in_ok-outs.ensures.names
      (record { added = c.in_ok-lefts.ensures.added; named = c.in_ok-lefts.ensures.named; first = c.in_ok-lefts.ensures.first; counted = c.in_ok-lefts.ensures.counted; distinct = c.in_ok-lefts.ensures.distinct; numbers = c.in_ok-lefts.ensures.numbers })
      (record { added = c.in_ok-barred.ensures.added; named = c.in_ok-barred.ensures.named; first = c.in_ok-barred.ensures.first; counted = c.in_ok-barred.ensures.counted; distinct = c.in_ok-barred.ensures.distinct; numbers = c.in_ok-barred.ensures.numbers })
      c.add_gate_nodes.new.parts c.add_rows_nodes.new.parts c.add_rows_nodes-2.new.parts
      c.as_slice-3.result.now c.as_slice.result.now c.as_slice-2.result.now c.as_slice-4.result.now c.as_slice-5.result.now
      c.requires.outputs c.requires.distinct
      c.as_slice-3.ensures.whole c.as_slice.ensures.whole c.as_slice-2.ensures.whole c.as_slice-4.ensures.whole c.as_slice-5.ensures.whole
      c.in_ok-add_gate_nodes.ensures.added c.in_ok-add_rows_nodes.ensures.added c.in_ok-add_rows_nodes-2.ensures.added;
}
