use Rattle.std.proofs.Common.{ℕ, map, length, ◌<◌, slice_index, slice_index_or, sym, ap, ◌∙◌, subst}
use Rattle.fault_secure.specs.Circuit.{node}
use Rattle.tsc_net.specs.declared.ids.NetId.{NetId}
use Rattle.net_cones.proofs.OrderWithin.{reads_within}
use Rattle.diagrams.specs.Decisions.{value}
use Rattle.circuit_diagrams.specs.Stated.{net_function}
use Rattle.circuit_diagrams.proofs.NetWalk.{pins_stand, own_pins, pins_inside, node_kept, node_built, node_stands}
use Rattle.circuit_diagrams.proofs.nodes.node_row.Goals as goal

pub rows_of-requires : goal.rows_of-requires
rows_of-requires c = record {
  within = subst (λ (n : ℕ). (k : ℕ) (d : NetId) → k < length c.node_reads-reads.result.now → (slice_index_or c.node_reads-reads.result.now k d).number < n) (sym c.requires.sized)
      (reads_within c.args.net.now.circuit c.args.place c.node_reads-reads.result.now c.nets-nets.ensures.checked.closed c.requires.place c.node_reads-reads.ensures.reads);
}

pub cover_row-requires-clause-pins : goal.cover_row-requires-clause-pins
cover_row-requires-clause-pins c =
    (pins_inside (length c.args.diagrams.now.rows) c.args.rows.now c.deref.result.now c.node_reads-reads.result.now c.requires.inside
    (subst (λ (n : ℕ). (k : ℕ) (d : NetId) → k < length c.node_reads-reads.result.now → (slice_index_or c.node_reads-reads.result.now k d).number < n) (sym c.requires.sized)
    (reads_within c.args.net.now.circuit c.args.place c.node_reads-reads.result.now c.nets-nets.ensures.checked.closed c.requires.place c.node_reads-reads.ensures.reads))
    (c.deref.ensures.value ∙ c.in-Ok.ensures.rows))

pub returns-in-Ok-cover_row-clause-inside : goal.returns-in-Ok-cover_row-clause-inside
returns-in-Ok-cover_row-clause-inside c =
    (c.in-Ok-cover_row.ensures.stands (map (value c.args.diagrams.now.rows) c.deref.result.now) (own_pins c.args.diagrams.now c.deref.result.now
    (pins_inside (length c.args.diagrams.now.rows) c.args.rows.now c.deref.result.now c.node_reads-reads.result.now c.requires.inside
    (subst (λ (n : ℕ). (k : ℕ) (d : NetId) → k < length c.node_reads-reads.result.now → (slice_index_or c.node_reads-reads.result.now k d).number < n) (sym c.requires.sized)
    (reads_within c.args.net.now.circuit c.args.place c.node_reads-reads.result.now c.nets-nets.ensures.checked.closed c.requires.place c.node_reads-reads.ensures.reads))
    (c.deref.ensures.value ∙ c.in-Ok.ensures.rows)))).node

pub returns-in-Ok-cover_row-clause-made : goal.returns-in-Ok-cover_row-clause-made
returns-in-Ok-cover_row-clause-made c = λ v kept stand all.
    c.in-Ok-cover_row.ensures.made (map (net_function v) (node c.args.net.now.circuit c.args.place).reads) kept
    (pins_stand c.args.diagrams.now c.args.net.now.circuit v c.args.place c.args.rows.now c.deref.result.now (c.deref.ensures.value ∙ (c.in-Ok.ensures.rows ∙ ap (map (slice_index c.args.rows.now)) c.node_reads-reads.ensures.reads)) stand)
    (node_kept _ kept c.args.net.now.circuit v c.args.place c.node_cover-cover.result.now c.node_cover-cover.ensures.cover all)

pub returns-in-Ok-cover_row-clause-built : goal.returns-in-Ok-cover_row-clause-built
returns-in-Ok-cover_row-clause-built c = λ v stand.
    node_built c.cover_row.new.diagrams c.args.net.now.circuit v c.args.place c.node_cover-cover.result.now c.node_cover-cover.ensures.cover
    (c.in-Ok-cover_row.ensures.built (map (net_function v) (node c.args.net.now.circuit c.args.place).reads)
    (pins_stand c.args.diagrams.now c.args.net.now.circuit v c.args.place c.args.rows.now c.deref.result.now (c.deref.ensures.value ∙ (c.in-Ok.ensures.rows ∙ ap (map (slice_index c.args.rows.now)) c.node_reads-reads.ensures.reads)) stand))

pub returns-in-Ok-cover_row-clause-stands : goal.returns-in-Ok-cover_row-clause-stands
returns-in-Ok-cover_row-clause-stands c = λ v vals inputs stand.
    node_stands c.cover_row.new.diagrams c.args.net.now.circuit v c.args.place _ c.node_cover-cover.result.now c.node_cover-cover.ensures.cover (c.in-Ok-cover_row.ensures.grown.inputs ∙ inputs) vals c.requires.place
    (c.in-Ok-cover_row.ensures.stands (map (net_function v) (node c.args.net.now.circuit c.args.place).reads)
    (pins_stand c.args.diagrams.now c.args.net.now.circuit v c.args.place c.args.rows.now c.deref.result.now (c.deref.ensures.value ∙ (c.in-Ok.ensures.rows ∙ ap (map (slice_index c.args.rows.now)) c.node_reads-reads.ensures.reads)) stand))

pub returns-in-Ok-clause-made : goal.returns-in-Ok-clause-made
returns-in-Ok-clause-made c = λ v kept stand all.
    c.in-Err-cover_row.ensures.made (map (net_function v) (node c.args.net.now.circuit c.args.place).reads) kept
    (pins_stand c.args.diagrams.now c.args.net.now.circuit v c.args.place c.args.rows.now c.deref.result.now (c.deref.ensures.value ∙ (c.in-Ok.ensures.rows ∙ ap (map (slice_index c.args.rows.now)) c.node_reads-reads.ensures.reads)) stand)
    (node_kept _ kept c.args.net.now.circuit v c.args.place c.node_cover-cover.result.now c.node_cover-cover.ensures.cover all)

pub returns-in-Ok-clause-short : goal.returns-in-Ok-clause-short
returns-in-Ok-clause-short c = λ spent v kept stand all.
    c.in-Err-cover_row.ensures.short spent (map (net_function v) (node c.args.net.now.circuit c.args.place).reads) kept
    (pins_stand c.args.diagrams.now c.args.net.now.circuit v c.args.place c.args.rows.now c.deref.result.now (c.deref.ensures.value ∙ (c.in-Ok.ensures.rows ∙ ap (map (slice_index c.args.rows.now)) c.node_reads-reads.ensures.reads)) stand)
    (node_kept _ kept c.args.net.now.circuit v c.args.place c.node_cover-cover.result.now c.node_cover-cover.ensures.cover all)
