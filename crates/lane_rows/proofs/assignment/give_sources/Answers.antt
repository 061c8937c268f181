-- One input or latch output more, and the end of them.
use Rattle.std.proofs.Common.{◌≡◌, ◌∙◌, sym, ap, subst, ◌+◌, ◌<◌, ◌≤◌, true, false, length, slice_index, slice_set, Some, length-set, arith}
use Rattle.std.proofs.lemmas.Bool.{lt-ltb, le-ltb}
use Rattle.fault_secure.specs.Circuit.{nets}
use Rattle.tsc_net.specs.Order.{fan_ins, evaluation_order, has_place}
use Rattle.lane_rows.specs.Alive.{source_count}
use Rattle.lane_rows.specs.Along.{IsStarted}
use Rattle.lane_rows.proofs.StartLemmas.{started_given, started_without, next_is_new, watched_is, along_start}
use Rattle.lane_rows.proofs.assignment.give_sources.Goals as goal
use Rattle.lane_rows.proofs.assignment.give_sources.Goals.{then-end-ends, else-end-ends}
use Rattle.lane_rows.specs.declared.row_table.RowTable.{RowTable}

pub loop-source-preserved : goal.loop-source-preserved
loop-source-preserved c =
    let C = c.args.net.now.circuit in
    let order = evaluation_order (fan_ins C) in
    let source = c.loop-source.source in
    let before = c.loop-source.table in
    let inside : source < nets C = omega (arith, c.loop-source-test.true, c.inputs.ensures.count, c.latches.ensures.count) in
    let is = ap length c.order-end.ensures.order in
    record {
      rows = elim c.if-end-ends.branch [
        | then-end-ends w ↦
            ap (λ (t : RowTable). length t.rows.items) w.table-is ∙ ap length w.give.ensures.rows
            ∙ length-set before.rows.items source (Some w.give.result) ∙ c.loop-source.invariant.rows
        | else-end-ends w ↦ ap (λ (t : RowTable). length t.rows.items) w.table-is ∙ c.loop-source.invariant.rows
      ];
      free = elim c.if-end-ends.branch [
        | then-end-ends w ↦
            ap (λ (t : RowTable). t.free.items) w.table-is
            ∙ (next_is_new before.free.items w.give.new.self.free.items before.count w.give.new.self.count w.give.result c.loop-source.invariant.free w.give.ensures.next).0
        | else-end-ends w ↦ ap (λ (t : RowTable). t.free.items) w.table-is ∙ c.loop-source.invariant.free
      ];
      count = elim c.if-end-ends.branch [
        | then-end-ends w ↦
            let new = next_is_new before.free.items w.give.new.self.free.items before.count w.give.new.self.count w.give.result c.loop-source.invariant.free w.give.ensures.next in
            omega (arith, new.1, c.loop-source.invariant.count, ap (λ (t : RowTable). t.count) w.table-is)
        | else-end-ends w ↦ omega (arith, c.loop-source.invariant.count, ap (λ (t : RowTable). t.count) w.table-is)
      ];
      started = λ watched until.
          let so_far = c.loop-source.invariant.started watched until in
          elim c.if-end-ends.branch [
            | then-end-ends w ↦
                let past : length order < slice_index c.args.ends.now source = omega (arith, w.if-end-ends.true, is) in
                let watch : has_place watched source ≡ true =
                sym (watched_is C order watched c.args.ends.now until source inside) ∙ lt-ltb (length order) (slice_index c.args.ends.now source) past in
                subst (λ (t : RowTable). IsStarted C watched (source + 1) t.rows.items t.held.items t.free.items t.count) (sym w.table-is)
                (subst (λ l. IsStarted C watched (source + 1) l w.give.new.self.held.items w.give.new.self.free.items w.give.new.self.count) (sym w.give.ensures.rows)
                (subst (λ l. IsStarted C watched (source + 1) (slice_set before.rows.items source (Some w.give.result)) l w.give.new.self.free.items w.give.new.self.count) (sym w.give.ensures.held)
                (started_given C watched source before.rows.items before.held.items before.free.items before.count inside so_far
                w.give.new.self.free.items w.give.new.self.count w.give.result watch w.give.ensures.next)))
            | else-end-ends w ↦
                let low : slice_index c.args.ends.now source ≤ length order = omega (arith, w.if-end-ends.false, is) in
                let unwatched : has_place watched source ≡ false =
                sym (watched_is C order watched c.args.ends.now until source inside) ∙ le-ltb (length order) (slice_index c.args.ends.now source) low in
                subst (λ (t : RowTable). IsStarted C watched (source + 1) t.rows.items t.held.items t.free.items t.count) (sym w.table-is)
                (started_without C watched source before.rows.items before.held.items before.free.items before.count inside so_far unwatched)
          ];
    }

pub returns-clause-along : goal.returns-clause-along
returns-clause-along c watched until =
    let C = c.args.net.now.circuit in
    let order = evaluation_order (fan_ins C) in
    let end : c.loop-source.source ≡ source_count C =
    omega (arith, c.loop-source-test.false, c.loop-source.auto.source-end, c.inputs.ensures.count, c.latches.ensures.count) in
    along_start C order watched c.loop-source.table.rows.items c.loop-source.table.held.items c.loop-source.table.free.items c.loop-source.table.count c.loop-source.invariant.free
    (subst (λ n. IsStarted C watched n c.loop-source.table.rows.items c.loop-source.table.held.items c.loop-source.table.free.items c.loop-source.table.count) end
    (c.loop-source.invariant.started watched until))
