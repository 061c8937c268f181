use Rattle.std.proofs.Common.{length, map, ap, sym, ◌∙◌}
use Rattle.std.proofs.lemmas.List.{take_all}
use Rattle.std.proofs.lemmas.Simd.{map-map}
use Rattle.tsc_cover.specs.Row.{literals_of, literals_of_each}
use Rattle.tsc_cover.specs.declared.rows.Row01.{Row01}
use Rattle.tsc_net.specs.PlanView.{net_numbers}
use Rattle.lane_sim.specs.Program.{terms_of}
use Rattle.lane_sim.proofs.ready.terms_of.Goals as goal

pub returns : goal.returns
returns c =
    let reads = c.args.reads.now in
    let make = terms_of c.args.first c.args.rows.now.rows (net_numbers reads) in
    let items = c.rows-table.result.now in
    record {
      terms = c.loop-row.invariant
          ∙ ap (map (λ (row : Row01). make (literals_of (length reads) row))) (take_all c.loop-row.row-index items c.loop-row-test.false)
          ∙ sym (map-map make (literals_of (length reads)) items)
          ∙ ap (λ width. map make (literals_of_each width items)) (sym c.requires.width)
          ∙ ap (map make) c.rows-table.ensures.rows;
    }
