-- The cover at the place has the row last.
use Rattle.std.proofs.Common.{true, ◌∙◌, ap, sym, slice_set}
use Rattle.std.proofs.lemmas.Option.{get_or_from_slice_get}
use Rattle.tsc_net.proofs.ResultLemmas.{on_ok_so}
use Rattle.pla_read.specs.Spread.{with_row}
use Rattle.pla_read.proofs.spread.push_at.Goals as goal

pub returns : goal.returns
returns c = record {
  pushed = λ d.
      on_ok_so
      (λ e. ap (slice_set c.args.covers.now c.args.place)
      (e ∙ ap (with_row c.args.row true) (sym (get_or_from_slice_get c.args.covers.now c.args.place c.get_mut.result.now d c.get_mut.ensures.found))))
      c.push_row.result c.push_row.ensures.ok;
}
