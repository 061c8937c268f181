-- The cover that is taken out is the node's.
use Rattle.std.proofs.Common.{◌∙◌, ap, ap₂, sym}
use Rattle.std.proofs.lemmas.Option.{get_or_from_slice_get}
use Rattle.tsc_cover.specs.Cover.{CoverTable}
use Rattle.tsc_net.specs.Parts.{with_node}
use Rattle.tsc_net.specs.PartsView.{text_of}
use Rattle.tsc_net.proofs.ResultLemmas.{on_ok_so}
use Rattle.pla_read.specs.Spread.{no_rows}
use Rattle.pla_read.proofs.nodes.add_cover_node.Goals as goal

pub input_names-requires : goal.input_names-requires
input_names-requires c = record {
  count = c.requires.inputs (no_rows 0)
      ∙ ap (λ (cover : CoverTable). cover.width)
      (get_or_from_slice_get c.args.covers.now c.args.place c.replace-cover.result (no_rows 0) c.replace-cover.ensures.was)
      ∙ sym c.width.ensures.width;
}

pub returns-clause-added : goal.returns-clause-added
returns-clause-added c = λ d.
    on_ok_so
    (λ e. e ∙ ap₂ (λ reads cover. with_node c.args.parts.now reads (text_of c.args.parts.now.names c.args.out) cover) c.in_ok-reads.ensures.texts
    (sym (get_or_from_slice_get c.args.covers.now c.args.place c.replace-cover.result d c.replace-cover.ensures.was)))
    c.node.result c.node.ensures.ok
