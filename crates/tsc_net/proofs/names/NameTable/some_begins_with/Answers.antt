-- What holds of some key's text holds of some text.
use Rattle.std.proofs.Common.{ap, ◌∙◌}
use Rattle.std.specs.List.{list_any}
use Rattle.tsc_net.specs.Parts.{begins_with}
use Rattle.tsc_net.proofs.NameLemmas.{list_any-text}
use Rattle.tsc_net.proofs.names.NameTable.some_begins_with.Goals as goal

pub returns : goal.returns
returns c = record {
  begins = c.some_begins_with.ensures.begins
      ∙ ap (list_any (λ text. begins_with c.args.prefix.now text.items)) c.as_slice.ensures.keys
      ∙ list_any-text (λ t. t.items) (begins_with c.args.prefix.now) c.self.inside.texts.keys
      ∙ ap (list_any (begins_with c.args.prefix.now)) c.self.view_is;
}
