-- The set finds the first key with this text.
use Rattle.std.proofs.Common.{◌≡◌, ap, ◌∙◌}
use Rattle.std.specs.Str.{bytes_eq}
use Rattle.std.specs.Option.{is_some}
use Rattle.tsc_net.specs.Names.{find_text}
use Rattle.tsc_net.proofs.NameLemmas.{position-text, place_found, found-has}
use Rattle.tsc_net.proofs.names.NameTable.find.Goals as goal

found_text : (c : goal.After-get_index_of) → c.get_index_of.result ≡ find_text c.args.self.now c.args.text.now
found_text c =
    c.get_index_of.ensures.index
    ∙ position-text (λ t. t.items) (bytes_eq c.args.text.now) c.self.inside.texts.keys
    ∙ ap (λ names. find_text names c.args.text.now) c.self.view_is

pub returns : goal.returns
returns c = record {
  found = found_text c;
  place = place_found c.args.self.now c.args.text.now c.get_index_of.result (found_text c);
  has = ap is_some (found_text c) ∙ found-has c.args.self.now c.args.text.now;
}
