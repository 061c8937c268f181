-- The text's number in the table, and the net that it names.
use Rattle.std.proofs.Common.{◌≡◌, true, false, None, sym, ap, ◌∙◌}
use Rattle.std.specs.Option.{option_map}
use Rattle.tsc_net.specs.Names.{has_text, find_text, text_at}
use Rattle.tsc_net.specs.inner.NetNames.{NetNamesOf}
use Rattle.tsc_net.specs.PartsView.{texts_of}
use Rattle.tsc_net.specs.declared.ids.NetId.{NetId}
use Rattle.tsc_net.proofs.NameLemmas.{text_at_place, find-absent}
use Rattle.tsc_net.proofs.MarkLemmas.{no_net}
use Rattle.tsc_net.proofs.net_names.NetNames.find.Goals as goal

pub returns-in_err-number : goal.returns-in_err-number
returns-in_err-number c =
    let n = c.self.inside in
    let text = c.args.text.now in
    let absent : has_text n.names text ≡ false = sym c.in_err-number.ensures.has in
    let none : find_text (texts_of n.names n.driven.nets) text ≡ None =
    find-absent (texts_of n.names n.driven.nets) text (no_net n.names n.driven.nets text c.self.invariant.within absent) in
    record {
      found = ap (option_map (λ (net : NetId). net.number)) c.from_residual.ensures ∙ sym none
          ∙ ap (λ (v : NetNamesOf). find_text v.nets text) c.self.view_is;
    }

pub returns : goal.returns
returns c =
    let n = c.self.inside in
    let text = c.args.text.now in
    let there : has_text n.names text ≡ true = sym c.in_ok-number.ensures.has in
    let same : text_at n.names c.in_ok-number.number ≡ text = ap (text_at n.names) c.in_ok-number.ensures.place ∙ text_at_place n.names text there in
    let seen : text_at c.args.self.now.names c.in_ok-number.number ≡ text =
    sym (ap (λ (v : NetNamesOf). text_at v.names c.in_ok-number.number) c.self.view_is) ∙ same in
    record { found = c.net_at.ensures.found ∙ ap (find_text c.args.self.now.nets) seen }
