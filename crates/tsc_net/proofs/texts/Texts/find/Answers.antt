-- The first text that is this one, or none.
use Rattle.std.proofs.Common.{◌≡◌, true, sym, ap, ◌∙◌, arith}
use Rattle.std.specs.Str.{bytes_eq}
use Rattle.tsc_net.specs.Names.{text_at}
use Rattle.tsc_net.proofs.NameLemmas.{find-first, find-nowhere}
use Rattle.tsc_net.proofs.texts.Texts.find.Goals as goal

pub returns-then-eq : goal.returns-then-eq
returns-then-eq c =
    let names = c.args.self.now in
    let text = c.args.text.now in
    let here : bytes_eq text (text_at names c.loop-place.place) ≡ true = ap (bytes_eq text) (sym c.text.ensures.text) ∙ sym c.eq.ensures ∙ c.if-eq.true in
    record { found = sym (find-first names text c.loop-place.place c.loop-place.invariant (omega arith) here) }

pub returns : goal.returns
returns c = record { found = sym (find-nowhere c.args.self.now c.args.text.now (λ i h. c.loop-place.invariant i (omega arith))) }
