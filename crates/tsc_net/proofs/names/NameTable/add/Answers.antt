-- A new text goes last; the table is then that of the texts.
use Rattle.std.proofs.Common.{◌≡◌, sym, ap, ◌∙◌, subst, map}
use Rattle.std.specs.Str.{bytes_eq}
use Rattle.tsc_net.specs.Names.{with_text, place_of_text, text_at, IsNumbering}
use Rattle.tsc_net.proofs.NameLemmas.{texts_added, position_or_len-text, numbering-with_text, text_at-place}
use Rattle.tsc_net.proofs.names.NameTable.add.Goals as goal

-- the texts after the insertion, and the place of the text
grown : (c : goal.In_ok-number) → map (λ t. t.items) c.insert_full.new.self.keys ≡ with_text c.args.self.now c.args.text.now
grown c =
    ap (map (λ t. t.items)) c.in_ok-number.ensures.keys ∙ texts_added (λ t. t.items) c.self.inside.texts.keys c.in_ok-key.key
    ∙ ap (λ names. with_text names c.in_ok-key.key.items) c.self.view_is
    ∙ ap (with_text c.args.self.now) c.in_ok-key.ensures.ok

placed : (c : goal.In_ok-number) → c.in_ok-number.number ≡ place_of_text c.args.self.now c.args.text.now
placed c =
    c.in_ok-number.ensures.index
    ∙ position_or_len-text (λ t. t.items) (bytes_eq c.in_ok-key.key.items) c.self.inside.texts.keys
    ∙ ap (λ names. place_of_text names c.in_ok-key.key.items) c.self.view_is
    ∙ ap (place_of_text c.args.self.now) c.in_ok-key.ensures.ok

pub invariant_of-self-2 : goal.invariant_of-self-2
invariant_of-self-2 c =
    subst IsNumbering (sym (grown c)) (numbering-with_text c.args.self.now c.args.text.now (subst IsNumbering c.self.view_is c.self.invariant))

pub returns-clause-ok : goal.returns-clause-ok
returns-clause-ok c = grown c

pub returns-clause-place : goal.returns-clause-place
returns-clause-place c = placed c

pub returns-clause-stored : goal.returns-clause-stored
returns-clause-stored c =
    ap (λ names. text_at names c.in_ok-number.number) (grown c)
    ∙ ap (text_at (with_text c.args.self.now c.args.text.now)) (placed c)
    ∙ text_at-place c.args.self.now c.args.text.now
