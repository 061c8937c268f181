use Rattle.std.proofs.Common.{◌≡◌, ◌∙◌, append_assoc, ap, sym, subst, true}
use Rattle.std.specs.String.{string_bytes}
use Rattle.tsc_net.specs.Names.{has_text, place_of_text}
use Rattle.tsc_net.specs.Parts.{fresh_text}
use Rattle.net_writing.proofs.fresh_names.fresh_net.Goals as goal

pub net_of-requires : goal.net_of-requires
net_of-requires c =
    let e : string_bytes c.in_ok-fresh.fresh ≡ fresh_text c.args.number c.args.count = simp append_assoc c.in_ok-fresh.ensures.ok in
    record { named = subst (λ text. has_text c.args.net.now.names text ≡ true) (sym (c.as_bytes.ensures.value ∙ e)) c.requires.named }

pub returns : goal.returns
returns c =
    let e : string_bytes c.in_ok-fresh.fresh ≡ fresh_text c.args.number c.args.count = simp append_assoc c.in_ok-fresh.ensures.ok in
    record { net = c.net_of.ensures.net ∙ ap (place_of_text c.args.net.now.names) (c.as_bytes.ensures.value ∙ e) }
