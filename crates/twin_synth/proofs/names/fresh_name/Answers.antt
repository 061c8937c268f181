use Rattle.std.proofs.Common.{◌≡◌, ℕ, List, ◌∙◌, subst, append_assoc}
use Rattle.std.specs.Result.{IfOk}
use Rattle.std.specs.String.{string_bytes}
use Rattle.tsc_net.specs.Parts.{fresh_text}
use Rattle.twin_synth.proofs.names.fresh_name.Goals as goal

pub returns : goal.returns
returns c =
    let e : string_bytes c.in_ok-text.text ≡ fresh_text c.args.number c.args.count = simp append_assoc c.in_ok-text.ensures.ok in
    record { name = subst (λ (text : List ℕ). IfOk c.from_slice.result (λ name. name ≡ text)) (c.as_bytes.ensures.value ∙ e) c.from_slice.ensures.same }
