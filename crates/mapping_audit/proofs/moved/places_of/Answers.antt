-- Names are numbered, so the table has one more with each net.
use Rattle.std.proofs.Common.{◌≡◌, ◌<◌, ℕ, List, length, take, cond, Some, sym, ◌∙◌, ap, subst, arith}
use Rattle.std.specs.Str.{bytes_eq}
use Rattle.std.proofs.lemmas.Map.Text.{hash_map_updates_str}
use Rattle.std.proofs.lemmas.List.{take_all}
use Rattle.tsc_net.specs.Names.{find_text}
use Rattle.mapping_audit.specs.NamesFound.{HasPlaces}
use Rattle.mapping_audit.proofs.NameTables.{find_more}
use Rattle.mapping_audit.proofs.moved.places_of.Goals as goal

pub loop-number-preserved : goal.loop-number-preserved
loop-number-preserved c = λ text.
    let within : c.loop-number.number < length c.args.net.now.names = omega (arith, c.nets-count.ensures.checked.sized, c.nets-count.ensures.count) in
    hash_map_updates_str c.name_at.result.now c.loop-number.places c.insert.new.self (Some c.loop-number.number) c.in_ok-insert.ensures.updates text
    ∙ ap (λ old. cond (bytes_eq c.name_at.result.now text) (Some c.loop-number.number) old) (c.loop-number.invariant text)
    ∙ ap (λ (name : List ℕ). cond (bytes_eq name text) (Some c.loop-number.number) (find_text (take c.loop-number.number c.args.net.now.names) text)) c.name_at.ensures.name
    ∙ sym (find_more c.args.net.now.names c.loop-number.number c.nets-count.ensures.checked.numbering within text)

pub returns : goal.returns
returns c = record {
  places = (let all : take c.loop-number.number c.args.net.now.names ≡ c.args.net.now.names = take_all c.loop-number.number c.args.net.now.names (omega (arith, c.nets-count.ensures.checked.sized, c.nets-count.ensures.count)) in
      subst (λ (names : List (List ℕ)). HasPlaces names c.loop-number.places) all c.loop-number.invariant);
}
