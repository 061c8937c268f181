-- One name more.
use Rattle.std.proofs.Common.{◌≡◌, ◌<◌, ◌+◌, ◌++◌, ◌∷◌, [], get_or, drop, map, length, refl, sym, subst, List, arith, rules}
use Rattle.tsc_net.specs.Names.{place_of_text}
use Rattle.tsc_net.specs.PartsView.{text_of, texts_of}
use Rattle.tsc_net.specs.PlanView.{net_numbers}
use Rattle.tsc_net.specs.NetFault.{first_missing}
use Rattle.tsc_net.specs.declared.ids.Name.{Name}
use Rattle.tsc_net.specs.declared.ids.NetId.{NetId}
use Rattle.tsc_net.proofs.BuildLemmas.{reading-next, missing-next}
use Rattle.tsc_net.proofs.build.pin_nets.Goals as goal

pub loop-name-preserved : goal.loop-name-preserved
loop-name-preserved c =
    let names = c.args.names.now.names in
    let driven = c.args.names.now.nets in
    let list = c.args.list.now in
    let i = c.loop-name.name-index in
    let none : Name = record { number = 0 } in
    let within : i < length list = omega arith in
    let pushed : c.push.new.self.items ≡ c.loop-name.nets.items ++ c.in_ok-net.net ∷ [] = search rules in
    let whole = map (place_of_text driven) (texts_of names list) in
    record {
      reading = subst (λ (nets : List NetId). net_numbers nets ++ map (place_of_text driven) (texts_of names (drop (i + 1) list)) ≡ whole) (sym pushed)
          (reading-next (λ (net : NetId). net.number) (place_of_text driven) (text_of names) c.loop-name.nets.items c.in_ok-net.net list i (get_or list i none) none whole
          within refl c.in_ok-net.ensures.net c.loop-name.invariant.reading);
      missing = missing-next driven (text_of names) list i (get_or list i none) none (first_missing driven (texts_of names list))
          within refl c.in_ok-net.ensures.driven c.loop-name.invariant.missing;
    }
