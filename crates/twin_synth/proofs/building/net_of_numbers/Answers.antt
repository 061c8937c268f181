use Rattle.std.proofs.Common.{◌≡◌, ◌∙◌, ap, subst, sym}
use Rattle.std.specs.Result.{IfOk}
use Rattle.net_building.specs.Sound.{IsSound}
use Rattle.tsc_net.specs.NetlistOf.{NetlistOf, netlist_of}
use Rattle.blif_write.proofs.NetBack.{netlist-back}
use Rattle.twin_synth.proofs.SoundNumbers.{numbers_sound}
use Rattle.twin_synth.proofs.building.net_of_numbers.Goals as goal

pub built-requires : goal.built-requires
built-requires c = record { sound = subst IsSound (sym c.in_ok-parts.ensures.named) (numbers_sound c.args.numbered.now c.requires.built c.requires.once) }

pub returns : goal.returns
returns c = record {
  exact = subst (λ (made : NetlistOf). IfOk c.built.result (λ net. net ≡ made))
      (ap netlist_of c.in_ok-parts.ensures.named ∙ netlist-back c.args.numbered.now c.requires.built) c.built.ensures.exact;
}
