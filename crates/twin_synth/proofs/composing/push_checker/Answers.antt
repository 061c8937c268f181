use Rattle.std.proofs.Common.{◌≡◌, ℕ, ◌+◌, List, ◌∙◌, ap, length, subst, refl, sym, arith, [], ◌∷◌}
use Rattle.std.specs.Result.{OnOk}
use Rattle.tsc_net.specs.NetlistOf.{NetlistOf}
use Rattle.twin_synth.specs.Numbered.{more_outputs}
use Rattle.twin_synth.proofs.TwinCopies.{own_outputs}
use Rattle.twin_synth.proofs.TwinComposed.{logic_nets, word_counted, twin_is}
use Rattle.twin_synth.proofs.composing.push_checker.Goals as goal

pub push_gates-requires-clause-words : goal.push_gates-requires-clause-words
push_gates-requires-clause-words c place word low is =
    let counted = word_counted c.args.source.now c.args.kept.now.registers c.args.kept.now.covers c.args.watched c.args.all.now in
    let long = ap (λ (l : List ℕ). length l) (c.as_slice.ensures.whole ∙ c.in_ok-word.ensures.word) in
    let here = c.requires.words place word low is in
    omega (arith, counted, long, here)

pub push_gates-requires-clause-room : goal.push_gates-requires-clause-room
push_gates-requires-clause-room c =
    let counted = logic_nets c.args.source.now c.args.kept.now.registers c.args.kept.now.covers c.args.watched c.args.all.now c.args.numbered.now c.requires.begun in
    omega (arith, counted, c.requires.room, c.requires.few)

pub returns : goal.returns
returns c = record {
  pushed = subst (λ (N : NetlistOf). OnOk c.push_output-2.result (c.push_output-2.new.self ≡ N))
      (twin_is c.args.source.now c.args.kept.now.registers c.args.kept.now.covers c.args.watched c.args.all.now c.args.gates.now c.requires.gates
      c.args.numbered.now c.push_gates.new.numbered c.push_outputs.new.numbered c.push_output.new.self (more_outputs c.push_output.new.self (c.in_ok-rail1.rail2 ∷ []))
      c.as_slice.result.now _ c.in_ok-rail1.rail1 c.in_ok-rail1.rail2 c.requires.begun (c.as_slice.ensures.whole ∙ c.in_ok-word.ensures.word)
      c.in_ok-rail1.ensures.pushed c.in_ok-rail1.ensures.rails.0 c.in_ok-rail1.ensures.rails.1
      (own_outputs c.args.source.now.circuit c.args.kept.now.registers c.args.kept.now.covers c.requires.kept c.nets-nets.ensures.checked.closed c.args.own.now c.requires.own)
      c.in_ok-push_outputs.ensures.pushed c.in_ok-push_output.ensures.pushed refl)
      c.push_output-2.ensures.pushed;
}
