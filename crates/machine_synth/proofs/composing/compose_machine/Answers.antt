use Rattle.std.proofs.Common.{◌≡◌, ℕ, ◌+◌, ◌*◌, ◌++◌, map, length, sym, ◌∙◌, ap, ap₂, subst, arith}
use Rattle.std.specs.List.{range_with_len}
use Rattle.std.proofs.lemmas.List.FromFn.{length-map-range_with_len}
use Rattle.std.proofs.lemmas.Result.{on_ok_weaker}
use Rattle.tsc_net.specs.Names.{text_at}
use Rattle.tsc_net.specs.NetlistOf.{netlist_of}
use Rattle.net_writing.specs.CheckerParts.{IsCheckerOver}
use Rattle.net_building.specs.Names.{numbered}
use Rattle.unate_synth.specs.declared.roots.SourceNames.{SourceNames}
use Rattle.unate_synth.specs.Composed.{IsNamedWord}
use Rattle.unate_synth.specs.Roots.{HasSourcesOnly}
use Rattle.unate_synth.proofs.NetworkTexts.{composed_same}
use Rattle.machine_synth.specs.MachineParts.{machine_parts}
use Rattle.machine_synth.proofs.MachineOwn.{behind_texts}
use Rattle.machine_synth.proofs.MachineTexts.{begun, fresh_there, names_counted, output_texts}
use Rattle.machine_synth.proofs.MachineWord.{IsNumberedWord, machine_word, latches_read, counted}
use Rattle.machine_synth.proofs.composing.compose_machine.Goals as goal
use Rattle.machine_synth.proofs.composing.compose_machine.Goals.{After-as_slice-2}

-- the sources of so many inputs, outputs and latches
abbrev sources : ℕ → ℕ → ℕ → SourceNames
sources inputs outputs latches = record { inputs = inputs; first = inputs + outputs; latches = latches }

-- the names of the word by their numbers
numbered_word : (c : After-as_slice-2) → IsNumberedWord c.args.inputs.now c.args.outputs.now c.args.latches.count c.args.count c.as_slice.result.now c.as_slice-2.result.now
numbered_word c =
    let n = c.args.latches.count in
    record {
      shown_are = c.as_slice.ensures.whole ∙ c.in_ok-shown.ensures.names ∙ ap₂ (λ (a b : ℕ). map numbered (range_with_len a b)) c.len-input_count.ensures.count c.len-output_count.ensures.count;
      joined =
          c.as_slice-2.ensures.whole ∙ c.in_ok-hidden.ensures.names
          ∙ ap₂ (λ (a b : ℕ). map numbered (range_with_len (a + b + n + n) c.args.count) ++ map numbered (range_with_len (a + b + n) n)) c.len-input_count.ensures.count c.len-output_count.ensures.count;
    }

pub compose-requires-clause-begun : goal.compose-requires-clause-begun
compose-requires-clause-begun c =
    let n = c.args.latches.count in
    subst (λ (some : SourceNames). HasSourcesOnly some c.begin.new.parts c.args.made.now.gates) (sym (ap₂ (λ a b. sources a b n) c.len-input_count.ensures.count c.len-output_count.ensures.count))
    (begun c.args.inputs.now c.args.outputs.now n c.args.latches.word (2 * n + c.args.count + 2) c.begin.new.parts c.in_ok-begin.ensures.parts (omega arith) c.in_ok-begin.ensures.distinct c.args.made.now.gates
    c.requires.inputs c.requires.latches)

pub compose-requires-clause-word : goal.compose-requires-clause-word
compose-requires-clause-word c =
    let n = c.args.latches.count in
    let count = c.args.count in
    let ins = c.len-input_count.ensures.count in
    let outs = c.len-output_count.ensures.count in
    subst (λ (some : SourceNames). IsNamedWord some c.begin.new.parts c.args.made.now.gates c.args.made.now.outputs (c.as_slice.result.now ++ c.as_slice-2.result.now) c.rails_from-rails.result) (sym (ap₂ (λ a b. sources a b n) ins outs))
    (machine_word c.args.inputs.now c.args.outputs.now n c.args.latches.word count c.begin.new.parts c.in_ok-begin.ensures.parts c.as_slice.result.now c.as_slice-2.result.now c.rails_from-rails.result
    (numbered_word (goal.at.compose-requires-clause-word c).After-as_slice-2) (c.rails_from-rails.ensures.first ∙ ap₂ (λ (a b : ℕ). a + b + n + n + count) ins outs)
    (c.rails_from-rails.ensures.second ∙ ap₂ (λ (a b : ℕ). a + b + n + n + count + 1) ins outs) c.args.made.now.gates c.args.made.now.outputs c.requires.lines c.requires.word)

pub compose-requires-clause-latches : goal.compose-requires-clause-latches
compose-requires-clause-latches c =
    latches_read c.args.inputs.now c.args.outputs.now c.args.latches.count c.args.latches.word c.args.count c.begin.new.parts c.in_ok-begin.ensures.parts c.as_slice.result.now c.as_slice-2.result.now
    (numbered_word (goal.at.compose-requires-clause-latches c).After-as_slice-2)

pub compose-requires-clause-shown : goal.compose-requires-clause-shown
compose-requires-clause-shown c =
    let shown = ap length (c.as_slice.ensures.whole ∙ c.in_ok-shown.ensures.names) ∙ length-map-range_with_len numbered c.len-input_count.result c.len-output_count.result in
    omega (arith, shown, c.len-output_count.ensures.count, c.requires.shown)

pub compose-requires-clause-gates : goal.compose-requires-clause-gates
compose-requires-clause-gates c =
    let all = counted _ _ c.args.latches.count c.args.latches.word c.args.count _ _ (numbered_word (goal.at.compose-requires-clause-gates c).After-as_slice-2) in
    subst (λ (m : ℕ). IsCheckerOver m c.args.gates.now) (c.requires.word ∙ sym all) c.requires.gates

pub compose-requires-clause-room : goal.compose-requires-clause-room
compose-requires-clause-room c =
    let n = c.args.latches.count in
    let long = names_counted c.args.inputs.now c.args.outputs.now n c.args.latches.word (2 * n + c.args.count + 2) c.begin.new.parts c.in_ok-begin.ensures.parts in
    omega (arith, long, c.requires.room, c.requires.word)

pub returns-clause-net : goal.returns-clause-net
returns-clause-net c =
    let I = c.args.inputs.now in
    let O = c.args.outputs.now in
    let n = c.args.latches.count in
    let word = c.args.latches.word in
    let count = c.args.count in
    let p = c.begin.new.parts in
    let is = c.in_ok-begin.ensures.parts in
    let first = ap₂ (λ (a b : ℕ). a + b) c.len-input_count.ensures.count c.len-output_count.ensures.count in
    let are = numbered_word (goal.at.returns-clause-net c).After-as_slice-2 in
    let one : c.rails_from-rails.result.first.number ≡ length I + length O + (2 * n + count) = omega (arith, c.rails_from-rails.ensures.first, first) in
    let two : c.rails_from-rails.result.second.number ≡ length I + length O + (2 * n + count + 1) = omega (arith, c.rails_from-rails.ensures.second, first) in
    on_ok_weaker c.compose.result (
    composed_same (netlist_of c.compose.new.parts.named) c.args.made.now.gates c.args.made.now.outputs c.args.gates.now p (machine_parts I O n word (2 * n + count + 2)) _ _ _ _ _ _ _ _ is
    (output_texts I O n word (2 * n + count + 2) p is c.as_slice.result.now are.shown_are)
    (behind_texts I O n word count p is c.as_slice.result.now c.as_slice-2.result.now are)
    (ap (text_at p.names) one ∙ fresh_there I O n word (2 * n + count + 2) p is (2 * n + count) (omega arith))
    (ap (text_at p.names) two ∙ fresh_there I O n word (2 * n + count + 2) p is (2 * n + count + 1) (omega arith)))
    c.compose.ensures.net
