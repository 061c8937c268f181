use Rattle.std.proofs.Common.{◌≡◌, ℕ, ◌+◌, ◌++◌, map, take, length, sym, ◌∙◌, ap, subst, arith, length-append}
use Rattle.std.proofs.lemmas.List.{length-map, length-take-le}
use Rattle.std.proofs.lemmas.Result.{on_ok_weaker}
use Rattle.fault_secure.specs.Circuit.{nets}
use Rattle.tsc_net.specs.NetlistOf.{netlist_of}
use Rattle.tsc_net.specs.declared.ids.Name.{Name}
use Rattle.net_writing.specs.Begun.{AreOwnNames}
use Rattle.std.specs.List.{range_with_len}
use Rattle.net_building.specs.Names.{numbered}
use Rattle.net_writing.specs.CheckerParts.{IsCheckerOver}
use Rattle.net_building.proofs.FreshSteps.{fresh_sized}
use Rattle.std.specs.Fn.{iterate}
use Rattle.tsc_net.specs.Parts.{with_fresh}
use Rattle.unate_synth.specs.Composed.{fresh_parts}
use Rattle.unate_synth.proofs.NetworkTexts.{shown_texts, fresh_text_at, hidden_texts, composed_same}
use Rattle.unate_synth.proofs.NetworkWord.{network_word}
use Rattle.unate_synth.proofs.RootLemmas.{begun_count}
use Rattle.unate_synth.proofs.network.compose_network.Goals as goal

pub bounds-fresh-count : goal.bounds-fresh-count
bounds-fresh-count c =
    let count = ap length c.as_slice-fresh.ensures.whole ∙ fresh_sized c.in_ok-fresh.fresh _ _ c.in_ok-fresh.ensures.numbers in omega (arith, count)

pub bounds-fresh-count-2 : goal.bounds-fresh-count-2
bounds-fresh-count-2 c =
    let count = ap length c.as_slice-fresh.ensures.whole ∙ fresh_sized c.in_ok-fresh.fresh _ _ c.in_ok-fresh.ensures.numbers in omega (arith, count)

pub slice_bounds-checks-end : goal.slice_bounds-checks-end
slice_bounds-checks-end c =
    let count = ap length c.as_slice-fresh.ensures.whole ∙ fresh_sized c.in_ok-fresh.fresh _ _ c.in_ok-fresh.ensures.numbers in
    sym (length-take-le {A = Name} c.args.count c.as_slice-fresh.result.now (omega (arith, count)))

pub compose-requires-clause-word : goal.compose-requires-clause-word
compose-requires-clause-word c =
    let S = c.args.source.now in
    let own = subst (AreOwnNames (nets S.circuit)) (sym c.as_slice.ensures.whole) c.in_ok-names.ensures.names in
    let many = begun_count S c.begin.new.parts c.requires.checked c.in_ok-names.ensures.begun in
    network_word S c.add_fresh_names.new.parts c.args.made.now.gates c.args.made.now.outputs c.as_slice.result.now c.as_slice-2.result.now c.as_slice-fresh.result.now c.args.count c.requires.checked c.requires.once
    own (c.as_slice-2.ensures.whole ∙ c.in_ok-outputs.ensures.names) (c.as_slice-fresh.ensures.whole ∙ c.in_ok-fresh.ensures.numbers ∙ ap (λ (n : ℕ). map numbered (range_with_len n (c.args.count + 2))) many)
    (omega (arith, c.in_ok-fresh.ensures.counted, many))
    c.requires.inputs c.requires.lines c.requires.means c.requires.word c.inputs.result c.inputs.ensures.count

pub compose-requires-clause-gates : goal.compose-requires-clause-gates
compose-requires-clause-gates c =
    let fresh = ap length c.as_slice-fresh.ensures.whole ∙ fresh_sized c.in_ok-fresh.fresh _ _ c.in_ok-fresh.ensures.numbers in
    let checks = length-take-le {A = Name} c.args.count c.as_slice-fresh.result.now (omega (arith, fresh)) in
    let outputs = ap length c.as_slice-2.ensures.whole ∙ ap length c.in_ok-outputs.ensures.names ∙ length-map c.args.source.now.circuit.outputs _ in
    let total : length (c.as_slice-2.result.now ++ take c.args.count c.as_slice-fresh.result.now) ≡ length c.args.made.now.outputs =
    omega (arith, checks, outputs, length-append c.as_slice-2.result.now (take c.args.count c.as_slice-fresh.result.now), c.requires.word) in
    subst (λ (n : ℕ). IsCheckerOver n c.args.gates.now) (sym total) c.requires.gates

pub returns-clause-net : goal.returns-clause-net
returns-clause-net c =
    let S = c.args.source.now in
    let own = subst (AreOwnNames (nets S.circuit)) (sym c.as_slice.ensures.whole) c.in_ok-names.ensures.names in
    let many = begun_count S c.begin.new.parts c.requires.checked c.in_ok-names.ensures.begun in
    let count = c.args.count in
    let p = c.add_fresh_names.new.parts in
    let outputs = c.as_slice-2.result.now in
    let fresh = c.as_slice-fresh.result.now in
    let is : p ≡ fresh_parts S (count + 2) = c.in_ok-fresh.ensures.added ∙ ap (iterate with_fresh (count + 2)) c.in_ok-names.ensures.begun in
    let outputs_are = c.as_slice-2.ensures.whole ∙ c.in_ok-outputs.ensures.names in
    let fresh_are = c.as_slice-fresh.ensures.whole ∙ c.in_ok-fresh.ensures.numbers ∙ ap (λ (n : ℕ). map numbered (range_with_len n (count + 2))) many in
    on_ok_weaker c.compose.result (
    composed_same (netlist_of c.compose.new.parts.named) c.args.made.now.gates c.args.made.now.outputs c.args.gates.now p (fresh_parts S (count + 2)) _ _ _ _ _ _ _ _ is
    (shown_texts S p c.as_slice.result.now outputs fresh count c.requires.checked is own outputs_are fresh_are)
    (hidden_texts S p c.as_slice.result.now outputs fresh count c.requires.checked is own outputs_are fresh_are)
    (fresh_text_at S p c.as_slice.result.now outputs fresh count c.requires.checked is own outputs_are fresh_are count (omega arith))
    (fresh_text_at S p c.as_slice.result.now outputs fresh count c.requires.checked is own outputs_are fresh_are (count + 1) (omega arith)))
    c.compose.ensures.net
