-- A text can hold a unate netlist of a network that a text can hold, where it has few enough nodes.
use Rattle.std.proofs.Common.{◌≡◌, ℕ, ◌+◌, ◌^◌, ◌<◌, ◌≤◌, List, [], ◌∷◌, length, take, slice_index, All, sym, ◌∙◌, ap, subst, arith}
use Rattle.std.proofs.lemmas.List.{get_or-map, length-map, take-map}
use Rattle.std.proofs.lemmas.List.Elements.{All-append, All-cons, All-get_or, All-map, All-nil, All-take, All-weaker}
use Rattle.tsc_bits.proofs.Lists.{front}
use Rattle.fault_secure.specs.Circuit.{nets}
use Rattle.fault_secure.specs.CodePlan.{CodePlan}
use Rattle.fault_secure.specs.Logic.Logic.{Network}
use Rattle.tsc_net.specs.Names.{text_at, IsNumbering}
use Rattle.tsc_net.specs.NetlistOf.{NetlistOf, IsBuilt, names_of}
use Rattle.tsc_net.specs.Parts.{free_number}
use Rattle.blif_write.specs.Writable.{IsGoodName, IsWritable}
use Rattle.code_checkers.specs.SelfChecking.{IsSelfChecking}
use Rattle.tsc_bits.specs.Lists.{AreApart}
use Rattle.unate_synth.specs.UnateNetlist.{IsUnateNetlist, fresh_name, rail_names}
use Rattle.unate_synth.proofs.Sizes.{few-checks}
use Rattle.answers.proofs.FreshWritable.{free_small, fresh_good}
use Rattle.answers.proofs.NamedWritable.{all_named, named_good, names_good, narrow_writable}
use Rattle.answers.proofs.RailsApart.{outputs_apart}

-- nets that have the names of nets of another netlist that differ
apart_by_names : (names others : List (List ℕ)) (list shown : List ℕ) → names_of names list ≡ names_of others shown → IsNumbering others → All (λ net. net < length others) shown → AreApart shown → AreApart list
apart_by_names names others list shown e numbering known apart a b less low same =
    let counted : length list ≡ length shown = sym (length-map list (text_at names)) ∙ ap length e ∙ length-map shown (text_at others) in
    let at : (k : ℕ) → k < length list → text_at others (slice_index shown k) ≡ text_at names (slice_index list k) =
    λ k h. sym (get_or-map (text_at others) shown k 0 [] (omega (arith, h, counted))) ∙ ap (λ (ts : List (List ℕ)). text_at ts k) (sym e) ∙ get_or-map (text_at names) list k 0 [] h in
    let lower : b < length shown = omega (arith, low, counted) in
    apart a b less lower
    (numbering.distinct (slice_index shown a) (slice_index shown b) (All-get_or (λ net. net < length others) shown a 0 (omega (arith, less, lower)) known)
    (All-get_or (λ net. net < length others) shown b 0 lower known) (at a (omega (arith, less, low)) ∙ ap (text_at names) same ∙ sym (at b low)))

module _ (S N : NetlistOf) (P : CodePlan) (source : IsBuilt S) (writable : IsWritable S) (once : AreApart S.circuit.outputs)
    (checked : IsBuilt N) (secure : IsSelfChecking (Network S.circuit) N.circuit P) (exact : IsUnateNetlist S N P) (small : length N.circuit.nodes ≤ 1048576) where
  number_low : free_number S.names < 2 ^ 64
  number_low = free_small S.names (omega (arith, source.sized, source.few))

  checks_few : length P.checks ≤ 64
  checks_few = few-checks P.code P.outputs (length P.checks) exact.plan.width secure.structure.well_made.most_outputs

  known : All (λ net. net < length S.names) S.circuit.outputs
  known = All-weaker (λ net. net < nets S.circuit) (λ net. net < length S.names) (λ net h. omega (arith, h, source.sized)) S.circuit.outputs source.closed.outputs

  -- the outputs have names of the source, and behind them the rails have fresh ones
  shown_good : All IsGoodName (names_of S.names S.circuit.outputs)
  shown_good =
      All-map IsGoodName (text_at S.names) S.circuit.outputs
      (All-weaker (λ net. net < length S.names) (λ net. IsGoodName (text_at S.names net)) (λ net h. All-get_or IsGoodName S.names net [] h writable.names) S.circuit.outputs known)

  rails_good : All IsGoodName (rail_names S (length P.checks))
  rails_good =
      All-cons IsGoodName (fresh_name S (length P.checks)) (fresh_name S (length P.checks + 1) ∷ []) (fresh_good (free_number S.names) (length P.checks) number_low (omega (arith, checks_few)))
      (All-cons IsGoodName (fresh_name S (length P.checks + 1)) [] (fresh_good (free_number S.names) (length P.checks + 1) number_low (omega (arith, checks_few))) (All-nil IsGoodName))

  outputs_good : All (λ net. IsGoodName (text_at N.names net)) N.circuit.outputs
  outputs_good =
      all_named IsGoodName N.names N.circuit.outputs
      (subst (All IsGoodName) (sym exact.names.outputs) (All-append IsGoodName (names_of S.names S.circuit.outputs) (rail_names S (length P.checks)) shown_good rails_good))

  -- the inputs have the source's names
  inputs_good : All IsGoodName (take N.circuit.inputs N.names)
  inputs_good = subst (All IsGoodName) (sym exact.inputs.names) (All-take IsGoodName S.circuit.inputs S.names writable.names)

  -- the outputs before the rails differ
  own_apart : AreApart (take P.outputs N.circuit.outputs)
  own_apart =
      let counted : length (names_of S.names S.circuit.outputs) ≡ P.outputs = length-map S.circuit.outputs (text_at S.names) ∙ sym exact.plan.outputs in
      apart_by_names N.names S.names (take P.outputs N.circuit.outputs) S.circuit.outputs
      (sym (take-map (text_at N.names) P.outputs N.circuit.outputs) ∙ ap (take P.outputs) exact.names.outputs
      ∙ front P.outputs (names_of S.names S.circuit.outputs) (rail_names S (length P.checks)) counted)
      source.numbering known once

  pub unate_writable : IsWritable N
  unate_writable = record {
    model = subst IsGoodName (sym exact.inputs.model) writable.model;
    names = names_good N checked inputs_good (λ net past low. named_good N (free_number S.names) net number_low outputs_good (exact.inner net past low));
    inputs = omega (arith, exact.inputs.count, writable.inputs);
    outputs = omega (arith, secure.structure.plan_of.outputs, secure.structure.well_made.most_outputs);
    latches = omega (arith, ap length exact.inputs.latchless);
    nodes = small;
    different = outputs_apart (Network S.circuit) N.circuit P secure own_apart;
    each_node = narrow_writable N.circuit.nodes exact.narrow;
  }
