-- The texts of a network's word: outputs have the names of their nets, checks and rails the first fresh names.
use Rattle.std.proofs.Common.{◌≡◌, ℕ, ◌+◌, ◌<◌, List, [], ◌++◌, map, take, length, slice_index, slice_index_or, refl, sym, ◌∙◌, ap, ap₂, subst, arith}
use Rattle.std.specs.List.{range_with_len}
use Rattle.std.proofs.lemmas.List.{length-map, get_or-map, get_or_append_left, get_or-append-add, get_or-take, length-take-le, ext_get_or}
use Rattle.std.proofs.lemmas.List.FromFn.{length-map-range_with_len, get_or-map-range_with_len}
use Rattle.std.proofs.lemmas.List.Elements.{All-get_or}
use Rattle.fault_secure.specs.Circuit.{nets}
use Rattle.tsc_net.specs.Names.{text_at}
use Rattle.tsc_net.specs.NetlistOf.{NetlistOf, IsBuilt, names_of}
use Rattle.tsc_net.specs.Parts.{PartsOf}
use Rattle.tsc_net.specs.PartsView.{text_of, texts_of}
use Rattle.tsc_net.specs.declared.ids.Name.{Name}
use Rattle.gate_net.specs.Gates.{GateNetwork}
use Rattle.gate_net.specs.declared.line.Line.{Line}
use Rattle.code_checkers.specs.GateList.{GateList}
use Rattle.net_writing.specs.Begun.{AreOwnNames}
use Rattle.net_building.specs.Names.{numbered}
use Rattle.net_writing.specs.Names.{name_at}
use Rattle.net_building.proofs.FreshSteps.{fresh_sized}
use Rattle.unate_synth.specs.Composed.{IsComposedOf, fresh_parts}
use Rattle.unate_synth.specs.UnateNetlist.{fresh_name, first_fresh_names}
use Rattle.unate_synth.proofs.FreshParts.{fresh_parts_names}

module _ (S : NetlistOf) (p : PartsOf) (names outputs fresh : List Name) (count : ℕ) (checked : IsBuilt S) (is : p ≡ fresh_parts S (count + 2))
    (own : AreOwnNames (nets S.circuit) names) (outputs_are : outputs ≡ map (name_at names) S.circuit.outputs) (fresh_are : fresh ≡ map numbered (range_with_len (nets S.circuit) (count + 2))) where
  names_are : p.names ≡ S.names ++ first_fresh_names S (count + 2)
  names_are = ap (λ (r : PartsOf). r.names) is ∙ fresh_parts_names S checked (count + 2)

  -- an output's
  pub shown_texts : texts_of p.names outputs ≡ names_of S.names S.circuit.outputs
  shown_texts =
      let sized : length S.names ≡ nets S.circuit = checked.sized in
      let one : length (texts_of p.names outputs) ≡ length S.circuit.outputs = length-map outputs (text_of p.names) ∙ ap length outputs_are ∙ length-map S.circuit.outputs (name_at names) in
      let other : length (names_of S.names S.circuit.outputs) ≡ length S.circuit.outputs = length-map S.circuit.outputs (text_at S.names) in
      let long : length outputs ≡ length S.circuit.outputs = ap length outputs_are ∙ length-map S.circuit.outputs (name_at names) in
      ext_get_or [] (texts_of p.names outputs) (names_of S.names S.circuit.outputs) (one ∙ sym other)
      (λ k h.
      let low : k < length S.circuit.outputs = omega (arith, h, one) in
      let net : slice_index S.circuit.outputs k < nets S.circuit = All-get_or (λ net. net < nets S.circuit) S.circuit.outputs k 0 low checked.closed.outputs in
      get_or-map (text_of p.names) outputs k (numbered 0) [] (omega (arith, low, long))
      ∙ ap (λ (list : List Name). text_of p.names (name_at list k)) outputs_are
      ∙ ap (text_of p.names) (get_or-map (name_at names) S.circuit.outputs k 0 (numbered 0) low)
      ∙ ap₂ text_at names_are (own.own (slice_index S.circuit.outputs k) net)
      ∙ get_or_append_left S.names (first_fresh_names S (count + 2)) [] (slice_index S.circuit.outputs k) (omega (arith, net, sized))
      ∙ sym (get_or-map (text_at S.names) S.circuit.outputs k 0 [] low))

  -- that of the fresh name at a place
  pub fresh_text_at : (k : ℕ) → k < count + 2 → text_of p.names (slice_index_or fresh k (numbered 0)) ≡ fresh_name S k
  fresh_text_at k low =
      let sized : length S.names ≡ nets S.circuit = checked.sized in
      ap (λ (list : List Name). text_of p.names (slice_index_or list k (numbered 0))) fresh_are
      ∙ ap (text_of p.names) (get_or-map-range_with_len numbered (nets S.circuit) (count + 2) k (nets S.circuit + k) (numbered 0) low refl)
      ∙ ap₂ text_at names_are (let e : nets S.circuit + k ≡ length S.names + k = omega (arith, sized) in e)
      ∙ get_or-append-add S.names (first_fresh_names S (count + 2)) k []
      ∙ get_or-map-range_with_len (fresh_name S) 0 (count + 2) k k [] low (omega arith)

  -- a check's
  pub hidden_texts : texts_of p.names (take count fresh) ≡ first_fresh_names S count
  hidden_texts =
      let many : length fresh ≡ count + 2 = fresh_sized fresh (nets S.circuit) (count + 2) fresh_are in
      let taken : length (take count fresh) ≡ count = length-take-le {A = Name} count fresh (omega (arith, many)) in
      let one : length (texts_of p.names (take count fresh)) ≡ count = length-map (take count fresh) (text_of p.names) ∙ taken in
      let other : length (first_fresh_names S count) ≡ count = length-map-range_with_len (fresh_name S) 0 count in
      ext_get_or [] (texts_of p.names (take count fresh)) (first_fresh_names S count) (one ∙ sym other)
      (λ k h.
      let low : k < count = omega (arith, h, one) in
      get_or-map (text_of p.names) (take count fresh) k (numbered 0) [] (omega (arith, low, taken))
      ∙ ap (text_of p.names) (get_or-take count fresh k (numbered 0) low)
      ∙ fresh_text_at k (omega (arith, low))
      ∙ sym (get_or-map-range_with_len (fresh_name S) 0 count k k [] low (omega arith)))

-- the same netlist, over parts and texts that are the same
pub composed_same : (N : NetlistOf) (G : GateNetwork) (lines : List Line) (made : GateList) (p q : PartsOf) (shown shown_ hidden hidden_ : List (List ℕ)) (first first_ second second_ : List ℕ)
    → p ≡ q → shown ≡ shown_ → hidden ≡ hidden_ → first ≡ first_ → second ≡ second_
    → IsComposedOf p G lines made shown hidden first second N → IsComposedOf q G lines made shown_ hidden_ first_ second_ N
composed_same N G lines made p q shown shown_ hidden hidden_ first first_ second second_ parts a b c d composed =
    subst (λ (t : List ℕ). IsComposedOf q G lines made shown_ hidden_ first_ t N) d
    (subst (λ (t : List ℕ). IsComposedOf q G lines made shown_ hidden_ t second N) c
    (subst (λ (ts : List (List ℕ)). IsComposedOf q G lines made shown_ ts first second N) b
    (subst (λ (ts : List (List ℕ)). IsComposedOf q G lines made ts hidden first second N) a
    (subst (λ (parts : PartsOf). IsComposedOf parts G lines made shown hidden first second N) parts composed))))
