-- The names of a netlist's nets after a label: each net's own name, after the label where the net is no input.
use Rattle.std.proofs.Common.{◌≡◌, ℕ, ◌+◌, ◌-◌, ◌<◌, ◌≤◌, List, [], ◌++◌, map, drop, length, ap, sym, ◌∙◌, arith}
use Rattle.std.proofs.lemmas.List.{length-append, length-map, length-take-le, length-drop, get_or-map, get_or-take, get_or-drop, get_or-append-add}
use Rattle.std.proofs.Math.ListN.{get_or-append}
use Rattle.fault_secure.specs.Circuit.{nets}
use Rattle.tsc_net.specs.Names.{text_at}
use Rattle.tsc_net.specs.NetlistOf.{NetlistOf, IsBuilt}
use Rattle.module_join.specs.JointNet.{input_names}
use Rattle.joint_text.specs.JointNamed.{names_under}

module _ (label : List ℕ) (net : NetlistOf) (built : IsBuilt net) where
  few : net.circuit.inputs ≤ length net.names
  few = let sized = built.sized in omega (arith, sized)

  many : length (input_names net) ≡ net.circuit.inputs
  many = length-take-le net.circuit.inputs net.names few

  pub under_length : length (names_under label net) ≡ nets net.circuit
  under_length =
      let sized = built.sized in
      length-append (input_names net) (map (λ name. label ++ name) (drop net.circuit.inputs net.names))
      ∙ omega (arith, sized, many, length-map (drop net.circuit.inputs net.names) (λ name. label ++ name), length-drop net.circuit.inputs net.names)

  pub under_input : (n : ℕ) → n < net.circuit.inputs → text_at (names_under label net) n ≡ text_at net.names n
  under_input n low =
      get_or-append (input_names net) (map (λ name. label ++ name) (drop net.circuit.inputs net.names)) [] n (omega (arith, many))
      ∙ get_or-take net.circuit.inputs net.names n [] low

  own_at : (k : ℕ) → net.circuit.inputs + k < nets net.circuit → text_at (names_under label net) (net.circuit.inputs + k) ≡ label ++ text_at net.names (net.circuit.inputs + k)
  own_at k within =
      let sized = built.sized in
      ap (text_at (names_under label net)) (ap (λ n. n + k) (sym many))
      ∙ get_or-append-add (input_names net) (map (λ name. label ++ name) (drop net.circuit.inputs net.names)) k []
      ∙ get_or-map (λ name. label ++ name) (drop net.circuit.inputs net.names) k [] [] (omega (arith, sized, length-drop net.circuit.inputs net.names))
      ∙ ap (λ name. label ++ name) (get_or-drop net.circuit.inputs net.names k [])

  pub under_own : (n : ℕ) → net.circuit.inputs ≤ n → n < nets net.circuit → text_at (names_under label net) n ≡ label ++ text_at net.names n
  under_own n low within =
      let k = n - net.circuit.inputs in
      let at : n ≡ net.circuit.inputs + k = omega arith in
      ap (text_at (names_under label net)) at ∙ own_at k (omega arith) ∙ ap (λ m. label ++ text_at net.names m) (sym at)
