-- The network of the values: nothing refuses it, and what it answers.
use Rattle.std.proofs.Common.{◌≡◌, ℕ, ◌+◌, ◌<◌, ◌≤◌, Bool, true, false, inl, List, [], ◌++◌, map, length, get_or, slice_index_or, All, Contains, refl, sym, ap, ap₂, ◌∙◌, subst, arith, length-append}
use Rattle.std.proofs.lemmas.List.{append-nil, get_or-append-add, get_or-map, length-map}
use Rattle.std.proofs.lemmas.List.Elements.{All-nil, All-from_get_or, Contains-get_or}
use Rattle.std.proofs.lemmas.List.FromFn.{fill_by_all, get_or-map-range_with_len, length-map-range_with_len}
use Rattle.fault_secure.specs.Circuit.{bit, node_net}
use Rattle.fault_secure.specs.Settle.{Acyclic, Settles}
use Rattle.fault_secure.specs.StuckAt.{NoFault}
use Rattle.tsc_net.specs.Named.{Named, NamedLatch, NamedNode, no_named, node_outs}
use Rattle.tsc_net.specs.Names.{has_text, place_of_text, text_at, IsNumbering}
use Rattle.tsc_net.specs.NetlistOf.{circuit_of, drivers}
use Rattle.tsc_net.proofs.NameLemmas.{has_text_at}
use Rattle.net_building.specs.Sound.{pins_at, IsSound}
use Rattle.net_building.proofs.NamedNets.{place_of_node}
use Rattle.pla_read.specs.RowText.{TableRow}
use Rattle.pla_read.specs.TableText.{is_one, AreWide, TableOf}
use Rattle.pla_read.specs.Networks.{value_named, value_node, AnswersAs}
use Rattle.pla_read.specs.declared.rows.Mark.TheVariants.{One}
use Rattle.pla_read.proofs.Answered.{answers_as, input_bit, input_bits_many, node_bit, some_marked}
use Rattle.pla_read.proofs.Segments.{back_distinct}

module _ (inputs outputs : List (List ℕ)) (table : TableOf) (inputs_many : length inputs ≡ table.inputs) (outputs_many : length outputs ≡ table.outputs)
    (distinct : IsNumbering (inputs ++ outputs)) where
  abbrev N : Named
  N = value_named inputs outputs table

  nodes_many : length N.nodes ≡ table.outputs
  nodes_many = length-map-range_with_len (value_node inputs outputs table) 0 table.outputs

  pub node_is : (k : ℕ) → k < table.outputs → slice_index_or N.nodes k no_named ≡ value_node inputs outputs table k
  node_is k h = get_or-map-range_with_len (value_node inputs outputs table) 0 table.outputs k k no_named h (omega arith)

  outs : node_outs N ≡ outputs
  outs =
      let sized : length (node_outs N) ≡ table.outputs = length-map N.nodes (λ (n : NamedNode). n.out) ∙ nodes_many in
      fill_by_all (text_at outputs) (node_outs N) table.outputs [] sized
      (λ k h. get_or-map (λ (n : NamedNode). n.out) N.nodes k no_named [] (omega (arith, h, nodes_many)) ∙ ap (λ (n : NamedNode). n.out) (node_is k h))
      ∙ sym (fill_by_all (text_at outputs) outputs table.outputs [] outputs_many (λ k h. refl))

  -- the drivers are the inputs and then the outputs
  pub driven : drivers N ≡ inputs ++ outputs
  driven = ap₂ (λ a b. a ++ b) (append-nil inputs) outs

  pub driven_once : IsNumbering (drivers N)
  driven_once = subst IsNumbering (sym driven) distinct

  outputs_driven : All (λ t. has_text (drivers N) t ≡ true) outputs
  outputs_driven =
      All-from_get_or (λ t. has_text (drivers N) t ≡ true) outputs []
      (λ k h. has_text_at (drivers N) (text_at outputs k) (length inputs + k)
      (let e : length (drivers N) ≡ length inputs + length outputs = ap length driven ∙ length-append inputs outputs in omega (arith, e, h))
      (ap (λ names. text_at names (length inputs + k)) driven ∙ get_or-append-add inputs outputs k []))

  reads : (k : ℕ) → k < length N.nodes → pins_at N k ≡ inputs
  reads k h =
      get_or-map (λ (n : NamedNode). n.reads) N.nodes k no_named [] h
      ∙ ap (λ (n : NamedNode). n.reads) (node_is k (omega (arith, h, nodes_many)))

  -- the network is sound, where there is an output
  pub value_sound : 1 ≤ table.outputs → IsSound N
  value_sound some = record {
    driven_once = driven_once;
    shown_once = back_distinct inputs outputs distinct;
    some_output = omega (arith, some, outputs_many);
    outputs = outputs_driven;
    latches = All-nil (λ (l : NamedLatch). has_text (drivers N) l.reads ≡ true);
    rank = λ k. 0;
    pins = λ k pin h hp. inl (subst (λ list. Contains list (text_at (pins_at N k) pin)) (reads k h ∙ sym (append-nil inputs)) (Contains-get_or (pins_at N k) pin [] hp));
  }

  -- ---- what it answers
  module _ (wide : AreWide table) (x v : List Bool) (settles : Settles (circuit_of N) NoFault (bit x) (λ _. false) v) where
    pub value_bit : (k : ℕ) → k < table.outputs → bit v (node_net (circuit_of N) k) ≡ is_one table x k
    value_bit k h =
        node_bit N driven_once x v settles k (value_node inputs outputs table k) no_named (omega (arith, h, nodes_many)) (sym (node_is k h))
        ∙ some_marked One k (map (bit v) (map (place_of_text (drivers N)) inputs)) x (input_bit N driven_once x v settles) table.rows
        (subst (λ n. All (λ (row : TableRow). length row.input ≡ n) table.rows) (sym (input_bits_many N driven_once x v settles ∙ inputs_many)) wide)

  pub output_net : (k : ℕ) → k < table.outputs → get_or (circuit_of N).outputs k 0 ≡ node_net (circuit_of N) k
  output_net k h =
      get_or-map (place_of_text (drivers N)) outputs k [] 0 (omega (arith, h, outputs_many))
      ∙ ap (place_of_text (drivers N)) (ap (λ names. text_at names k) (sym outs))
      ∙ place_of_node N driven_once k (omega (arith, h, nodes_many))

  -- where each row has one literal per input, and the circuit is acyclic, the network answers which outputs are 1
  pub value_answers : AreWide table → Acyclic (circuit_of N) → AnswersAs (is_one table) (circuit_of N)
  value_answers wide acyclic =
      answers_as (circuit_of N) (is_one table) acyclic
      (λ x v settles k h.
      let below : k < table.outputs = (let e = length-map outputs (place_of_text (drivers N)) in omega (arith, h, e, outputs_many)) in
      ap (bit v) (output_net k below) ∙ value_bit wide x v settles k below)
