-- A text can hold a netlist of a machine whose inputs and outputs have names that a text can hold, where it has few enough nodes.
use Rattle.std.proofs.Common.{◌≡◌, ℕ, ◌^◌, ◌<◌, ◌≤◌, List, [], ◌∷◌, ◌++◌, length, take, All, refl, sym, ◌∙◌, subst, arith, length-append}
use Rattle.std.proofs.lemmas.List.{get_or_append_left, length-map}
use Rattle.std.proofs.lemmas.List.Elements.{All-append}
use Rattle.std.proofs.lemmas.List.FromFn.{length-range_with_len}
use Rattle.fault_secure.specs.Circuit.{Circuit, LatchOf}
use Rattle.fault_secure.specs.CodePlan.{CodePlan, next_nets}
use Rattle.fault_secure.specs.Logic.{StateTable}
use Rattle.fault_secure.specs.Logic.Logic.{States}
use Rattle.tsc_net.specs.Names.{text_at}
use Rattle.tsc_net.specs.NetlistOf.{NetlistOf, IsBuilt}
use Rattle.tsc_net.specs.Parts.{free_number}
use Rattle.blif_write.specs.Writable.{IsGoodName, IsWritable}
use Rattle.code_checkers.specs.SelfChecking.{IsSelfChecking}
use Rattle.tsc_bits.specs.Lists.{AreApart}
use Rattle.unate_synth.proofs.Sizes.{few-checks}
use Rattle.machine_synth.specs.MachineNetlist.{IsMachineNetlist, fresh_nets, latch_nets}
use Rattle.machine_synth.proofs.Plans.{most_bits}
use Rattle.answers.proofs.FreshWritable.{all_fresh_good, free_small}
use Rattle.answers.proofs.NamedWritable.{all_named, named_good, names_good, narrow_writable}
use Rattle.answers.proofs.RailsApart.{outputs_apart}
use Rattle.tsc_bits.proofs.Lists.{all_left, all_right}

-- what stands first in a list in which nothing stands twice
apart_front : (xs ys : List ℕ) → AreApart (xs ++ ys) → AreApart xs
apart_front xs ys apart a b less low same =
    apart a b less (omega (arith, low, length-append xs ys)) (get_or_append_left xs ys 0 a (omega (arith, less, low)) ∙ same ∙ sym (get_or_append_left xs ys 0 b low))

-- the nets with fresh names that stand before the rails
abbrev before_rails : Circuit → CodePlan → List ℕ
before_rails N P = (latch_nets N ++ next_nets N) ++ P.checks

-- the rails
abbrev both_rails : CodePlan → List ℕ
both_rails P = P.rail1 ∷ (P.rail2 ∷ [])

module _ (M : StateTable) (inputs outputs : List (List ℕ)) (N : NetlistOf) (P : CodePlan) (few_inputs : M.inputs ≤ 64) (few_outputs : M.outputs ≤ 64) (few_states : M.states ≤ 924)
    (counted_inputs : length inputs ≡ M.inputs) (counted_outputs : length outputs ≡ M.outputs) (good : All IsGoodName (inputs ++ outputs))
    (checked : IsBuilt N) (secure : IsSelfChecking (States M) N.circuit P) (exact : IsMachineNetlist M inputs outputs N P) (small : length N.circuit.nodes ≤ 1048576) where
  number_low : free_number (inputs ++ outputs) < 2 ^ 64
  number_low = free_small (inputs ++ outputs) (omega (arith, length-append inputs outputs, few_inputs, few_outputs, counted_inputs, counted_outputs))

  latches_few : length N.circuit.latches ≤ 12
  latches_few = omega (arith, secure.structure.plan_of.latches, most_bits M.states P.latches P.weight few_states exact.plan.least exact.plan.half)

  checks_few : length P.checks ≤ 64
  checks_few = few-checks P.code P.outputs (length P.checks) exact.plan.width secure.structure.well_made.most_outputs

  fresh_few : length (fresh_nets N.circuit P) ≤ 90
  fresh_few =
      omega (
        arith,
        latches_few,
        checks_few,
        length-append (before_rails N.circuit P) (both_rails P),
        length-append (latch_nets N.circuit ++ next_nets N.circuit) P.checks,
        length-append (latch_nets N.circuit) (next_nets N.circuit),
        length-range_with_len N.circuit.inputs (length N.circuit.latches),
        length-map N.circuit.latches (λ (l : LatchOf). l.reads),
      )

  -- the rails have fresh names, and the outputs before them those of the machine
  rails_good : All (λ net. IsGoodName (text_at N.names net)) (both_rails P)
  rails_good =
      all_right (λ net. IsGoodName (text_at N.names net)) (before_rails N.circuit P) (both_rails P)
      (all_named IsGoodName N.names (fresh_nets N.circuit P)
      (subst (All IsGoodName) (sym exact.names.fresh) (all_fresh_good (free_number (inputs ++ outputs)) (length (fresh_nets N.circuit P)) number_low (omega (arith, fresh_few)))))

  shown_good : All (λ net. IsGoodName (text_at N.names net)) (take P.outputs N.circuit.outputs)
  shown_good = all_named IsGoodName N.names (take P.outputs N.circuit.outputs) (subst (All IsGoodName) (sym exact.names.outputs) (all_right IsGoodName inputs outputs good))

  outputs_good : All (λ net. IsGoodName (text_at N.names net)) N.circuit.outputs
  outputs_good =
      subst (All (λ net. IsGoodName (text_at N.names net))) (sym exact.names.rails)
      (All-append (λ net. IsGoodName (text_at N.names net)) (take P.outputs N.circuit.outputs) (both_rails P) shown_good rails_good)

  -- the inputs have those of the machine
  inputs_good : All IsGoodName (take N.circuit.inputs N.names)
  inputs_good = subst (All IsGoodName) (sym exact.given.names) (all_left IsGoodName inputs outputs good)

  -- the outputs before the rails differ
  own_apart : AreApart (take P.outputs N.circuit.outputs)
  own_apart =
      apart_front (take P.outputs N.circuit.outputs) P.checks
      (apart_front (take P.outputs N.circuit.outputs ++ P.checks) (next_nets N.circuit) exact.own.apart)

  pub machine_writable : IsWritable N
  machine_writable = record {
    model = subst IsGoodName (sym exact.given.model) (record { word = refl; allowed = refl; short = omega arith });
    names = names_good N checked inputs_good (λ net past low. named_good N (free_number (inputs ++ outputs)) net number_low outputs_good (exact.names.inner net past low));
    inputs = omega (arith, exact.given.count, few_inputs);
    outputs = omega (arith, secure.structure.plan_of.outputs, secure.structure.well_made.most_outputs);
    latches = omega (arith, latches_few);
    nodes = small;
    different = outputs_apart (States M) N.circuit P secure own_apart;
    each_node = narrow_writable N.circuit.nodes exact.narrow;
  }
