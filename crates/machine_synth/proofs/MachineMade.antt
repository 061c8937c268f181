-- A plan over the netlist that is composed of a machine's lines makes it the machine's netlist, and self-checking.
use Rattle.std.proofs.Common.{◌≡◌, ℕ, ◌+◌, ◌*◌, ◌≤◌, List, ◌++◌, map, length, slice_index_or, refl, sym, ◌∙◌, ap, ap₂, arith}
use Rattle.std.specs.List.{range_with_len}
use Rattle.std.proofs.lemmas.List.{length-map, get_or-map}
use Rattle.std.proofs.lemmas.List.FromFn.{get_or-map-range_with_len}
use Rattle.tsc_bits.specs.Bits.{bits_of}
use Rattle.fault_secure.specs.Circuit.{LatchOf, no_latch}
use Rattle.fault_secure.specs.CodePlan.{CodePlan, IsWellMade}
use Rattle.fault_secure.specs.Logic.{StateTable, IsStateTable}
use Rattle.fault_secure.specs.Logic.Logic.{States}
use Rattle.fault_secure.specs.Run.{init_state}
use Rattle.tsc_net.specs.Named.{NamedLatch}
use Rattle.tsc_net.specs.Names.{place_of_text, IsNumbering}
use Rattle.tsc_net.specs.NetlistOf.{NetlistOf, IsBuilt}
use Rattle.tsc_net.specs.Parts.{fresh_text, free_number}
use Rattle.gate_net.specs.Gates.{GateNetwork, meanings}
use Rattle.gate_net.specs.declared.line.Line.{Line}
use Rattle.code_checkers.specs.GateList.{GateList, IsCheckerOf}
use Rattle.code_checkers.specs.SelfChecking.{IsSelfChecking}
use Rattle.net_writing.specs.Rails.{EndsInRails}
use Rattle.machine_lines.specs.MachineLines.{AreMachineLines}
use Rattle.unate_synth.specs.Composed.{IsComposed, IsComposedOf, HasPartsOf}
use Rattle.unate_synth.proofs.Planned.{plan_is_composed}
use Rattle.machine_synth.specs.MachineFunction.{words_of, IsMachinePlan, StartsAtReset}
use Rattle.machine_synth.specs.MachineNetlist.{IsMachineNetlist}
use Rattle.machine_synth.specs.MachineParts.{latch_at, machine_parts, fresh_at, hidden_texts}
use Rattle.machine_synth.proofs.SelfChecking.{exact, secure}
use Rattle.machine_synth.proofs.HeldFirst.{held_first}
use Rattle.machine_synth.proofs.MachineJoin.{word_at}
use Rattle.machine_synth.proofs.MachineNames.{given, machine_names, plan_of, watched, first_is, second_is}
use Rattle.machine_synth.proofs.MachineOwn.{own_nodes}
use Rattle.machine_synth.proofs.MachineTexts.{parts_latches, latches_counted}

-- the latches hold the bits of the word that they are made with
held_word : (inputs outputs : List (List ℕ)) (n word fresh : ℕ) (shown hidden : List (List ℕ)) (first second : List ℕ) (N : NetlistOf) → HasPartsOf (machine_parts inputs outputs n word fresh) shown hidden first second N
    → init_state N.circuit ≡ bits_of n word
held_word inputs outputs n word fresh shown hidden first second N c =
    held_first N.circuit n word (sym counted) (λ k low.
    let l : NamedLatch = latch_at (machine_parts inputs outputs n word fresh).names (length inputs + length outputs) n word k in
    ap (λ (list : List LatchOf). (slice_index_or list k no_latch).init) c.latches
    ∙ ap (λ (l : LatchOf). l.init) (get_or-map (λ (l : NamedLatch). record { reads = place_of_text N.names l.reads; init = l.init }) (machine_parts inputs outputs n word fresh).named.latches k l no_latch (omega (arith, low, latches_counted inputs outputs n word fresh (machine_parts inputs outputs n word fresh) refl)))
    ∙ ap (λ (list : List NamedLatch). (slice_index_or list k l).init) (parts_latches inputs outputs n word fresh (machine_parts inputs outputs n word fresh) refl)
    ∙ ap (λ (l : NamedLatch). l.init) (get_or-map-range_with_len (latch_at (machine_parts inputs outputs n word fresh).names (length inputs + length outputs) n word) 0 n k k l low (omega arith)))
    ∙ ap (λ (m : ℕ). bits_of m word) counted
  where
    counted : length N.circuit.latches ≡ n
    counted = ap length c.latches ∙ length-map (machine_parts inputs outputs n word fresh).named.latches _ ∙ latches_counted inputs outputs n word fresh (machine_parts inputs outputs n word fresh) refl

module _ (M : StateTable) (inputs outputs : List (List ℕ)) (n word count : ℕ) (N : NetlistOf) (P : CodePlan) (G : GateNetwork) (lines : List Line) (made : GateList) (checked : IsBuilt N)
    (distinct : IsNumbering (machine_parts inputs outputs n word (2 * n + count + 2)).names)
    (c : IsComposedOf (machine_parts inputs outputs n word (2 * n + count + 2)) G lines made outputs (hidden_texts inputs outputs n count) (fresh_at inputs outputs (2 * n + count)) (fresh_at inputs outputs (2 * n + count + 1)) N)
    (ins : length inputs ≡ M.inputs) (outs : length outputs ≡ M.outputs) (plan : IsMachinePlan M P) (well : IsWellMade P) (latched : P.latches ≡ n) (table : IsStateTable M)
    (held : word ≡ slice_index_or (words_of M P) M.reset 0)
    (checks : P.checks ≡ map (λ (k : ℕ). place_of_text N.names (fresh_text (free_number (inputs ++ outputs)) k)) (range_with_len (2 * n) count))
    (rails : EndsInRails N.circuit.outputs P.outputs P.rail1 P.rail2) (is : IsCheckerOf P made) (are : AreMachineLines P.code (length P.checks) P.latches (words_of M P) M G lines) where
  sized : P.outputs ≡ length outputs
  sized = plan.outputs ∙ sym outs

  over : IsComposed N.circuit P (meanings G lines)
  over =
      plan_is_composed N.circuit (meanings G lines) made (map (place_of_text N.names) (outputs ++ hidden_texts inputs outputs n count)) (place_of_text N.names (fresh_at inputs outputs (2 * n + count))) (place_of_text N.names (fresh_at inputs outputs (2 * n + count + 1))) P c.gates
      (watched inputs outputs n word count N P checked c.parts sized latched checks rails) (first_is inputs outputs n word count N P checked c.parts sized latched checks rails) (second_is inputs outputs n word count N P checked c.parts sized latched checks rails) is

  reset : StartsAtReset M N.circuit P
  reset =
      held_word inputs outputs n word (2 * n + count + 2) outputs (hidden_texts inputs outputs n count) (fresh_at inputs outputs (2 * n + count)) (fresh_at inputs outputs (2 * n + count + 1)) N c.parts
      ∙ ap₂ (λ (m w : ℕ). bits_of m w) (sym latched) held ∙ sym (word_at M P plan M.reset table.reset)

  machine_netlist : n ≤ 64 → count ≤ 64 → IsMachineNetlist M inputs outputs N P
  machine_netlist narrow few =
      exact M inputs outputs N P G lines plan reset are over (given inputs outputs n word count N P checked c.parts sized latched checks rails M ins)
      (machine_names inputs outputs n word count N P checked c.parts sized latched checks rails narrow few)
      (own_nodes inputs outputs n word count N P distinct (fresh_at inputs outputs (2 * n + count)) (fresh_at inputs outputs (2 * n + count + 1)) c.parts (watched inputs outputs n word count N P checked c.parts sized latched checks rails)) c.parts.narrow

  machine_secure : IsSelfChecking (States M) N.circuit P
  machine_secure = secure M N.circuit P G lines table checked.acyclic checked.closed well (plan_of inputs outputs n word count N P checked c.parts sized latched checks rails) plan reset are over

  pub planned : n ≤ 64 → count ≤ 64 → IsSelfChecking (States M) N.circuit P × IsMachineNetlist M inputs outputs N P
  planned narrow few = (machine_secure, machine_netlist narrow few)
