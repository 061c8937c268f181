-- What is pushed, stretch by stretch, is the twin.
use Rattle.std.specs.List.{range_with_len}
use Rattle.std.proofs.Common.{◌≡◌, ℕ, ◌+◌, ◌<◌, ◌≤◌, List, [], ◌∷◌, ◌++◌, map, length, slice_index, All, refl, sym, ap, ap₂, ◌∙◌, subst, arith, append_assoc, length-append}
use Rattle.std.proofs.lemmas.List.{length-map}
use Rattle.std.proofs.lemmas.List.FromFn.{length-range_with_len}
use Rattle.fault_secure.specs.Circuit.{Circuit, LatchOf, NodeOf, nets}
use Rattle.fault_secure.specs.Closed.{IsClosed}
use Rattle.fault_secure.specs.CodePlan.{CodePlan, concat_places}
use Rattle.tsc_net.specs.NetlistOf.{NetlistOf}
use Rattle.parity_code.specs.GroupChecks.{group_checks, group_check_nets}
use Rattle.parity_code.proofs.GroupStands.{checks_paired, checks_sized}
use Rattle.code_checkers.specs.declared.gate.CheckGate.{CheckGate}
use Rattle.code_checkers.specs.GateList.{GateList, IsCheckerOf}
use Rattle.code_checkers.specs.CheckerNodes.{checker_gates, gate_nets, gate_nodes, checker_nodes, rail1_net, rail2_net}
use Rattle.code_checkers.proofs.CanonicalGates.{checker_gates_are, rail1_place, rail2_place}
use Rattle.register_synth.specs.Kept.{AreKept, kept_net, kept_part, renamed_latch}
use Rattle.register_synth.specs.TwinNet.{own_net, copied_net, twin_latches, twin_covers, widened, twin_checks, twin_check_nets}
use Rattle.register_synth.specs.TwinCircuit.{showing}
use Rattle.register_synth.proofs.TwinMade.{covers_counted}
use Rattle.twin_synth.specs.Numbered.{no_net, more_latches, more_nodes, more_outputs}
use Rattle.twin_synth.specs.Checks.{first_node, checks_from, checks_over}
use Rattle.twin_synth.specs.Table.{IsOwnTable, IsCopiedTable}
use Rattle.twin_synth.specs.inner.Composed.{shown_over, logic_over, plan_shown, word_over, next_over, logic_net, circuit_over, nameless, IsShownGrouping}
use Rattle.twin_synth.proofs.TwinCopies.{checks_are, counted_latches, counted_nodes, own_outputs, own_shown, copied_shown}

-- so many nets are shown
pub shown_counted : (C : Circuit) (numbers : List ℕ) (first watched : ℕ) → length (shown_over C numbers first watched) ≡ length C.outputs + watched
shown_counted C numbers first watched =
    omega (
      arith,
      length-append (map (slice_index numbers) C.outputs) (range_with_len first watched),
      length-map C.outputs (slice_index numbers),
      length-range_with_len first watched,
    )

-- groups of what is shown are groups of the list of it
pub grouped_within : (C : Circuit) (numbers : List ℕ) (first watched : ℕ) (all groups : List (List ℕ)) (shown : List ℕ) → shown ≡ shown_over C numbers first watched → groups ≡ all
    → IsShownGrouping (length C.outputs + watched) all → All (All (λ place. place < length shown)) groups
grouped_within C numbers first watched all groups shown is same grouped =
    subst (λ n. All (All (λ place. place < n)) groups) (sym (ap length is ∙ shown_counted C numbers first watched)) (subst (All (All (λ place. place < length C.outputs + watched))) (sym same) grouped.within)

-- a table of the same registers and covers
pub same_table : (C : Circuit) (registers others covers more numbers : List ℕ) → registers ≡ others → covers ≡ more → IsCopiedTable C registers covers numbers → IsCopiedTable C others more numbers
same_table C registers others covers more numbers a b table = subst (λ (l : List ℕ). IsCopiedTable C others l numbers) b (subst (λ (l : List ℕ). IsCopiedTable C l covers numbers) a table)

pub same_own_table : (C : Circuit) (registers others covers more numbers : List ℕ) → registers ≡ others → covers ≡ more → IsOwnTable C registers covers numbers → IsOwnTable C others more numbers
same_own_table C registers others covers more numbers a b table = subst (λ (l : List ℕ). IsOwnTable C others l numbers) b (subst (λ (l : List ℕ). IsOwnTable C l covers numbers) a table)

-- the nets of the checks
pub check_nets_are : (C : Circuit) (registers covers : List ℕ) (watched : ℕ) (groups all : List (List ℕ)) (inputs r r' k k' : ℕ) → groups ≡ all → inputs ≡ C.inputs
    → r ≡ length registers → r' ≡ length registers → k ≡ length covers → k' ≡ length covers
    → group_check_nets (inputs + (r + r')) groups (k + k') ≡ twin_check_nets (showing watched (kept_part C registers covers)) all
check_nets_are C registers covers watched groups all inputs r r' k k' same i a b d e =
    let T : Circuit = kept_part C registers covers in
    let first : inputs + (r + r') ≡ (widened T).inputs = omega (arith, i, a, b, counted_latches C registers covers) in
    let from : k + k' ≡ length T.nodes + length T.nodes = omega (arith, d, e, counted_nodes C registers covers) in
    ap (λ (gs : List (List ℕ)). group_check_nets (inputs + (r + r')) gs (k + k')) same ∙ ap₂ (λ (n m : ℕ). group_check_nets n all m) first from

-- a twin has each register twice
pub latches_twice : (T : Circuit) → length (twin_latches T) ≡ length T.latches + length T.latches
latches_twice T =
    omega (
      arith,
      length-append (map (renamed_latch (own_net T)) T.latches) (map (renamed_latch (copied_net T)) T.latches),
      length-map T.latches (renamed_latch (own_net T)),
      length-map T.latches (renamed_latch (copied_net T)),
    )

module _ (S : NetlistOf) (registers covers : List ℕ) (watched : ℕ) (all : List (List ℕ)) where
  abbrev C : Circuit
  C = S.circuit

  abbrev T : Circuit
  T = kept_part S.circuit registers covers

  abbrev copies : NetlistOf
  copies = more_nodes (more_latches (no_net S.circuit.inputs S.model) (twin_latches T)) (twin_covers T)

  outputs_counted : length (showing watched T).outputs ≡ length S.circuit.outputs + watched
  outputs_counted =
      omega (
        arith,
        length-append T.outputs (range_with_len T.inputs watched),
        length-map S.circuit.outputs (kept_net S.circuit registers covers),
        length-range_with_len T.inputs watched,
      )

  -- how many nets both copies have
  pub copies_counted : (B N : NetlistOf) → B ≡ no_net S.circuit.inputs S.model → N ≡ more_nodes (more_latches B (twin_latches T)) (twin_covers T)
      → nets N.circuit ≡ S.circuit.inputs + (length registers + length registers) + (length covers + length covers)
  copies_counted B N empty is =
      let all_nets : nets N.circuit ≡ S.circuit.inputs + length (twin_latches T) + length (twin_covers T)
      = ap (λ (M : NetlistOf). nets M.circuit) (is ∙ ap (λ (M : NetlistOf). more_nodes (more_latches M (twin_latches T)) (twin_covers T)) empty) in
      omega (
        arith,
        all_nets,
        latches_twice T,
        covers_counted T,
        counted_latches S.circuit registers covers,
        counted_nodes S.circuit registers covers,
      )

  -- where the nets of the nodes begin
  first_is : first_node copies ≡ (widened (showing watched T)).inputs
  first_is = omega (arith, latches_twice T)

  module _ (grouped : IsShownGrouping (length S.circuit.outputs + watched) all) where
    -- the checks over the shown copies are those of the twin
    pub logic_is : (B M N : NetlistOf) (shown : List ℕ) → B ≡ no_net S.circuit.inputs S.model → M ≡ more_nodes (more_latches B (twin_latches T)) (twin_covers T)
        → shown ≡ map (copied_net T) (showing watched T).outputs → N ≡ more_nodes M (checks_over M shown all) → N ≡ logic_net S watched T all
    logic_is B M N shown empty copied are is =
        is ∙ ap (λ (K : NetlistOf). more_nodes K (checks_over K shown all)) (copied ∙ ap (λ (K : NetlistOf). more_nodes (more_latches K (twin_latches T)) (twin_covers T)) empty)
        ∙ ap (more_nodes copies) (
        ap₂ (λ (first from : ℕ). checks_from first from shown all) first_is (covers_counted T)
        ∙ ap (λ (list : List ℕ). checks_from (widened (showing watched T)).inputs (length T.nodes + length T.nodes) list all) are
        ∙ checks_are (widened (showing watched T)) (copied_net T) all (length T.nodes + length T.nodes)
        (subst (λ n. All (All (λ place. place < n)) all) (sym outputs_counted) grouped.within))

  -- how many nodes stand before the checker, and how many nets
  logic_counted : length (logic_over watched T all) ≡ length covers + length covers + length (concat_places all)
  logic_counted =
      omega (
        arith,
        length-append (twin_covers T) (twin_checks (showing watched T) all),
        covers_counted T,
        checks_sized (widened (showing watched T)) (widened (showing watched T)) (copied_net T) (λ j. omega arith) all (length T.nodes + length T.nodes),
        counted_nodes S.circuit registers covers,
      )

  pub logic_nets : (N : NetlistOf) → N ≡ logic_net S watched T all
      → nets N.circuit ≡ S.circuit.inputs + (length registers + length registers) + (length covers + length covers) + length (concat_places all)
  logic_nets N is =
      let all_nets : nets N.circuit ≡ S.circuit.inputs + length (twin_latches T) + length (logic_over watched T all) = ap (λ (M : NetlistOf). nets M.circuit) is in
      omega (arith, all_nets, latches_twice T, logic_counted, counted_latches S.circuit registers covers)

  -- how many nets the checker reads
  pub word_counted : length (word_over watched T all) ≡ length S.circuit.outputs + watched + length all
  word_counted =
      omega (
        arith,
        length-append (map (own_net T) (showing watched T).outputs) (twin_check_nets (showing watched T) all),
        length-map (showing watched T).outputs (own_net T),
        outputs_counted,
        checks_paired (widened T).inputs all (length T.nodes + length T.nodes),
      )

  -- with the nodes of the gates, and with the outputs, it is the whole
  module _ (made : GateList) (checker : IsCheckerOf (plan_shown watched T all) made) where
    abbrev P : CodePlan
    P = plan_shown watched T all

    abbrev word : List ℕ
    word = word_over watched T all

    abbrev next : ℕ
    next = next_over watched T all

    next_is : (N : NetlistOf) → N ≡ logic_net S watched T all → nets N.circuit ≡ next
    next_is N is =
        let all_nets : nets N.circuit ≡ S.circuit.inputs + length (twin_latches T) + length (logic_over watched T all) = ap (λ (M : NetlistOf). nets M.circuit) is in
        omega (arith, all_nets, latches_twice T)

    gates_are : made.gates ≡ checker_gates P
    gates_are = checker_gates_are P made checker

    pub twin_is : (A B D E F : NetlistOf) (read outs : List ℕ) (rail1 rail2 : ℕ) → A ≡ logic_net S watched T all → read ≡ word_over watched T all
        → B ≡ more_nodes A (gate_nodes (gate_nets read (nets A.circuit) made.gates) made.gates)
        → rail1 ≡ slice_index (gate_nets read (nets A.circuit) made.gates) made.rail1 → rail2 ≡ slice_index (gate_nets read (nets A.circuit) made.gates) made.rail2
        → outs ≡ map (own_net T) T.outputs → D ≡ more_outputs B outs → E ≡ more_outputs D (rail1 ∷ []) → F ≡ more_outputs E (rail2 ∷ [])
        → F ≡ nameless S (circuit_over watched T all)
    twin_is A B D E F read outs rail1 rail2 logic reads pushed one two outputs d e f =
        let known : gate_nets read (nets A.circuit) made.gates ≡ gate_nets (word_over watched T all) (next_over watched T all) (checker_gates P)
        = ap (λ (r : List ℕ). gate_nets r (nets A.circuit) made.gates) reads ∙ ap₂ (λ (n : ℕ) (gs : List CheckGate). gate_nets (word_over watched T all) n gs) (next_is A logic) gates_are in
        let nodes : gate_nodes (gate_nets read (nets A.circuit) made.gates) made.gates ≡ checker_nodes P (word_over watched T all) (next_over watched T all)
        = ap₂ (λ (ns : List ℕ) (gs : List CheckGate). gate_nodes ns gs) known gates_are in
        let first : rail1 ≡ rail1_net P (word_over watched T all) (next_over watched T all) = one ∙ ap₂ (λ (ns : List ℕ) (k : ℕ). slice_index ns k) known (rail1_place P made checker) in
        let second : rail2 ≡ rail2_net P (word_over watched T all) (next_over watched T all) = two ∙ ap₂ (λ (ns : List ℕ) (k : ℕ). slice_index ns k) known (rail2_place P made checker) in
        let B_is : B ≡ more_nodes (logic_net S watched T all) (checker_nodes P (word_over watched T all) (next_over watched T all))
        = pushed ∙ ap₂ (λ (K : NetlistOf) (ns : List NodeOf). more_nodes K ns) logic nodes in
        let F_is : F ≡ more_outputs (more_outputs (more_outputs B outs) (rail1 ∷ [])) (rail2 ∷ [])
        = f ∙ ap (λ (K : NetlistOf). more_outputs K (rail2 ∷ [])) (e ∙ ap (λ (K : NetlistOf). more_outputs K (rail1 ∷ [])) d) in
        F_is ∙ ap (λ (K : NetlistOf). more_outputs (more_outputs (more_outputs K outs) (rail1 ∷ [])) (rail2 ∷ [])) B_is
        ∙ ap (λ (list : List ℕ). nameless S (record {
          inputs = T.inputs;
          latches = twin_latches T;
          nodes = logic_over watched T all ++ checker_nodes P (word_over watched T all) (next_over watched T all);
          outputs = list;
        })) (append_assoc outs (rail1 ∷ []) (rail2 ∷ []) ∙ ap₂ (λ (os rs : List ℕ). os ++ rs) outputs (ap₂ (λ (a b : ℕ). a ∷ b ∷ []) first second))
