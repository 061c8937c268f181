-- What stands before a twin's checker reads only what stands there; and the plan is of a netlist that begins as a twin.
use Rattle.std.proofs.Common.{◌≡◌, ℕ, ◌+◌, ◌<◌, ◌≤◌, inl, inr, List, [], ◌∷◌, ◌++◌, map, take, length, slice_index, All, sym, ap, ◌∙◌, subst, arith, length-append}
use Rattle.std.proofs.lemmas.Bool.{cases_lt}
use Rattle.std.proofs.lemmas.List.{get_or-map, length-map, get_or_at, get_or-append-add}
use Rattle.std.proofs.lemmas.List.Elements.{All-append, All-map, All-weaker, All-from_get_or}
use Rattle.fault_secure.specs.Circuit.{Circuit, LatchOf, NodeOf, node, no_latch, node_net, pin_net, nets}
use Rattle.fault_secure.specs.Closed.{IsClosed}
use Rattle.fault_secure.specs.CodePlan.{IsPlanOf}
use Rattle.fault_secure.specs.Depends.{Depends}
use Rattle.fault_secure.specs.Depends.Depends.{itself, through}
use Rattle.parity_code.proofs.GroupStands.{checks_within}
use Rattle.register_laws.specs.RegisterPlan.{next_net, front_nets}
use Rattle.register_synth.specs.TwinNet.{own_net, copied_net, widened, twin_check_nets, twin_plan, BeginsAsTwin}
use Rattle.register_synth.specs.TwinChecker.{twin_top}
use Rattle.register_synth.proofs.TwinMade.{IsGrouping, own_low, own_high, first_net, own_node, own_latch, latches_counted, InCopy, node_reads, latch_reads, shown_own}

module _ (T N : Circuit) (groups : List (List ℕ)) (rail1 rail2 : ℕ) (closed : IsClosed T) (begins : BeginsAsTwin T N groups rail1 rail2) (grouping : IsGrouping (length T.outputs) groups) where
  -- an own net
  pub own_in : (n : ℕ) → n < nets T → own_net T n < node_net N (length T.nodes)
  own_in n h = elim (cases_lt n (T.inputs + length T.latches)) [
    | inl low ↦ omega (arith, own_low T n low, first_net T N groups rail1 rail2 closed begins (length T.nodes))
    | inr high ↦ omega (arith, own_high T n high, first_net T N groups rail1 rail2 closed begins (length T.nodes))
  ]

  copy_in : (n : ℕ) → InCopy T N groups rail1 rail2 closed begins n → n < node_net N (twin_top T groups)
  copy_in n (inl input) = omega (arith, first_net T N groups rail1 rail2 closed begins (twin_top T groups))
  copy_in n (inr (inl register)) = let a = register.1 in omega (arith, first_net T N groups rail1 rail2 closed begins (twin_top T groups))
  copy_in n (inr (inr between)) = between.1

  up : (n : ℕ) → n < node_net N (length T.nodes) → n < node_net N (twin_top T groups)
  up n h = omega arith

  -- what a node before the checker reads
  pub reads_low : (j pin : ℕ) → j < twin_top T groups → pin < length (node N j).reads → pin_net N j pin < node_net N (twin_top T groups)
  reads_low j pin low has = elim (cases_lt j (length T.nodes)) [
    | inl own_one ↦ (
        let reads : (node N j).reads ≡ map (own_net T) (node T j).reads = ap (λ (n : NodeOf). n.reads) (own_node T N groups rail1 rail2 closed begins j own_one) in
        let there : pin < length (node T j).reads = omega (arith, has, ap length reads, length-map (node T j).reads (own_net T)) in
        subst (λ n. n < node_net N (twin_top T groups)) (sym (ap (λ ns. slice_index ns pin) reads ∙ get_or-map (own_net T) (node T j).reads pin 0 0 there))
        (up (own_net T (pin_net T j pin)) (own_in (pin_net T j pin) (closed.pins j pin own_one there))))
    | inr later ↦ copy_in (pin_net N j pin) (node_reads T N groups rail1 rail2 closed begins grouping j pin later low has)
  ]

  -- what a register reads
  pub next_low : (l : ℕ) → l < length N.latches → next_net N l < node_net N (twin_top T groups)
  next_low l h = elim (cases_lt l (length T.latches)) [
    | inl own_one ↦ subst (λ n. n < node_net N (twin_top T groups)) (sym (ap (λ (k : LatchOf). k.reads) (own_latch T N groups rail1 rail2 closed begins l own_one)))
        (up (own_net T (next_net T l)) (own_in (next_net T l) (closed.latches l no_latch own_one)))
    | inr later ↦ copy_in (next_net N l) (latch_reads T N groups rail1 rail2 closed begins grouping l later h)
  ]

  -- what depends on a node before the checker
  pub depends_low : (q net : ℕ) → Depends N q net → net < node_net N (twin_top T groups) → q < twin_top T groups
  depends_low q _ (itself net h e) low = omega arith
  depends_low q _ (through net j pin h e l r) low = depends_low q (pin_net N j pin) r (reads_low j pin (omega arith) l)

  -- outputs and checks stand before it
  pub front_all : All (λ n. n < node_net N (twin_top T groups)) (front_nets N (twin_plan T groups rail1 rail2))
  front_all =
      All-append (λ n. n < node_net N (twin_top T groups)) (take (length T.outputs) N.outputs) (twin_check_nets T groups)
      (subst (All (λ n. n < node_net N (twin_top T groups))) (sym (shown_own T N groups rail1 rail2 closed begins grouping))
      (All-map (λ n. n < node_net N (twin_top T groups)) (own_net T) T.outputs
      (All-weaker (λ n. n < nets T) (λ n. own_net T n < node_net N (twin_top T groups)) (λ n h. up (own_net T n) (own_in n h)) T.outputs closed.outputs)))
      (All-from_get_or (λ n. n < node_net N (twin_top T groups)) (twin_check_nets T groups) 0
      (λ i h. (checks_within (widened T) N (copied_net T) (first_net T N groups rail1 rail2 closed begins) groups (length T.nodes + length T.nodes) grouping.filled i h).1))

  -- the plan is of the netlist, whose nodes have the rails and end after the checks
  pub begun_plan : twin_top T groups ≤ length N.nodes → rail1 < nets N → rail2 < nets N → IsPlanOf N (twin_plan T groups rail1 rail2).plan
  begun_plan fits first second = record {
    outputs = omega (arith, ap length begins.outputs, length-append (map (own_net T) T.outputs) (rail1 ∷ rail2 ∷ []), length-map T.outputs (own_net T));
    rail1 = ap (λ ns. slice_index ns (length T.outputs)) begins.outputs ∙ get_or_at (map (own_net T) T.outputs) rail1 (rail2 ∷ []) 0 (length T.outputs) (length-map T.outputs (own_net T));
    rail2 = ap (λ ns. slice_index ns (length T.outputs + 1)) begins.outputs
        ∙ ap (λ k. slice_index (map (own_net T) T.outputs ++ rail1 ∷ rail2 ∷ []) (k + 1)) (sym (length-map T.outputs (own_net T)))
        ∙ get_or-append-add (map (own_net T) T.outputs) (rail1 ∷ rail2 ∷ []) 1 0;
    checks = All-from_get_or (λ n. n < nets N) (twin_check_nets T groups) 0 inside;
    rails = (first, second);
    latches = sym (latches_counted T N groups rail1 rail2 closed begins);
  }
    where
      inside : (i : ℕ) → i < length (twin_check_nets T groups) → slice_index (twin_check_nets T groups) i < nets N
      inside i h =
          let high = (checks_within (widened T) N (copied_net T) (first_net T N groups rail1 rail2 closed begins) groups (length T.nodes + length T.nodes) grouping.filled i h).1 in
          omega (arith, high)
