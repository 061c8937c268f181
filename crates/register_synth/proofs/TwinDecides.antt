-- The checker of a twin decides: the rails differ exactly where every group is odd.
use Rattle.std.proofs.Common.{◌≡◌, ℕ, zero, suc, ◌<◌, ◌≤◌, ◌⊎◌, ◌↔◌, inl, inr, Bool, true, List, [], ◌∷◌, ◌++◌, map, length, slice_index, slice_index_or, All, Contains, IsTrue, refl, sym, ap, ◌∙◌, subst, arith, length-append}
use Rattle.std.specs.List.{list_all}
use Rattle.std.proofs.lemmas.Bool.Decides.{Decides-by_and}
use Rattle.std.proofs.lemmas.List.{get_or-map, length-map, append-nil}
use Rattle.std.proofs.lemmas.List.Elements.{All-nil, All-contains, Contains-get_or}
use Rattle.tsc_bits.specs.Counting.{odd}
use Rattle.tsc_bits.proofs.Bools.{differ-iff}
use Rattle.tsc_cover.specs.Cover.{CoverTable, truth}
use Rattle.fault_secure.specs.Circuit.{Circuit, LatchOf, NodeOf, node, no_latch, node_net, pin_net, nets, bit}
use Rattle.fault_secure.specs.StuckAt.{NoFault}
use Rattle.fault_secure.specs.Settle.{node_value, read_values}
use Rattle.fault_secure.specs.Closed.{IsClosed}
use Rattle.fault_secure.specs.CodePlan.{CodePlan, RailsAgree, members, monitored, word, bits_at}
use Rattle.fault_secure.specs.Depends.{Depends, InFunction, InChecker}
use Rattle.fault_secure.specs.Depends.Depends.{itself, through}
use Rattle.fault_secure.specs.Structure.{CheckerSettles}
use Rattle.code_checkers.specs.declared.gate.CheckGate.{CheckGate}
use Rattle.code_checkers.specs.declared.gate.CheckGate.TheVariants as gate
use Rattle.code_checkers.specs.Checker.{group_pairs, last_pair, RailsDiffer, rail1 as rail1_signal, rail2 as rail2_signal}
use Rattle.code_checkers.specs.Signal.{Signal, value, pair_differs}
use Rattle.code_checkers.specs.Signal.Signal.{Buf}
use Rattle.code_checkers.specs.Gates.{ReadsBelow}
use Rattle.code_checkers.specs.GateList.{GateList}
use Rattle.code_checkers.specs.Nodes.{IsNodeFrom, Stands}
use Rattle.code_checkers.specs.Block.{Realises, RailsRealise}
use Rattle.code_checkers.proofs.Block.{rail1_value, rail2_value}
use Rattle.code_checkers.proofs.Groups.{group_pairs-differ, length-group_pairs, HasGroups-some}
use Rattle.code_checkers.proofs.TwoRail.{tree-differs}
use Rattle.code_checkers.proofs.Realised.{rails_are_realised}
use Rattle.register_laws.specs.RegisterPlan.{front_nets, front, IsOdd, IsWatchList, IsRegisterPlanOf}
use Rattle.register_laws.specs.RegisterStructure.{IsLogic, IsNeeded, IsOfRegisterChecker, RegisterCheckerSettles, DecidesGroups}
use Rattle.register_synth.specs.TwinNet.{twin_plan, BeginsAsTwin}
use Rattle.register_synth.specs.TwinChecker.{opened, word_plan, twin_top, HasTwinChecker}
use Rattle.register_synth.proofs.TwinMade.{IsGrouping, has_groups}
use Rattle.register_synth.proofs.TwinFront.{next_low, depends_low, front_all, begun_plan}

module _ (N : Circuit) where
  node_same : (j : ℕ) → node_net (opened N) j ≡ node_net N j
  node_same j = omega arith

  to_opened : (q net : ℕ) → Depends N q net → Depends (opened N) q net
  to_opened q _ (itself net h e) = itself net h (e ∙ sym (node_same q))
  to_opened q _ (through net j pin h e l r) = through net j pin h (e ∙ sym (node_same j)) l (to_opened q (pin_net N j pin) r)

  from_opened : (q net : ℕ) → Depends (opened N) q net → Depends N q net
  from_opened q _ (itself net h e) = itself net h (e ∙ node_same q)
  from_opened q _ (through net j pin h e l r) = through net j pin h (e ∙ node_same j) l (from_opened q (pin_net N j pin) r)

  value_same : (v : List Bool) (j : ℕ) → node_value (opened N) NoFault v j ≡ node_value N NoFault v j
  value_same v j = ap (λ d. truth (node N j).cover (read_values NoFault v d 0 (node N j).reads)) (node_same j)

-- ---- what the checker's nodes depend on

module _ (N : Circuit) (P : CodePlan) (lo : ℕ) (net : ℕ → ℕ) (gates : List CheckGate)
    (ordered : (place : ℕ) → place < length gates → ReadsBelow place (slice_index_or gates place (gate.Word 0)))
    (stand : (place : ℕ) → place < length gates → Stands N P lo net place (slice_index_or gates place (gate.Word 0))) where
  -- a node of the function, or one after it
  abbrev Either : ℕ → Type 0
  Either q = InFunction N P q ⊎ (lo ≤ q)

  of_node : (at q : ℕ) (cover : CoverTable) (reads : List ℕ) → IsNodeFrom N lo at cover reads → ((pin : ℕ) → pin < length reads → Depends N q (slice_index reads pin) → Either q)
      → Depends N q at → Either q
  of_node _ q cover reads is below (itself at h e) = inr (let a = is.behind in let b = is.drives in omega arith)
  of_node _ q cover reads is below (through at j pin h e l r) =
      let same : j ≡ is.driver = (let b = is.drives in omega arith) in
      let reads_are : (node N j).reads ≡ reads = ap (λ k. (node N k).reads) same ∙ ap (λ (n : NodeOf). n.reads) is.is_gate in
      below pin (subst (λ ns. pin < length ns) reads_are l) (subst (λ ns. Depends N q (slice_index ns pin)) reads_are r)

  one_pin : (a q : ℕ) → (Depends N q (net a) → Either q) → (pin : ℕ) → pin < 1 → Depends N q (slice_index (net a ∷ []) pin) → Either q
  one_pin a q first zero h d = first d
  one_pin a q first (suc pin) h d = absurd (omega arith)

  two_pins : (a b q : ℕ) → (Depends N q (net a) → Either q) → (Depends N q (net b) → Either q) → (pin : ℕ) → pin < 2 → Depends N q (slice_index (net a ∷ (net b ∷ [])) pin) → Either q
  two_pins a b q first second zero h d = first d
  two_pins a b q first second (suc zero) h d = second d
  two_pins a b q first second (suc (suc pin)) h d = absurd (omega arith)

  of_gate : (place q : ℕ) (g : CheckGate) → ReadsBelow place g → Stands N P lo net place g → ((k : ℕ) → k < place → Depends N q (net k) → Either q) → Depends N q (net place) → Either q
  of_gate place q (gate.Word p) reads s below d = inl (record { net = net place; monitors = subst (Contains (monitored N P)) (sym s.1) (Contains-get_or (monitored N P) p 0 s.0); depends = d })
  of_gate place q (gate.Buf a) reads s below d = of_node (net place) q _ (net a ∷ []) s (one_pin a q (below a reads)) d
  of_gate place q (gate.Not a) reads s below d = of_node (net place) q _ (net a ∷ []) s (one_pin a q (below a reads)) d
  of_gate place q (gate.And a b) reads s below d = of_node (net place) q _ (net a ∷ (net b ∷ [])) s (two_pins a b q (below a reads.0) (below b reads.1)) d
  of_gate place q (gate.Or a b) reads s below d = of_node (net place) q _ (net a ∷ (net b ∷ [])) s (two_pins a b q (below a reads.0) (below b reads.1)) d
  of_gate place q (gate.Xor a b) reads s below d = of_node (net place) q _ (net a ∷ (net b ∷ [])) s (two_pins a b q (below a reads.0) (below b reads.1)) d

  of_place : (bound place q : ℕ) → place < bound → place < length gates → Depends N q (net place) → Either q
  of_place zero place q low within d = absurd (omega arith)
  of_place (suc bound) place q low within d =
      of_gate place q (slice_index_or gates place (gate.Word 0)) (ordered place within) (stand place within)
      (λ k h e. of_place bound k q (omega arith) (omega arith) e) d

-- without latches the rails over parity groups differ exactly where every group is odd
pub groups_decide : (T : Circuit) (groups : List (List ℕ)) (rail1 rail2 : ℕ) (w : List Bool) → All (λ group. 0 < length group) groups → 0 < length groups
    → RailsDiffer (word_plan T groups rail1 rail2) w ↔ All (λ group. IsTrue (odd (bits_at w group))) (members (word_plan T groups rail1 rail2))
groups_decide T groups rail1 rail2 w filled some =
    let rails = differ-iff (value w (rail1_signal (word_plan T groups rail1 rail2))) (value w (rail2_signal (word_plan T groups rail1 rail2))) in
    (λ differ. decides.0 (sym same ∙ rails.1 differ), λ all. rails.0 (same ∙ decides.1 all))
  where
    same : pair_differs w (last_pair (word_plan T groups rail1 rail2)) ≡ list_all (λ group. odd (bits_at w group)) (members (word_plan T groups rail1 rail2))
    same =
        tree-differs w (group_pairs (length T.outputs) groups ++ [])
        (omega (arith, length-append (group_pairs (length T.outputs) groups) [], length-group_pairs (length T.outputs) groups))
        ∙ ap (list_all (pair_differs w)) (append-nil (group_pairs (length T.outputs) groups))
        ∙ group_pairs-differ w (length T.outputs) groups filled

    decides : (list_all (λ group. odd (bits_at w group)) (members (word_plan T groups rail1 rail2)) ≡ true)
        ↔ All (λ group. IsTrue (odd (bits_at w group))) (members (word_plan T groups rail1 rail2))
    decides =
        Decides-by_and (λ group. odd (bits_at w group)) (λ group. IsTrue (odd (bits_at w group))) (list_all (λ group. odd (bits_at w group)))
        (λ group. (λ h. h, λ h. h)) refl (λ group groups. refl) (members (word_plan T groups rail1 rail2))

module _ (T N : Circuit) (groups : List (List ℕ)) (rail1 rail2 : ℕ) (made : GateList) (closed : IsClosed T) (begins : BeginsAsTwin T N groups rail1 rail2)
    (grouping : IsGrouping (length T.outputs) groups) (checker : HasTwinChecker T N groups rail1 rail2 made) where
  monitored_is : monitored (opened N) (word_plan T groups rail1 rail2) ≡ front_nets N (twin_plan T groups rail1 rail2)
  monitored_is = append-nil (front_nets N (twin_plan T groups rail1 rail2))

  function_low : (q : ℕ) → InFunction (opened N) (word_plan T groups rail1 rail2) q → q < twin_top T groups
  function_low q is =
      depends_low T N groups rail1 rail2 closed begins grouping q is.net (from_opened N q is.net is.depends)
      (All-contains (λ n. n < node_net N (twin_top T groups)) (front_nets N (twin_plan T groups rail1 rail2)) is.net (front_all T N groups rail1 rail2 closed begins grouping) (subst (λ ns. Contains ns is.net) monitored_is is.monitors))

  needed_low : (m : ℕ) → IsNeeded N (twin_plan T groups rail1 rail2) m → m < node_net N (twin_top T groups)
  needed_low m (inl c) = All-contains (λ n. n < node_net N (twin_top T groups)) (front_nets N (twin_plan T groups rail1 rail2)) m (front_all T N groups rail1 rail2 closed begins grouping) c
  needed_low m (inr (inl c)) = absurd (nothing c)
    where
      nothing : Contains {X = ℕ} [] m → ⊥
      nothing (k, h, e) = omega arith
  needed_low m (inr (inr (k, h, e))) =
      let low : k < length N.latches = omega (arith, h, length-map N.latches (λ (l : LatchOf). l.reads)) in
      subst (λ n. n < node_net N (twin_top T groups)) (sym (get_or-map (λ (l : LatchOf). l.reads) N.latches k no_latch m low) ∙ e) (next_low T N groups rail1 rail2 closed begins grouping k low)

  logic_low : (q : ℕ) → IsLogic N (twin_plan T groups rail1 rail2) q → q < twin_top T groups
  logic_low q is = depends_low T N groups rail1 rail2 closed begins grouping q is.net is.depends (needed_low is.net is.needed)

  -- ---- the checker

  realise : RailsRealise (opened N) (word_plan T groups rail1 rail2)
  realise = rails_are_realised (opened N) (word_plan T groups rail1 rail2) (twin_top T groups) made checker.gates checker.stand function_low

  either : (place q : ℕ) → place < length made.gates → Depends (opened N) q (checker.stand.net place) → InFunction (opened N) (word_plan T groups rail1 rail2) q ⊎ (twin_top T groups ≤ q)
  either place q h d =
      of_place (opened N) (word_plan T groups rail1 rail2) (twin_top T groups) checker.stand.net made.gates checker.gates.ordered checker.stand.all (suc place) place q (omega arith) h d

  after : (q : ℕ) → InChecker (opened N) (word_plan T groups rail1 rail2) q → twin_top T groups ≤ q
  after q is = elim is.depends [
    | inl first ↦ only (either made.rail1 q checker.gates.first_within (subst (Depends (opened N) q) (sym checker.stand.first) first))
    | inr second ↦ only (either made.rail2 q checker.gates.second_within (subst (Depends (opened N) q) (sym checker.stand.second) second))
  ]
    where
      only : InFunction (opened N) (word_plan T groups rail1 rail2) q ⊎ (twin_top T groups ≤ q) → twin_top T groups ≤ q
      only (inl function) = absurd (is.outside function)
      only (inr behind) = behind

  of_checker : (q : ℕ) → InChecker (opened N) (word_plan T groups rail1 rail2) q → IsOfRegisterChecker N (twin_plan T groups rail1 rail2) q
  of_checker q is = record {
    depends = elim is.depends [ inl first ↦ inl (from_opened N q rail1 first) | inr second ↦ inr (from_opened N q rail2 second) ];
    outside = λ logic. (let a = logic_low q logic in let b = after q is in omega arith);
  }

  module _ (v : List Bool) (settled : RegisterCheckerSettles N (twin_plan T groups rail1 rail2) v) where
    settles : CheckerSettles (opened N) (word_plan T groups rail1 rail2) v
    settles = record {
      settles = λ q h is. ap (bit v) (node_same N q) ∙ settled.settles q h (of_checker q is) ∙ sym (value_same N v q);
    }

    word_is : word (opened N) (word_plan T groups rail1 rail2) v ≡ front N (twin_plan T groups rail1 rail2) v
    word_is = ap (map (bit v)) monitored_is

    some_group : 0 < length groups
    some_group = HasGroups-some (twin_plan T groups rail1 rail2).plan (has_groups T N groups rail1 rail2 closed begins grouping) closed.some_output

    decide : (RailsAgree (twin_plan T groups rail1 rail2).plan v → ⊥) ↔ IsOdd N (twin_plan T groups rail1 rail2) v
    decide =
        let one : bit v rail1 ≡ value (word (opened N) (word_plan T groups rail1 rail2) v) (rail1_signal (word_plan T groups rail1 rail2))
        = rail1_value (opened N) (word_plan T groups rail1 rail2) realise v settles in
        let two : bit v rail2 ≡ value (word (opened N) (word_plan T groups rail1 rail2) v) (rail2_signal (word_plan T groups rail1 rail2))
        = rail2_value (opened N) (word_plan T groups rail1 rail2) realise v settles in
        let law = groups_decide T groups rail1 rail2 (word (opened N) (word_plan T groups rail1 rail2) v) grouping.filled some_group in (
          λ differ. record {
            groups = subst (λ bits. All (λ group. IsTrue (odd (bits_at bits group))) (members (twin_plan T groups rail1 rail2).plan)) word_is (law.0 (λ e. differ (one ∙ e ∙ sym two)));
            watched = All-nil (λ ns. IsTrue (odd (bits_at v ns)));
          },
          λ is agree. law.1 (subst (λ bits. All (λ group. IsTrue (odd (bits_at bits group))) (members (twin_plan T groups rail1 rail2).plan)) (sym word_is) is.groups) (sym one ∙ agree ∙ two),
        )

  -- the twin's checker decides its groups
  pub twin_decides : DecidesGroups N (twin_plan T groups rail1 rail2)
  twin_decides = record { decides = decide }

  -- ---- the plan

  rail_in : (s : Signal) (rail : ℕ) → Realises (opened N) (word_plan T groups rail1 rail2) (Buf s) rail → rail < nets N
  rail_in s rail r = let a = r.1.is_node in let b = r.1.drives in omega arith

  -- the plan is of the netlist
  pub twin_planned : IsRegisterPlanOf N (twin_plan T groups rail1 rail2)
  twin_planned = record {
    parity = refl;
    version = refl;
    stateless = refl;
    plan_of = begun_plan T N groups rail1 rail2 closed begins grouping checker.appended.ordered
        (rail_in (last_pair (word_plan T groups rail1 rail2)).first rail1 realise.first) (rail_in (last_pair (word_plan T groups rail1 rail2)).second rail2 realise.second);
    watched = All-nil (IsWatchList N);
  }
