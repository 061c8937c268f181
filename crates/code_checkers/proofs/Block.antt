-- A checker in a netlist stands outside the function, reads only the word, and is code-disjoint.
use Rattle.std.specs.List.{AllByRecursion}
use Rattle.std.proofs.Common.{◌≡◌, ℕ, ◌+◌, ◌<◌, ◌⊎◌, inl, inr, ◌↔◌, Bool, false, not, ◌&&◌, ◌||◌, List, [], ◌∷◌, map, take, ◌++◌, length, slice_index, Contains, length-append, length-take-le, sym, ◌∙◌, ap, ap₂, subst, arith}
use Rattle.std.proofs.lemmas.List.{length-map, get_or-map}
use Rattle.std.proofs.lemmas.List.Elements.{Contains-get_or, All-from_recursion}
use Rattle.tsc_cover.specs.Cover.{CoverTable, truth}
use Rattle.tsc_cover.specs.Gates.{buf_cover, not_cover, and_cover, or_cover, xor_cover}
use Rattle.fault_secure.specs.Circuit.{Circuit, node, node_net, pin_net, bit}
use Rattle.fault_secure.specs.CodePlan.{CodePlan, monitored, next_nets, word, IsWellMade, IsPlanOf, IsCodeword, RailsAgree}
use Rattle.tsc_bits.specs.Counting.{differ}
use Rattle.fault_secure.specs.Depends.{Depends, InFunction, InChecker}
use Rattle.fault_secure.specs.Depends.Depends.{itself, through}
use Rattle.fault_secure.specs.Structure.{IsDrivenOutside, IsOfChecker, CheckerSettles}
use Rattle.fault_secure.proofs.GateLemmas.{node_value-gate, truth-buf, truth-not, truth-and, truth-or, truth-xor}
use Rattle.fault_secure.proofs.DependsLemmas.{feeds}
use Rattle.code_checkers.specs.Signal.{Signal, value}
use Rattle.code_checkers.specs.Signal.Signal.{Word, Buf, Not, And, Or, Xor}
use Rattle.code_checkers.specs.Checker.{rail1, rail2, last_pair, IsWordOf, RailsDiffer}
use Rattle.code_checkers.specs.Block.{IsGateNode, Realises, RailsRealise, IsSoundChecker}
use Rattle.code_checkers.proofs.Decides.{rails_decide}

module _ (N : Circuit) (P : CodePlan) where
  -- a monitored place
  at_place : (place net : ℕ) → place < length (monitored N P) → net ≡ slice_index (monitored N P) place → Contains (monitored N P) net
  at_place place net within is = subst (Contains (monitored N P)) (sym is) (Contains-get_or (monitored N P) place 0 within)

  -- what an operand of a gate may be: a monitored net, or the net of a node outside the function
  Operand : ℕ → Type 0
  Operand net = Contains (monitored N P) net ⊎ ((j : ℕ) × (j < length N.nodes) × (net ≡ node_net N j) × (InFunction N P j → ⊥))

  gate_operand : (net : ℕ) (cover : CoverTable) (reads : List ℕ) → IsGateNode N P net cover reads → Operand net
  unfolding Operand
  gate_operand net cover reads g = inr (g.driver, g.is_node, g.drives, g.outside)

  operand : (s : Signal) (net : ℕ) → Realises N P s net → Operand net
  unfolding Operand
  operand (Word place) net r = inl (at_place place net r.0 r.1)
  operand (Buf a) net r = gate_operand net buf_cover (r.0 ∷ []) r.1
  operand (Not a) net r = gate_operand net not_cover (r.0 ∷ []) r.1
  operand (And a b) net r = gate_operand net and_cover (r.0 ∷ (r.1 ∷ [])) r.2
  operand (Or a b) net r = gate_operand net or_cover (r.0 ∷ (r.1 ∷ [])) r.2
  operand (Xor a b) net r = gate_operand net xor_cover (r.0 ∷ (r.1 ∷ [])) r.2

  -- each pin of the node reads an operand
  PinsRead : ℕ → Type 0
  PinsRead q = (pin : ℕ) → pin < length (node N q).reads → Operand (pin_net N q pin)

  Found : ℕ → Type 0
  Found q = InFunction N P q ⊎ PinsRead q

  same_driver : (a b net : ℕ) → net ≡ node_net N a → net ≡ node_net N b → a ≡ b
  same_driver a b net p q = omega arith

  find_gate : (q net : ℕ) (cover : CoverTable) (reads : List ℕ) → IsGateNode N P net cover reads
      → AllByRecursion Operand reads → AllByRecursion (λ m. Depends N q m → Found q) reads → Depends N q net → Found q
  unfolding Found PinsRead
  find_gate q net cover reads g operands deeper (itself _ there drives) =
      let at : q ≡ g.driver = same_driver q g.driver net drives g.drives in
      let is : (node N q).reads ≡ reads = ap (λ j. (node N j).reads) at ∙ ap (λ n. n.reads) g.is_gate in
      inr (λ pin has. All-from_recursion Operand (node N q).reads (subst (AllByRecursion Operand) (sym is) operands) pin 0 has)
  find_gate q net cover reads g operands deeper (through _ j pin there drives has further) =
      let at : j ≡ g.driver = same_driver j g.driver net drives g.drives in
      let is : (node N j).reads ≡ reads = ap (λ j. (node N j).reads) at ∙ ap (λ n. n.reads) g.is_gate in
      All-from_recursion (λ m. Depends N q m → Found q) (node N j).reads (subst (AllByRecursion (λ m. Depends N q m → Found q)) (sym is) deeper) pin 0 has further

  -- a node that a realised net depends on is of the function, or reads operands alone
  find : (s : Signal) (net q : ℕ) → Realises N P s net → Depends N q net → Found q
  unfolding Found
  find (Word place) net q r d = inl (record { net = net; monitors = at_place place net r.0 r.1; depends = d })
  find (Buf a) net q r d = find_gate q net buf_cover (r.0 ∷ []) r.1 (operand a r.0 r.2, tt) (find a r.0 q r.2, tt) d
  find (Not a) net q r d = find_gate q net not_cover (r.0 ∷ []) r.1 (operand a r.0 r.2, tt) (find a r.0 q r.2, tt) d
  find (And a b) net q r d = find_gate q net and_cover (r.0 ∷ (r.1 ∷ [])) r.2 (operand a r.0 r.3, (operand b r.1 r.4, tt)) (find a r.0 q r.3, (find b r.1 q r.4, tt)) d
  find (Or a b) net q r d = find_gate q net or_cover (r.0 ∷ (r.1 ∷ [])) r.2 (operand a r.0 r.3, (operand b r.1 r.4, tt)) (find a r.0 q r.3, (find b r.1 q r.4, tt)) d
  find (Xor a b) net q r d = find_gate q net xor_cover (r.0 ∷ (r.1 ∷ [])) r.2 (operand a r.0 r.3, (operand b r.1 r.4, tt)) (find a r.0 q r.3, (find b r.1 q r.4, tt)) d

  DependsRail : ℕ → Type 0
  DependsRail q = Depends N q P.rail1 ⊎ Depends N q P.rail2

  -- a pin of a checker node
  of_checker : (q pin : ℕ) → InChecker N P q → pin < length (node N q).reads → Found q → IsOfChecker N P (pin_net N q pin)
  unfolding Found PinsRead Operand
  of_checker q pin is has (inl function) = absurd (is.outside function)
  of_checker q pin is has (inr reads) =
      elim (reads pin has) [
        | inl monitors ↦ inr monitors
        | inr (j, there, drives, outside) ↦ inl (
          j,
          there,
          drives,
          record {
            depends = elim is.depends [ inl d ↦ inl (feeds N j q pin P.rail1 there drives has d) | inr d ↦ inr (feeds N j q pin P.rail2 there drives has d) ];
            outside = outside;
          },
        )
      ]

  module _ (v : List Bool) (settled : CheckerSettles N P v) where
    -- the value of a gate node of the checker
    gate_value : (net : ℕ) (cover : CoverTable) (reads : List ℕ) → IsGateNode N P net cover reads → ((q : ℕ) → Depends N q net → DependsRail q)
        → bit v net ≡ truth cover (map (bit v) reads)
    unfolding DependsRail
    gate_value net cover reads g reach =
        let is : InChecker N P g.driver = record { depends = reach g.driver (itself net g.is_node g.drives); outside = g.outside } in
        ap (bit v) g.drives ∙ settled.settles g.driver g.is_node is ∙ node_value-gate N v g.driver cover reads g.is_gate

    -- what an operand depends on
    reach_pin : (net : ℕ) (cover : CoverTable) (reads : List ℕ) → IsGateNode N P net cover reads → ((q : ℕ) → Depends N q net → DependsRail q)
        → (pin : ℕ) → pin < length reads → (q : ℕ) → Depends N q (slice_index reads pin) → DependsRail q
    reach_pin net cover reads g reach pin has q d =
        let is : (node N g.driver).reads ≡ reads = ap (λ n. n.reads) g.is_gate in
        reach q (through net g.driver pin g.is_node g.drives (subst (λ reads. pin < length reads) (sym is) has) (subst (λ reads. Depends N q (slice_index reads pin)) (sym is) d))

    -- a realised net has the signal's value
    realised_value : (s : Signal) (net : ℕ) → Realises N P s net → ((q : ℕ) → Depends N q net → DependsRail q) → bit v net ≡ value (word N P v) s
    realised_value (Word place) net r reach = ap (bit v) r.1 ∙ sym (get_or-map (bit v) (monitored N P) place 0 false r.0)
    realised_value (Buf a) net r reach =
        gate_value net buf_cover (r.0 ∷ []) r.1 reach ∙ truth-buf (bit v r.0) ∙ realised_value a r.0 r.2 (reach_pin net buf_cover (r.0 ∷ []) r.1 reach 0 (omega arith))
    realised_value (Not a) net r reach =
        gate_value net not_cover (r.0 ∷ []) r.1 reach ∙ truth-not (bit v r.0) ∙ ap not (realised_value a r.0 r.2 (reach_pin net not_cover (r.0 ∷ []) r.1 reach 0 (omega arith)))
    realised_value (And a b) net r reach =
        gate_value net and_cover (r.0 ∷ (r.1 ∷ [])) r.2 reach ∙ truth-and (bit v r.0) (bit v r.1)
        ∙ ap₂ (λ x y. x && y) (realised_value a r.0 r.3 (reach_pin net and_cover (r.0 ∷ (r.1 ∷ [])) r.2 reach 0 (omega arith))) (realised_value b r.1 r.4 (reach_pin net and_cover (r.0 ∷ (r.1 ∷ [])) r.2 reach 1 (omega arith)))
    realised_value (Or a b) net r reach =
        gate_value net or_cover (r.0 ∷ (r.1 ∷ [])) r.2 reach ∙ truth-or (bit v r.0) (bit v r.1)
        ∙ ap₂ (λ x y. x || y) (realised_value a r.0 r.3 (reach_pin net or_cover (r.0 ∷ (r.1 ∷ [])) r.2 reach 0 (omega arith))) (realised_value b r.1 r.4 (reach_pin net or_cover (r.0 ∷ (r.1 ∷ [])) r.2 reach 1 (omega arith)))
    realised_value (Xor a b) net r reach =
        gate_value net xor_cover (r.0 ∷ (r.1 ∷ [])) r.2 reach ∙ truth-xor (bit v r.0) (bit v r.1)
        ∙ ap₂ differ (realised_value a r.0 r.3 (reach_pin net xor_cover (r.0 ∷ (r.1 ∷ [])) r.2 reach 0 (omega arith))) (realised_value b r.1 r.4 (reach_pin net xor_cover (r.0 ∷ (r.1 ∷ [])) r.2 reach 1 (omega arith)))

-- a monitored word has the plan's length
pub word-length : (N : Circuit) (P : CodePlan) (v : List Bool) → IsPlanOf N P → IsWordOf P (word N P v)
word-length N P v plan =
    let all : length (word N P v) ≡ length (monitored N P) = length-map (monitored N P) (bit v) in
    let parts : length (monitored N P) ≡ length (take P.outputs N.outputs ++ P.checks) + length (next_nets N)
    = length-append (take P.outputs N.outputs ++ P.checks) (next_nets N) in
    let front : length (take P.outputs N.outputs ++ P.checks) ≡ length (take P.outputs N.outputs) + length P.checks = length-append (take P.outputs N.outputs) P.checks in
    let outputs : length (take P.outputs N.outputs) ≡ P.outputs = length-take-le P.outputs N.outputs (let e : length N.outputs ≡ P.outputs + 2 = plan.outputs in omega arith) in
    let next : length (next_nets N) ≡ length N.latches = length-map N.latches (λ l. l.reads) in
    let latches : P.latches ≡ length N.latches = plan.latches in
    omega arith

-- the rails have the values of the stated rails over the word
module _ (N : Circuit) (P : CodePlan) (has : RailsRealise N P) (v : List Bool) (settled : CheckerSettles N P v) where
  -- the first rail has the value of the stated first rail over the word
  pub rail1_value : bit v P.rail1 ≡ value (word N P v) (rail1 P)
  unfolding DependsRail
  rail1_value = realised_value N P v settled (rail1 P) P.rail1 has.first reach
    where
      reach : (q : ℕ) → Depends N q P.rail1 → DependsRail N P q
      reach q d = inl d

  -- the second rail has the value of the stated second rail over the word
  pub rail2_value : bit v P.rail2 ≡ value (word N P v) (rail2 P)
  unfolding DependsRail
  rail2_value = realised_value N P v settled (rail2 P) P.rail2 has.second reach
    where
      reach : (q : ℕ) → Depends N q P.rail2 → DependsRail N P q
      reach q d = inr d

module _ (N : Circuit) (P : CodePlan) (made : IsWellMade P) (plan : IsPlanOf N P) (has : RailsRealise N P) where
  rail_outside : (s : Signal) (net : ℕ) → Realises N P (Buf s) net → IsDrivenOutside N P net
  rail_outside s net r = record { driver = r.1.driver; is_node = r.1.is_node; drives = r.1.drives; outside = r.1.outside }

  reads_word : (q pin : ℕ) → q < length N.nodes → InChecker N P q → pin < length (node N q).reads → IsOfChecker N P (pin_net N q pin)
  reads_word q pin there is pins =
      of_checker N P q pin is pins
      (elim is.depends [ inl d ↦ find N P (rail1 P) P.rail1 q has.first d | inr d ↦ find N P (rail2 P) P.rail2 q has.second d ])

  decides : (v : List Bool) → CheckerSettles N P v → (RailsAgree P v → ⊥) ↔ IsCodeword P (word N P v)
  decides v settled =
      let one : bit v P.rail1 ≡ value (word N P v) (rail1 P) = rail1_value N P has v settled in
      let two : bit v P.rail2 ≡ value (word N P v) (rail2 P) = rail2_value N P has v settled in
      let law : RailsDiffer P (word N P v) ↔ IsCodeword P (word N P v) = rails_decide P (word N P v) made (word-length N P v plan) in
      (λ differ. law.0 (λ e. differ (one ∙ e ∙ sym two)), λ is. λ agree. law.1 is (sym one ∙ agree ∙ two))

  -- where the rails realise those of a well-made plan of the netlist, the checker is sound
  pub checker_sound : IsSoundChecker N P
  checker_sound = record {
    rails = record { first = rail_outside (last_pair P).first P.rail1 has.first; second = rail_outside (last_pair P).second P.rail2 has.second };
    reads = record { reads = reads_word };
    decides = record { decides = decides };
  }
